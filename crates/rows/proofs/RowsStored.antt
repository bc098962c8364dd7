-- Laws of rows that are stored one after the other. Assumes nothing.
use Prim.Native.Nat.{ℕ, suc, ◌+◌, ◌≤◌, ◌<◌}
use mathlib.Core.Path.{◌≡◌, sym, ◌∙◌, ap}
use mathlib.Core.List.{List, ◌∷◌, ◌++◌, map}
use Rattle.std.proofs.lemmas.List.{length-map, get_or-map}
use native.Mathlib.Numerals.{add-one}
use native.Mathlib.Omega.{arith}
use lib.ListN.{length, get_or, set, take, drop}
use lib.Seq.{length-take-le, take-length, take-suc, drop-cons, append_snoc, set_at}
use Rattle.tree.specs.declared.Row.{Row}
use Rattle.tree.specs.Rows.{zero_row, laid_over}

-- the first i of `filled` before what `given` has behind them
abbrev pub laid : (filled given : List Row) → ℕ → List Row
laid filled given i = take i filled ++ drop i given

module _ (filled given : List Row) where
  -- one row more
  pub laid_more : {i : ℕ} {r : Row} → i < length filled → length filled ≤ length given → r ≡ get_or filled i (zero_row 0)
      → set (laid filled given i) i r ≡ laid filled given (i + 1)
  laid_more {i} {r} low room e =
      ap (λ (l : List Row). set (take i filled ++ l) i r) (drop-cons given i (zero_row 0) (omega (arith, low, room)))
      ∙ set_at (take i filled) (get_or given i (zero_row 0)) (drop (suc i) given) r i (length-take-le i filled (omega (arith, low)))
      ∙ ap (λ (x : Row). take i filled ++ x ∷ drop (suc i) given) e
      ∙ sym (append_snoc (take i filled) (get_or filled i (zero_row 0)) (drop (suc i) given))
      ∙ ap (λ (l : List Row). l ++ drop (suc i) given) (sym (take-suc filled i (zero_row 0) low))
      ∙ ap (λ (k : ℕ). laid filled given k) (sym (add-one i))

  -- all of them
  pub laid_all : {i : ℕ} → i ≡ length filled → laid filled given i ≡ laid_over filled given
  unfolding laid_over
  laid_all {i} e = rw e (ap (λ (l : List Row). l ++ drop (length filled) given) (take-length filled))

-- where they are made of states
module _ (f : ℕ → Row) (states : List ℕ) (given : List Row) where
  pub made_more : {i : ℕ} {r : Row} → i < length states → length states ≤ length given → r ≡ f (get_or states i 0)
      → set (laid (map f states) given i) i r ≡ laid (map f states) given (i + 1)
  made_more {i} {r} low room e =
      laid_more (map f states) given (omega (arith, low, length-map states f)) (omega (arith, room, length-map states f))
      (e ∙ sym (get_or-map f states i 0 (zero_row 0) low))

  pub made_all : {i : ℕ} → i ≡ length states → laid (map f states) given i ≡ laid_over (map f states) given
  made_all e = laid_all (map f states) given (e ∙ sym (length-map states f))
