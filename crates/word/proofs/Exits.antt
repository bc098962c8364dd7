-- Laws of a state's exits. Assumes nothing.
use Prim.Native.Nat.{ℕ, ◌≤◌}
use mathlib.Core.Path.{◌≡◌, ap, ◌∙◌}
use mathlib.Core.Bool.{Bool, true, ◌&&◌, and-false}
use mathlib.Core.List.{List, [], ◌∷◌, ◌++◌, Memᴰ, append-nil}
use lib.ListN.{length}
use lib.Dec.{eqb}
use borrow.Author.Tests.{eqb-true, eq-eqb, ne_eqb}
use Rattle.word.specs.Model.{Transition, is_fast, only, any, leaves, exits_in, has_fast}
use Rattle.word.specs.Faults.{same_test, same_transition}
use Rattle.word.specs.Internal.Lists.{Each}
use Rattle.word.proofs.Members.{each_monotone, only_pass, only_fail, only_append, only_length, only_passes, each_only, any_some, any_only}

-- ---- exits

module _ (Q : Transition → Type 0) (table : List Transition) (s : ℕ) where
  pub exits_each : Each Q table → Each Q (exits_in table s)
  unfolding exits_in
  exits_each = each_only (leaves s) Q table

module _ (table : List Transition) (s : ℕ) where
  pub exits_leave : Each (λ t. t.from ≡ s) (exits_in table s)
  unfolding exits_in
  exits_leave =
      each_monotone (λ t. leaves s t ≡ true) (λ t. t.from ≡ s) (λ t. eqb-true t.from s) (exits_in table s)
      (only_passes (leaves s) table)

  pub exits_fewer : length (exits_in table s) ≤ length table
  unfolding exits_in
  exits_fewer = only_length (leaves s) table

  pub exits_append : (rest : List Transition) → exits_in (table ++ rest) s ≡ exits_in table s ++ exits_in rest s
  unfolding exits_in
  exits_append rest = only_append (leaves s) table rest

  -- ---- one more transition behind the table

  pub exits_more : (t : Transition) → t.from ≡ s → exits_in (table ++ (t ∷ [])) s ≡ exits_in table s ++ (t ∷ [])
  unfolding exits_in only
  exits_more t e = exits_append (t ∷ []) ∙ ap (λ (l : List Transition). exits_in table s ++ l) (only_pass (leaves s) t [] (eq-eqb t.from s e))

  pub exits_same : (t : Transition) → (t.from ≡ s → ⊥) → exits_in (table ++ (t ∷ [])) s ≡ exits_in table s
  unfolding exits_in only
  exits_same t n =
      exits_append (t ∷ [])
      ∙ ap (λ (l : List Transition). exits_in table s ++ l) (only_fail (leaves s) t [] (ne_eqb t.from s n))
      ∙ append-nil (exits_in table s)

-- the same transition can stand only among the exits of the state that it leaves
pub same_in_exits : (fast? : Bool) (a b : ℕ) (table : List Transition)
    → any (same_transition fast? a b) table ≡ any (same_transition fast? a b) (exits_in table a)
unfolding exits_in
same_in_exits fast? a b = any_only (same_transition fast? a b) (leaves a)
    (λ t e. ap (λ (x : Bool). same_test fast? (is_fast t.manner) && (x && eqb t.to b)) e ∙ and-false (same_test fast? (is_fast t.manner)))

-- ---- fast exits

abbrev pub goes_fast : Transition → Bool
goes_fast t = is_fast t.manner

pub has_fast_member : (ts : List Transition) → has_fast ts ≡ true → (t : Transition) × Memᴰ t ts × (is_fast t.manner ≡ true)
unfolding has_fast
has_fast_member = any_some goes_fast
