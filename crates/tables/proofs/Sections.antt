-- Writes to the table: an entry that is put at a place is found there, and no other changes. Assumes nothing.
use Prim.Native.Nat.{ℕ, ◌+◌, ◌≤◌, ◌<◌}
use mathlib.Core.Path.{◌≡◌, ap}
use mathlib.Core.List.{List}
use native.Mathlib.Nat.{le_antisymm, lt_of_not-le}
use native.Mathlib.Decide.{dec_le}
use native.Mathlib.Omega.{arith}
use lib.ListN.{length, get_or, set}
use lib.Seq.{get_or-set_same, get_or-set_other}
use Rattle.figure.specs.declared.Rounded.{Rounded}

-- equal ones that tell have equal figures and equal marks

pub same_figure : {a b : Rounded} → a ≡ b → a.figure ≡ b.figure
same_figure e = ap (λ (x : Rounded). x.figure) e

pub same_mark : {a b : Rounded} → a ≡ b → a.kept ≡ b.kept
same_mark e = ap (λ (x : Rounded). x.kept) e

-- with entry n put and right, and those below it right before, those up to it are right
pub put_more : {A : Type 0} (Right : ℕ → A → Type 0) (entries : List A) (d v : A) {n : ℕ} → n < length entries → Right n v
    → ((k : ℕ) → k < n → Right k (get_or entries k d)) → (k : ℕ) → k < n + 1 → Right k (get_or (set entries n v) k d)
put_more Right entries d v {n} inside new old k high = go (dec_le n k)
  where
    go : Dec (n ≤ k) → Right k (get_or (set entries n v) k d)
    go (yes l) = let e : k ≡ n = le_antisymm (omega arith) l in rw (e, get_or-set_same entries n v d inside) new
    go (no l) =
        rw (get_or-set_other entries n k v d (λ e. absurd (l (rw e (omega arith))))) (old k (lt_of_not-le l))
