-- What the tests `outside` and `differs` say, and that of a flag. Assumes nothing.
use Prim.Native.Nat.{ℕ, ◌≤◌, ◌<◌}
use mathlib.Core.Path.{◌≡◌, refl}
use mathlib.Core.Bool.{Bool, true, false, or-true}
use lib.Dec.{ltb, eqb}
use borrow.Author.Tests.{lt-ltb, le-ltb, ltb-false, eqb-true, not-false}
use Rattle.word.specs.Model.{one_if}
use Rattle.word.specs.Faults.{outside, differs}
use Rattle.word.proofs.Members.{neither}

pub inside : (least most n : ℕ) → outside least most n ≡ false → (least ≤ n) × (n ≤ most)
inside least most n e = let (low, high) = neither (ltb n least) (ltb most n) e in (ltb-false n least low, ltb-false most n high)

pub inside_test : (least most n : ℕ) → least ≤ n → n ≤ most → outside least most n ≡ false
inside_test least most n low high = rw (le-ltb n least low, le-ltb most n high)

pub above_test : (least most n : ℕ) → most < n → outside least most n ≡ true
above_test least most n high = rw (lt-ltb most n high, or-true)

pub differs_false : (a b : ℕ) → differs a b ≡ false → a ≡ b
differs_false a b e = eqb-true a b (not-false (eqb a b) e)

pub flag_test : (b : Bool) → eqb (one_if b) 1 ≡ b
flag_test true = refl
flag_test false = refl
