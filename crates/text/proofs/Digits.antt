-- The decimal digits of a number, one after the other. Assumes nothing.
use Prim.Native.Nat.{ℕ, zero, suc, ◌+◌, ◌-◌, ◌/◌, ◌%◌, ◌≤◌, ◌<◌}
use mathlib.Core.Path.{◌≡◌, refl, ap}
use mathlib.Core.Bool.{Bool, true, false}
use mathlib.Core.List.{[], ◌∷◌, ◌++◌}
use native.Mathlib.Omega.{arith}
use native.Mathlib.Numerals.{sub-one}
use lib.ListN.{length, length-append}
use lib.Dec.{ltb}
use borrow.Author.Tests.{lt-ltb, le-ltb}
use Rattle.text.specs.Text.{digits_within, last_digits}

-- ---- as the code writes them

pub last_none : (n : ℕ) → last_digits 0 n ≡ []
unfolding last_digits
last_none n = refl

pub last_more : (k n : ℕ) → 1 ≤ k → last_digits k n ≡ last_digits (k - 1) (n / 10) ++ ((48 + n % 10) ∷ [])
unfolding last_digits
last_more zero n h = absurd (omega arith)
last_more (suc k) n h = simp sub-one

pub digits_none : (n : ℕ) → digits_within 0 n ≡ []
unfolding digits_within
digits_none n = refl

pub digits_one : (most n : ℕ) → 1 ≤ most → n < 10 → digits_within most n ≡ (48 + n % 10) ∷ []
unfolding digits_within
digits_one zero n h l = absurd (omega arith)
digits_one (suc most) n h l = rw (lt-ltb n 10 l, digits_within) (ap (λ (d : ℕ). (48 + d) ∷ []) (omega arith))

pub digits_more : (most n : ℕ) → 1 ≤ most → 10 ≤ n → digits_within most n ≡ digits_within (most - 1) (n / 10) ++ ((48 + n % 10) ∷ [])
unfolding digits_within
digits_more zero n h l = absurd (omega arith)
digits_more (suc most) n h l = rw (le-ltb n 10 l, digits_within) (simp sub-one)

-- ---- their number

pub length_last : (k n : ℕ) → length (last_digits k n) ≡ k
unfolding last_digits
length_last zero n = refl
length_last (suc k) n = omega (arith, length-append (last_digits k (n / 10)) ((48 + n % 10) ∷ []), length_last k (n / 10))

pub length_digits : (most n : ℕ) → length (digits_within most n) ≤ most
unfolding digits_within
length_digits zero n = omega arith
length_digits (suc most) n = go (ltb n 10) (length_digits most (n / 10))
  where
    go : (t : Bool) → length (digits_within most (n / 10)) ≤ most
        → length {A = ℕ} (elim t [ true ↦ (48 + n) ∷ [] | false ↦ digits_within most (n / 10) ++ ((48 + n % 10) ∷ []) ]) ≤ suc most
    go true h = omega arith
    go false h = omega (arith, length-append (digits_within most (n / 10)) ((48 + n % 10) ∷ []))
