-- Document 01, "Classes and the exact bounds": "Every exact value, sum or share, and a figure where it is compared with one, is held in
-- statements as a fraction of two whole numbers, the denominator positive and the numerator signed; two are compared by multiplying
-- crosswise." These are those fractions and their operations. Assumes nothing: these are definitions.
use Rattle.std.specs.Prelude.{Bool, ◌≡◌, ℕ, zero, suc, ◌*◌, ◌^◌, ◌<◌, ℤ, pos, negsuc, ◌+ℤ◌, ◌-ℤ◌, ◌*ℤ◌, ◌≤ℤ◌}
use Rattle.std.proofs.Common.{mul-pos, zero-lt-suc}
use Rattle.std.proofs.Math.Nat.{one-le-pow}
use Rattle.std.specs.Int.Signed.{le_z}

infix 50 ◌≤ᶠ◌ ◌≈ᶠ◌
infixl 60 ◌+ᶠ◌ ◌-ᶠ◌
infixl 70 ◌*ᶠ◌ ◌/ᶠ◌
infixr 80 ◌^ᶠ◌
-- "a fraction of two whole numbers, the denominator positive and the numerator signed"
pub record Fraction : Type 0 where
  pub num : ℤ
  pub den : ℕ
  pub den_pos : 0 < den

-- "two are compared by multiplying crosswise"
pub record ◌≤ᶠ◌ (x y : Fraction) : Type 0 where
  pub le : (x.num *ℤ pos y.den) ≤ℤ (y.num *ℤ pos x.den)

-- equal as fractions
pub record ◌≈ᶠ◌ (x y : Fraction) : Type 0 where
  pub eq : x.num *ℤ pos y.den ≡ y.num *ℤ pos x.den

-- the order as a test that computes
unfoldable pub at_most : Fraction → Fraction → Bool
at_most x y = le_z (x.num *ℤ pos y.den) (y.num *ℤ pos x.den)

-- a whole number
unfoldable pub whole : ℕ → Fraction
whole n = record { num = pos n; den = 1; den_pos = zero-lt-suc 0 }

-- ---- sum, difference and product

unfoldable pub ◌+ᶠ◌ : Fraction → Fraction → Fraction
x +ᶠ y = record { num = x.num *ℤ pos y.den +ℤ y.num *ℤ pos x.den; den = x.den * y.den; den_pos = mul-pos x.den_pos y.den_pos }

unfoldable pub ◌-ᶠ◌ : Fraction → Fraction → Fraction
x -ᶠ y = record { num = x.num *ℤ pos y.den -ℤ y.num *ℤ pos x.den; den = x.den * y.den; den_pos = mul-pos x.den_pos y.den_pos }

unfoldable pub ◌*ᶠ◌ : Fraction → Fraction → Fraction
x *ᶠ y = record { num = x.num *ℤ y.num; den = x.den * y.den; den_pos = mul-pos x.den_pos y.den_pos }

-- ---- quotients and powers

-- n / d, where d is positive; 0 where it is 0
unfoldable pub ratio : ℤ → ℕ → Fraction
ratio n zero = whole 0
ratio n (suc d) = record { num = n; den = suc d; den_pos = zero-lt-suc d }

-- One over y. Where y is 0 or negative, this is 0: no rule of document 01 divides by such a number in an accepted model.
-- crates/tree/proofs/Divisors.antt (rounded) and crates/accuracy/proofs/Divisors.antt (exact) prove that.
unfoldable pub inverse : Fraction → Fraction
inverse y = elim y.num [ pos n ↦ ratio (pos y.den) n | negsuc _ ↦ whole 0 ]

-- the quotient, with 0 where the divisor is not positive
unfoldable pub ◌/ᶠ◌ : Fraction → Fraction → Fraction
x /ᶠ y = x *ᶠ inverse y

-- x ^ᶠ k: k factors x
unfoldable pub ◌^ᶠ◌ : Fraction → ℕ → Fraction
x ^ᶠ zero = whole 1
x ^ᶠ suc k = x *ᶠ x ^ᶠ k

-- ten to a power that may be negative
unfoldable pub ten : ℤ → Fraction
ten (pos k) = record { num = pos (10 ^ k); den = 1; den_pos = zero-lt-suc 0 }
ten (negsuc k) = record { num = pos 1; den = 10 ^ suc k; den_pos = one-le-pow (suc k) 10 (zero-lt-suc 9) }
