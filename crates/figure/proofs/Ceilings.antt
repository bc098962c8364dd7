-- The least whole number not below a figure, by the figure's power. Assumes nothing.
use mathlib.Core.Path.{◌≡◌, refl, sym, ◌∙◌, ap, ap₂}
use mathlib.Core.Bool.{Bool, true, false, false≢true}
use Prim.Native.Nat.{ℕ, zero, suc, ◌*◌, ◌^◌, ◌≤◌, ◌<◌}
use native.Mathlib.Nat.{le_refl, le_trans, not-suc-le-zero, lt_irrefl, lt_of_not-le, not-le_of_lt, mul-le-mul, lt_of_mul-lt-mul_right}
use native.Mathlib.Omega.{arith}
use lib.Dec.{leb, lit≤}
use lib.IntN.{ℤ, pos, negsuc, neg_ℤ, nat_abs, ◌-ℤ◌}
use lib.Signed.{mag, le_z, lt_z}
use mir.Syntax.{w32}
use mir.Val.{SFits}
use mir.Facts.{to_z-of_z}
use borrow.Author.Tests.{le-leb, lt-leb, leb-true, leb-false, ltb-true, ltb-false}
use Rattle.std.specs.Int.{div_ceil}
use Rattle.std.proofs.lemmas.Grind.{div_ceil_times}
use Rattle.fraction.specs.Fraction.{whole, at_most}
use Rattle.fraction.proofs.Ratio.{◌≼◌, ◌≈◌, ofℕ, ◌⊗◌, ≼_trans, ≈_refl, ≈_sym, ≈_trans, ≈_le, ≈_ge, ⊗_cong, ⊗_comm, ⊗_assoc, ⊗_one, ofℕ-⊗, ofℕ-≼, ofℕ-≤}
use Rattle.fraction.proofs.PowersOfTen.{ten_to, ten_nat}
use Rattle.fraction.proofs.Signed.{signed_whole, at_most_signed}
use Rattle.figure.specs.declared.Figure.{Figure}
use Rattle.figure.specs.Rounding.{value, IsFigure, is_zero, is_whole}
use Rattle.figure.proofs.Scale.{pow_pos, pow_mono, multiple-≤, multiple-≼, power_inverse}
use Rattle.figure.proofs.Value.{val, value_is}
use Rattle.figure.proofs.Figures.{digits_high}
use Rattle.figure.proofs.Stored.{stored, mag_difference, both_kept}
use Rattle.figure.specs.Internal.Ceiling.{Ceiling}

-- ---- two tests that say the same

same_test : (a b c d : ℕ) → (a ≤ b → c ≤ d) → (c ≤ d → a ≤ b) → leb a b ≡ leb c d
same_test a b c d there back = go (leb a b) (leb-true a b) (leb-false a b)
  where
    go : (t : Bool) → (t ≡ true → a ≤ b) → (t ≡ false → b < a) → t ≡ leb c d
    go true p q = sym (le-leb c d (there (p refl)))
    go false p q = sym (lt-leb c d (lt_of_not-le (λ h. not-le_of_lt (q refl) (back h))))

-- ---- a figure at or below a whole number

module _ (g : Figure) where
  reads : (n a b : ℕ) → (val g ≼ ofℕ n → a ≤ b) → (a ≤ b → val g ≼ ofℕ n) → at_most (value g) (whole n) ≡ leb a b
  reads n a b there back =
      ap₂ at_most (value_is g) (sym (signed_whole n)) ∙ at_most_signed (val g) (ofℕ n)
      ∙ same_test _ _ a b (λ h. there (record { le = h })) (λ h. (back h).le)

  above : (k : ℕ) → g.power ≡ pos k → (n : ℕ) → at_most (value g) (whole n) ≡ leb (g.digits * 10 ^ k) n
  above k e n = reads n (g.digits * 10 ^ k) n (λ h. ofℕ-≤ (≼_trans (≈_ge is) h)) (λ h. ≼_trans (≈_le is) (ofℕ-≼ h))
    where
      is : val g ≈ ofℕ (g.digits * 10 ^ k)
      is = rw e (≈_trans (⊗_cong (≈_refl _) (ten_nat k)) (≈_sym (ofℕ-⊗ g.digits (10 ^ k))))

  below : (k : ℕ) → g.power ≡ neg_ℤ (pos k) → (n : ℕ) → at_most (value g) (whole n) ≡ leb g.digits (n * 10 ^ k)
  below k e n =
      reads n g.digits (n * 10 ^ k) (λ h. multiple-≤ g.digits (n * 10 ^ k) g.power (≼_trans h (≈_ge is)))
      (λ h. ≼_trans (multiple-≼ g.power h) (≈_le is))
    where
      is : ofℕ (n * 10 ^ k) ⊗ ten_to g.power ≈ ofℕ n
      is = rw e (≈_trans (⊗_cong (ofℕ-⊗ n (10 ^ k)) (≈_refl _)) (≈_trans (⊗_assoc _ _ _)
          (≈_trans (⊗_cong (≈_refl (ofℕ n)) (power_inverse k)) (≈_trans (⊗_comm _ _) (⊗_one _)))))

-- ---- by the power of a figure of nine digits

-- a figure whose power is not 0 has all its digits
full : {g : Figure} → IsFigure 9 g → (g.power ≡ pos 0 → ⊥) → 100000000 ≤ g.digits
full (is_zero z p) n = absurd (n p)
full (is_whole l h) n = l

module _ (g : Figure) (i : IsFigure 9 g) (fits : SFits w32 g.power) where
  read : stored g.power ≡ g.power
  read = to_z-of_z fits

  -- above 9: 10^18 or more
  pub ceiling_high : lt_z (pos 9) (stored g.power) ≡ true → Ceiling g 1000000000000000000
  ceiling_high h = go g.power refl (rw read at h)
    where
      go : (p : ℤ) → g.power ≡ p → lt_z (pos 9) p ≡ true → Ceiling g 1000000000000000000
      go (negsuc k) e t = absurd (false≢true t)
      go (pos k) e t = record {
        same = λ n small. above g k e n ∙ lt-leb (g.digits * 10 ^ k) n (le_trans small far) ∙ sym (lt-leb 1000000000000000000 n small);
      }
        where
          nonzero : g.power ≡ pos 0 → ⊥
          nonzero z = lt_irrefl 0 (omega (arith, ap mag (sym e ∙ z), ltb-true 9 k t))

          far : 10 ^ 18 ≤ g.digits * 10 ^ k
          far = mul-le-mul (full i nonzero) (pow_mono {i = 10} {j = k} (ltb-true 9 k t))

  -- from 0 to 9: a whole number
  module _ (low : lt_z (pos 9) (stored g.power) ≡ false) (test : le_z (pos 0) (stored g.power) ≡ true) where
    whole_power : (k : ℕ) × ((g.power ≡ pos k) × (k < 10))
    whole_power = go g.power refl (rw read at low) (rw read at test)
      where
        go : (p : ℤ) → g.power ≡ p → lt_z (pos 9) p ≡ false → le_z (pos 0) p ≡ true → (k : ℕ) × ((g.power ≡ pos k) × (k < 10))
        go (pos k) e l t = (k, (e, omega (arith, ltb-false 9 k l)))
        go (negsuc k) e l t = absurd (false≢true t)

    whole_index : nat_abs (stored g.power) ≡ whole_power.0
    whole_index = ap nat_abs (read ∙ whole_power.1.0)

    module _ (t : ℕ) (is : t ≡ 10 ^ nat_abs (stored g.power)) where
      whole_ten : t ≡ 10 ^ whole_power.0
      whole_ten = is ∙ ap (λ n. 10 ^ n) whole_index

      pub ceiling_whole : Ceiling g (g.digits * t)
      ceiling_whole = record {
        same = λ n small. above g whole_power.0 whole_power.1.0 n ∙ ap (λ m. leb (g.digits * m) n) (sym whole_ten);
      }

  -- below -9: between 0 and 1
  pub ceiling_low : lt_z (stored g.power) (negsuc 8) ≡ true → Ceiling g 1
  ceiling_low h = go g.power refl (rw read at h)
    where
      go : (p : ℤ) → g.power ≡ p → lt_z p (negsuc 8) ≡ true → Ceiling g 1
      go (pos k) e t = absurd (false≢true t)
      go (negsuc k) e t = record { same = λ n small. below g (suc k) e n ∙ same_test g.digits (n * 10 ^ suc k) 1 n (some n) reach }
        where
          nonzero : g.power ≡ pos 0 → ⊥
          nonzero z = let w : ◌≡◌ {A = ℕ} 0 1 = cc in lt_irrefl 0 (omega arith)

          some : (n : ℕ) → g.digits ≤ n * 10 ^ suc k → 1 ≤ n
          some zero l = absurd (lt_irrefl 0 (le_trans {m = 100000000} (lit≤ tt) (le_trans (full i nonzero) (le_trans l (omega arith)))))
          some (suc n) l = omega arith

          reach : {n : ℕ} → 1 ≤ n → g.digits ≤ n * 10 ^ suc k
          reach {n} l = le_trans {m = 1 * 10 ^ 9} (omega (arith, digits_high i)) (mul-le-mul l (pow_mono {i = 9} {j = suc k} (omega (arith, ltb-true 8 k t))))

  -- from -9 to -1: a quotient
  module _ (test : le_z (pos 0) (stored g.power) ≡ false) (high : lt_z (stored g.power) (negsuc 8) ≡ false) where
    part_power : (k : ℕ) × ((g.power ≡ negsuc k) × (k < 9))
    part_power = go g.power refl (rw read at test) (rw read at high)
      where
        go : (p : ℤ) → g.power ≡ p → le_z (pos 0) p ≡ false → lt_z p (negsuc 8) ≡ false → (k : ℕ) × ((g.power ≡ negsuc k) × (k < 9))
        go (pos k) e t l = absurd (not-suc-le-zero (leb-false 0 k t))
        go (negsuc k) e t l = (k, (e, omega (arith, ltb-false 8 k l)))

    near : mag g.power ≤ 1000000000
    near = rw part_power.1.0 (le_trans {m = 9} (omega (arith, part_power.1.1)) (lit≤ tt))

    turned : stored (pos 0 -ℤ stored g.power) ≡ pos (suc part_power.0)
    turned = both_kept ◌-ℤ◌ mag_difference (pos 0) g.power (lit≤ tt) near ∙ ap (λ (z : ℤ). pos 0 -ℤ z) part_power.1.0 ∙ ap pos (omega arith)

    part_index : nat_abs (stored (pos 0 -ℤ stored g.power)) ≡ suc part_power.0
    part_index = ap nat_abs turned

    module _ (t : ℕ) (is : t ≡ 10 ^ nat_abs (stored (pos 0 -ℤ stored g.power))) where
      part_ten : t ≡ 10 ^ suc part_power.0
      part_ten = is ∙ ap (λ n. 10 ^ n) part_index

      pub part_pos : 0 < t
      part_pos = rw part_ten (pow_pos (suc part_power.0))

      pub ceiling_part : Ceiling g (div_ceil g.digits t)
      ceiling_part = record {
        same = λ n small.
            below g (suc part_power.0) part_power.1.0 n ∙ ap (λ m. leb g.digits (n * m)) (sym part_ten) ∙ quotient n;
      }
        where
          least : (n : ℕ) → g.digits ≤ n * t → div_ceil g.digits t ≤ n
          least n l =
              let h : div_ceil g.digits t * t < suc n * t = omega (arith, l, (div_ceil_times g.digits t part_pos).1) in
              omega (arith, lt_of_mul-lt-mul_right t h)

          quotient : (n : ℕ) → leb g.digits (n * t) ≡ leb (div_ceil g.digits t) n
          quotient n = same_test g.digits (n * t) (div_ceil g.digits t) n (least n)
              (λ h. le_trans (div_ceil_times g.digits t part_pos).0 (mul-le-mul h (le_refl t)))
