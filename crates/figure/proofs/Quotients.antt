-- The code's quotient of two figures is the rounding that is meant. Assumes nothing.
use mathlib.Core.Path.{◌≡◌, sym, ◌∙◌, ap, ap₂}
use mathlib.Core.List.{[], ◌∷◌}
use Prim.Native.Nat.{ℕ, ◌*◌, ◌^◌, ◌≤◌, ◌<◌}
use native.Mathlib.Omega.{arith, patom, plit}
use lib.Dec.{lit≤}
use lib.IntN.{ℤ, pos, ◌-ℤ◌, -ℤ-+ℤ_cancel}
use lib.Signed.{mag}
use Rattle.fraction.specs.Fraction.{◌/ᶠ◌}
use Rattle.fraction.proofs.Ratio.{Ratio, ◌≈◌, ofℕ, ◌⊗◌, ≈_refl, ≈_sym, ≈_trans, ⊗_cong, ofℕ-⊗}
use Rattle.fraction.proofs.Certificate.{◌*'◌, same_value}
use Rattle.fraction.proofs.PowersOfTen.{ten_to, ten-+, ten_nat}
use Rattle.fraction.proofs.Inverse.{inv, inv_is}
use Rattle.figure.specs.declared.Figure.{Figure}
use Rattle.figure.specs.declared.Direction.{Direction}
use Rattle.figure.specs.declared.division.Part.{Part}
use Rattle.figure.specs.Rounding.{value}
use Rattle.figure.specs.Operands.{Operand}
use Rattle.figure.specs.Internal.Steps.{rounded, part, directed, Padding}
use Rattle.figure.proofs.Scale.{multiple_pos}
use Rattle.figure.proofs.Value.{val}
use Rattle.figure.proofs.Operations.{value_divided}
use Rattle.figure.proofs.Stored.{stored, kept, mag_difference, read_difference}
use Rattle.figure.proofs.Parts.{part_below}
use Rattle.figure.proofs.PartsRounded.{Over, rounded_part}
use Rattle.figure.proofs.Figures.{zero_is_none, room, rounded_zero}

-- ---- the exact quotient

ten_apart : (p q : ℤ) (k : ℕ) → ten_to p ≈ ten_to (p -ℤ q -ℤ pos k) ⊗ ofℕ (10 ^ k) ⊗ ten_to q
ten_apart p q k =
    ≈_trans (rw (-ℤ-+ℤ_cancel p q) at (ten-+ (p -ℤ q) q))
    (⊗_cong (≈_trans (rw (-ℤ-+ℤ_cancel (p -ℤ q) (pos k)) at (ten-+ (p -ℤ q -ℤ pos k) (pos k))) (⊗_cong (≈_refl _) (ten_nat k))) (≈_refl _))

quotient_over : (a b : Figure) (k : ℕ) → 0 < b.digits → Over (val a ⊗ inv (val b)) (a.digits * 10 ^ k) b.digits (a.power -ℤ b.power -ℤ pos k)
quotient_over a b k h = record {
  is =
      ≈_trans (⊗_cong (⊗_cong (⊗_cong (≈_refl A) (ten_apart a.power b.power k)) (≈_refl y)) (≈_refl B))
      (≈_trans (same_value (A ∷ e ∷ T ∷ ten_to b.power ∷ y ∷ B ∷ [])
      (patom 0 *' (patom 1 *' patom 2 *' patom 3) *' patom 4 *' patom 5) (patom 0 *' patom 2 *' patom 1 *' (patom 5 *' patom 3 *' patom 4)) tt tt)
      (≈_trans (⊗_cong (≈_refl _) (inv_is (val b) (multiple_pos b.digits b.power h)))
      (≈_trans (same_value (A ∷ T ∷ e ∷ []) (patom 0 *' patom 1 *' patom 2 *' plit 1) (patom 0 *' patom 1 *' patom 2) tt tt)
      (⊗_cong (≈_sym (ofℕ-⊗ a.digits (10 ^ k))) (≈_refl _)))));
}
  where
    A : Ratio
    A = ofℕ a.digits

    B : Ratio
    B = ofℕ b.digits

    T : Ratio
    T = ofℕ (10 ^ k)

    e : Ratio
    e = ten_to (a.power -ℤ b.power -ℤ pos k)

    y : Ratio
    y = inv (val b)

-- ---- the code's

module _ {a b : Figure} (oa : Operand 9 a) (ob : Operand 9 b) (hb : 0 < b.digits) where
  pub quotient_zero : (to : Direction) → a.digits ≡ 0 → a ≡ rounded to 9 (value a /ᶠ value b)
  quotient_zero to z = zero_is_none (lit≤ tt) oa.is_figure z ∙ sym (ap (rounded to 9) (value_divided a b) ∙ rounded_zero to 9 _ nothing)
    where
      nothing : (val a ⊗ inv (val b)).num ≡ 0
      nothing = unfold ◌⊗◌ ofℕ in omega (arith, ap (λ n. n * ((ten_to a.power).num * (inv (val b)).num)) z)

  -- the digits and the powers on the way, as the code has them
  module _ {k t : ℕ} (pad : Padding a.digits b.digits k) (t-is : t ≡ 10 ^ k) where
    pub quotient_below : {q : Part} → q ≡ part (a.digits * t) b.digits → q.whole < 10 ^ 9
    quotient_below e = part_below (a.digits * t) b.digits (10 ^ 9) e hb (rw t-is pad.high)

    module _ {s z : ℤ} (s-is : s ≡ stored a.power -ℤ stored b.power) (z-is : z ≡ pos k) where
      difference_is : s ≡ a.power -ℤ b.power
      difference_is = read_difference a.power b.power (room tt oa.near) (room tt ob.near) s-is

      difference_near : mag s ≤ 200002
      difference_near = rw difference_is (omega (arith, mag_difference a.power b.power, oa.near, ob.near))

      zeros_near : mag z ≤ 9
      zeros_near = rw z-is pad.few

      module _ {u : ℤ} (u-is : u ≡ stored s -ℤ stored z) where
        power_is : u ≡ s -ℤ z
        power_is = read_difference s z (omega (arith, difference_near)) (omega (arith, zeros_near)) u-is

        power_near : mag u ≤ 300000
        power_near = rw power_is (omega (arith, mag_difference s z, difference_near, zeros_near))

        pub quotient_power : mag (stored u) ≤ 1000000
        quotient_power = rw (kept u (omega (arith, power_near))) (omega (arith, power_near))

        pub quotient_answer : (to : Direction) {q : Part} {r : Figure} → q ≡ part (a.digits * t) b.digits → r ≡ directed to 9 q (stored u)
            → r ≡ rounded to 9 (value a /ᶠ value b)
        quotient_answer to f e =
            e ∙ ap₂ (directed to 9) (f ∙ ap (λ n. part (a.digits * n) b.digits) t-is)
            (kept u (omega (arith, power_near)) ∙ power_is ∙ ap₂ ◌-ℤ◌ difference_is z-is)
            ∙ rounded_part 8 hb (quotient_over a b k hb) pad.low pad.high to ∙ ap (rounded to 9) (sym (value_divided a b))
