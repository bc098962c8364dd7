-- The code's rounding of a whole number times a power of ten to nine digits is the one that is meant. Assumes nothing.
use mathlib.Core.Path.{◌≡◌, sym, ◌∙◌, ap, ap₂}
use Prim.Native.Nat.{ℕ, ◌+◌, ◌-◌, ◌*◌, ◌^◌, ◌≤◌, ◌<◌}
use native.Mathlib.Nat.{mul-le-mul_right, mul-lt-mul_of_pos_right}
use native.Mathlib.Omega.{arith}
use lib.IntN.{ℤ, pos, neg_ℤ, ◌+ℤ◌, ◌-ℤ◌, +ℤ_idl}
use lib.Pow.{pow-add}
use lib.Signed.{mag}
use Rattle.fraction.specs.Fraction.{whole, ratio}
use Rattle.fraction.proofs.Ratio.{≈_refl, ≈_sym}
use Rattle.fraction.proofs.Signed.{signed_whole, signed_ratio}
use Rattle.figure.specs.declared.Figure.{Figure}
use Rattle.figure.specs.declared.Direction.{Direction}
use Rattle.figure.specs.declared.division.Part.{Part}
use Rattle.figure.specs.Rounding.{figure, none, value, is_whole}
use Rattle.figure.specs.Internal.Steps.{rounded, part, directed}
use Rattle.figure.proofs.Scale.{pow_pos, ten_units, ten_shift}
use Rattle.figure.proofs.Value.{value_is}
use Rattle.figure.proofs.Exact.{over_ten}
use Rattle.figure.proofs.Stored.{stored, kept, mag_sum, mag_difference, mag_negative, read_sum, read_difference}
use Rattle.figure.proofs.Parts.{part_below}
use Rattle.figure.proofs.PartsRounded.{rounded_part}
use Rattle.figure.proofs.Figures.{zero_num, rounded_own, rounded_zero, rounded_same, over_tens}

-- ---- the number of digits

-- r, at most 20, is the number of digits of n
pub record Count (n r : ℕ) : Type 0 where
  pub below : n < 10 ^ r
  pub reached : 10 ^ r ≤ 10 * n
  pub most : r ≤ 20

-- one more than its logarithm
pub digits_counted : {n l : ℕ} → 10 ^ l ≤ n → n < 10 * 10 ^ l → l < 20 → Count n (l + 1)
digits_counted {n} {l} low high most = record {
  below = rw (pow-add 10 l 1) (omega (arith, high));
  reached = rw (pow-add 10 l 1) (omega (arith, low));
  most = omega arith;
}

-- ---- the code's, of n times 10^e

pub nothing_rounded : (to : Direction) (n : ℕ) (e : ℤ) → n ≡ 0 → none ≡ rounded to 9 (value (figure n e))
nothing_rounded to n e z = sym (ap (rounded to 9) (value_is (figure n e)) ∙ rounded_zero to 9 _ (zero_num (figure n e) z))

-- at most nine digits: zeros are put behind
module _ {n r t : ℕ} (d : Count n r) (h : r ≤ 9) (t-is : t ≡ 10 ^ (9 - r)) where
  short_power : 10 ^ r * 10 ^ (9 - r) ≡ 10 ^ 9
  short_power = let e : r + (9 - r) ≡ 9 = omega arith in sym (pow-add 10 r (9 - r)) ∙ ap (λ m. 10 ^ m) e

  low : 10 ^ 8 ≤ n * 10 ^ (9 - r)
  low = omega (arith, mul-le-mul_right (10 ^ (9 - r)) d.reached, short_power)

  high : n * 10 ^ (9 - r) < 10 ^ 9
  high = omega (arith, mul-lt-mul_of_pos_right d.below (pow_pos (9 - r)), short_power)

  pub padded_below : n * t < 10 ^ 9
  padded_below = rw t-is high

  module _ (e : ℤ) (he : mag e ≤ 200000) {z : ℤ} (z-is : z ≡ pos (9 - r)) where
    zeros_near : mag z ≤ 9
    zeros_near = rw z-is (omega arith)

    pub padding_answer : (to : Direction) {u : ℤ} → u ≡ stored e -ℤ stored z → figure (n * t) (stored u) ≡ rounded to 9 (value (figure n e))
    padding_answer to {u} f = ap₂ figure (ap (λ m. n * m) t-is) power ∙ sym (ap (rounded to 9) (value_is (figure n e))
        ∙ sym (rounded_same to 8 (ten_shift n (9 - r) e)) ∙ ap (rounded to 9) (sym (value_is padded)) ∙ rounded_own to 8 padded (is_whole low high))
      where
        padded : Figure
        padded = figure (n * 10 ^ (9 - r)) (e -ℤ pos (9 - r))

        power : stored u ≡ e -ℤ pos (9 - r)
        power = ap stored (read_difference e z (omega arith) (omega (arith, zeros_near)) f)
            ∙ kept (e -ℤ z) (omega (arith, mag_difference e z, zeros_near)) ∙ ap (λ y. e -ℤ y) z-is

-- more than nine: the last are divided off
module _ {n r t : ℕ} (d : Count n r) (h : 9 < r) (t-is : t ≡ 10 ^ (r - 9)) where
  long_power : 10 ^ 9 * 10 ^ (r - 9) ≡ 10 ^ r
  long_power = let e : 9 + (r - 9) ≡ r = omega arith in sym (pow-add 10 9 (r - 9)) ∙ ap (λ m. 10 ^ m) e

  long_low : 10 ^ 8 * 10 ^ (r - 9) ≤ n
  long_low = omega (arith, d.reached, long_power)

  long_high : n < 10 * 10 ^ 8 * 10 ^ (r - 9)
  long_high = omega (arith, d.below, long_power)

  pub divisor_pos : 0 < t
  divisor_pos = rw t-is (pow_pos (r - 9))

  pub whole_below : {q : Part} → q ≡ part n t → q.whole < 10 ^ 9
  whole_below f = part_below n t (10 ^ 9) f divisor_pos (rw t-is long_high)

  module _ (e : ℤ) (he : mag e ≤ 200000) {z : ℤ} (z-is : z ≡ pos (r - 9)) where
    dropped_near : mag z ≤ 11
    dropped_near = rw z-is (omega (arith, d.most))

    module _ {u : ℤ} (u-is : u ≡ stored e +ℤ stored z) where
      sum_is : u ≡ e +ℤ z
      sum_is = read_sum e z (omega arith) (omega (arith, dropped_near)) u-is

      sum_near : mag u ≤ 300000
      sum_near = rw sum_is (omega (arith, mag_sum e z, dropped_near))

      pub whole_power : mag (stored u) ≤ 1000000
      whole_power = rw (kept u (omega (arith, sum_near))) (omega (arith, sum_near))

      pub whole_answer : (to : Direction) {q : Part} {f : Figure} → q ≡ part n t → f ≡ directed to 9 q (stored u) → f ≡ rounded to 9 (value (figure n e))
      whole_answer to g i =
          i ∙ ap₂ (directed to 9) (g ∙ ap (part n) t-is) (kept u (omega (arith, sum_near)) ∙ sum_is ∙ ap (λ y. e +ℤ y) z-is)
          ∙ rounded_part 8 (pow_pos (r - 9)) (over_tens n (r - 9) e (≈_refl _)) long_low long_high to ∙ ap (rounded to 9) (sym (value_is (figure n e)))

-- ---- whole numbers and quantities

pub of_whole_answer : (to : Direction) (n : ℕ) {r : Figure} → r ≡ rounded to 9 (value (figure n (pos 0))) → r ≡ rounded to 9 (whole n)
of_whole_answer to n e =
    e ∙ ap (rounded to 9) (value_is (figure n (pos 0))) ∙ rounded_same to 8 (ten_units n) ∙ ap (rounded to 9) (signed_whole n)

module _ (p : ℕ) (h : p ≤ 255) where
  -- the power as the code has it: 0 less p
  abbrev power : ℤ
  power = pos 0 -ℤ stored (pos p)

  power_is : power ≡ neg_ℤ (pos p)
  power_is = ap (λ y. pos 0 -ℤ y) (kept (pos p) (omega arith)) ∙ +ℤ_idl (neg_ℤ (pos p))

  power_kept : stored power ≡ neg_ℤ (pos p)
  power_kept = ap stored power_is ∙ kept (neg_ℤ (pos p)) (omega (arith, mag_negative (pos p)))

  pub quantity_answer : (to : Direction) (c : ℕ) {m : ℕ} {r : Figure} → m ≡ c → r ≡ rounded to 9 (value (figure m (stored power)))
      → r ≡ rounded to 9 (ratio (pos c) (10 ^ p))
  quantity_answer to c f g = g ∙ ap₂ (λ n y. rounded to 9 (value (figure n y))) f power_kept
      ∙ ap (rounded to 9) (value_is (figure c (neg_ℤ (pos p)))) ∙ rounded_same to 8 (≈_sym (over_ten c p))
      ∙ ap (rounded to 9) (signed_ratio c (10 ^ p))
