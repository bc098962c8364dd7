-- The code's totals of eighteen digits, and its way from them to nine, are the roundings that are meant. Assumes nothing.
use mathlib.Core.Path.{◌≡◌, refl, sym, ◌∙◌, ap, ap₂}
use Prim.Native.Nat.{ℕ, zero, suc, ◌+◌, ◌*◌, ◌^◌, ◌≤◌, ◌<◌}
use native.Mathlib.Nat.{le_trans, mul-le-mul_right, mul-pos, lt_irrefl}
use native.Mathlib.Omega.{arith}
use lib.Dec.{lit≤}
use lib.IntN.{ℤ, pos, ◌+ℤ◌, ◌-ℤ◌}
use lib.Signed.{mag}
use Rattle.fraction.specs.Fraction.{◌+ᶠ◌}
use Rattle.fraction.proofs.Ratio.{◌≈◌, ≈_refl, ⊕_cong}
use Rattle.figure.specs.declared.Figure.{Figure}
use Rattle.figure.specs.declared.Direction.{Direction}
use Rattle.figure.specs.declared.division.Part.{Part}
use Rattle.figure.specs.Rounding.{figure, none, value, IsFigure, is_zero, is_whole}
use Rattle.figure.specs.Operands.{Operand, Sized}
use Rattle.figure.specs.Internal.Steps.{rounded, Digits, Ordered, part, shorter, directed, trimmed, gap_of, aligned_sum, widening}
use Rattle.figure.proofs.Scale.{pow_pos, ten_shift}
use Rattle.figure.proofs.Value.{val, value_is}
use Rattle.figure.proofs.Operations.{value_plus}
use Rattle.figure.proofs.Stored.{stored, kept, mag_sum, mag_difference, read_sum, read_difference}
use Rattle.figure.proofs.Parts.{part_below, shorter_part, shorter_small}
use Rattle.figure.proofs.PartsRounded.{over_lift, rounded_part, rounded_trimmed}
use Rattle.figure.proofs.Figures.{digits_high, digits_low, zero_is_none, room, rounded_own, rounded_same, over_tens}
use Rattle.figure.proofs.Sums.{aligned_small, sum_over}

pub nine : Digits 9
nine = record { some = lit≤ tt; most = lit≤ tt }

pub eighteen : Digits 18
eighteen = record { some = lit≤ tt; most = lit≤ tt }

-- ---- a figure of nine digits, with eighteen

widening_none : (a : Figure) → a.digits ≡ 0 → widening a ≡ none
unfolding widening
widening_none a z = rw (z, widening)

widening_whole : (a : Figure) → (a.digits ≡ 0 → ⊥) → widening a ≡ figure (a.digits * 10 ^ 9) (a.power -ℤ pos 9)
unfolding widening
widening_whole a n = go a.digits n
  where
    wide : ℕ → Figure
    wide d = figure (d * 10 ^ 9) (a.power -ℤ pos 9)

    go : (d : ℕ) → (d ≡ 0 → ⊥) → elim d as (λ _. Figure) [ zero ↦ none | suc m ↦ wide (suc m) ] ≡ wide d
    go zero m = absurd (m refl)
    go (suc d) m = refl

module _ {a : Figure} (o : Operand 9 a) where
  pub widened_zero : a.digits ≡ 0 → a ≡ widening a
  widened_zero z = zero_is_none (lit≤ tt) o.is_figure z ∙ sym (widening_none a z)

  wide_near : mag (a.power -ℤ pos 9) ≤ 200000
  wide_near = omega (arith, mag_difference a.power (pos 9), o.near)

  pub widened_answer : {u : ℤ} → (a.digits ≡ 0 → ⊥) → u ≡ stored a.power -ℤ pos 9 → figure (a.digits * 1000000000) (stored u) ≡ widening a
  widened_answer n e =
      ap (figure (a.digits * 10 ^ 9))
      (ap stored (read_difference a.power (pos 9) (room tt o.near) (lit≤ tt) e) ∙ kept (a.power -ℤ pos 9) (omega (arith, wide_near)))
      ∙ sym (widening_whole a n)

  not_zero : 10 ^ 8 ≤ a.digits → a.digits ≡ 0 → ⊥
  not_zero l z = lt_irrefl 0 (le_trans (pow_pos 8) (rw z at l))

  pub widening_sized : Sized 18 200000 (widening a)
  widening_sized = go o.is_figure
    where
      go : IsFigure 9 a → Sized 18 200000 (widening a)
      go (is_zero z p) = rw (widening_none a z) (record { is_figure = is_zero refl refl; near = lit≤ tt })
      go (is_whole l h) = rw (widening_whole a (not_zero l)) (record { is_figure = is_whole (omega (arith, l)) (omega (arith, h)); near = wide_near })

  widening_value : val (widening a) ≈ val a
  widening_value = go o.is_figure
    where
      go : IsFigure 9 a → val (widening a) ≈ val a
      go (is_zero z p) = rw (widening_none a z, zero_is_none (lit≤ tt) o.is_figure z) (≈_refl _)
      go (is_whole l h) = rw (widening_whole a (not_zero l)) (ten_shift a.digits 9 a.power)

  pub total_answer : (to : Direction) (t : Figure) {w r : Figure} → w ≡ widening a → r ≡ rounded to 18 (value t +ᶠ value w)
      → r ≡ rounded to 18 (value t +ᶠ value a)
  total_answer to t e f =
      f ∙ ap (λ g. rounded to 18 (value t +ᶠ value g)) e ∙ ap (rounded to 18) (value_plus t (widening a))
      ∙ rounded_same to 17 (⊕_cong (≈_refl (val t)) widening_value) ∙ ap (rounded to 18) (sym (value_plus t a))

-- ---- a power raised by nine

module _ (p : ℤ) {u : ℤ} (h : mag p ≤ 200000) (e : u ≡ stored p +ℤ pos 9) where
  raised_near : mag (p +ℤ pos 9) ≤ 200010
  raised_near = omega (arith, mag_sum p (pos 9))

  raised_is : stored u ≡ p +ℤ pos 9
  raised_is = ap stored (read_sum p (pos 9) (room tt h) (lit≤ tt) e) ∙ kept (p +ℤ pos 9) (omega (arith, raised_near))

  pub nine_higher : mag (stored u) ≤ 900000
  nine_higher = rw raised_is (omega (arith, raised_near))

-- ---- a total, to nine digits

module _ {t : Figure} (o : Operand 18 t) where
  pub to_nine_zero : (to : Direction) → t.digits ≡ 0 → t ≡ rounded to 9 (value t)
  to_nine_zero to z = rw (zero_is_none (lit≤ tt) o.is_figure z) (sym (rounded_own to 8 none (is_zero refl refl)))

  pub to_nine_below : {q : Part} → q ≡ part t.digits (10 ^ 9) → q.whole < 10 ^ 9
  to_nine_below e = part_below t.digits (10 ^ 9) (10 ^ 9) e (lit≤ tt) (digits_high o.is_figure)

  pub to_nine_power : {u : ℤ} → u ≡ stored t.power +ℤ pos 9 → mag (stored u) ≤ 1000000
  to_nine_power e = le_trans (nine_higher t.power (le_trans o.near (lit≤ tt)) e) (lit≤ tt)

  pub to_nine_answer : (to : Direction) {u : ℤ} {q : Part} {r : Figure} → (t.digits ≡ 0 → ⊥) → u ≡ stored t.power +ℤ pos 9 → q ≡ part t.digits (10 ^ 9)
      → r ≡ directed to 9 q (stored u) → r ≡ rounded to 9 (value t)
  to_nine_answer to n e f g =
      g ∙ ap₂ (directed to 9) f (raised_is t.power (le_trans o.near (lit≤ tt)) e)
      ∙ rounded_part 8 (lit≤ tt) (over_tens t.digits 9 t.power (≈_refl _)) (digits_low o.is_figure n) (digits_high o.is_figure) to
      ∙ ap (rounded to 9) (sym (value_is t))

-- ---- the sum of two totals, to nine digits

module _ {a b : Figure} {p q : Part} (o : Ordered 18 a b) (p-is : p ≡ aligned_sum a b) (q-is : q ≡ shorter p (10 ^ 9)) where
  pub sum_nine_below : q.whole < 10 * 10 ^ 9
  sum_nine_below = rw q-is (shorter_small p (10 * 10 ^ 9) (10 ^ 9) (lit≤ tt) (aligned_small o p-is))

  pub sum_nine_answer : (to : Direction) {u : ℤ} {r : Figure} → u ≡ stored a.power +ℤ pos 9 → r ≡ trimmed to 9 q (stored u)
      → r ≡ rounded to 9 (value a +ᶠ value b)
  sum_nine_answer to e h =
      h ∙ ap₂ (trimmed to 9) (q-is ∙ ap (λ s. shorter s (10 ^ 9)) p-is ∙ shorten) (raised_is a.power o.first.near e)
      ∙ rounded_trimmed 8 (mul-pos (pow_pos (gap_of a b)) (pow_pos 9)) (over_lift 9 (sum_over o)) (low (10 ^ gap_of a b))
      (high (10 ^ gap_of a b) (pow_pos (gap_of a b))) to
      ∙ ap (rounded to 9) (sym (value_plus a b))
    where
      shorten : shorter (aligned_sum a b) (10 ^ 9) ≡ part (a.digits * 10 ^ gap_of a b + b.digits) (10 ^ gap_of a b * 10 ^ 9)
      shorten = unfold aligned_sum in shorter_part (a.digits * 10 ^ gap_of a b + b.digits) (10 ^ gap_of a b) (10 ^ 9) (pow_pos (gap_of a b)) (pow_pos 9)

      least : 10 ^ 17 ≤ a.digits
      least = digits_low o.first.is_figure (λ z. lt_irrefl 0 (rw z at o.first_some))

      low : (T : ℕ) → 10 ^ 8 * (T * 10 ^ 9) ≤ a.digits * T + b.digits
      low T = omega (arith, mul-le-mul_right T least)

      high : (T : ℕ) → 0 < T → a.digits * T + b.digits < 10 * (10 * 10 ^ 8 * (T * 10 ^ 9))
      high T l = omega (arith, mul-le-mul_right T (digits_high o.first.is_figure), digits_high o.second.is_figure, l)
