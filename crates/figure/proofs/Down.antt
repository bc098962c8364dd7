-- Rounding down to w + 1 digits: what is computed is the greatest figure not above x, and is at most one part in 10^w below it. Stated over
-- fractions with natural numerators; `Rounding` has the statements over signed ones. Assumes nothing.
use mathlib.Core.Path.{◌≡◌, refl}
use mathlib.Core.List.{[], ◌∷◌}
use mathlib.Core.Logic.{⊎_elim}
use mathlib.Core.Bool.{Bool, true, false, not}
use Prim.Native.Nat.{ℕ, suc, ◌+◌, ◌*◌, ◌-◌, ◌^◌, ◌≤◌, ◌<◌}
use native.Mathlib.Nat.{le_trans, lt_irrefl, not-le_of_lt, le_of_lt, lt_of_not-le}
use native.Mathlib.Omega.{arith, patom, plit}
use lib.Dec.{T, ltb, ltb→lt, nltb→le}
use lib.IntN.{ℤ, suc_ℤ}
use Rattle.fraction.proofs.Ratio.{Ratio, ◌≼◌, ofℕ, ◌⊕◌, ◌⊗◌, ≼_refl, ≼_trans, ≈_le, ⊗_mono, ⊗_comm, ofℕ-≼, ofℕ-⊕, ⊗_zero, zero-≼, zero_or_pos, not-≼, zero_below}
use Rattle.fraction.proofs.Certificate.{◌+'◌, ◌*'◌, prove, hyp}
use Rattle.fraction.proofs.PowersOfTen.{ten_to}
use Rattle.fraction.proofs.Signed.{signed}
use Rattle.figure.specs.declared.Figure.{Figure}
use Rattle.figure.specs.Rounding.{figure, none, IsFigure, is_zero, IsDown, floor, down_from, down}
use Rattle.figure.specs.Faithful.{DownUnique}
use Rattle.figure.proofs.Scale.{pow_pos, ten_step, multiple-≼, Powers, same_power, lower, higher, powers, higher-≼}
use Rattle.figure.proofs.Counts.{floor_reach, floor_greatest}
use Rattle.figure.proofs.Digits.{start, start_low, start_not_high}
use Rattle.figure.proofs.Value.{val, above_value, above_val, value-≼, val-≼, low_end, figure_of, Shape, empty, full, shape, where_above, figure_same}

-- ---- a figure is the greatest not above x, said of its digits and its power

pub record Close (w : ℕ) (x : Ratio) (f : Figure) : Type 0 where
  pub big : 10 ^ w ≤ f.digits
  pub small : f.digits < 10 * 10 ^ w
  pub reach : val f ≼ x
  pub close : (c : ℕ) → ofℕ c ⊗ ten_to f.power ≼ x → c ≤ f.digits

from_close : (w : ℕ) (x : Ratio) → 0 < x.num → Close w x (down_from (suc w) (signed x) (start w x))
unfolding down_from
from_close w x pos_x = go (ltb next (10 ^ (suc w - 1))) (λ t. rw (low_end w) at (ltb→lt next (10 ^ (suc w - 1)) t))
    (λ t. rw (low_end w) at (nltb→le next (10 ^ (suc w - 1)) t))
  where
    e : ℤ
    e = start w x

    next : ℕ
    next = floor (signed x) (suc_ℤ e)

    go : (b : Bool) → (T b → next < 10 ^ w) → (T (not b) → 10 ^ w ≤ next)
        → Close w x (elim b as (λ _. Figure) [ true ↦ figure (floor (signed x) e) e | false ↦ figure next (suc_ℤ e) ])
    go true p q = record {
      big = floor_greatest x e (10 ^ w) (start_low w x pos_x);
      small = lt_of_not-le (λ l. not-le_of_lt (p tt)
          (floor_greatest x (suc_ℤ e) (10 ^ w) (≼_trans (≈_le (ten_step (10 ^ w) e)) (≼_trans (multiple-≼ e l) (floor_reach x e)))));
      reach = floor_reach x e;
      close = floor_greatest x e;
    }
    go false p q = record {
      big = q tt;
      small = lt_of_not-le (λ l. start_not_high w x (≼_trans (multiple-≼ (suc_ℤ e) l) (floor_reach x (suc_ℤ e))));
      reach = floor_reach x (suc_ℤ e);
      close = floor_greatest x (suc_ℤ e);
    }

pub down_close : (w : ℕ) (x : Ratio) → 0 < x.num → Close w x (down (suc w) (signed x))
unfolding down signed
down_close w x pos_x = where_above (Close w x) x.num pos_x (from_close w x pos_x)

close_greatest : (w : ℕ) (x : Ratio) (f : Figure) → Close w x f → (g : Figure) → IsFigure (suc w) g → val g ≼ x → val g ≼ val f
close_greatest w x f t g i h = go (shape i)
  where
    by_power : 10 ^ w ≤ g.digits → g.digits < 10 * 10 ^ w → Powers g.power f.power → val g ≼ val f
    by_power b s (same_power r) = rw r (multiple-≼ f.power (t.close g.digits (rw r at h)))
    by_power b s (lower k r) = ≼_trans (multiple-≼ g.power (le_of_lt s)) (rw r (higher-≼ (10 ^ w) f.digits g.power k t.big))
    by_power b s (higher k r) = absurd (not-le_of_lt t.small
        (t.close (10 * 10 ^ w) (≼_trans (higher-≼ (10 ^ w) g.digits f.power k b) (rw r at h))))

    go : Shape w g → val g ≼ val f
    go (empty z z') = rw z (≼_trans (≈_le (⊗_zero _)) (zero-≼ _))
    go (full b s) = by_power b s (powers g.power f.power)

pub close_is_down : (w : ℕ) (x : Ratio) (f : Figure) → Close w x f → IsDown (suc w) (signed x) f
close_is_down w x f t = record {
  is_figure = figure_of w f t.big t.small;
  not_above = above_value f t.reach;
  greatest = λ g i h. value-≼ g f (close_greatest w x f t g i (above_val g h));
}

-- ---- down is the greatest figure not above x, and the only one

pub down_zero : (K : ℕ) (x : Ratio) → x.num ≡ 0 → down K (signed x) ≡ none
unfolding down signed
down_zero K x z = rw (z, down)

zero_is_down : (w : ℕ) (x : Ratio) → x.num ≡ 0 → IsDown (suc w) (signed x) none
zero_is_down w x z = record {
  is_figure = is_zero refl refl;
  not_above = above_value none (≼_trans (≈_le (⊗_zero _)) (zero-≼ _));
  greatest = λ g i h. value-≼ g none (≼_trans (above_val g h) (zero_below _ z));
}

pub natural_down : (w : ℕ) (x : Ratio) → IsDown (suc w) (signed x) (down (suc w) (signed x))
natural_down w x = ⊎_elim (λ z. rw (down_zero (suc w) x z) (zero_is_down w x z)) (λ h. close_is_down w x _ (down_close w x h)) (zero_or_pos x)

pub down_unique : DownUnique
down_unique w x f g a b = figure_same w f g a.is_figure b.is_figure (val-≼ f g (b.greatest f a.is_figure a.not_above))
    (val-≼ g f (a.greatest g b.is_figure b.not_above))

-- what is below is rounded below
pub natural_down_mono : (w : ℕ) {x y : Ratio} → x ≼ y → val (down (suc w) (signed x)) ≼ val (down (suc w) (signed y))
natural_down_mono w {x} {y} h = let a = natural_down w x in
    val-≼ _ _ ((natural_down w y).greatest _ a.is_figure (above_value _ (≼_trans (above_val _ a.not_above) h)))

pub down_pos : (w : ℕ) (x : Ratio) → 0 < x.num → 0 < (down (suc w) (signed x)).digits
down_pos w x h = le_trans (pow_pos w) (down_close w x h).big

-- ---- code that found the digits has found the rounding

-- D, of w + 1 digits, is the greatest multiple of 10^e that does not pass x
pub round_down : (w : ℕ) (x : Ratio) (D : ℕ) (e : ℤ) → 10 ^ w ≤ D → D < 10 * 10 ^ w → ofℕ D ⊗ ten_to e ≼ x
    → ((c : ℕ) → ofℕ c ⊗ ten_to e ≼ x → c ≤ D) → figure D e ≡ down (suc w) (signed x)
round_down w x D e big small reach close = down_unique w (signed x) _ _
    (close_is_down w x (figure D e) (record { big = big; small = small; reach = reach; close = close })) (natural_down w x)

-- ---- rounding down takes off at most one part in 10^w

close_near : (w : ℕ) (x : Ratio) (f : Figure) → Close w x f → ofℕ (10 ^ w) ⊗ x ≼ ofℕ (10 ^ w) ⊗ val f ⊕ x
close_near w x f t = prove (ofℕ (10 ^ w) ∷ x ∷ ofℕ D ∷ ten_to f.power ∷ ofℕ (D + 1) ∷ [])
    (hyp (patom 0) (patom 1) (patom 4 *' patom 3) ∷ hyp (patom 0 *' patom 3) (patom 4) (patom 2 +' plit 1) ∷ hyp (patom 3) (patom 0) (patom 2)
    ∷ hyp (plit 1) (patom 2 *' patom 3) (patom 1) ∷ [])
    (patom 0 *' patom 1) (patom 0 *' (patom 2 *' patom 3) +' patom 1) tt
    (not-≼ _ _ (λ u. lt_irrefl D (omega (arith, t.close (D + 1) u)))) (≈_le (ofℕ-⊕ D 1)) (ofℕ-≼ t.big) t.reach
  where
    D : ℕ
    D = f.digits

pub down_near : (w : ℕ) (x : Ratio) → ofℕ (10 ^ w) ⊗ x ≼ ofℕ (10 ^ w) ⊗ val (down (suc w) (signed x)) ⊕ x
down_near w x = ⊎_elim none_near (λ h. close_near w x _ (down_close w x h)) (zero_or_pos x)
  where
    none_near : x.num ≡ 0 → ofℕ (10 ^ w) ⊗ x ≼ ofℕ (10 ^ w) ⊗ val (down (suc w) (signed x)) ⊕ x
    none_near z = ≼_trans (⊗_mono (≼_refl _) (zero_below (ofℕ 0) z)) (≼_trans (≈_le (⊗_comm _ _)) (≼_trans (≈_le (⊗_zero _)) (zero-≼ _)))
