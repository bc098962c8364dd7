-- The value of a figure as a fraction with a natural numerator, and that a figure's value settles the figure. K is w + 1. Assumes nothing.
use mathlib.Core.Path.{◌≡◌, sym, ◌∙◌, ap, ap₂}
use Prim.Native.Nat.{ℕ, zero, suc, ◌*◌, ◌-◌, ◌^◌, ◌≤◌, ◌<◌}
use native.Mathlib.Nat.{le_trans, le_antisymm, not-le_of_lt, lt_irrefl, pow-succ'}
use native.Mathlib.Omega.{arith}
use lib.IntN.{pos}
use Rattle.fraction.specs.Fraction.{◌≤ᶠ◌, ◌*ᶠ◌}
use Rattle.fraction.proofs.Ratio.{Ratio, ◌≼◌, ofℕ, ◌⊗◌, ≼_trans}
use Rattle.fraction.proofs.PowersOfTen.{ten_to}
use Rattle.fraction.proofs.Signed.{signed, signed-≼, ≼_signed, signed-⊗, signed_whole, signed_ten}
use Rattle.figure.specs.declared.Figure.{Figure}
use Rattle.figure.specs.Rounding.{figure, none, value, IsFigure, is_zero, is_whole}
use Rattle.figure.proofs.Scale.{pow_pos, not_zero, multiple_pos, multiple-≤, Powers, same_power, lower, higher, powers, higher-≼}

abbrev pub val : Figure → Ratio
val f = ofℕ f.digits ⊗ ten_to f.power

pub value_is : (f : Figure) → value f ≡ signed (val f)
unfolding value
value_is f = sym (signed-⊗ _ _ ∙ ap₂ ◌*ᶠ◌ (signed_whole f.digits) (signed_ten f.power))

-- ---- comparing with a value, signed and natural

pub below_value : {x : Ratio} (f : Figure) → x ≼ val f → signed x ≤ᶠ value f
below_value f h = rw (value_is f) (signed-≼ h)

pub below_val : {x : Ratio} (f : Figure) → signed x ≤ᶠ value f → x ≼ val f
below_val f h = ≼_signed (rw (value_is f) at h)

pub above_value : {x : Ratio} (f : Figure) → val f ≼ x → value f ≤ᶠ signed x
above_value f h = rw (value_is f) (signed-≼ h)

pub above_val : {x : Ratio} (f : Figure) → value f ≤ᶠ signed x → val f ≼ x
above_val f h = ≼_signed (rw (value_is f) at h)

pub value-≼ : (f g : Figure) → val f ≼ val g → value f ≤ᶠ value g
value-≼ f g h = rw (value_is f) (below_value g h)

pub val-≼ : (f g : Figure) → value f ≤ᶠ value g → val f ≼ val g
val-≼ f g h = below_val g (rw (value_is f) at h)

-- ---- a whole number of w + 1 digits

pub low_end : (w : ℕ) → 10 ^ (suc w - 1) ≡ 10 ^ w
low_end w = ap (λ n. 10 ^ n) (omega arith)

pub figure_of : (w : ℕ) (f : Figure) → 10 ^ w ≤ f.digits → f.digits < 10 * 10 ^ w → IsFigure (suc w) f
figure_of w f b s = is_whole (rw (low_end w) b) (rw (pow-succ' 10 w) s)

-- a figure, taken apart
pub data Shape (w : ℕ) (f : Figure) : Type 0 where
  empty : f.digits ≡ 0 → f.power ≡ pos 0 → Shape w f
  full : 10 ^ w ≤ f.digits → f.digits < 10 * 10 ^ w → Shape w f

pub shape : {w : ℕ} {f : Figure} → IsFigure (suc w) f → Shape w f
shape (is_zero z p) = empty z p
shape {w} (is_whole b s) = full (rw (low_end w) at b) (rw (pow-succ' 10 w) at s)

-- f where n is above 0, and `none` where it is 0: for n above 0, what holds of f holds of it
pub where_above : (P : Figure → Type 0) (n : ℕ) {f : Figure} → 0 < n → P f → P (elim n as (λ _. Figure) [ zero ↦ none | suc _ ↦ f ])
where_above P zero h p = absurd (lt_irrefl 0 h)
where_above P (suc n) h p = p

-- ---- figures with one value are one figure

pub figure_same : (w : ℕ) (f g : Figure) → IsFigure (suc w) f → IsFigure (suc w) g → val f ≼ val g → val g ≼ val f → f ≡ g
figure_same w f g i j p q = go (shape i) (shape j)
  where
    digits_pos : (h : Figure) → 10 ^ w ≤ h.digits → 0 < (val h).num
    digits_pos h b = multiple_pos h.digits h.power (le_trans (pow_pos w) b)

    both : 10 ^ w ≤ f.digits → f.digits < 10 * 10 ^ w → 10 ^ w ≤ g.digits → g.digits < 10 * 10 ^ w → Powers f.power g.power → f ≡ g
    both a b c d (same_power r) = ap₂ figure (le_antisymm (multiple-≤ _ _ g.power (rw r at p)) (multiple-≤ _ _ g.power (rw r at q))) r
    both a b c d (lower k r) = absurd (not-le_of_lt b
        (multiple-≤ _ _ f.power (≼_trans (higher-≼ (10 ^ w) g.digits f.power k c) (rw r at q))))
    both a b c d (higher k r) = absurd (not-le_of_lt d
        (multiple-≤ _ _ g.power (≼_trans (higher-≼ (10 ^ w) f.digits g.power k a) (rw r at p))))

    go : Shape w f → Shape w g → f ≡ g
    go (empty a b) (empty c d) = ap₂ figure (a ∙ sym c) (b ∙ sym d)
    go (empty a b) (full c d) = absurd (not_zero (val g) f.power (digits_pos g c) (rw a at q))
    go (full a b) (empty c d) = absurd (not_zero (val f) g.power (digits_pos f a) (rw c at p))
    go (full a b) (full c d) = both a b c d (powers f.power g.power)
