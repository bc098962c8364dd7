-- The laws of the two roundings to w + 1 digits, over signed fractions: at w = 8 those of figures, at w = 17 those of totals. Assumes nothing.
use mathlib.Core.Path.{◌≡◌, refl, ◌∙◌}
use mathlib.Core.List.{[], ◌∷◌}
use Prim.Native.Nat.{ℕ, suc, ◌+◌, ◌^◌}
use native.Mathlib.Omega.{patom, plit}
use lib.IntN.{ℤ, pos, negsuc, neg_ℤ}
use Rattle.fraction.specs.Fraction.{Fraction, ◌≤ᶠ◌, ◌≈ᶠ◌, whole, ten, ◌+ᶠ◌, ◌-ᶠ◌, ◌*ᶠ◌}
use Rattle.fraction.proofs.Ratio.{Ratio, ◌≼◌, ofℕ, ◌⊕◌, ◌⊗◌, ◌⊖◌, ≼_refl, ≼_trans, ≈_le, ≈_ge, ⊗_mono, ⊗_one, ⊗_cancel, ofℕ-⊕, ofℕ-≼, ofℕ_pos, ⊖_back}
use Rattle.fraction.proofs.Certificate.{◌+'◌, ◌*'◌, prove, hyp}
use Rattle.fraction.proofs.PowersOfTen.{ten_to}
use Rattle.fraction.proofs.Signed.{signed, nonnegative, signed_nonnegative, nonnegative-≼, nonnegative_none, signed-⊕, signed-⊗, signed-⊖, signed_whole, signed_ten}
use Rattle.fraction.proofs.Laws.{≈ᶠ-≤, ≈ᶠ-≥}
use Rattle.figure.specs.declared.Figure.{Figure}
use Rattle.figure.specs.Rounding.{value, IsFigure, up, down}
use Rattle.figure.specs.Faithful.{UpIsUp, DownIsDown, UpNone, DownNone}
use Rattle.figure.proofs.Scale.{pow_pos, power_inverse}
use Rattle.figure.proofs.Value.{val, value_is, value-≼, val-≼, above_value, below_value, figure_same}
use Rattle.figure.proofs.Up as Up
pub use Rattle.figure.proofs.Up.{up_unique}
use Rattle.figure.proofs.Down as Down
pub use Rattle.figure.proofs.Down.{down_unique}

-- ---- a fraction below 0 is rounded as 0 is

-- the fraction with another numerator
abbrev over : ℤ → Fraction → Fraction
over z x = record { num = z; den = x.den; den_pos = x.den_pos }

pub up_natural : (K : ℕ) (x : Fraction) → up K x ≡ up K (signed (nonnegative x))
unfolding up signed nonnegative
up_natural K x = go x.num
  where
    go : (z : ℤ) → up K (over z x) ≡ up K (signed (nonnegative (over z x)))
    go (pos n) = refl
    go (negsuc n) = refl

pub down_natural : (K : ℕ) (x : Fraction) → down K x ≡ down K (signed (nonnegative x))
unfolding down signed nonnegative
down_natural K x = go x.num
  where
    go : (z : ℤ) → down K (over z x) ≡ down K (signed (nonnegative (over z x)))
    go (pos n) = refl
    go (negsuc n) = refl

pub up_none : UpNone
up_none K x h = up_natural K x ∙ Up.up_zero K (nonnegative x) (nonnegative_none x h)

pub down_none : DownNone
down_none K x h = down_natural K x ∙ Down.down_zero K (nonnegative x) (nonnegative_none x h)

-- ---- "Up(x) is the least figure not below x, down(x) the greatest not above", and each is the only one

pub up_is_up : UpIsUp
up_is_up w x h = rw (signed_nonnegative h) at (Up.natural_up w (nonnegative x))

pub down_is_down : DownIsDown
down_is_down w x h = rw (signed_nonnegative h) at (Down.natural_down w (nonnegative x))

pub up_figure : (w : ℕ) (x : Fraction) → IsFigure (suc w) (up (suc w) x)
up_figure w x = rw (up_natural (suc w) x) (Up.natural_up w (nonnegative x)).is_figure

pub down_figure : (w : ℕ) (x : Fraction) → IsFigure (suc w) (down (suc w) x)
down_figure w x = rw (down_natural (suc w) x) (Down.natural_down w (nonnegative x)).is_figure

-- ---- the order, and equality as fractions

pub up_mono : (w : ℕ) (x y : Fraction) → x ≤ᶠ y → value (up (suc w) x) ≤ᶠ value (up (suc w) y)
up_mono w x y h = rw (up_natural (suc w) x, up_natural (suc w) y) (value-≼ _ _ (Up.natural_up_mono w (nonnegative-≼ h)))

pub down_mono : (w : ℕ) (x y : Fraction) → x ≤ᶠ y → value (down (suc w) x) ≤ᶠ value (down (suc w) y)
down_mono w x y h = rw (down_natural (suc w) x, down_natural (suc w) y) (value-≼ _ _ (Down.natural_down_mono w (nonnegative-≼ h)))

pub up_respects : (w : ℕ) (x y : Fraction) → x ≈ᶠ y → up (suc w) x ≡ up (suc w) y
up_respects w x y e = figure_same w _ _ (up_figure w x) (up_figure w y) (val-≼ _ _ (up_mono w x y (≈ᶠ-≤ e))) (val-≼ _ _ (up_mono w y x (≈ᶠ-≥ e)))

pub down_respects : (w : ℕ) (x y : Fraction) → x ≈ᶠ y → down (suc w) x ≡ down (suc w) y
down_respects w x y e = figure_same w _ _ (down_figure w x) (down_figure w y) (val-≼ _ _ (down_mono w x y (≈ᶠ-≤ e)))
    (val-≼ _ _ (down_mono w y x (≈ᶠ-≥ e)))

-- ---- a figure is its own rounding

value_refl : (f : Figure) → value f ≤ᶠ value f
value_refl f = value-≼ f f (≼_refl _)

pub up_of_figure : (w : ℕ) (f : Figure) → IsFigure (suc w) f → up (suc w) (value f) ≡ f
up_of_figure w f i = up_unique w (value f) _ f (rw (value_is f) (Up.natural_up w (val f)))
    (record { is_figure = i; not_below = value_refl f; least = λ g j h. h })

pub down_of_figure : (w : ℕ) (f : Figure) → IsFigure (suc w) f → down (suc w) (value f) ≡ f
down_of_figure w f i = down_unique w (value f) _ f (rw (value_is f) (Down.natural_down w (val f)))
    (record { is_figure = i; not_above = value_refl f; greatest = λ g j h. h })

-- ---- a rounding goes at most one part in 10^w away

part_small : (w : ℕ) → ten_to (neg_ℤ (pos w)) ≼ ofℕ 1
part_small w = ≼_trans (≈_ge (⊗_one _)) (≼_trans (⊗_mono (ofℕ-≼ (pow_pos w)) (≼_refl _)) (≈_le (power_inverse w)))

scale_cancel : (w : ℕ) {x y : Ratio} → ofℕ (10 ^ w) ⊗ x ≼ ofℕ (10 ^ w) ⊗ y → x ≼ y
scale_cancel w h = ⊗_cancel (ofℕ (10 ^ w)) (ofℕ_pos (pow_pos w)) h

natural_up_within : (w : ℕ) (x : Ratio) → val (up (suc w) (signed x)) ≼ x ⊗ (ofℕ 1 ⊕ ten_to (neg_ℤ (pos w)))
natural_up_within w x = scale_cancel w (prove (ofℕ (10 ^ w) ∷ val (up (suc w) (signed x)) ∷ ofℕ (10 ^ w + 1) ∷ x ∷ ten_to (neg_ℤ (pos w)) ∷ [])
    (hyp (plit 1) (patom 0 *' patom 1) (patom 2 *' patom 3) ∷ hyp (patom 3) (patom 2) (patom 0 +' plit 1)
    ∷ hyp (patom 3) (plit 1) (patom 0 *' patom 4) ∷ [])
    (patom 0 *' patom 1) (patom 0 *' (patom 3 *' (plit 1 +' patom 4))) tt
    (Up.up_near w x) (≈_le (ofℕ-⊕ (10 ^ w) 1)) (≈_ge (power_inverse w)))

natural_down_within : (w : ℕ) (x : Ratio) → x ⊗ (ofℕ 1 ⊖ ten_to (neg_ℤ (pos w))) ≼ val (down (suc w) (signed x))
natural_down_within w x = scale_cancel w
    (prove (ofℕ (10 ^ w) ∷ val (down (suc w) (signed x)) ∷ x ∷ ten_to (neg_ℤ (pos w)) ∷ (ofℕ 1 ⊖ ten_to (neg_ℤ (pos w))) ∷ [])
    (hyp (patom 0 *' patom 2) (patom 4 +' patom 3) (plit 1) ∷ hyp (plit 1) (patom 0 *' patom 2) (patom 0 *' patom 1 +' patom 2)
    ∷ hyp (patom 2) (plit 1) (patom 0 *' patom 3) ∷ [])
    (patom 0 *' (patom 2 *' patom 4)) (patom 0 *' patom 1) tt
    (≈_le (⊖_back (part_small w))) (Down.down_near w x) (≈_ge (power_inverse w)))

-- value(up x) ≤ x · (1 + 10^-w)
pub up_within : (w : ℕ) (x : Fraction) → whole 0 ≤ᶠ x → value (up (suc w) x) ≤ᶠ x *ᶠ (whole 1 +ᶠ ten (neg_ℤ (pos w)))
up_within w x h = rw (signed_nonnegative h) at (natural (nonnegative x))
  where
    e : ℤ
    e = neg_ℤ (pos w)

    natural : (a : Ratio) → value (up (suc w) (signed a)) ≤ᶠ signed a *ᶠ (whole 1 +ᶠ ten e)
    natural a = rw (signed-⊗ a (ofℕ 1 ⊕ ten_to e), signed-⊕ (ofℕ 1) (ten_to e), signed_whole 1, signed_ten e) at
        (above_value _ (natural_up_within w a))

-- x · (1 - 10^-w) ≤ value(down x)
pub down_within : (w : ℕ) (x : Fraction) → whole 0 ≤ᶠ x → x *ᶠ (whole 1 -ᶠ ten (neg_ℤ (pos w))) ≤ᶠ value (down (suc w) x)
down_within w x h = rw (signed_nonnegative h) at (natural (nonnegative x))
  where
    e : ℤ
    e = neg_ℤ (pos w)

    natural : (a : Ratio) → signed a *ᶠ (whole 1 -ᶠ ten e) ≤ᶠ value (down (suc w) (signed a))
    natural a = rw (signed-⊗ a (ofℕ 1 ⊖ ten_to e), signed-⊖ (part_small w), signed_whole 1, signed_ten e) at (below_value _ (natural_down_within w a))

-- at nine digits and at eighteen

pub up_within_9 : (x : Fraction) → whole 0 ≤ᶠ x → value (up 9 x) ≤ᶠ x *ᶠ (whole 1 +ᶠ ten (negsuc 7))
up_within_9 = up_within 8

pub down_within_9 : (x : Fraction) → whole 0 ≤ᶠ x → x *ᶠ (whole 1 -ᶠ ten (negsuc 7)) ≤ᶠ value (down 9 x)
down_within_9 = down_within 8

pub up_within_18 : (x : Fraction) → whole 0 ≤ᶠ x → value (up 18 x) ≤ᶠ x *ᶠ (whole 1 +ᶠ ten (negsuc 16))
up_within_18 = up_within 17

pub down_within_18 : (x : Fraction) → whole 0 ≤ᶠ x → x *ᶠ (whole 1 -ᶠ ten (negsuc 16)) ≤ᶠ value (down 18 x)
down_within_18 = down_within 17
