-- The exact results that the operations round, as fractions with natural numerators. Assumes nothing.
use mathlib.Core.Path.{◌≡◌, sym, ◌∙◌, ap, ap₂}
use Prim.Native.Nat.{ℕ}
use Rattle.fraction.specs.Fraction.{◌+ᶠ◌, ◌-ᶠ◌, ◌*ᶠ◌, ◌/ᶠ◌}
use Rattle.fraction.proofs.Ratio.{◌⊕◌, ◌⊗◌, ◌⊖◌}
use Rattle.fraction.proofs.Inverse.{inv}
use Rattle.fraction.proofs.Signed.{signed, nonnegative, signed-⊕, signed-⊗, signed_quotient, nonnegative_minus}
use Rattle.figure.specs.declared.Figure.{Figure}
use Rattle.figure.specs.Rounding.{value, up, down}
use Rattle.figure.proofs.Value.{val, value_is}
use Rattle.figure.proofs.Rounding.{up_natural, down_natural}

pub value_times : (a b : Figure) → value a *ᶠ value b ≡ signed (val a ⊗ val b)
value_times a b = ap₂ ◌*ᶠ◌ (value_is a) (value_is b) ∙ sym (signed-⊗ (val a) (val b))

pub value_plus : (a b : Figure) → value a +ᶠ value b ≡ signed (val a ⊕ val b)
value_plus a b = ap₂ ◌+ᶠ◌ (value_is a) (value_is b) ∙ sym (signed-⊕ (val a) (val b))

pub value_divided : (a b : Figure) → value a /ᶠ value b ≡ signed (val a ⊗ inv (val b))
value_divided a b = ap₂ ◌/ᶠ◌ (value_is a) (value_is b) ∙ sym (signed_quotient (val a) (val b))

-- a difference that is negative is rounded as 0 is

nonnegative_difference : (a b : Figure) → nonnegative (value a -ᶠ value b) ≡ val a ⊖ val b
nonnegative_difference a b = ap₂ (λ s t. nonnegative (s -ᶠ t)) (value_is a) (value_is b) ∙ nonnegative_minus (val a) (val b)

pub up_minus : (K : ℕ) (a b : Figure) → up K (value a -ᶠ value b) ≡ up K (signed (val a ⊖ val b))
up_minus K a b = up_natural K _ ∙ ap (λ t. up K (signed t)) (nonnegative_difference a b)

pub down_minus : (K : ℕ) (a b : Figure) → down K (value a -ᶠ value b) ≡ down K (signed (val a ⊖ val b))
down_minus K a b = down_natural K _ ∙ ap (λ t. down K (signed t)) (nonnegative_difference a b)
