-- The text of a figure and of its exponent, piece by piece as the code writes it. Assumes nothing.
use Prim.Native.Nat.{ℕ, ◌/◌}
use mathlib.Core.Path.{◌≡◌, refl, ap, ◌∙◌}
use mathlib.Core.Bool.{true, false}
use mathlib.Core.List.{List, [], ◌∷◌, ◌++◌}
use native.Mathlib.Omega.{arith}
use borrow.Author.Tests.{ltb-true, eq-eqb, ne_eqb}
use lib.IntN.{ℤ, pos, negsuc, nat_abs, ◌+ℤ◌}
use lib.Signed.{lt_z}
use mir.Syntax.{w32, w64}
use mir.Val.{SFits, to_z, of_z}
use mir.Facts.{to_z-of_z}
use Rattle.figure.specs.declared.Figure.{Figure}
use Rattle.text.specs.Text.{decimal, last_digits, signed_decimal, figure_text}

-- ---- an exponent

negative : (z : ℤ) → lt_z z (pos 0) ≡ true → signed_decimal z ≡ 45 ∷ decimal (nat_abs z)
unfolding signed_decimal
negative (pos n) t = absurd (omega (arith, ltb-true n 0 t))
negative (negsuc n) t = refl

positive : (z : ℤ) → lt_z z (pos 0) ≡ false → signed_decimal z ≡ decimal (nat_abs z)
unfolding signed_decimal
positive (pos n) t = refl
positive (negsuc n) t = let c : ◌≡◌ {A = ℕ} 0 1 = cc in absurd (omega arith)

-- the same of a number as it is read from its 64 bits, and of its size
module _ {z : ℤ} {size : ℕ} (f : SFits w64 z) (e : size ≡ nat_abs (to_z w64 (of_z w64 z))) where
  pub with_minus : lt_z (to_z w64 (of_z w64 z)) (pos 0) ≡ true → signed_decimal z ≡ 45 ∷ decimal size
  with_minus t = rw (e, to_z-of_z f) (negative z (rw (to_z-of_z f) at t))

  pub without_minus : lt_z (to_z w64 (of_z w64 z)) (pos 0) ≡ false → signed_decimal z ≡ decimal size
  without_minus t = rw (e, to_z-of_z f) (positive z (rw (to_z-of_z f) at t))

-- eight more than a power of 32 bits, as it is read from 64 bits
pub exponent_is : {p x : ℤ} → SFits w32 p → SFits w64 x → x ≡ to_z w32 (of_z w32 p) +ℤ pos 8 → to_z w64 (of_z w64 x) ≡ p +ℤ pos 8
exponent_is f g e = to_z-of_z g ∙ e ∙ ap (λ (z : ℤ). z +ℤ pos 8) (to_z-of_z f)

-- ---- a figure: what is left to write, from the back

abbrev pub from_exponent : Figure → List ℕ
from_exponent f = signed_decimal (f.power +ℤ pos 8)

abbrev pub from-E : Figure → List ℕ
from-E f = 69 ∷ from_exponent f

abbrev pub eight_digits : Figure → List ℕ
eight_digits f = last_digits 8 f.digits

abbrev pub from_eight : Figure → List ℕ
from_eight f = eight_digits f ++ from-E f

abbrev pub from_point : Figure → List ℕ
from_point f = 46 ∷ from_eight f

abbrev pub first_digit : Figure → List ℕ
first_digit f = last_digits 1 (f.digits / 100000000)

pub zero_text : (f : Figure) → f.digits ≡ 0 → figure_text f ≡ 48 ∷ []
unfolding figure_text
zero_text f e = rw (eq-eqb f.digits 0 e, figure_text)

pub some_text : (f : Figure) → (f.digits ≡ 0 → ⊥) → figure_text f ≡ first_digit f ++ from_point f
unfolding figure_text
some_text f n = rw (ne_eqb f.digits 0 n, figure_text)
