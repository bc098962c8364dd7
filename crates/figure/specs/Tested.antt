-- Document 01, "Figures and their rounding": whether any digits and any power are a figure, as a test, for what a caller hands over. Assumes nothing:
-- these are definitions.
use Rattle.std.specs.Prelude.{◌≡◌, Bool, true, false, eqb, ltb, ℤ, pos, negsuc}
use Rattle.figure.specs.declared.Figure.{Figure}
use Rattle.figure.specs.Rounding.{IsFigure}

-- "A figure is zero (held with power 0), or a whole number from 100,000,000 to 999,999,999 times a power of ten that may be negative"
abbrev pub power_zero : ℤ → Bool
power_zero (pos n) = eqb n 0
power_zero (negsuc n) = false

unfoldable pub figure_test : Figure → Bool
figure_test f =
    elim (eqb f.digits 0) [
      | true ↦ power_zero f.power
      | false ↦ elim (ltb f.digits 100000000) [ true ↦ false | false ↦ ltb f.digits 1000000000 ]
    ]

-- the test is right: it tells document 01's figures from what is none
pub record Tested (f : Figure) : Type 0 where
  pub held : figure_test f ≡ true → IsFigure 9 f
  pub failed : figure_test f ≡ false → IsFigure 9 f → ⊥
