-- The least whole number not below a figure, as far as 10^18. Assumes nothing: these are definitions.
use Rattle.std.specs.Prelude.{ℕ, ◌^◌, ◌<◌, ◌≡◌, leb}
use Rattle.fraction.specs.Fraction.{whole, at_most}
use Rattle.figure.specs.declared.Figure.{Figure}
use Rattle.figure.specs.Rounding.{value}

-- Among the whole numbers below 10^18, those at or above c are those at or above g.
pub record Ceiling (g : Figure) (c : ℕ) : Type 0 where
  pub same : (n : ℕ) → n < 10 ^ 18 → at_most (value g) (whole n) ≡ leb c n
