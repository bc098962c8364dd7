-- Sums in a row, rounded at each addition: what contracts of a running total keep of it. Assumes nothing: these are definitions.
use Rattle.std.specs.Prelude.{ℕ, ◌<◌, pos, neg_ℤ}
use Rattle.fraction.specs.Fraction.{◌≤ᶠ◌, whole, ten, ◌*ᶠ◌}
use Rattle.figure.specs.declared.Figure.{Figure}
use Rattle.figure.specs.Rounding.{value, IsFigure}

-- a figure of K digits that n terms may have added up to, each 0 or from 10^-l to 10^h: it is 0, or from 10^-l to n × 10^h
pub record Gathered (K l h n : ℕ) (f : Figure) : Type 0 where
  pub is_figure : IsFigure K f
  pub low : 0 < f.digits → ten (neg_ℤ (pos l)) ≤ᶠ value f
  pub high : value f ≤ᶠ whole n *ᶠ ten (pos h)
