-- What an operation on figures asks of its operands: they are figures, and their powers lie in a range far from the ends of a 32-bit
-- number. Assumes nothing: these are definitions.
use Rattle.std.specs.Prelude.{ℕ, ◌≤◌}
use Rattle.std.specs.Int.Signed.{mag}
use Rattle.figure.specs.declared.Figure.{Figure}
use Rattle.figure.specs.Rounding.{IsFigure}

-- a figure of K digits whose power lies from -(n + 1) to n
pub record Sized (K n : ℕ) (f : Figure) : Type 0 where
  pub is_figure : IsFigure K f
  pub near : mag f.power ≤ n

-- what every operation takes: powers from -100,001 to 100,000
abbrev pub Operand : ℕ → Figure → Type 0
Operand K f = Sized K 100000 f
