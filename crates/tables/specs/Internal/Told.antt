-- Figures that tell, as the tables' functions put them together: a figure, and whether no operation that it rests on lost anything. No public contract
-- cites this page. Assumes nothing: these are definitions.
use Rattle.std.specs.Prelude.{ℕ, ℤ, Bool, true, ◌&&◌}
use Rattle.figure.specs.declared.Direction.{Direction}
use Rattle.figure.specs.declared.Direction.TheVariants.{Up}
use Rattle.figure.specs.declared.Figure.{Figure}
use Rattle.figure.specs.declared.Rounded.{Rounded}
use Rattle.figure.specs.Operations as ops
use Rattle.word.specs.Model.{Manner}
use Rattle.figure.specs.Losses.{told, times_keeps, plus_keeps, minus_keeps, divided_keeps, whole_keeps}

-- ---- arithmetic: what a result tells is what both operands tell, and whether the operation itself lost nothing

-- a figure that nothing was lost of
abbrev pub exact : Figure → Rounded
exact f = told f true

abbrev pub whole : ℕ → Rounded
whole n = told (ops.of_whole n) (whole_keeps n)

abbrev pub times_ten : Rounded → ℤ → Rounded
times_ten a p = told (ops.times_ten a.figure p) a.kept

abbrev pub times : Direction → Rounded → Rounded → Rounded
times to a b = told (ops.times to a.figure b.figure) (a.kept && (b.kept && times_keeps a.figure b.figure))

abbrev pub plus : Direction → Rounded → Rounded → Rounded
plus to a b = told (ops.plus to a.figure b.figure) (a.kept && (b.kept && plus_keeps a.figure b.figure))

abbrev pub minus : Direction → Rounded → Rounded → Rounded
minus to a b = told (ops.minus to a.figure b.figure) (a.kept && (b.kept && minus_keeps a.figure b.figure))

abbrev pub divided : Direction → Rounded → Rounded → Rounded
divided to a b = told (ops.divided to a.figure b.figure) (a.kept && (b.kept && divided_keeps a.figure b.figure))

-- ---- M of a mean and a deviation

unfoldable pub moment_of : Rounded → Rounded → Rounded
moment_of m d = plus Up (times Up m m) (times Up d d)

-- ---- a sum over exits with its mark: what each adds to the sum so far, and whether that loses nothing

unfoldable pub add_told : (Figure → Manner → Figure) → (Figure → Manner → Bool) → Rounded → Manner → Rounded
add_told add kept a x = told (add a.figure x) (a.kept && kept a.figure x)
