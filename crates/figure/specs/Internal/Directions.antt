-- The direction of a rounding turned about, and what the code looks at to tell whether both ways come to the same. No public contract cites this page. Assumes
-- nothing: these are definitions.
use Rattle.std.specs.Prelude.{Bool, ◌&&◌, eqb}
use Rattle.std.specs.Ordering.{int_eq}
use Rattle.figure.specs.declared.Figure.{Figure}
use Rattle.figure.specs.declared.Direction.{Direction}
use Rattle.figure.specs.declared.Direction.TheVariants.{Down, Up}

abbrev pub opposite : Direction → Direction
opposite Down = Up
opposite Up = Down

-- whether two figures are the same
abbrev pub same : Figure → Figure → Bool
same f g = eqb f.digits g.digits && int_eq f.power g.power
