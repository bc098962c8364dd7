-- `Part::of` meets its contract. Assumes nothing.
use mathlib.Core.Path.{refl}
use Rattle.figure.specs.Internal.Steps.{part}
use Rattle.figure.proofs.division.Part.of.Goals as goal

pub returns : goal.returns
unfolding part
returns c = refl
