-- `Part::shortened` meets its contract. Assumes nothing.
use mathlib.Core.Path.{refl}
use Rattle.figure.specs.Internal.Steps.{part, shorter}
use Rattle.figure.proofs.division.Part.shortened.Goals as goal

pub returns : goal.returns
unfolding shorter part
returns c = rw c.of-q.ensures refl
