-- `grains::Power::of` meets its contract. Assumes nothing.
use Rattle.tables.proofs.Search.{cube_is}
use Rattle.tables.proofs.grains.Power.of.Goals as goal

pub returns-in-Cube : goal.returns-in-Cube
returns-in-Cube c = rw c.in-Cube.is (cube_is c.args.n)
