-- `steps::factor_of` meets its contract. Assumes nothing.
use lib.Dec.{lit≤}
use Rattle.figure.proofs.Sized.{sized-≤, minus_down_sized}
use Rattle.tables.specs.Internal.Steps.{factor_of}
use Rattle.tables.proofs.steps.factor_of.Goals as goal

pub times-requires : goal.times-requires
times-requires c = (sized-≤ (lit≤ tt) c.requires.0, rw c.minus.ensures (sized-≤ (lit≤ tt) (minus_down_sized c.requires.1 c.requires.2)))

pub returns : goal.returns
unfolding factor_of
returns c = rw (c.times.ensures, c.minus.ensures)
