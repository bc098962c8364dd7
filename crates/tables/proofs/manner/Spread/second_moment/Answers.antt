-- `manner::Spread::second_moment` meets its contract. Assumes nothing.
use lib.Dec.{lit≤}
use Rattle.figure.proofs.Sized.{sized-≤, times_up_sized}
use Rattle.tables.specs.Internal.Told.{moment_of}
use Rattle.tables.proofs.manner.Spread.second_moment.Goals as goal

pub plus-requires : goal.plus-requires
plus-requires c = (
  rw c.times-square.ensures (sized-≤ (lit≤ tt) (times_up_sized c.requires.mean c.requires.mean)),
  rw c.times-other.ensures (sized-≤ (lit≤ tt) (times_up_sized c.requires.deviation c.requires.deviation)),
)

pub returns : goal.returns
unfolding moment_of
returns c = rw (c.plus.ensures, c.times-other.ensures, c.times-square.ensures)
