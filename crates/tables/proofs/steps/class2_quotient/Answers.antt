-- `steps::class2_quotient` meets its contract. Assumes nothing.
use lib.Dec.{lit≤}
use Rattle.figure.proofs.Sized.{sized-≤, times_up_sized}
use Rattle.tree.proofs.Ranges.{count_sized}
use Rattle.tables.specs.Internal.Steps.{class2_quotient_of}
use Rattle.tables.proofs.steps.class2_quotient.Goals as goal

pub times-requires : goal.times-requires
times-requires c = (rw c.whole.ensures (sized-≤ (lit≤ tt) (count_sized 2 (lit≤ tt))), sized-≤ (lit≤ tt) c.requires.0)

pub divided-requires : goal.divided-requires
divided-requires c = (
  rw (c.times.ensures, c.whole.ensures) (sized-≤ (lit≤ tt) (times_up_sized (count_sized 2 (lit≤ tt)) c.requires.0)),
  sized-≤ (lit≤ tt) c.requires.1,
  c.requires.2,
)

pub returns : goal.returns
unfolding class2_quotient_of
returns c = rw (c.divided.ensures, c.times.ensures, c.whole.ensures)
