-- `steps::class3_quotient` meets its contract. Assumes nothing.
use lib.Dec.{lit≤}
use Rattle.figure.proofs.Sized.{sized-≤, times_down_sized}
use Rattle.tree.proofs.Positive.{times_down_above}
use Rattle.tables.specs.Internal.Steps.{class3_quotient_of}
use Rattle.tables.proofs.steps.class3_quotient.Goals as goal

pub divided-requires : goal.divided-requires
divided-requires c = (
  sized-≤ (lit≤ tt) c.requires.sized.0,
  rw c.times.ensures (sized-≤ (lit≤ tt) (times_down_sized c.requires.sized.1 c.requires.sized.2)),
  rw c.times.ensures (times_down_above c.args.mean.figure c.args.time.figure c.requires.digits_nonzero.0 c.requires.digits_nonzero.1),
)

pub returns : goal.returns
unfolding class3_quotient_of
returns c = rw (c.divided.ensures, c.times.ensures)
