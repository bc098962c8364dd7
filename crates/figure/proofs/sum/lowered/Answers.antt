-- `sum::lowered` meets its contract: past the table nothing of the number is left but that there was something. Assumes nothing.
use Rattle.figure.proofs.Scale.{pow_pos}
use Rattle.figure.proofs.Sums.{far_part}
use Rattle.figure.proofs.sum.lowered.Goals as goal

pub of-requires : goal.of-requires
of-requires c = rw c.ten_to.ensures (pow_pos c.args.k)

pub returns-else-k-lt19 : goal.returns-else-k-lt19
returns-else-k-lt19 c = far_part c.args.n c.args.k c.requires c.if-k-lt19.false
