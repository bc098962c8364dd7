-- `with` meets its contract: every figure on the way is an operand. Assumes nothing.
use lib.Dec.{lit≤}
use Rattle.figure.proofs.Sized.{sized-≤, of_whole_sized}
use Rattle.orprob.proofs.Operands.{rest_sized, share_sized, plus_figure, with_is}
use Rattle.orprob.proofs.combination.with.Goals as goal

pub minus-rest-requires : goal.minus-rest-requires
minus-rest-requires c = (rw c.of_whole.ensures (sized-≤ (lit≤ tt) (of_whole_sized 1 (lit≤ tt))), sized-≤ (lit≤ tt) c.requires.0)

pub times-requires : goal.times-requires
times-requires c = (
  sized-≤ (lit≤ tt) c.requires.1,
  rw (c.minus-rest.ensures, c.of_whole.ensures) (sized-≤ (lit≤ tt) (rest_sized c.args.to c.requires.0 c.requires.1)),
)

pub plus-requires : goal.plus-requires
plus-requires c = (
  sized-≤ (lit≤ tt) c.requires.0,
  rw (c.times.ensures, c.minus-rest.ensures, c.of_whole.ensures) (sized-≤ (lit≤ tt) (share_sized c.args.to c.requires.0 c.requires.1)),
)

pub at_most_one-requires : goal.at_most_one-requires
at_most_one-requires c = rw c.plus.ensures (plus_figure _ _ _)

pub returns : goal.returns
returns c = rw (c.at_most_one.ensures, c.plus.ensures, c.times.ensures, c.minus-rest.ensures, c.of_whole.ensures) (with_is _ _ _)
