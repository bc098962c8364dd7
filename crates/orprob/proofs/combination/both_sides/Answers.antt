-- `both_sides` meets its contract: each pair is one, and so what is combined stays in range. Assumes nothing.
use Rattle.std.proofs.Common.{arith}
use Rattle.figure.proofs.Sized.{sized-≤}
use Rattle.orprob.specs.Pairs.{IsPair}
use Rattle.orprob.specs.Internal.Parts.{pair_at}
use Rattle.orprob.proofs.Operands.{lower_sized, upper_sized}
use Rattle.orprob.proofs.PairTests.{pair_held}
use Rattle.orprob.proofs.Turns.{combining_none, combining_more}
use Rattle.orprob.proofs.combination.both_sides.Goals as goal

pub loop-x-init : goal.loop-x-init
loop-x-init c = rw (c.zero-lower.ensures, c.zero-upper.ensures) (combining_none _)

pub with-lower-requires : goal.with-lower-requires
with-lower-requires c =
    let is_one : IsPair (pair_at c.args.pairs.now c.loop-x.x-index) = pair_held _ (c.requires.1.right c.loop-x.x-index c.loop-x-test.true) in
    (sized-≤ (omega arith) c.loop-x.invariant.lower_sized, lower_sized is_one)

pub at_most_one-requires : goal.at_most_one-requires
at_most_one-requires c = (pair_held _ (c.requires.1.right c.loop-x.x-index c.loop-x-test.true)).upper_figure

pub with-upper-requires : goal.with-upper-requires
with-upper-requires c =
    let is_one : IsPair (pair_at c.args.pairs.now c.loop-x.x-index) = pair_held _ (c.requires.1.right c.loop-x.x-index c.loop-x-test.true) in
    (sized-≤ (omega arith) c.loop-x.invariant.upper_sized, rw c.at_most_one.ensures (upper_sized is_one))

pub loop-x-preserved : goal.loop-x-preserved
loop-x-preserved c =
    combining_more _ _ c.loop-x-test.true (pair_held _ (c.requires.1.right c.loop-x.x-index c.loop-x-test.true)) c.loop-x.invariant
    c.with-lower.ensures c.at_most_one.ensures c.with-upper.ensures
