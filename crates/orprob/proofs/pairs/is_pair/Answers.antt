-- `is_pair` meets its contract. Assumes nothing.
use Rattle.std.proofs.Common.{arith, ◌≡◌, true}
use Rattle.orprob.proofs.Operands.{whole_figure}
use Rattle.orprob.proofs.PairTests.{in_range, ranged_figure, pair_by_figures}
use Rattle.orprob.proofs.pairs.is_pair.Goals as goal
use Rattle.orprob.proofs.pairs.is_pair.Goals.{then-is_in_range, else-is_in_range}

pub at_or_below-requires : goal.at_or_below-requires
at_or_below-requires c =
    let lower : in_range c.args.x.lower ≡ true = grind arith in
    (ranged_figure _ lower, rw c.of_whole.ensures (whole_figure _))

pub at_or_below-requires-then-at_or_below : goal.at_or_below-requires-then-at_or_below
at_or_below-requires-then-at_or_below c =
    let lower : in_range c.args.x.lower ≡ true = grind arith in
    let upper : in_range c.args.x.upper ≡ true = grind arith in
    (ranged_figure _ lower, ranged_figure _ upper)

pub returns-then-at_or_below : goal.returns-then-at_or_below
returns-then-at_or_below c = rw pair_by_figures (grind arith)

pub returns-else-at_or_below : goal.returns-else-at_or_below
returns-else-at_or_below c = rw pair_by_figures (grind arith)
