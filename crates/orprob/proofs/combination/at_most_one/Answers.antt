-- `at_most_one` meets its contract. Assumes nothing.
use Rattle.std.proofs.Common.{sym, ◌∙◌}
use Rattle.orprob.proofs.Operands.{whole_figure, small_is, large_is}
use Rattle.orprob.proofs.combination.at_most_one.Goals as goal

pub at_or_below-requires : goal.at_or_below-requires
at_or_below-requires c = (c.requires, rw c.of_whole-one.ensures (whole_figure _))

pub returns-then-at_or_below : goal.returns-then-at_or_below
returns-then-at_or_below c = small_is _ _ c.of_whole-one.ensures (sym c.at_or_below.ensures ∙ c.if-at_or_below.true)

pub returns-else-at_or_below : goal.returns-else-at_or_below
returns-else-at_or_below c = large_is _ _ c.of_whole-one.ensures (sym c.at_or_below.ensures ∙ c.if-at_or_below.false)
