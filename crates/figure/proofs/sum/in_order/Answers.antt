-- `sum::in_order` meets its contract. Assumes nothing.
use Rattle.std.proofs.Common.{rules}
use Rattle.figure.proofs.Sums.{higher_first, lower_first}
use Rattle.figure.proofs.sum.in_order.Goals as goal

pub returns-then-b-a : goal.returns-then-b-a
returns-then-b-a c = higher_first c.args.a c.args.b (search rules)

pub returns-else-b-a : goal.returns-else-b-a
returns-else-b-a c = lower_first c.args.a c.args.b (search rules)
