-- `with` meets its contract. Assumes nothing.
use lib.Dec.{lit≤}
use Rattle.figure.proofs.Sized.{sized-≤}
use Rattle.rows.proofs.RowTotals.{room_operand}
use Rattle.rows.proofs.table.Sums.with.Goals as goal

pub total-requires : goal.total-requires
total-requires c = (room_operand c.requires.0.lower, sized-≤ (lit≤ tt) c.requires.1)

pub total-requires-2 : goal.total-requires-2
total-requires-2 c = (room_operand c.requires.0.upper, sized-≤ (lit≤ tt) c.requires.2)
