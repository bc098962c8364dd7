-- `row` meets its contract. Assumes nothing.
use lib.Dec.{lit≤}
use Rattle.tree.proofs.Ranges.{total_none, total_operand}
use Rattle.tree.specs.Internal.Tally.{finish_row}
use Rattle.rows.specs.Internal.Table.{totals_in}
use Rattle.rows.specs.Internal.Filling.{row_of}
use Rattle.rows.proofs.table.RowTable.row.Goals as goal

pub to_nine-requires : goal.to_nine-requires
unfolding totals_in
to_nine-requires c = rw c.from.ensures c.requires.lower

pub sum_to_nine-requires : goal.sum_to_nine-requires
unfolding totals_in
sum_to_nine-requires c = (rw c.from.ensures c.requires.upper, rw c.zero.ensures (total_operand total_none (lit≤ tt)))

pub returns : goal.returns
unfolding row_of finish_row totals_in
returns c = rw (c.from-2.ensures, c.to_nine.ensures, c.sum_to_nine.ensures, c.zero.ensures, c.from.ensures)
