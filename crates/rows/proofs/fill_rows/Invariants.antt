-- What the loop of `rows::fill_rows` keeps: the first i rows are stored.
use Rattle.std.proofs.Common.{◌≡◌}
use Rattle.rows.specs.Internal.Filling.{rows_in}
use Rattle.rows.proofs.RowsStored.{laid}
use Rattle.rows.proofs.fill_rows.Given as goal

abbrev pub invariant-loop-i : goal.invariant-loop-i
invariant-loop-i l = l.rows ≡ laid (rows_in l.table) l.fn.rows l.i
