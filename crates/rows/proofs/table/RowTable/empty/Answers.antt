-- `empty` meets its contract. Assumes nothing.
use Rattle.std.proofs.Common.{refl}
use Rattle.rows.proofs.RowTotals.{no_sums_at}
use Rattle.rows.specs.Internal.Table.{totals_in}
use Rattle.rows.proofs.table.RowTable.empty.Goals as goal

pub returns : goal.returns
unfolding totals_in
returns c = record {
  no_rows = refl;
  states_zero = refl;
  no_totals = record {
    lower_is = refl;
    death_is = refl;
    cut_is = c.zero.ensures;
    rows_are = λ i s. record { lower = (no_sums_at 1001 s i).lower; upper = (no_sums_at 1001 s i).upper };
    marks_are = refl;
  };
}
