-- `note_cut` meets its contract. Assumes nothing.
use Rattle.std.proofs.Common.{refl}
use lib.Dec.{lit≤}
use Rattle.figure.proofs.Sized.{sized-≤}
use Rattle.rows.proofs.RowTotals.{room_operand}
use Rattle.rows.specs.Internal.Table.{totals_in}
use Rattle.rows.proofs.table.RowTable.note_cut.Goals as goal

pub total-self-requires : goal.total-self-requires
total-self-requires c = (room_operand c.requires.0.cut, sized-≤ (lit≤ tt) c.requires.1)

pub returns : goal.returns
unfolding totals_in
returns c = record {
  lower_same = refl;
  death_same = refl;
  cut_is = c.total-self.ensures;
  rows_same = refl;
  marks_same = refl;
  names_kept = record { count_same = refl; states_same = refl };
}
