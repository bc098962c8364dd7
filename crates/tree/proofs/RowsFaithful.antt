-- The definitions of the rows are what document 02 says of them. Assumes nothing.
use Rattle.tree.specs.RowsFaithful.{FaithfulRows}
use Rattle.tree.proofs.RowStates.{row_states_exactly, row_states_rise, every_death_has_row}
use Rattle.tree.proofs.RowAnswers.{thousand_rows_enough}
use Rattle.tree.proofs.RowsPinned.{row_cases_agree}

pub faithful_rows : FaithfulRows
faithful_rows = record {
  row_states_exactly = row_states_exactly;
  row_states_rise = row_states_rise;
  every_death_has_row = every_death_has_row;
  thousand_rows_enough = thousand_rows_enough;
  row_cases_agree = row_cases_agree;
}
