-- `unreliability_by_state` meets its contract: the rows are those of the table, laid over the caller's. Assumes nothing.
use Rattle.bounds.proofs.RowsPromise.{promise_rows}
use Rattle.bounds.proofs.unreliability_by_state.Goals as goal

pub returns : goal.returns
returns c = promise_rows _ _ _ _ _ _ _ c.measured-answer.ensures c.fill_rows.ensures
