-- `measured` meets its contract: its answer and its table are the definition's, whether the reading refuses, the rows are too few, or the walk ends over
-- or within the budget. Assumes nothing.
use native.Mathlib.Omega.{arith}
use native.Mathlib.Nat.{le_trans}
use Rattle.std.proofs.lemmas.Result.{err_from_is_err_and}
use Rattle.rows.proofs.RowTotals.{table_most}
use Rattle.bounds.proofs.WalkBegin.{reads_described, accepted_indexes, accepted_summary, accepted_budget}
use Rattle.bounds.proofs.RowsMeasured.{measured_refused, measured_few, measured_over, measured_report}
use Rattle.bounds.proofs.measured.Goals as goal

pub invariant_of-model : goal.invariant_of-model
invariant_of-model c =
    let a = c.in_ok-a.ensures.answer in record { indexes = accepted_indexes a; accepted_is = accepted_summary a }

pub returns-then-lent-needed : goal.returns-then-lent-needed
returns-then-lent-needed c =
    measured_few _ _ _ c.empty-then-lent-needed.ensures (reads_described c.in_ok-a.ensures.answer) c.name_rows.ensures.count_is c.if-lent-needed.true

pub walked-requires : goal.walked-requires
walked-requires c =
    record { allowed = accepted_budget c.in_ok-a.ensures.answer; no_totals = c.name_rows.ensures.no_totals }

pub returns-in_default : goal.returns-in_default
returns-in_default c =
    measured_over _ _ _ (reads_described c.in_ok-a.ensures.answer) (omega (arith, c.name_rows.ensures.count_is, c.if-lent-needed.false))
    c.name_rows-in_default.ensures c.in_default.ensures

pub reported-requires : goal.reported-requires
reported-requires c =
    table_most c.in-Some.ensures.counted.totals (le_trans c.in-Some.ensures.within (accepted_budget c.in_ok-a.ensures.answer))

pub returns-in_err-a : goal.returns-in_err-a
returns-in_err-a c =
    let p = err_from_is_err_and c.from_residual.result c.from_residual.ensures.1 in
    rw (p.1, p.2) (measured_refused _ _ _ c.empty.ensures c.in_err-a.field-0.0 c.in_err-a.ensures.answer.reads)

pub returns : goal.returns
returns c =
    let a = c.in_ok-a.ensures.answer in measured_report _ _ _ (reads_described a)
    (omega (arith, c.name_rows.ensures.count_is, c.if-lent-needed.false)) _ c.in-Some.ensures.ends c.name_rows.ensures
    c.in-Some.ensures.names_kept (table_most c.in-Some.ensures.counted.totals (le_trans c.in-Some.ensures.within (accepted_budget a)))
    c.reported.result c.reported.ensures.0 c.reported.ensures.1
