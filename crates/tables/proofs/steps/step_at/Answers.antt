-- `steps::step_at` meets its contract: the table has the sums of the state that the transition leaves. Assumes nothing.
use native.Mathlib.Omega.{arith}
use native.Mathlib.Nat.{pos_of_ne-zero}
use Rattle.tables.proofs.Classes.{step_valid}
use Rattle.tables.proofs.Firsts.{fast_case, slow_case, spread_sized, rate_sized}
use Rattle.tables.proofs.StepPlaces.{step_leaves, time_in_range, time_positive, found_fast, found_lone, found_slow}
use Rattle.tables.proofs.steps.step_at.Goals as goal

pub bounds-table-from : goal.bounds-table-from
bounds-table-from c =
    let p = c.part-part.ensures in
    let l = step_leaves c.args.model.indexes c.requires.0 c.requires.1 p.stands_first p.reads c.word_at.ensures c.from.ensures.value in
    omega (arith, l.small)

pub class2_step-requires : goal.class2_step-requires
class2_step-requires c =
    let p = c.part-part.ensures in
    let l = step_leaves c.args.model.indexes c.requires.0 c.requires.1 p.stands_first p.reads c.word_at.ensures c.from.ensures.value in (
      spread_sized (step_valid c.args.model.indexes.valid c.requires.1).manner (fast_case _ (rw p.reads at c.in-Fast.ensures)),
      rw c.value-rate.ensures l.rate.sized,
      time_in_range c.args.model.indexes c.requires.0,
      time_positive c.args.model.indexes c.requires.0,
    )

pub returns-in-Fast : goal.returns-in-Fast
returns-in-Fast c =
    let p = c.part-part.ensures in
    let l = step_leaves c.args.model.indexes c.requires.0 c.requires.1 p.stands_first p.reads c.word_at.ensures c.from.ensures.value in
    found_fast c.args.model.indexes c.requires.0 l c.value-rate.ensures (fast_case _ (rw p.reads at c.in-Fast.ensures)) c.class2_step.ensures

pub returns-then-mean-eq0 : goal.returns-then-mean-eq0
returns-then-mean-eq0 c =
    let p = c.part-part.ensures in
    let l = step_leaves c.args.model.indexes c.requires.0 c.requires.1 p.stands_first p.reads c.word_at.ensures c.from.ensures.value in
    found_lone c.args.model.indexes c.requires.0 l c.value-rate.ensures (slow_case _ (rw p.reads at c.in-Slow.ensures)) c.value-mean.ensures
    c.if-mean-eq0.true (rw c.zero.ensures at c.exact.ensures.mark_value)

pub class3_step-requires : goal.class3_step-requires
class3_step-requires c =
    let p = c.part-part.ensures in
    let l = step_leaves c.args.model.indexes c.requires.0 c.requires.1 p.stands_first p.reads c.word_at.ensures c.from.ensures.value in
    record {
      sized = (
        rate_sized (step_valid c.args.model.indexes.valid c.requires.1).manner (slow_case _ (rw p.reads at c.in-Slow.ensures)),
        rw c.value-rate.ensures l.rate.sized,
        rw c.value-mean.ensures l.mean.sized,
        rw c.value.ensures l.moment.sized,
        time_in_range c.args.model.indexes c.requires.0,
      );
      digits_nonzero = (pos_of_ne-zero c.if-mean-eq0.false, time_positive c.args.model.indexes c.requires.0);
    }

pub returns-else-mean-eq0 : goal.returns-else-mean-eq0
returns-else-mean-eq0 c =
    let p = c.part-part.ensures in
    let l = step_leaves c.args.model.indexes c.requires.0 c.requires.1 p.stands_first p.reads c.word_at.ensures c.from.ensures.value in
    found_slow c.args.model.indexes c.requires.0 l c.value-rate.ensures (slow_case _ (rw p.reads at c.in-Slow.ensures)) c.value-mean.ensures
    c.if-mean-eq0.false c.value.ensures c.class3_step.ensures
