-- `walk` meets its contract. The steps that the path may still take fall at each call; the loop keeps, at each exit, that the totals so far with
-- the visits still to make come to the totals of all. Assumes nothing.
use mathlib.Core.Path.{◌≡◌, refl, ap}
use mathlib.Core.Bool.{true}
use native.Mathlib.Omega.{arith}
use borrow.Author.Rules.{rules}
use Rattle.std.specs.Prelude.{Some, None}
use Rattle.tree.specs.Tree.{is_death, is_continued}
use Rattle.path.specs.Internal.Outcomes.{outcome_of}
use Rattle.path.proofs.DeathStems.{last_lower}
use Rattle.rows.proofs.RowTotals.{marks_gathered}
use Rattle.bounds.proofs.WalkLoop.{exit_same, ones_few, exit_ready, loop_start, loop_end, loop_over}
use Rattle.bounds.proofs.WalkTurns.{turn_of, judged_as, is_cut, there_small, judge_figures, before_is, last_step, before_known, whole_known, mark_there}
use Rattle.bounds.proofs.WalkTurns.{note_figures, death_noted, step_noted, cut_noted}
use Rattle.bounds.proofs.WalkVisits.{visit_ended, before_fits, ready_there, visit_over, visit_back}
use Rattle.bounds.proofs.walk.+walk.Goals as goal
use Rattle.bounds.proofs.walk.+walk.Goals.{in-Death, in-Continued+in_ok-made-in-Continued, in-GeneratorsState}

pub overflow_add-tip : goal.overflow_add-tip
overflow_add-tip t c = omega (arith, ones_few c.args.prepared.now.filled c.requires)

pub loop-x-init : goal.loop-x-init
loop-x-init t c = loop_start c.args.prepared.now.filled c.requires (search rules) refl (c.empty-cache.ensures _ _ _)

pub returns-then-made-task : goal.returns-then-made-task
returns-then-made-task t c =
    loop_over c.args.prepared.now.filled c.requires c.loop-x.invariant
    c.exits-leaving.ensures.len c.loop-x-test.true c.if-made-task.true

pub exit_at-exit-requires : goal.exit_at-exit-requires
exit_at-exit-requires t c = (
  exit_ready c.args.prepared.now.filled c.requires c.exits-leaving.ensures.value c.exits-leaving.ensures.len c.loop-x-test.true,
  c.of_whole-nth.ensures,
)

pub bounds-entered-to : goal.bounds-entered-to
bounds-entered-to t c =
    let turn = turn_of c.args.prepared.now.filled c.requires c.loop-x.invariant
    c.exits-leaving.ensures.value c.exits-leaving.ensures.len c.loop-x-test.true c.if-made-task.false c.exit_at-exit.ensures in
    let h = there_small turn in omega arith

pub exit_count-exits-requires : goal.exit_count-exits-requires
exit_count-exits-requires t c =
    let turn = turn_of c.args.prepared.now.filled c.requires c.loop-x.invariant
    c.exits-leaving.ensures.value c.exits-leaving.ensures.len c.loop-x-test.true c.if-made-task.false c.exit_at-exit.ensures in
    there_small turn

pub is_named_end-named-requires : goal.is_named_end-named-requires
is_named_end-named-requires t c =
    let turn = turn_of c.args.prepared.now.filled c.requires c.loop-x.invariant
    c.exits-leaving.ensures.value c.exits-leaving.ensures.len c.loop-x-test.true c.if-made-task.false c.exit_at-exit.ensures in
    there_small turn

pub judge-outcome-requires : goal.judge-outcome-requires
judge-outcome-requires t c =
    let turn = turn_of c.args.prepared.now.filled c.requires c.loop-x.invariant
    c.exits-leaving.ensures.value c.exits-leaving.ensures.len c.loop-x-test.true c.if-made-task.false c.exit_at-exit.ensures in
    judge_figures turn

pub lower-lower-requires : goal.lower-lower-requires
lower-lower-requires t c =
    let turn = turn_of c.args.prepared.now.filled c.requires c.loop-x.invariant
    c.exits-leaving.ensures.value c.exits-leaving.ensures.len c.loop-x-test.true c.if-made-task.false c.exit_at-exit.ensures in
    record { last_step = (last_step turn, c.of_whole-nth.ensures); cached = rw (before_is turn) turn.kept.cached }

pub mark_death-requires : goal.mark_death-requires
mark_death-requires t c =
    let turn = turn_of c.args.prepared.now.filled c.requires c.loop-x.invariant
    c.exits-leaving.ensures.value c.exits-leaving.ensures.len c.loop-x-test.true c.if-made-task.false c.exit_at-exit.ensures in
    let k = note_figures turn in
    (whole_known turn, k.0, last_lower turn.filled (last_step turn) (before_known turn) c.lower-lower.ensures.lower_value, k.1)

pub note_death-requires : goal.note_death-requires
note_death-requires t c =
    let turn = turn_of c.args.prepared.now.filled c.requires c.loop-x.invariant
    c.exits-leaving.ensures.value c.exits-leaving.ensures.len c.loop-x-test.true c.if-made-task.false c.exit_at-exit.ensures in
    let mark = mark_there turn (Some c.lower-lower.result) c.mark_death.ensures in
    let k = note_figures turn in (there_small turn, marks_gathered mark k.0, last_lower turn.filled (last_step turn) (before_known turn) c.lower-lower.ensures.lower_value, k.1)

pub overflow_add-entered : goal.overflow_add-entered
overflow_add-entered t c =
    let on : is_continued (outcome_of c.judge-outcome.result) ≡ true = ap (λ o. is_continued (outcome_of o)) c.in-Continued.is in
    let turn = turn_of c.args.prepared.now.filled c.requires c.loop-x.invariant
    c.exits-leaving.ensures.value c.exits-leaving.ensures.len c.loop-x-test.true c.if-made-task.false c.exit_at-exit.ensures in
    let judged = judged_as c.judge-outcome.result turn c.is_named_end-named.ensures c.exit_count-exits.ensures.0 c.judge-outcome.ensures in
    let visited = step_noted turn c.judge-outcome.result judged on c.with_step-so_far.ensures in
    omega (arith, before_fits visited on)

pub bounds-entered-to-in-Continued : goal.bounds-entered-to-in-Continued
bounds-entered-to-in-Continued t c =
    let turn = turn_of c.args.prepared.now.filled c.requires c.loop-x.invariant
    c.exits-leaving.ensures.value c.exits-leaving.ensures.len c.loop-x-test.true c.if-made-task.false c.exit_at-exit.ensures in
    let h = there_small turn in omega arith

pub walk-requires : goal.walk-requires
walk-requires t c =
    let on : is_continued (outcome_of c.judge-outcome.result) ≡ true = ap (λ o. is_continued (outcome_of o)) c.in-Continued.is in
    let turn = turn_of c.args.prepared.now.filled c.requires c.loop-x.invariant
    c.exits-leaving.ensures.value c.exits-leaving.ensures.len c.loop-x-test.true c.if-made-task.false c.exit_at-exit.ensures in
    let judged = judged_as c.judge-outcome.result turn c.is_named_end-named.ensures c.exit_count-exits.ensures.0 c.judge-outcome.ensures in
    let visited = step_noted turn c.judge-outcome.result judged on c.with_step-so_far.ensures in
    (omega (arith, turn.ready.more), ready_there visited on)

pub bounds-entered-to-in-Continued-2 : goal.bounds-entered-to-in-Continued-2
bounds-entered-to-in-Continued-2 t c =
    let turn = turn_of c.args.prepared.now.filled c.requires c.loop-x.invariant
    c.exits-leaving.ensures.value c.exits-leaving.ensures.len c.loop-x-test.true c.if-made-task.false c.exit_at-exit.ensures in
    let h = there_small turn in omega arith

pub returns-in_err-made-in-Continued : goal.returns-in_err-made-in-Continued
returns-in_err-made-in-Continued t c =
    let on : is_continued (outcome_of c.judge-outcome.result) ≡ true = ap (λ o. is_continued (outcome_of o)) c.in-Continued.is in
    let turn = turn_of c.args.prepared.now.filled c.requires c.loop-x.invariant
    c.exits-leaving.ensures.value c.exits-leaving.ensures.len c.loop-x-test.true c.if-made-task.false c.exit_at-exit.ensures in
    let judged = judged_as c.judge-outcome.result turn c.is_named_end-named.ensures c.exit_count-exits.ensures.0 c.judge-outcome.ensures in
    let visited = step_noted turn c.judge-outcome.result judged on c.with_step-so_far.ensures in
    rw c.from_residual.ensures (visit_over visited on c.in_err-made-in-Continued.ensures)

pub mark_cut-requires : goal.mark_cut-requires
mark_cut-requires t c =
    let turn = turn_of c.args.prepared.now.filled c.requires c.loop-x.invariant
    c.exits-leaving.ensures.value c.exits-leaving.ensures.len c.loop-x-test.true c.if-made-task.false c.exit_at-exit.ensures in
    let k = note_figures turn in (whole_known turn, k.0, k.1)

pub note_cut-requires : goal.note_cut-requires
note_cut-requires t c =
    let turn = turn_of c.args.prepared.now.filled c.requires c.loop-x.invariant
    c.exits-leaving.ensures.value c.exits-leaving.ensures.len c.loop-x-test.true c.if-made-task.false c.exit_at-exit.ensures in
    let mark = mark_there turn None c.mark_cut.ensures in
    let k = note_figures turn in (marks_gathered mark k.0, k.1)

pub loop-x-preserved : goal.loop-x-preserved
loop-x-preserved t c =
    let turn = turn_of c.args.prepared.now.filled c.requires c.loop-x.invariant
    c.exits-leaving.ensures.value c.exits-leaving.ensures.len c.loop-x-test.true c.if-made-task.false c.exit_at-exit.ensures in
    let judged = judged_as c.judge-outcome.result turn c.is_named_end-named.ensures c.exit_count-exits.ensures.0 c.judge-outcome.ensures in
    let o = c.judge-outcome.result in
    elim c.match-outcome.branch [
      | in-Death w ↦
          let mark = mark_there turn (Some w.lower-lower.result) w.mark_death.ensures in
          let lower = rw (before_is turn) at w.lower-lower.ensures.lower_value in
          exit_same w.entered-is w.path-is w.made-is w.cache-is w.rows-is
          (visit_ended
          (death_noted turn o judged (ap (λ o. is_death (outcome_of o)) w.in-Death.is)
          (last_lower turn.filled (last_step turn) (before_known turn) w.lower-lower.ensures.lower_value)
          lower w.with_death-made.ensures mark w.note_death.ensures (rw (before_is turn) at w.lower-lower.ensures.cached_still))
          (ap (λ o. is_continued (outcome_of o)) w.in-Death.is))
      | in-Continued+in_ok-made-in-Continued w ↦
          let on = ap (λ o. is_continued (outcome_of o)) w.in-Continued.is in
          exit_same w.entered-is w.path-is w.made-is w.cache-is w.rows-is
          (visit_back (step_noted turn o judged on w.with_step-so_far.ensures) on w.in_ok-made-in-Continued.ensures (search rules))
      | in-GeneratorsState w ↦
          let cut = is_cut w.in-GeneratorsState.is in
          let mark = mark_there turn None w.mark_cut.ensures in
          exit_same w.entered-is w.path-is w.made-is w.cache-is w.rows-is
          (visit_ended (cut_noted turn o judged cut.alive cut.ends w.with_cut-made.ensures mark w.note_cut.ensures) cut.ends)
    ]

pub returns : goal.returns
returns t c =
    loop_end c.args.prepared.now.filled c.requires c.loop-x.invariant
    c.exits-leaving.ensures.len (omega (arith, c.loop-x-test.false))
