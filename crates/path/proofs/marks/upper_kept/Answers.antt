-- `upper_kept` meets its contract. The loop's invariant: U and k, with U's mark, are those of the path so far. Assumes nothing.
use mathlib.Core.Path.{ap}
use native.Mathlib.Omega.{arith}
use lib.Dec.{lit≤}
use Rattle.std.proofs.lemmas.List.{take_all}
use Rattle.figure.specs.declared.Rounded.{Rounded}
use Rattle.figure.proofs.Sized.{sized-≤}
use Rattle.tree.proofs.Ranges.{mission_time_sized}
use Rattle.tables.specs.Internal.Described.{net_of}
use Rattle.path.proofs.ExitTips.{divisor}
use Rattle.path.proofs.PathSums.{path_more, known_take, entry_inside, upper_fine, ones_room}
use Rattle.path.proofs.PathSteps.{share_fine, mean_fine, left_fine}
use Rattle.path.proofs.UpperMarks.{upper_none, upper_longer}
use Rattle.path.proofs.marks.upper_kept.Goals as goal

pub loop-x-init : goal.loop-x-init
loop-x-init c = upper_none _ c.of_whole.ensures c.exact-upper.ensures.mark_value

pub overflow_add-ones : goal.overflow_add-ones
overflow_add-ones c = omega (arith, ones_room c.args.walked.now.known c.loop-x-test.true c.loop-x.invariant.ones_are)

pub overflow_add-ones-in-loop-x : goal.overflow_add-ones-in-loop-x
overflow_add-ones-in-loop-x c = omega (arith, ones_room c.args.walked.now.known c.loop-x-test.true c.loop-x.invariant.ones_are, c.counts_1-ones.ensures.1)

pub mean_up-mean-requires : goal.mean_up-mean-requires
mean_up-mean-requires c =
    left_fine c.args.walked.now.prepared.now.filled (entry_inside c.args.walked.now.known c.loop-x-test.true c.from-j.ensures) c.leaving-step.ensures.state_value

pub further-upper-requires : goal.further-upper-requires
further-upper-requires c =
    let inside = entry_inside c.args.walked.now.known c.loop-x-test.true c.from-j.ensures in let filled = c.args.walked.now.prepared.now.filled in
    let nth = divisor _ (omega arith) (omega (arith, ones_room c.args.walked.now.known c.loop-x-test.true c.loop-x.invariant.ones_are)) c.of_whole-in-loop-x.ensures in (
      rw c.loop-x.invariant.upper_is (upper_fine filled.indexes.valid (known_take _ c.args.walked.now.known)),
      rw c.share-share.ensures (sized-≤ (lit≤ tt) (share_fine filled inside)),
      rw (rw c.leaving-step.ensures.state_value at c.mean_up-mean.ensures) (sized-≤ (lit≤ tt) (mean_fine filled inside)),
      rw (c.exact-time.ensures.figure_value, c.args.walked.now.prepared.now.time_is) (sized-≤ (lit≤ tt) (mission_time_sized filled.indexes.valid)),
      rw c.exact-nth.ensures.figure_value nth.0,
      rw c.exact-nth.ensures.figure_value nth.1,
    )

pub loop-x-preserved : goal.loop-x-preserved
loop-x-preserved c =
    rw (path_more (net_of c.args.walked.now.prepared.now.words.now) c.args.walked.now.path.now c.loop-x.x-index c.loop-x-test.true c.from-j.ensures)
    (upper_longer _ _ _ c.loop-x.invariant c.leaving-step.ensures.class_value c.of_whole-in-loop-x.ensures c.args.walked.now.prepared.now.time_is
    (c.further-upper.ensures _ _ _ _ _ _ _ c.exact-nth.ensures.mark_value c.loop-x.invariant.upper_is c.share-share.ensures (rw c.leaving-step.ensures.state_value at c.mean_up-mean.ensures)
    c.exact-time.ensures.mark_value) c.counts_1-ones.ensures.0)

pub returns : goal.returns
returns c = ap (λ (r : Rounded). r.kept) (rw (take_all c.loop-x.x-index c.args.walked.now.path.now (omega arith)) at c.loop-x.invariant.upper_is)
