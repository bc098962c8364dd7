-- `product` meets its contract. The loop's invariant: k and the product are those of the path so far. Assumes nothing.
use native.Mathlib.Nat.{le_trans}
use native.Mathlib.Omega.{arith}
use lib.Dec.{lit≤}
use Rattle.figure.proofs.Sized.{sized-≤, times_down_sized}
use Rattle.tree.proofs.Positive.{of_whole_above}
use Rattle.tree.proofs.Ranges.{count_sized}
use Rattle.tables.specs.Internal.Described.{net_of}
use Rattle.path.proofs.PathSums.{path_more, known_take, entry_inside, product_fine, ones_room}
use Rattle.path.proofs.PathSums.{found_one, found_other, product_start, product_more_one, product_more_other}
use Rattle.path.proofs.PathSteps.{share_fine, factor_fine}
use Rattle.path.proofs.lower.product.Goals as goal
use Rattle.path.proofs.lower.product.Goals.{then-is_class1, else-is_class1}

pub loop-x-init : goal.loop-x-init
loop-x-init g c = product_start g.A.Arithmetic.Is _ _ c.of_whole.ensures c.exact-p.ensures.mark_value

pub overflow_add-k : goal.overflow_add-k
overflow_add-k g c = omega (arith, ones_room c.args.walked.now.known c.loop-x-test.true c.loop-x.invariant.ones_are)

pub times-requires : goal.times-requires
times-requires g c =
    let inside = entry_inside c.args.walked.now.known c.loop-x-test.true c.from-j.ensures in let filled = c.args.walked.now.prepared.now.filled in (
      rw (g.met.A.Arithmetic.figure_is _ _ _ c.loop-x.invariant.product_is)
          (sized-≤ (lit≤ tt) (product_fine filled.indexes.valid (known_take _ c.args.walked.now.known) c.requires)),
      rw (g.met.A.Arithmetic.figure_is _ _ _ c.share.ensures)
          (sized-≤ (lit≤ tt) (share_fine filled inside)),
    )

pub times-requires-then-is_class1 : goal.times-requires-then-is_class1
times-requires-then-is_class1 g c =
    let inside = entry_inside c.args.walked.now.known c.loop-x-test.true c.from-j.ensures in let filled = c.args.walked.now.prepared.now.filled in (
      rw (
        c.times.ensures.figure_value,
        g.met.A.Arithmetic.figure_is _ _ _ c.loop-x.invariant.product_is,
        g.met.A.Arithmetic.figure_is _ _ _ c.share.ensures,
      )
          (sized-≤ (lit≤ tt)
          (times_down_sized (product_fine filled.indexes.valid (known_take _ c.args.walked.now.known) c.requires) (share_fine filled inside))),
      rw c.exact-time.ensures.figure_value
          (sized-≤ (lit≤ tt) c.requires),
    )

pub divided-p-requires : goal.divided-p-requires
divided-p-requires g c =
    let inside = entry_inside c.args.walked.now.known c.loop-x-test.true c.from-j.ensures in let filled = c.args.walked.now.prepared.now.filled in
    let room = ones_room c.args.walked.now.known c.loop-x-test.true c.loop-x.invariant.ones_are in (
      rw (
        c.times-then-is_class1.ensures.figure_value,
        c.times.ensures.figure_value,
        c.exact-time.ensures.figure_value,
        g.met.A.Arithmetic.figure_is _ _ _ c.loop-x.invariant.product_is,
        g.met.A.Arithmetic.figure_is _ _ _ c.share.ensures,
      )
          (sized-≤ (lit≤ tt)
          (times_down_sized (times_down_sized (product_fine filled.indexes.valid (known_take _ c.args.walked.now.known) c.requires) (share_fine filled inside))
          c.requires)),
      rw (c.exact.ensures.figure_value, c.of_whole-then-is_class1.ensures)
          (sized-≤ (lit≤ tt) (count_sized _ (le_trans {m = 24} (omega (arith, room)) (lit≤ tt)))),
      rw (c.exact.ensures.figure_value, c.of_whole-then-is_class1.ensures) (of_whole_above _ (omega arith)),
    )

pub times-p-requires : goal.times-p-requires
times-p-requires g c =
    let inside = entry_inside c.args.walked.now.known c.loop-x-test.true c.from-j.ensures in let filled = c.args.walked.now.prepared.now.filled in (
      rw (g.met.A.Arithmetic.figure_is _ _ _ c.loop-x.invariant.product_is)
          (sized-≤ (lit≤ tt) (product_fine filled.indexes.valid (known_take _ c.args.walked.now.known) c.requires)),
      rw (g.met.A.Arithmetic.figure_is _ _ _ c.factor.ensures)
          (sized-≤ (lit≤ tt) (factor_fine filled inside)),
    )

pub loop-x-preserved : goal.loop-x-preserved
loop-x-preserved g c =
    rw (path_more (net_of c.args.walked.now.prepared.now.words.now) c.args.walked.now.path.now c.loop-x.x-index c.loop-x-test.true c.from-j.ensures)
    (elim c.if-is_class1.branch [
      | then-is_class1 w ↦ rw (w.k-is, w.p-is) (product_more_one g.A.Arithmetic.Is _ _ _ _ c.loop-x.invariant
          (found_one c.leaving.ensures.class_value c.is_class1.ensures w.if-is_class1.true) w.of_whole-then-is_class1.ensures
          (w.divided-p.ensures.mark_value _ _ _ _ (w.times-then-is_class1.ensures.mark_value _ _ _ _
          (w.times.ensures.mark_value _ _ _ _ c.loop-x.invariant.product_is w.share.ensures) c.exact-time.ensures.mark_value) w.exact.ensures.mark_value))
      | else-is_class1 w ↦ rw (w.k-is, w.p-is) (product_more_other g.A.Arithmetic.Is _ _ _ _ c.loop-x.invariant
          (found_other c.leaving.ensures.class_value c.is_class1.ensures w.if-is_class1.false)
          (w.times-p.ensures.mark_value _ _ _ _ c.loop-x.invariant.product_is w.factor.ensures))
    ])
