-- `sum::plus` meets its contract. Assumes nothing.
use mathlib.Core.Path.{◌∙◌}
use native.Mathlib.Omega.{arith}
use Rattle.figure.proofs.Stored.{kept}
use Rattle.figure.proofs.Parts.{within}
use Rattle.figure.proofs.Sums.{sum_zero, sum_swap, ordered, alignable, aligned_small, sum_answer, sum_in_order}
use Rattle.figure.proofs.sum.plus.Goals as goal

pub returns-then-a-eq0 : goal.returns-then-a-eq0
returns-then-a-eq0 c = sum_zero c.args.to (within c.args.width) c.args.a c.args.b c.if-a-eq0.true c.requires.1.is_figure

pub returns-then-b-eq0 : goal.returns-then-b-eq0
returns-then-b-eq0 c =
    sum_zero c.args.to (within c.args.width) c.args.b c.args.a c.if-b-eq0.true c.requires.0.is_figure
    ∙ sum_swap c.args.to (within c.args.width) c.args.a c.args.b

pub aligned-requires : goal.aligned-requires
aligned-requires c = alignable (within c.args.width) (ordered c.requires.0 c.requires.1 c.if-a-eq0.false c.if-b-eq0.false c.in_order.ensures)

pub trimmed-requires : goal.trimmed-requires
trimmed-requires c =
    let o = ordered c.requires.0 c.requires.1 c.if-a-eq0.false c.if-b-eq0.false c.in_order.ensures in (
      aligned_small o c.aligned.ensures,
      rw (kept c.in_order.result.0.power (omega (arith, o.first.near)))
          (omega (arith, o.first.near)),
    )

pub returns : goal.returns
returns c =
    let o = ordered c.requires.0 c.requires.1 c.if-a-eq0.false c.if-b-eq0.false c.in_order.ensures in
    sum_answer c.args.to (within c.args.width) o c.aligned.ensures c.trimmed.ensures
    ∙ sum_in_order c.args.to (within c.args.width) c.args.a c.args.b c.in_order.ensures
