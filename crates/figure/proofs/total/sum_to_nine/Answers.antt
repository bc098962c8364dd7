-- `total::sum_to_nine` meets its contract. Assumes nothing.
use mathlib.Core.Path.{refl, ◌∙◌}
use Rattle.std.proofs.Common.{rules}
use Rattle.figure.specs.declared.division.Width.TheVariants.{Eighteen}
use Rattle.figure.proofs.Parts.{within}
use Rattle.figure.proofs.Figures.{sized_more}
use Rattle.figure.proofs.Sums.{nothing_added, sum_swap, sum_in_order, ordered, alignable}
use Rattle.figure.proofs.Totals.{nine, nine_higher, sum_nine_below, sum_nine_answer}
use Rattle.figure.proofs.total.sum_to_nine.Goals as goal

pub returns-then-t-eq0 : goal.returns-then-t-eq0
returns-then-t-eq0 c = c.to_nine.ensures ∙ nothing_added c.args.to nine c.args.t c.args.s c.if-t-eq0.true

pub returns-then-s-eq0 : goal.returns-then-s-eq0
returns-then-s-eq0 c =
    c.to_nine-then-s-eq0.ensures ∙ nothing_added c.args.to nine c.args.s c.args.t c.if-s-eq0.true ∙ sum_swap c.args.to nine c.args.t c.args.s

pub aligned-requires : goal.aligned-requires
aligned-requires c = alignable (within Eighteen) (ordered (sized_more c.requires.0) (sized_more c.requires.1) c.if-t-eq0.false c.if-s-eq0.false c.in_order.ensures)

pub overflow_add-large : goal.overflow_add-large
overflow_add-large c =
    let o = ordered (sized_more c.requires.0) (sized_more c.requires.1) c.if-t-eq0.false c.if-s-eq0.false c.in_order.ensures in
    search (rules, o.first.near)

pub trimmed-requires : goal.trimmed-requires
trimmed-requires c =
    let o = ordered (sized_more c.requires.0) (sized_more c.requires.1) c.if-t-eq0.false c.if-s-eq0.false c.in_order.ensures in
    (sum_nine_below o c.aligned.ensures c.shortened-part.ensures, nine_higher c.in_order.result.0.power o.first.near refl)

pub returns : goal.returns
returns c =
    let o = ordered (sized_more c.requires.0) (sized_more c.requires.1) c.if-t-eq0.false c.if-s-eq0.false c.in_order.ensures in
    sum_nine_answer o c.aligned.ensures c.shortened-part.ensures c.args.to refl c.trimmed.ensures
    ∙ sum_in_order c.args.to nine c.args.t c.args.s c.in_order.ensures
