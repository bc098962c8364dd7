-- `lower_kept` meets its contract: N', A and k are those of the path, and the marks are those of the lower. Assumes nothing.
use mathlib.Core.Path.{◌∙◌}
use lib.Dec.{lit≤}
use Rattle.figure.proofs.Sized.{sized-≤}
use Rattle.path.proofs.PathSums.{rates_fine, ones_few}
use Rattle.path.proofs.LowerMarks.{lower_filled, lower_true, lower_false, product_part_fine, last_part_fine}
use Rattle.path.proofs.marks.lower_kept.Goals as goal

pub stem_of-requires : goal.stem_of-requires
stem_of-requires c = (
  rw c.spent_on-spent.ensures.rates (sized-≤ (lit≤ tt) (rates_fine c.args.walked.now.prepared.now.filled.indexes.valid c.args.walked.now.known)),
  ones_few c.args.walked.now.known c.spent_on-spent.ensures.ones,
)

pub times-lower-requires : goal.times-lower-requires
times-lower-requires c =
    let parts = rw c.in-Some.is at (c.stem_of.ensures _ _ c.spent_on-spent.ensures.rates) in let valid = c.args.walked.now.prepared.now.filled.indexes.valid in (
      product_part_fine valid c.args.walked.now.known parts,
      last_part_fine valid c.args.walked.now.known (ones_few c.args.walked.now.known c.spent_on-spent.ensures.ones) parts,
    )

pub returns-in-None : goal.returns-in-None
returns-in-None c =
    let spent = c.spent_on-spent.ensures in let filled = rw c.in-None.is at (c.stem_of.ensures _ _ spent.rates) in
    lower_filled _ _ spent.grains spent.ones c.grains_kept-kept.ensures filled

pub returns-then-kept : goal.returns-then-kept
returns-then-kept c =
    let spent = c.spent_on-spent.ensures in let parts = rw c.in-Some.is at (c.stem_of.ensures _ _ spent.rates) in
    lower_true _ _ spent.grains spent.ones c.grains_kept-kept.ensures parts c.times-lower.ensures c.if-kept.true

pub returns-else-kept : goal.returns-else-kept
returns-else-kept c =
    let spent = c.spent_on-spent.ensures in let parts = rw c.in-Some.is at (c.stem_of.ensures _ _ spent.rates) in
    c.if-kept.false ∙ lower_false _ _ spent.grains spent.ones c.grains_kept-kept.ensures parts c.times-lower.ensures c.if-kept.false
