-- `new_stem` meets its contract: N', A and k of the path with its last step are those without it and what the step adds. Assumes nothing.
use mathlib.Core.Bool.{true}
use mathlib.Core.Path.{refl}
use native.Mathlib.Omega.{arith}
use lib.Dec.{lit≤}
use Rattle.figure.proofs.Sized.{sized-≤}
use Rattle.path.proofs.PathSums.{rates_fine, grains_fit, spent_alone}
use Rattle.path.proofs.DeathStems.{ones_high, with_sized, with_few, with_stem, stem_is_at, stem_sized}
use Rattle.path.proofs.deaths.new_stem.Goals as goal

pub with_step-spent-requires : goal.with_step-spent-requires
with_step-spent-requires c =
    let so_far = c.spent_on-so_far.ensures in let known = c.args.walked.now.known in record {
      leaves = record { inside = rw c.from.ensures c.requires.index; class_is = rw c.from.ensures c.requires.class_is; state_is = rw c.from.ensures c.requires.leaves };
      room = (
        rw so_far.rates (sized-≤ (lit≤ tt) (rates_fine c.args.walked.now.prepared.now.filled.indexes.valid known)),
        omega (arith, so_far.ones, ones_high c.args.walked.now.prepared.now.filled c.requires, c.requires.ones_are),
        omega (arith, so_far.grains, grains_fit known),
      );
    }

pub stem_of-requires : goal.stem_of-requires
stem_of-requires c =
    let step = rw c.from.ensures at (c.with_step-spent.ensures _ c.spent_on-so_far.ensures) in
    let spent = spent_alone step.grains step.rates step.ones in let filled = c.args.walked.now.prepared.now.filled in
    (with_sized filled c.requires spent, with_few filled c.requires spent)

pub returns : goal.returns
returns c =
    let step = rw c.from.ensures at (c.with_step-spent.ensures _ c.spent_on-so_far.ensures) in
    let spent = spent_alone step.grains step.rates step.ones in let filled = c.args.walked.now.prepared.now.filled in
    let is = stem_is_at _ _ _ _ true _ _ (c.stem_of.ensures _ true refl) in record {
      stem_is = with_stem filled c.requires spent is;
      stem_sized = stem_sized filled.indexes.valid _ _ _ c.args.walked.now.known (with_sized filled c.requires spent) (with_few filled c.requires spent) is;
    }
