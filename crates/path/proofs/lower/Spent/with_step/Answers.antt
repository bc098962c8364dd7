-- `Spent::with_step` meets its contract: a step of class 1 brings the sum of rates of its state, and another its grains. Assumes nothing.
use lib.Dec.{lit≤}
use Rattle.figure.proofs.Sized.{sized-≤}
use Rattle.path.proofs.PathSums.{found_one, found_other, spent_one, spent_other}
use Rattle.path.proofs.PathSteps.{rate_fine, left_fine}
use Rattle.path.proofs.lower.Spent.with_step.Goals as goal

pub rate_sum-own-requires : goal.rate_sum-own-requires
rate_sum-own-requires g c = left_fine c.args.prepared.now.filled c.requires.leaves.inside c.requires.leaves.state_is

pub plus-requires : goal.plus-requires
plus-requires g c = (
  sized-≤ (lit≤ tt) c.requires.room.0,
  rw (g.met.A.Arithmetic.figure_is _ _ _ (rw c.requires.leaves.state_is at c.rate_sum-own.ensures))
      (sized-≤ (lit≤ tt) (rate_fine c.args.prepared.now.filled c.requires.leaves.inside)),
)

pub returns-then-is_class1 : goal.returns-then-is_class1
returns-then-is_class1 g c = λ p so_far.
    spent_one g.A.Arithmetic.Is _ _ p so_far (found_one c.requires.leaves.class_is c.is_class1.ensures c.if-is_class1.true)
    (c.plus.ensures.mark_value _ _ _ _ so_far.rates (rw c.requires.leaves.state_is at c.rate_sum-own.ensures))

pub returns : goal.returns
returns g c = λ p so_far.
    spent_other g.A.Arithmetic.Is _ _ p so_far (found_other c.requires.leaves.class_is c.is_class1.ensures c.if-is_class1.false) c.grains.ensures.0
