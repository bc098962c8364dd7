-- `steps::class3_step` meets its contract: every figure on the way is in range. Assumes nothing.
use lib.Dec.{lit≤}
use Rattle.figure.proofs.Sized.{sized-≤}
use Rattle.tables.proofs.StepLaws.{grains_positive, class3_is}
use Rattle.tables.proofs.StepRanges.{quotient3_sized, grains3_sized, loss3_in_range}
use Rattle.tables.proofs.steps.class3_step.Goals as goal

pub times_ten-requires : goal.times_ten-requires
times_ten-requires c =
    let s = c.requires.sized in
    let d = c.requires.digits_nonzero in
    (sized-≤ (lit≤ tt) (quotient3_sized c.args.moment c.args.mean c.args.time s.3 s.2 s.4 d.0 d.1 c.class3_quotient-quotient.ensures), lit≤ tt)

pub least-n-requires : goal.least-n-requires
least-n-requires c =
    let s = c.requires.sized in
    let d = c.requires.digits_nonzero in
    (grains3_sized c.args.moment c.args.mean c.args.time s.3 s.2 s.4 d.0 d.1 c.class3_quotient-quotient.ensures c.times_ten.ensures).is_figure

pub class3_loss-y-requires-clause-digits_nonzero : goal.class3_loss-y-requires-clause-digits_nonzero
class3_loss-y-requires-clause-digits_nonzero c =
    (c.requires.digits_nonzero.1, grains_positive 2 c.times_ten.result c.least-n.ensures.value, c.least-n.ensures.upper_bound)

pub factor_of-requires : goal.factor_of-requires
factor_of-requires c =
    let s = c.requires.sized in
    let low = grains_positive 2 c.times_ten.result c.least-n.ensures.value in
    let loss =
    loss3_in_range c.args.rate c.args.moment c.args.time c.class3_loss-y.ensures s.1 s.3 s.4 c.requires.digits_nonzero.1 low
    c.least-n.ensures.upper_bound in
    (sized-≤ (lit≤ tt) s.0, sized-≤ (lit≤ tt) s.2, sized-≤ (lit≤ tt) loss)

pub returns : goal.returns
returns c =
    class3_is c.args.rate c.args.mean c.args.moment c.args.time c.args.share c.class3_quotient-quotient.ensures c.times_ten.ensures
    c.least-n.ensures.value c.class3_loss-y.ensures c.factor_of.ensures
