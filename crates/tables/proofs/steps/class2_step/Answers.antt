-- `steps::class2_step` meets its contract: every figure on the way is in range. Assumes nothing.
use lib.Dec.{lit≤}
use Rattle.figure.proofs.Sized.{sized-≤}
use Rattle.tree.proofs.Ranges.{count_sized}
use Rattle.tables.proofs.StepLaws.{grains_positive, class2_is}
use Rattle.tables.proofs.StepRanges.{moment_sized, time2_sized, time2_above, quotient2_sized, grains2_sized, loss2_in_range}
use Rattle.tables.proofs.steps.class2_step.Goals as goal

pub class2_quotient-quotient-requires : goal.class2_quotient-quotient-requires
class2_quotient-quotient-requires c =
    let time2 = c.times-time2.result in
    let m = moment_sized c.requires.0 c.second_moment-moment.ensures in
    let t = time2_sized c.args.time time2 c.times-time2.ensures c.requires.2 in
    let above = time2_above c.args.time time2 c.times-time2.ensures c.requires.3 in
    (sized-≤ (lit≤ tt) m, sized-≤ (lit≤ tt) t, above)

pub times_ten-requires : goal.times_ten-requires
times_ten-requires c =
    let time2 = c.times-time2.result in
    let m = moment_sized c.requires.0 c.second_moment-moment.ensures in
    let t = time2_sized c.args.time time2 c.times-time2.ensures c.requires.2 in
    let above = time2_above c.args.time time2 c.times-time2.ensures c.requires.3 in
    (sized-≤ (lit≤ tt) (quotient2_sized c.second_moment-moment.result time2 m t above c.class2_quotient-quotient.ensures), lit≤ tt)

pub least-n-requires : goal.least-n-requires
least-n-requires c =
    let time2 = c.times-time2.result in
    let m = moment_sized c.requires.0 c.second_moment-moment.ensures in
    let t = time2_sized c.args.time time2 c.times-time2.ensures c.requires.2 in
    let above = time2_above c.args.time time2 c.times-time2.ensures c.requires.3 in
    (grains2_sized c.second_moment-moment.result time2 m t above c.class2_quotient-quotient.ensures c.times_ten.ensures).is_figure

pub class2_loss-y-requires : goal.class2_loss-y-requires
class2_loss-y-requires c =
    let time2 = c.times-time2.result in
    let m = moment_sized c.requires.0 c.second_moment-moment.ensures in
    let t = time2_sized c.args.time time2 c.times-time2.ensures c.requires.2 in
    let above = time2_above c.args.time time2 c.times-time2.ensures c.requires.3 in
    record {
      sized = (sized-≤ (lit≤ tt) c.requires.1, sized-≤ (lit≤ tt) c.requires.0.mean, sized-≤ (lit≤ tt) m, sized-≤ (lit≤ tt) t);
      digits_nonzero = (above, grains_positive 3 c.times_ten.result c.least-n.ensures.value, c.least-n.ensures.upper_bound);
    }

pub factor_of-requires : goal.factor_of-requires
factor_of-requires c =
    let time2 = c.times-time2.result in
    let m = moment_sized c.requires.0 c.second_moment-moment.ensures in
    let t = time2_sized c.args.time time2 c.times-time2.ensures c.requires.2 in
    let above = time2_above c.args.time time2 c.times-time2.ensures c.requires.3 in
    let low = grains_positive 3 c.times_ten.result c.least-n.ensures.value in
    let loss =
    loss2_in_range c.second_moment-moment.result time2 m t above c.args.rate c.args.exit.mean c.class2_loss-y.ensures c.requires.1 c.requires.0.mean low
    c.least-n.ensures.upper_bound in (
      sized-≤ (lit≤ tt) c.requires.0.probability,
      rw c.whole.ensures (sized-≤ (lit≤ tt) (count_sized 1 (lit≤ tt))),
      sized-≤ (lit≤ tt) loss,
    )

pub returns : goal.returns
returns c =
    class2_is c.args.rate c.args.time c.args.exit c.second_moment-moment.ensures c.times-time2.ensures c.class2_quotient-quotient.ensures
    c.times_ten.ensures c.least-n.ensures.value c.class2_loss-y.ensures c.whole.ensures c.factor_of.ensures
