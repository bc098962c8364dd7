-- `states::Sums::with_exit` meets its contract: the exit's figures are in range, so each operation takes them. Assumes nothing.
use lib.Dec.{lit≤}
use Rattle.figure.proofs.Sized.{sized-≤, times_up_sized, times_down_sized}
use Rattle.tables.proofs.Firsts.{first_valid, fast_case, slow_case, spread_sized, rate_sized}
use Rattle.tables.proofs.StateSums.{with_fast, with_slow}
use Rattle.tables.proofs.StepRanges.{moment_sized}
use Rattle.tables.proofs.states.Sums.with_exit.Goals as goal

pub plus-requires : goal.plus-requires
plus-requires c =
    (sized-≤ (lit≤ tt) c.requires.1.rate, sized-≤ (lit≤ tt) (rate_sized (first_valid c.requires.0) (slow_case _ c.in-Slow.ensures)))

pub times-requires : goal.times-requires
times-requires c =
    let f = spread_sized (first_valid c.requires.0) (fast_case _ c.in-Fast.ensures) in
    (sized-≤ (lit≤ tt) f.probability, sized-≤ (lit≤ tt) f.mean)

pub plus-up-requires : goal.plus-up-requires
plus-up-requires c =
    let f = spread_sized (first_valid c.requires.0) (fast_case _ c.in-Fast.ensures) in
    (sized-≤ (lit≤ tt) c.requires.1.up, rw c.times.ensures (sized-≤ (lit≤ tt) (times_up_sized f.probability f.mean)))

pub times-requires-in-Fast : goal.times-requires-in-Fast
times-requires-in-Fast c =
    let f = spread_sized (first_valid c.requires.0) (fast_case _ c.in-Fast.ensures) in
    (sized-≤ (lit≤ tt) f.probability, sized-≤ (lit≤ tt) f.mean)

pub plus-down-requires : goal.plus-down-requires
plus-down-requires c =
    let f = spread_sized (first_valid c.requires.0) (fast_case _ c.in-Fast.ensures) in
    (sized-≤ (lit≤ tt) c.requires.1.down, rw c.times-in-Fast.ensures (sized-≤ (lit≤ tt) (times_down_sized f.probability f.mean)))

pub second_moment-requires : goal.second_moment-requires
second_moment-requires c =
    let f = spread_sized (first_valid c.requires.0) (fast_case _ c.in-Fast.ensures) in
    record { mean = sized-≤ (lit≤ tt) f.mean; deviation = sized-≤ (lit≤ tt) f.deviation; probability = sized-≤ (lit≤ tt) f.probability }

pub times-product-requires : goal.times-product-requires
times-product-requires c =
    let f = spread_sized (first_valid c.requires.0) (fast_case _ c.in-Fast.ensures) in
    (sized-≤ (lit≤ tt) f.probability, sized-≤ (lit≤ tt) (moment_sized f c.second_moment.ensures))

pub plus-moment-requires : goal.plus-moment-requires
plus-moment-requires c =
    let f = spread_sized (first_valid c.requires.0) (fast_case _ c.in-Fast.ensures) in (
      sized-≤ (lit≤ tt) c.requires.1.moment,
      rw c.times-product.ensures (sized-≤ (lit≤ tt) (times_up_sized f.probability (moment_sized f c.second_moment.ensures))),
    )

pub returns-in-Slow : goal.returns-in-Slow
returns-in-Slow c = with_slow c.args.self (slow_case _ c.in-Slow.ensures) c.plus.ensures

pub returns-in-Fast : goal.returns-in-Fast
returns-in-Fast c =
    with_fast c.args.self (fast_case _ c.in-Fast.ensures) c.times.ensures c.plus-up.ensures c.times-in-Fast.ensures c.plus-down.ensures
    c.second_moment.ensures c.times-product.ensures c.plus-moment.ensures
