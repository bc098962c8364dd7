-- `steps::class2_loss` meets its contract. Assumes nothing.
use lib.Dec.{lit≤}
use Rattle.figure.proofs.Sized.{sized-≤, times_up_sized}
use Rattle.tables.specs.Internal.Steps.{class2_loss_of}
use Rattle.tables.proofs.Search.{square_is}
use Rattle.tables.proofs.Sections.{same_figure}
use Rattle.tables.proofs.Losses.{over_square, whole_sized, divisor_sized, divisor_above, quotient_sized, shifted_sized}
use Rattle.tables.proofs.steps.class2_loss.Goals as goal

pub times-square-requires : goal.times-square-requires
times-square-requires c =
    let o = over_square c.requires.sized.2 c.requires.sized.3 c.requires.digits_nonzero c.of_whole.ensures in
    (sized-≤ (lit≤ tt) (whole_sized o), sized-≤ (lit≤ tt) o.time_sized)

pub divided-requires : goal.divided-requires
divided-requires c =
    let o = over_square c.requires.sized.2 c.requires.sized.3 c.requires.digits_nonzero c.of_whole.ensures in
    let e = same_figure c.times-square.ensures in
    (sized-≤ (lit≤ tt) o.moment_sized, sized-≤ (lit≤ tt) (divisor_sized o e), divisor_above o e)

pub times_ten-rest-requires : goal.times_ten-rest-requires
times_ten-rest-requires c =
    let o = over_square c.requires.sized.2 c.requires.sized.3 c.requires.digits_nonzero c.of_whole.ensures in
    (sized-≤ (lit≤ tt) (quotient_sized o (same_figure c.times-square.ensures) (same_figure c.divided.ensures)), lit≤ tt)

pub plus-requires : goal.plus-requires
plus-requires c =
    let o = over_square c.requires.sized.2 c.requires.sized.3 c.requires.digits_nonzero c.of_whole.ensures in (
      rw c.times.ensures (sized-≤ (lit≤ tt) (times_up_sized c.requires.sized.0 c.requires.sized.1)),
      shifted_sized 12 (lit≤ tt) (quotient_sized o (same_figure c.times-square.ensures) (same_figure c.divided.ensures))
          (same_figure c.times_ten-rest.ensures),
    )

pub returns : goal.returns
unfolding class2_loss_of
returns c =
    rw (
      c.plus.ensures,
      c.times.ensures,
      c.times_ten-rest.ensures,
      c.divided.ensures,
      c.times-square.ensures,
      c.of_whole.ensures,
      square_is c.args.n,
    )
