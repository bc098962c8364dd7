-- `steps::class3_loss` meets its contract. Assumes nothing.
use mathlib.Core.Path.{◌≡◌}
use lib.Dec.{lit≤}
use Rattle.figure.specs.declared.Direction.TheVariants.{Down}
use Rattle.figure.specs.Operations.{of_whole}
use Rattle.figure.proofs.Sized.{sized-≤, times_up_sized, divided_up_sized}
use Rattle.tree.proofs.Positive.{of_whole_above}
use Rattle.tree.proofs.Ranges.{count_sized}
use Rattle.tables.specs.Internal.Told.{exact, times}
use Rattle.tables.specs.Internal.Steps.{class3_loss_of}
use Rattle.tables.proofs.Sections.{same_figure}
use Rattle.tables.proofs.Losses.{over_grains, whole_sized, divisor_sized, divisor_above, quotient_sized, shifted_sized}
use Rattle.tables.proofs.steps.class3_loss.Goals as goal

pub divided-half-requires : goal.divided-half-requires
divided-half-requires c = (
  rw c.times.ensures (sized-≤ (lit≤ tt) (times_up_sized c.requires.sized.0 c.requires.sized.1)),
  rw c.whole.ensures (sized-≤ (lit≤ tt) (count_sized 2 (lit≤ tt))),
  rw c.whole.ensures (of_whole_above 2 (lit≤ tt)),
)

pub times-span-requires : goal.times-span-requires
times-span-requires c =
    let o = over_grains c.requires.sized.1 c.requires.sized.2 c.requires.digits_nonzero c.whole-2.ensures in
    (sized-≤ (lit≤ tt) (whole_sized o), sized-≤ (lit≤ tt) o.time_sized)

pub divided-requires : goal.divided-requires
divided-requires c =
    let o = over_grains c.requires.sized.1 c.requires.sized.2 c.requires.digits_nonzero c.whole-2.ensures in
    let e = same_figure c.times-span.ensures in
    (sized-≤ (lit≤ tt) o.moment_sized, sized-≤ (lit≤ tt) (divisor_sized o e), divisor_above o e)

pub times_ten-requires : goal.times_ten-requires
times_ten-requires c =
    let o = over_grains c.requires.sized.1 c.requires.sized.2 c.requires.digits_nonzero c.whole-2.ensures in
    (sized-≤ (lit≤ tt) (quotient_sized o (same_figure c.times-span.ensures) (same_figure c.divided.ensures)), lit≤ tt)

pub plus-requires : goal.plus-requires
plus-requires c =
    let o = over_grains c.requires.sized.1 c.requires.sized.2 c.requires.digits_nonzero c.whole-2.ensures in (
      rw (c.divided-half.ensures, c.times.ensures, c.whole.ensures)
          (sized-≤ (lit≤ tt)
          (divided_up_sized (times_up_sized c.requires.sized.0 c.requires.sized.1) (count_sized 2 (lit≤ tt)) (of_whole_above 2 (lit≤ tt)))),
      shifted_sized 6 (lit≤ tt) (quotient_sized o (same_figure c.times-span.ensures) (same_figure c.divided.ensures)) (same_figure c.times_ten.ensures),
    )

pub returns : goal.returns
unfolding class3_loss_of
returns c =
    let span_is : c.times-span.result ≡ times Down (exact (of_whole c.args.n)) c.args.time = rw c.whole-2.ensures at c.times-span.ensures in
    rw (c.plus.ensures, c.divided-half.ensures, c.times.ensures, c.whole.ensures, c.times_ten.ensures, c.divided.ensures, span_is)
