-- `bounds_at_or_below` meets its contract: what is no figure is told apart, and two figures are compared. Assumes nothing.
use mathlib.Core.Path.{◌≡◌, refl}
use mathlib.Core.Bool.{true, false}
use Rattle.figure.specs.Rounding.{figure}
use Rattle.figure.specs.Tested.{figure_test}
use Rattle.embed.proofs.Compared.{told, told_figure, told_order, no_first, no_second, both}
use Rattle.embed.proofs.bounds_at_or_below.Goals as goal
use Rattle.embed.proofs.bounds_at_or_below.Goals.{then-not-is_figure-via-then-not-is_figure, then-not-is_figure-via-else-not-is_figure+then-not-is_figure-2}

pub returns-then-not-is_figure : goal.returns-then-not-is_figure
returns-then-not-is_figure c =
    elim c.then-not-is_figure.branch [
      | then-not-is_figure-via-then-not-is_figure w ↦
          no_first _ _ (told c.args.digits c.args.power c.ranges.power false c.is_figure.ensures w.if-not-is_figure.true)
      | then-not-is_figure-via-else-not-is_figure+then-not-is_figure-2 w ↦
          no_second _ _ (told c.args.digits c.args.power c.ranges.power true c.is_figure.ensures w.if-not-is_figure.false)
          (told c.args.limit_digits c.args.limit_power c.ranges.limit_power false w.is_figure-else-not-is_figure.ensures w.if-not-is_figure-2.true)
    ]

pub at_or_below-requires : goal.at_or_below-requires
at_or_below-requires c = (
  told_figure c.args.digits c.args.power c.ranges.power c.is_figure.ensures c.if-not-is_figure.false,
  told_figure c.args.limit_digits c.args.limit_power c.ranges.limit_power c.is_figure-else-not-is_figure.ensures c.if-not-is_figure-2.false,
)

pub returns : goal.returns
returns c =
    let first : figure_test (figure c.args.digits c.args.power) ≡ true =
    told c.args.digits c.args.power c.ranges.power true c.is_figure.ensures c.if-not-is_figure.false in
    let second : figure_test (figure c.args.limit_digits c.args.limit_power) ≡ true =
    told c.args.limit_digits c.args.limit_power c.ranges.limit_power true c.is_figure-else-not-is_figure.ensures c.if-not-is_figure-2.false in
    both _ _ c.at_or_below.result first second (told_order c.args.digits c.args.power c.args.limit_digits c.args.limit_power c.ranges.power
    c.ranges.limit_power c.at_or_below.result c.at_or_below.ensures refl) c.from.ensures
