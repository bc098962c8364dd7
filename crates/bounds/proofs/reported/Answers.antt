-- `reported` meets its contract: the totals are in range, each figure is a total taken to nine digits, and each mark has that last rounding in it.
-- Assumes nothing.
use mathlib.Core.Path.{refl}
use lib.Dec.{lit≤}
use Rattle.tree.specs.Internal.Tally.{finish, finish_marks}
use Rattle.tree.proofs.Ranges.{total_operand}
use Rattle.bounds.proofs.reported.Goals as goal

pub to_nine-lower-requires : goal.to_nine-lower-requires
to_nine-lower-requires c = rw c.marked-lowers.ensures.figure_value (total_operand c.requires.lower (lit≤ tt))

pub sum_to_nine-upper-requires : goal.sum_to_nine-upper-requires
sum_to_nine-upper-requires c =
    (rw c.marked-uppers.ensures.figure_value (total_operand c.requires.death (lit≤ tt)), rw c.exact.ensures.figure_value (total_operand c.requires.cut (lit≤ tt)))

pub to_nine-requires : goal.to_nine-requires
to_nine-requires c = total_operand c.requires.cut (lit≤ tt)

pub returns : goal.returns
unfolding finish finish_marks
returns c =
    rw (
      c.to_nine-lower.ensures,
      c.sum_to_nine-upper.ensures,
      c.to_nine.ensures,
      c.marked-lowers.ensures.mark_value,
      c.marked-uppers.ensures.mark_value,
      c.exact.ensures.mark_value,
    ) (refl, refl)
