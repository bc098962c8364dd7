-- `last_factor` meets its contract: every figure on the way is an operand, and the operations' marks come one after the other. Assumes nothing.
use Prim.Native.Nat.{◌+◌}
use mathlib.Core.Path.{subst}
use native.Mathlib.Nat.{le_trans}
use native.Mathlib.Omega.{arith}
use lib.Dec.{lit≤}
use Rattle.figure.specs.Operations.{times_up, divided_up, minus_down, of_whole}
use Rattle.figure.proofs.Sized.{sized-≤, times_up_sized, divided_up_sized, of_whole_sized}
use Rattle.tree.proofs.Ranges.{count_sized}
use Rattle.tree.proofs.Positive.{of_whole_above}
use Rattle.path.specs.Internal.Marks.{last_of, last_of_kept}
use Rattle.path.proofs.Regrouped.{four}
use Rattle.path.proofs.lower.last_factor.Goals as goal

pub divided-b-requires : goal.divided-b-requires
divided-b-requires g c = (
  rw c.times.ensures.figure_value (sized-≤ (lit≤ tt) (times_up_sized c.requires.0 c.requires.1)),
  rw (c.exact-count.ensures.figure_value, c.of_whole.ensures)
      (sized-≤ (lit≤ tt) (count_sized _ (le_trans {m = 25} (omega (arith, c.requires.2)) (lit≤ tt)))),
  rw (c.exact-count.ensures.figure_value, c.of_whole.ensures)
      (of_whole_above _ (omega arith)),
)

pub minus-requires : goal.minus-requires
minus-requires g c = (
  rw (c.exact.ensures.figure_value, c.of_whole-2.ensures) (sized-≤ (lit≤ tt) (of_whole_sized 1 (lit≤ tt))),
  rw (c.divided-b.ensures.figure_value, c.times.ensures.figure_value, c.exact-count.ensures.figure_value, c.of_whole.ensures)
      (sized-≤ (lit≤ tt) (divided_up_sized (times_up_sized c.requires.0 c.requires.1)
      (count_sized _ (le_trans {m = 25} (omega (arith, c.requires.2)) (lit≤ tt))) (of_whole_above _ (omega arith)))),
)

pub returns : goal.returns
unfolding last_of last_of_kept
returns g c = λ t a l m above rates.
    subst (λ b. g.A.Arithmetic.Is c.minus.result (minus_down (of_whole 1) (divided_up (times_up t a) (of_whole (c.args.k + 1)))) b) (four l m _ _ _)
    (rw (c.of_whole.ensures, c.of_whole-2.ensures) at (c.minus.ensures.mark_value _ _ _ _ c.exact.ensures.mark_value
    (c.divided-b.ensures.mark_value _ _ _ _ (c.times.ensures.mark_value _ _ _ _ above rates) c.exact-count.ensures.mark_value)))
