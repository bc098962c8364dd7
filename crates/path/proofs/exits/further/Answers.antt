-- `further` meets its contract: every figure on the way is an operand, and the operations' marks come one after the other. Assumes nothing.
use mathlib.Core.Path.{subst}
use lib.Dec.{lit≤}
use Rattle.figure.specs.Operations.{times_up, divided_up}
use Rattle.figure.proofs.Sized.{sized-≤, times_up_sized}
use Rattle.path.specs.Internal.Exits.{upper_by}
use Rattle.path.specs.Internal.Marks.{upper_by_kept}
use Rattle.path.proofs.Regrouped.{three, between}
use Rattle.path.proofs.exits.further.Goals as goal

pub times-requires : goal.times-requires
times-requires g c = (
  rw c.times-by_share.ensures.figure_value (sized-≤ (lit≤ tt) (times_up_sized c.requires.0 c.requires.1)),
  sized-≤ (lit≤ tt) c.requires.3,
)

pub divided-requires : goal.divided-requires
divided-requires g c = (
  rw (c.times.ensures.figure_value, c.times-by_share.ensures.figure_value)
      (sized-≤ (lit≤ tt) (times_up_sized (times_up_sized c.requires.0 c.requires.1) c.requires.3)),
  sized-≤ (lit≤ tt) c.requires.4,
  c.requires.5,
)

pub times-requires-in-Class3 : goal.times-requires-in-Class3
times-requires-in-Class3 g c = (
  rw c.times-by_share.ensures.figure_value (sized-≤ (lit≤ tt) (times_up_sized c.requires.0 c.requires.1)),
  sized-≤ (lit≤ tt) c.requires.2,
)

pub returns-in-Class1 : goal.returns-in-Class1
unfolding upper_by upper_by_kept
returns-in-Class1 g c = λ n u s m t k h nth upper share mean time. rw c.in-Class1.is
    (subst (λ b. g.A.Arithmetic.Is c.divided.result (divided_up (times_up (times_up u s) t) n) b) (three k _ _ _)
    (c.divided.ensures.mark_value _ _ _ _ (c.times.ensures.mark_value _ _ _ _ (c.times-by_share.ensures.mark_value _ _ _ _ upper share) time) nth))

pub returns-in-Class2 : goal.returns-in-Class2
unfolding upper_by upper_by_kept
returns-in-Class2 g c = λ n u s m t k h nth upper share mean time. rw c.in-Class2.is (c.times-by_share.ensures.mark_value _ _ _ _ upper share)

pub returns-in-Class3 : goal.returns-in-Class3
unfolding upper_by upper_by_kept
returns-in-Class3 g c = λ n u s m t k h nth upper share mean time. rw c.in-Class3.is
    (subst (λ b. g.A.Arithmetic.Is c.times-in-Class3.result (times_up (times_up u s) m) b) (between k _ h _)
    (c.times-in-Class3.ensures.mark_value _ _ _ _ (c.times-by_share.ensures.mark_value _ _ _ _ upper share) mean))
