-- The tip of a path one step further: the number that U may be divided by is in range, and the results go by the class of the step. Assumes nothing.
use Prim.Native.Nat.{ℕ, ◌+◌, ◌≤◌, ◌<◌}
use mathlib.Core.Path.{◌≡◌, refl, ap}
use native.Mathlib.Nat.{le_trans, add_comm}
use lib.Dec.{lit≤}
use Rattle.figure.specs.declared.Figure.{Figure}
use Rattle.figure.specs.Operands.{Sized}
use Rattle.figure.specs.Operations.{of_whole}
use Rattle.figure.proofs.Sized.{sized-≤}
use Rattle.word.specs.Model.{Transition, Net}
use Rattle.tree.specs.Paths.{Class, class1, class2, class3, class, counts_1}
use Rattle.tree.specs.States.{mission_time, mean_up}
use Rattle.tree.specs.Upper.{share, upper_step}
use Rattle.tree.proofs.Positive.{of_whole_above}
use Rattle.tree.proofs.Ranges.{count_sized}
use Rattle.path.specs.declared.exits.Tip.{Tip}
use Rattle.path.specs.Internal.Exits.{upper_by, tip_by, tip_after}

-- ---- the number of the next class 1 step

pub divisor : (k : ℕ) {f : Figure} → 0 < k → k ≤ 24 → f ≡ of_whole k → Sized 9 2000 f × (0 < f.digits)
divisor k low high e = rw e (sized-≤ (lit≤ tt) (count_sized k (le_trans high (lit≤ tt))), of_whole_above k low)

-- ---- the tip

module _ (tip : Tip) (x : Class) (to : ℕ) (s m t : Figure) where
  pub tip_made : {n u : Figure} {k : ℕ} → n ≡ of_whole (tip.ones + 1) → u ≡ upper_by x n tip.upper s m t → k ≡ counts_1 x
      → ◌≡◌ {A = Tip} (record { state = to; upper = u; ones = k + tip.ones; len = tip.len + 1 }) (tip_by tip x to s m t)
  unfolding tip_by
  tip_made nth is ones = rw (is, nth, ones) refl

-- by a transition's class, state, share, h and T, the tip is the definition's
pub tip_by_transition : (net : Net) (t : Transition) (tip : Tip)
    → tip_by tip (class net t) t.to (share t.manner) (mean_up net t.from) (mission_time net) ≡ tip_after net t tip
unfolding tip_by tip_after upper_by upper_step
tip_by_transition net t tip =
    ap (λ u. record { state = t.to; upper = u; ones = counts_1 (class net t) + tip.ones; len = tip.len + 1 }) (go (class net t))
  where
    go : (c : Class) → upper_by c (of_whole (tip.ones + 1)) tip.upper (share t.manner) (mean_up net t.from) (mission_time net)
        ≡ upper_step net c (counts_1 c + tip.ones) t tip.upper
    go class1 = ap (λ k. upper_by class1 (of_whole k) tip.upper (share t.manner) (mean_up net t.from) (mission_time net)) (add_comm tip.ones 1)
    go class2 = refl
    go class3 = refl
