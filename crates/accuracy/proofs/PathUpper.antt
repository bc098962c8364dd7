-- The rounded upper of a path of at most 24 steps is at or above the exact one, by at most 19 roundings a step. Assumes nothing.
use mathlib.Core.Path.{◌≡◌}
use mathlib.Core.List.{[], ◌∷◌}
use Prim.Native.Nat.{ℕ, suc, ◌+◌, ◌*◌, ◌^◌, ◌≤◌, ◌<◌}
use native.Mathlib.Nat.{le_trans}
use native.Mathlib.Omega.{arith}
use lib.Dec.{lit≤}
use lib.ListN.{length}
use Rattle.fraction.proofs.Ratio.{Ratio, ⊗_assoc}
use Rattle.figure.specs.declared.Figure.{Figure}
use Rattle.word.specs.Model.{Transition, Model}
use Rattle.word.specs.Internal.Lists.{Each}
use Rattle.model.specs.Internal.Valid.{ValidManner, Valid}
use Rattle.tree.specs.Paths.{Path, Class, class1, class2, class3, class, class1_count, counts_1}
use Rattle.tree.specs.Upper.{upper_step, upper}
use Rattle.tree.proofs.Positive.{ValidSteps}
use Rattle.tree.proofs.Ranges.{class1_count-≤}
use Rattle.accuracy.proofs.Near.{Near, near_exact, near-≤, near-≈, near_times, near_by_whole, near_whole}
use Rattle.accuracy.proofs.ExactStates.{timeᴺ}
use Rattle.accuracy.proofs.ExactSteps.{stepᴺ, steppedᴺ}
use Rattle.accuracy.proofs.ExactUpper.{upper_valueᴺ, upperᴺ}
use Rattle.accuracy.proofs.RoundedStates.{quantity_near, share_figure_is, mean_near}

-- a number of class 1 steps has at most nine digits
pub short_count : (n k : ℕ) → k ≤ n → n ≤ 24 → suc k < 10 ^ 9
short_count n k h l = le_trans {m = 26} (omega arith) (lit≤ tt)

module _ {m : Model} (valid : Valid m) where
  -- class 1 costs three roundings, class 2 one, class 3 two and the 17 of h
  upper_step_near : (c : Class) (k n : ℕ) (t : Transition) (u : Figure) (x : Ratio) → suc k < 10 ^ 9 → ValidManner t.manner → Near n u x
      → Near (n + 19) (upper_step m.net c (counts_1 c + k) t u) (stepᴺ (timeᴺ m.net) (upper_valueᴺ m.net) c (counts_1 c + k) t x)
  unfolding upper_step
  upper_step_near class1 k n t u x l w p = let e : 1 + k ≡ suc k = omega arith in
      rw e (near-≤ (n + 19) (omega arith) (near_by_whole k l
      (near_times (near_times p (near_exact (share_figure_is t.manner w))) (quantity_near valid.time))))
  upper_step_near class2 k n t u x l w p = near-≤ (n + 19) (omega arith) (near_times p (near_exact (share_figure_is t.manner w)))
  upper_step_near class3 k n t u x l w p =
      near-≤ (n + 19) (omega arith) (near-≈ (⊗_assoc x _ _)
      (near_times (near_times p (near_exact (share_figure_is t.manner w))) (mean_near valid t.from)))

  steps_near : (p : Path) → ValidSteps p → length p ≤ 24 → Near (length p * 19) (upper m.net p) (upperᴺ m.net p)
  unfolding upper upperᴺ steppedᴺ Each class1_count
  steps_near [] w l = near_whole 1 (lit≤ tt)
  steps_near (t ∷ p) w l = let e : suc (length p) * 19 ≡ length p * 19 + 19 = omega arith in
      rw e (upper_step_near (class m.net t) (class1_count m.net p) (length p * 19) t (upper m.net p) _
      (short_count (length p) _ (class1_count-≤ m.net p) (omega arith)) w.0 (steps_near p w.1 (omega arith)))

  pub upper_near : (p : Path) → ValidSteps p → length p ≤ 24 → Near 456 (upper m.net p) (upperᴺ m.net p)
  upper_near p w l = near-≤ 456 (omega arith) (steps_near p w l)
