-- The rounded values of quantities and states against the exact ones, in roundings. A state of a valid model has at most 16 exits, so E errs by
-- at most 16 roundings, h by 17 and H by 19. Assumes nothing.
use Prim.Native.Nat.{ℕ, ◌+◌, ◌^◌, ◌≤◌, ◌<◌}
use native.Mathlib.Omega.{arith}
use lib.ListN.{length}
use Rattle.fraction.proofs.Ratio.{Ratio, ◌≈◌, ofℕ, ⊗_zero}
use Rattle.fraction.proofs.Inverse.{over_pos}
use Rattle.figure.specs.declared.Figure.{Figure}
use Rattle.figure.specs.Rounding.{none}
use Rattle.figure.proofs.Value.{val}
use Rattle.figure.proofs.Scale.{pow_pos}
use Rattle.word.specs.declared.Quantity.{Quantity}
use Rattle.word.specs.Model.{Manner, slow, fast, Model, exits}
use Rattle.model.specs.Internal.Valid.{InRange, ValidManner, Valid}
use Rattle.tree.specs.States.{figure_of, second_moment, sum_over, add_rate, add_mean_up, add_mean_down, add_moment, rate_sum, mean_up, mean_down, moment_sum}
use Rattle.tree.specs.Upper.{share}
use Rattle.tree.proofs.Quantities as tree
use Rattle.tree.proofs.Positive.{exits_valid}
use Rattle.accuracy.proofs.Folds.{fold_count}
use Rattle.accuracy.proofs.Near.{Near, near_exact, near-≤, near_times, near_plus, near_add, near_keep}
use Rattle.accuracy.proofs.Under.{Under, under_exact, under-≤, under_times, under_add, under_keep}
use Rattle.accuracy.proofs.ExactStates.{exactᴺ, momentᴺ, shareᴺ, add_rateᴺ, add_meanᴺ, add_momentᴺ, rate_sumᴺ, meanᴺ, moment_sumᴺ}

-- ---- quantities are exact

module _ {least most : ℕ} {q : Quantity} (h : InRange least most q) where
  pub figure_is : val (figure_of q) ≈ exactᴺ q
  unfolding exactᴺ
  figure_is = tree.figure_is h

  pub quantity_near : Near 0 (figure_of q) (exactᴺ q)
  quantity_near = near_exact figure_is

  pub quantity_under : Under 0 (figure_of q) (exactᴺ q)
  quantity_under = under_exact figure_is

pub quantity_pos : {most : ℕ} {q : Quantity} → InRange 1 most q → 0 < (exactᴺ q).num
unfolding exactᴺ
quantity_pos {q = q} h = over_pos q.coefficient (10 ^ q.scale) h.low (pow_pos q.scale)

pub share_figure_is : (x : Manner) → ValidManner x → val (share x) ≈ shareᴺ x
unfolding ValidManner
share_figure_is (slow r) h = figure_is h
share_figure_is (fast m d q) h = figure_is h.1.1

pub moment_near : {m d : Quantity} → InRange 1 20 m → InRange 0 20 d → Near 2 (second_moment m d) (momentᴺ m d)
unfolding second_moment momentᴺ
moment_near h k = near-≤ 2 (omega arith) (near_plus (near_times (quantity_near h) (quantity_near h)) (near_times (quantity_near k) (quantity_near k)))

-- ---- sums over the exits of a state

module _ {m : Model} (valid : Valid m) (s : ℕ) where
  -- Terms that err by n: the sum over the exits errs by at most n + 16. `R` is `Near` or `Under`.
  exits_sum : (R : ℕ → Figure → Ratio → Type 0) → ((j k : ℕ) (f : Figure) (x : Ratio) → j ≤ k → R j f x → R k f x)
      → (add : Figure → Manner → Figure) (addᴺ : Ratio → Manner → Ratio) (n : ℕ)
      → ((k : ℕ) (f : Figure) (x : Ratio) (y : Manner) → ValidManner y → n ≤ k → R k f x → R (k + 1) (add f y) (addᴺ x y))
      → R n none (ofℕ 0) → R (n + 16) (sum_over add none (exits m.net s)) (sum_over addᴺ (ofℕ 0) (exits m.net s))
  unfolding sum_over
  exits_sum R wider add addᴺ n step start = wider (n + length (exits m.net s)) (n + 16) _ _ (omega (arith, valid.few_exits s))
      (fold_count R (λ t. ValidManner t.manner) (λ a t. add a t.manner) (λ a t. addᴺ a t.manner) n
      (λ k f x t w h p. step k f x t.manner w h p) n (exits m.net s) (exits_valid valid s) (omega arith) start)

  near_exits : (add : Figure → Manner → Figure) (addᴺ : Ratio → Manner → Ratio) (n : ℕ)
      → ((k : ℕ) (f : Figure) (x : Ratio) (y : Manner) → ValidManner y → n ≤ k → Near k f x → Near (k + 1) (add f y) (addᴺ x y))
      → Near (n + 16) (sum_over add none (exits m.net s)) (sum_over addᴺ (ofℕ 0) (exits m.net s))
  near_exits add addᴺ n step = exits_sum Near (λ j k f x h p. near-≤ k h p) add addᴺ n step (near-≤ n (omega arith) (near_exact (⊗_zero _)))

  pub rate_sum_near : Near 16 (rate_sum m.net s) (rate_sumᴺ m.net s)
  unfolding rate_sum rate_sumᴺ ValidManner
  rate_sum_near = near_exits add_rate add_rateᴺ 0 step
    where
      step : (k : ℕ) (f : Figure) (x : Ratio) (y : Manner) → ValidManner y → 0 ≤ k → Near k f x → Near (k + 1) (add_rate f y) (add_rateᴺ x y)
      step k f x (slow r) w h p = near_add h p (quantity_near w)
      step k f x (fast m d q) w h p = near_keep p

  pub mean_near : Near 17 (mean_up m.net s) (meanᴺ m.net s)
  unfolding mean_up meanᴺ ValidManner
  mean_near = near_exits add_mean_up add_meanᴺ 1 step
    where
      step : (k : ℕ) (f : Figure) (x : Ratio) (y : Manner) → ValidManner y → 1 ≤ k → Near k f x → Near (k + 1) (add_mean_up f y) (add_meanᴺ x y)
      step k f x (slow r) w h p = near_keep p
      step k f x (fast m d q) w h p = near_add h p (near_times (quantity_near w.1.1) (quantity_near w.0))

  pub moment_sum_near : Near 19 (moment_sum m.net s) (moment_sumᴺ m.net s)
  unfolding moment_sum moment_sumᴺ ValidManner
  moment_sum_near = near_exits add_moment add_momentᴺ 3 step
    where
      step : (k : ℕ) (f : Figure) (x : Ratio) (y : Manner) → ValidManner y → 3 ≤ k → Near k f x → Near (k + 1) (add_moment f y) (add_momentᴺ x y)
      step k f x (slow r) w h p = near_keep p
      step k f x (fast m d q) w h p = near_add h p (near_times (quantity_near w.1.1) (moment_near w.0 w.1.0))

  pub mean_under : Under 17 (mean_down m.net s) (meanᴺ m.net s)
  unfolding mean_down meanᴺ ValidManner
  mean_under = exits_sum Under (λ j k f x h p. under-≤ k h p) add_mean_down add_meanᴺ 1 step (under-≤ 1 (omega arith) (under_exact (⊗_zero _)))
    where
      step : (k : ℕ) (f : Figure) (x : Ratio) (y : Manner) → ValidManner y → 1 ≤ k → Under k f x → Under (k + 1) (add_mean_down f y) (add_meanᴺ x y)
      step k f x (slow r) w h p = under_keep p
      step k f x (fast m d q) w h p = under_add h p (under_times (quantity_under w.1.1) (quantity_under w.0))
