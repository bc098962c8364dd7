-- A transition as the table has it: what is read of it, and of the state that it leaves, is its own, and in range. Assumes nothing.
use Prim.Native.Nat.{ℕ, ◌≤◌, ◌<◌}
use mathlib.Core.Path.{◌≡◌, ◌∙◌}
use mathlib.Core.Bool.{Bool}
use mathlib.Core.List.{[]}
use native.Mathlib.Omega.{arith}
use lib.ListN.{length}
use Rattle.figure.specs.declared.Figure.{Figure}
use Rattle.figure.specs.Operands.{Sized}
use Rattle.word.specs.Model.{Transition}
use Rattle.model.specs.Index.{transition}
use Rattle.model.specs.Internal.Valid.{ValidTransition, Valid}
use Rattle.tree.specs.Paths.{class}
use Rattle.tree.specs.States.{rate_sum, mean_up}
use Rattle.tree.specs.Marks.{rate_sum_kept, mean_up_kept}
use Rattle.tree.specs.Upper.{share}
use Rattle.tree.proofs.Least.{grains_high}
use Rattle.tree.proofs.Ranges.{share_sized, rate_sum_sized, mean_up_sized}
use Rattle.tables.specs.Internal.Tables.{step_factor, grain_count_in, rate_sum_in, rate_sum_kept_in, mean_up_in, mean_up_kept_in}
use Rattle.tables.proofs.Classes.{step_valid}
use Rattle.path.specs.Internal.Lent.{Lent, Filled, model_in, net_in}
use Rattle.path.specs.Internal.Paths.{own_grains}
use Rattle.path.proofs.PathSums.{step_factor_sized}

module _ {l : Lent} (filled : Filled l) {j : ℕ} (inside : j < length (net_in l).table) where
  abbrev step : Transition
  step = transition (net_in l) j

  valid : Valid (model_in l)
  valid = filled.indexes.valid

  step_fine : ValidTransition (model_in l).states step
  step_fine = step_valid valid inside

  -- ---- ranges

  pub share_fine : Sized 9 40 (share step.manner)
  share_fine = share_sized step.manner step_fine.manner

  pub factor_fine : Sized 9 1200 (step_factor (net_in l) (class (net_in l) step) step)
  factor_fine = step_factor_sized valid step step_fine.manner

  pub rate_fine : Sized 9 500 (rate_sum (net_in l) step.from)
  rate_fine = rate_sum_sized valid step.from

  pub mean_fine : Sized 9 500 (mean_up (net_in l) step.from)
  mean_fine = mean_up_sized valid step.from

  pub grains_high_held : own_grains (net_in l) step ≤ 1000000
  grains_high_held = grains_high (net_in l) [] step

  -- ---- what is read

  pub grains_held : {n : ℕ} → n ≡ grain_count_in l.table j → n ≡ own_grains (net_in l) step
  grains_held is = is ∙ filled.tabled.steps.grain_counts j inside

  -- the state that it leaves is one of the model's
  pub left_fine : {s : ℕ} → s ≡ step.from → (1 ≤ s) × (s ≤ (model_in l).states)
  left_fine leaves = rw leaves (step_fine.from_low, step_fine.from_high)

-- ---- what is read of a state

module _ {l : Lent} (filled : Filled l) {s : ℕ} (inside : (1 ≤ s) × (s ≤ (model_in l).states)) where
  pub state_held_small : s < 1001
  state_held_small = omega (arith, inside.1, filled.indexes.valid.states_high)

  pub rate_held : {f : Figure} → f ≡ rate_sum_in l.table s → f ≡ rate_sum (net_in l) s
  rate_held is = is ∙ filled.tabled.states.rate_sums s inside.0 inside.1

  pub rate_kept_held : {b : Bool} → b ≡ rate_sum_kept_in l.table s → b ≡ rate_sum_kept (net_in l) s
  rate_kept_held is = is ∙ filled.tabled.states.rate_sums_kept s inside.0 inside.1

  pub mean_held : {f : Figure} → f ≡ mean_up_in l.table s → f ≡ mean_up (net_in l) s
  mean_held is = is ∙ filled.tabled.states.means_up s inside.0 inside.1

  pub mean_kept_held : {b : Bool} → b ≡ mean_up_kept_in l.table s → b ≡ mean_up_kept (net_in l) s
  mean_kept_held is = is ∙ filled.tabled.states.means_up_kept s inside.0 inside.1
