-- What is above 0: the results of operations on figures above 0, whole numbers and quantities. Assumes nothing.
use mathlib.Core.Logic.{◌⊎◌, ⊎_elim}
use Prim.Native.Nat.{ℕ, ◌^◌, ◌<◌}
use Rattle.fraction.proofs.Ratio.{◌⊕◌, ◌⊗◌, ≼-⊕, ≼_trans, ≈_le, ⊕_comm, ⊗_pos, ofℕ_pos, pos-≼}
use Rattle.fraction.proofs.Inverse.{over_pos}
use Rattle.fraction.proofs.Signed.{signed_whole, signed_ratio}
use Rattle.figure.specs.declared.Figure.{Figure}
use Rattle.figure.specs.Operations.{times_up, times_down, plus_up, plus_down, of_whole, of_quantity}
use Rattle.figure.proofs.Scale.{pow_pos, multiple_pos}
use Rattle.figure.proofs.Value.{val}
use Rattle.figure.proofs.Up.{up_pos}
use Rattle.figure.proofs.Down.{down_pos}
use Rattle.figure.proofs.Operations.{value_times, value_plus}

-- a figure above 0 has digits above 0
abbrev pub Above : Figure → Type 0
Above f = 0 < f.digits

val_pos : (f : Figure) → Above f → 0 < (val f).num
val_pos f h = multiple_pos f.digits f.power h

module _ (a b : Figure) where
  product_pos : Above a → Above b → 0 < (val a ⊗ val b).num
  product_pos p q = ⊗_pos (val a) (val b) (val_pos a p) (val_pos b q)

  pub times_up_above : Above a → Above b → Above (times_up a b)
  unfolding times_up
  times_up_above p q = rw (value_times a b) (up_pos 8 (val a ⊗ val b) (product_pos p q))

  pub times_down_above : Above a → Above b → Above (times_down a b)
  unfolding times_down
  times_down_above p q = rw (value_times a b) (down_pos 8 (val a ⊗ val b) (product_pos p q))

  -- of a sum, one term is enough
  sum_pos : Above a ⊎ Above b → 0 < (val a ⊕ val b).num
  sum_pos h = ⊎_elim (λ p. pos-≼ (≼-⊕ (val a) (val b)) (val_pos a p))
      (λ q. pos-≼ (≼_trans (≼-⊕ (val b) (val a)) (≈_le (⊕_comm (val b) (val a)))) (val_pos b q)) h

  pub plus_up_above : Above a ⊎ Above b → Above (plus_up a b)
  unfolding plus_up
  plus_up_above h = rw (value_plus a b) (up_pos 8 (val a ⊕ val b) (sum_pos h))

  pub plus_down_above : Above a ⊎ Above b → Above (plus_down a b)
  unfolding plus_down
  plus_down_above h = rw (value_plus a b) (down_pos 8 (val a ⊕ val b) (sum_pos h))

pub of_whole_above : (n : ℕ) → 0 < n → Above (of_whole n)
unfolding of_whole
of_whole_above n h = rw (← signed_whole n) (down_pos 8 _ (ofℕ_pos h))

pub of_quantity_above : (c p : ℕ) → 0 < c → Above (of_quantity c p)
unfolding of_quantity
of_quantity_above c p h = rw (← signed_ratio c (10 ^ p)) (up_pos 8 _ (over_pos c (10 ^ p) h (pow_pos p)))
