-- Wherever the definitions divide, in a model that was accepted, the divisor is positive: k, k + 1, 2, T2, h' × T, n² × T2 and n × T. Assumes
-- nothing.
use Prim.Native.Nat.{ℕ, ◌+◌, ◌^◌, ◌≤◌, ◌<◌}
use mathlib.Core.Path.{◌≡◌, refl, ap}
use mathlib.Core.Bool.{Bool, true, false}
use mathlib.Core.List.{◌∷◌}
use native.Mathlib.Omega.{arith}
use native.Mathlib.Nat.{one-le-pow}
use Rattle.figure.specs.Operations.{times_down, of_whole}
use Rattle.figure.proofs.Positive.{Above, times_down_above, of_whole_above}
use Rattle.word.specs.Model.{Manner, slow, fast, Transition, Net, Model, exits, has_fast}
use Rattle.model.specs.Internal.Valid.{Valid}
use Rattle.model.proofs.ReadValid.{read_valid}
use Rattle.tree.specs.Paths.{Path, class1, class3, class_of, class, counts_1, class1_count}
use Rattle.tree.specs.States.{mission_time, time_squared, mean_down}
use Rattle.tree.specs.Faithful.{NoZeroDivisor}
use Rattle.tree.proofs.Steps.{class1_count_more}
use Rattle.tree.proofs.Quantities.{quantity_above}
use Rattle.tree.proofs.Positive.{mean_down_above}

-- ---- k and k + 1

pub class1_count_low : (net : Net) (t : Transition) (p : Path) → class net t ≡ class1 → 0 < class1_count net (t ∷ p)
class1_count_low net t p e = omega (arith, class1_count_more net t p, ap counts_1 e)

-- "divided by k, its number among class 1 steps so far"
pub number_above : (net : Net) (t : Transition) (p : Path) → class net t ≡ class1 → Above (of_whole (class1_count net (t ∷ p)))
number_above net t p e = of_whole_above _ (class1_count_low net t p e)

-- "/ (k + 1)"
pub number_more_above : (net : Net) (p : Path) → Above (of_whole (class1_count net p + 1))
number_more_above net p = of_whole_above _ (omega arith)

-- a class 3 step leaves a state with fast exits
pub class3_has_fast : (net : Net) (t : Transition) → class net t ≡ class3 → has_fast (exits net t.from) ≡ true
unfolding class
class3_has_fast net t = go (has_fast (exits net t.from)) t.manner
  where
    go : (b : Bool) (x : Manner) → class_of b x ≡ class3 → b ≡ true
    go true x e = refl
    go false (slow r) e = let z : ◌≡◌ {A = ℕ} 0 1 = cc in absurd (omega arith)
    go false (fast m d q) e = let z : ◌≡◌ {A = ℕ} 0 1 = cc in absurd (omega arith)

-- ---- the divisors of an accepted model

module _ {m : Model} (valid : Valid m) where
  -- T
  pub time_above : Above (mission_time m.net)
  time_above = quantity_above valid.time

  -- T2
  pub time_squared_above : Above (time_squared m.net)
  unfolding time_squared
  time_squared_above = times_down_above (mission_time m.net) (mission_time m.net) time_above time_above

  -- down(h' × T)
  pub mean_time_above : (s : ℕ) → has_fast (exits m.net s) ≡ true → Above (times_down (mean_down m.net s) (mission_time m.net))
  mean_time_above s h = times_down_above (mean_down m.net s) (mission_time m.net) (mean_down_above valid s h) time_above

  -- down(down(n²) × T2)
  pub square_time_above : (n : ℕ) → 1 ≤ n → Above (times_down (of_whole (n ^ 2)) (time_squared m.net))
  square_time_above n h = times_down_above (of_whole (n ^ 2)) (time_squared m.net) (of_whole_above (n ^ 2) (one-le-pow 2 n h)) time_squared_above

  -- down(n × T)
  pub grains_time_above : (n : ℕ) → 1 ≤ n → Above (times_down (of_whole n) (mission_time m.net))
  grains_time_above n h = times_down_above (of_whole n) (mission_time m.net) (of_whole_above n h) time_above

pub no_zero_divisor : NoZeroDivisor
no_zero_divisor ws budget m e =
    let valid = read_valid ws budget m e in
    record {
      number = number_above m.net;
      number_more = number_more_above m.net;
      time_square = time_squared_above valid;
      mean_by_time = mean_time_above valid;
      square_by_time = square_time_above valid;
      grains_by_time = grains_time_above valid;
    }
