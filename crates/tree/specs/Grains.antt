-- Document 01, "Figures and their rounding", Grains. "One grain is T / 1,000,000"; class 2 and 3 steps have n grains each.
-- Assumes nothing: these are definitions.
use Rattle.std.specs.Prelude.{ℕ, zero, suc, ◌+◌, ◌/◌, ◌^◌, ◌≤◌, ◌<◌, Bool, true, false, [], ◌∷◌, T, leb, pos}
use Rattle.fraction.specs.Fraction.{whole, at_most}
use Rattle.figure.specs.declared.Figure.{Figure}
use Rattle.figure.specs.Rounding.{value}
use Rattle.figure.specs.Operations.{times_up, times_down, divided_up, times_ten, of_whole}
use Rattle.word.specs.declared.Quantity.{Quantity}
use Rattle.word.specs.Model.{Manner, slow, fast, Transition, Net}
use Rattle.tree.specs.Paths.{Path, Class, class1, class2, class3, class}
use Rattle.tree.specs.States.{mission_time, time_squared, second_moment, mean_down, moment_sum}

-- n is the least whole number from 1 on that passes a test, or `top` if none below it passes
pub record Least (test : ℕ → Bool) (top n : ℕ) : Type 0 where
  pub positive : 1 ≤ n
  pub bounded : n ≤ top
  pub passes : n < top → T (test n)
  pub first : (i : ℕ) → 1 ≤ i → i < n → T (test i) → ⊥

-- The least number above `low` and up to `high` that passes a test that stays passed, by halving: a search from 1 on would take a million
-- steps. `fuel` bounds the halvings. That `least` below is the least in the sense of `Least` is `LeastIsLeast` (crates/tree/specs/Faithful.antt).
unfoldable pub halve : ℕ → (ℕ → Bool) → ℕ → ℕ → ℕ
halve zero test low high = high
halve (suc fuel) test low high =
    elim (leb high (low + 1)) [
      | true ↦ high
      | false ↦ elim (test ((low + high) / 2)) [ true ↦ halve fuel test low ((low + high) / 2) | false ↦ halve fuel test ((low + high) / 2) high ]
    ]

-- "n³ at or above g" and "n² at or above g"
unfoldable pub reaches : ℕ → Figure → ℕ → Bool
reaches e g n = at_most (value g) (whole (n ^ e))

-- "n is the least whole number with n³ at or above g, .. Either is 1,000,000 if none below it will do"
unfoldable pub least : ℕ → Figure → ℕ
least e g = halve 20 (reaches e g) 0 1000000

-- "g = 10^18 × up(up(2 × M) / T2)"
unfoldable pub class2_goal : Net → Quantity → Quantity → Figure
class2_goal net m d = times_ten (divided_up (times_up (of_whole 2) (second_moment m d)) (time_squared net)) (pos 18)

-- "g = 10^12 × up(H / down(h' × T))"
unfoldable pub class3_goal : Net → ℕ → Figure
class3_goal net s = times_ten (divided_up (moment_sum net s) (times_down (mean_down net s) (mission_time net))) (pos 12)

unfoldable pub class2_grains : Net → Manner → ℕ
class2_grains net (slow r) = 0
class2_grains net (fast m d q) = least 3 (class2_goal net m d)

unfoldable pub class3_grains : Net → ℕ → ℕ
class3_grains net s = least 2 (class3_goal net s)

-- the grains of a step by its class; a class 1 step has none
unfoldable pub grains_by : Net → Class → Transition → ℕ
grains_by net class1 t = 0
grains_by net class2 t = class2_grains net t.manner
grains_by net class3 t = class3_grains net t.from

-- The grains of a step on a path. In edition 1 they depend on the step alone.
unfoldable pub grains : Net → Path → Transition → ℕ
grains net p t = grains_by net (class net t) t

-- N', the sum of the grains of a path's class 2 and 3 steps; g gives each step's
abbrev pub grains_in : Class → ℕ → ℕ
grains_in class1 n = 0
grains_in class2 n = n
grains_in class3 n = n

unfoldable pub grain_sum : Net → (Transition → ℕ) → Path → ℕ
grain_sum net g [] = 0
grain_sum net g (t ∷ p) = grains_in (class net t) (g t) + grain_sum net g p
