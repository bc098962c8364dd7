-- Document 01, "Figures and their rounding": what is summed over the exits of a state, rounded. "Sums go from the first term: over exits in table
-- order". "E, M (squares first), h, H .. round up; h is also had rounding down, called h'. T2 is down(T × T)."
-- Assumes nothing: these are definitions.
use Rattle.std.specs.Prelude.{ℕ}
use mathlib.Core.List.{List, foldl}
use Rattle.figure.specs.declared.Figure.{Figure}
use Rattle.figure.specs.Rounding.{none}
use Rattle.figure.specs.Operations.{times_up, times_down, plus_up, plus_down, of_quantity}
use Rattle.word.specs.declared.Quantity.{Quantity}
use Rattle.word.specs.Model.{Manner, slow, fast, Transition, Net, exits}

-- a quantity as a figure, which is exact
abbrev pub figure_of : Quantity → Figure
figure_of q = of_quantity q.coefficient q.scale

-- T
abbrev pub mission_time : Net → Figure
mission_time net = figure_of net.time

-- "T2 is down(T × T)."
unfoldable pub time_squared : Net → Figure
time_squared net = times_down (mission_time net) (mission_time net)

-- "For a fast exit with mean m, deviation d, ..: M = m² + d²", "squares first"
unfoldable pub second_moment : Quantity → Quantity → Figure
second_moment m d = plus_up (times_up (figure_of m) (figure_of m)) (times_up (figure_of d) (figure_of d))

-- a sum over exits: what each adds to the sum so far
unfoldable pub sum_over : {A : Type 0} → (A → Manner → A) → A → List Transition → A
sum_over add a ts = foldl (λ b t. add b t.manner) a ts

abbrev pub add_rate : Figure → Manner → Figure
add_rate a (slow r) = plus_up a (figure_of r)
add_rate a (fast m d q) = a

abbrev pub add_mean_up : Figure → Manner → Figure
add_mean_up a (slow r) = a
add_mean_up a (fast m d q) = plus_up a (times_up (figure_of q) (figure_of m))

abbrev pub add_mean_down : Figure → Manner → Figure
add_mean_down a (slow r) = a
add_mean_down a (fast m d q) = plus_down a (times_down (figure_of q) (figure_of m))

abbrev pub add_moment : Figure → Manner → Figure
add_moment a (slow r) = a
add_moment a (fast m d q) = plus_up a (times_up (figure_of q) (second_moment m d))

-- "E is the sum of all its slow rates, the step's own included"
unfoldable pub rate_sum : Net → ℕ → Figure
rate_sum net s = sum_over add_rate none (exits net s)

-- "h = sum of q × m", rounding up
unfoldable pub mean_up : Net → ℕ → Figure
mean_up net s = sum_over add_mean_up none (exits net s)

-- h', the same rounding down
unfoldable pub mean_down : Net → ℕ → Figure
mean_down net s = sum_over add_mean_down none (exits net s)

-- "H = sum of q × M"
unfoldable pub moment_sum : Net → ℕ → Figure
moment_sum net s = sum_over add_moment none (exits net s)
