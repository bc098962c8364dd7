-- Document 01, "Figures and their rounding": the rounded upper U of a path. Assumes nothing: these are definitions.
use Rattle.std.specs.Prelude.{ℕ, [], ◌∷◌}
use Rattle.figure.specs.declared.Figure.{Figure}
use Rattle.figure.specs.Operations.{times_up, divided_up, of_whole}
use Rattle.word.specs.Model.{Manner, slow, fast, Transition, Net}
use Rattle.tree.specs.Paths.{Path, Class, class1, class2, class3, class, class1_count}
use Rattle.tree.specs.States.{figure_of, mission_time, mean_up}

-- the rate of a slow exit, the probability q of a fast one
abbrev pub share : Manner → Figure
share (slow r) = figure_of r
share (fast m d q) = figure_of q

-- One more step: "class 1 by rate, by T, then divided by k, its number among class 1 steps so far; class 2 by q; class 3 by rate, by h."
unfoldable pub upper_step : Net → Class → ℕ → Transition → Figure → Figure
upper_step net class1 k t u = divided_up (times_up (times_up u (share t.manner)) (mission_time net)) (of_whole k)
upper_step net class2 k t u = times_up u (share t.manner)
upper_step net class3 k t u = times_up (times_up u (share t.manner)) (mean_up net t.from)

-- "U starts at 1, rounds up"
unfoldable pub upper : Net → Path → Figure
upper net [] = of_whole 1
upper net (t ∷ p) = upper_step net (class net t) (class1_count net (t ∷ p)) t (upper net p)
