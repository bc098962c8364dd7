-- Document 01, "Figures and their rounding": the rounded lower of a death path. Assumes nothing: these are definitions.
use Rattle.std.specs.Prelude.{ℕ, ◌+◌, ◌^◌, true, false, [], ◌∷◌, leb, pos}
use Rattle.fraction.specs.Fraction.{Fraction, whole, ratio, ◌-ᶠ◌, ◌*ᶠ◌, ◌/ᶠ◌}
use Rattle.figure.specs.declared.Figure.{Figure}
use Rattle.figure.specs.Rounding.{none, up, down}
use Rattle.figure.specs.Operations.{times_up, times_down, plus_up, minus_down, divided_up, divided_down, times_ten, of_whole}
use Rattle.word.specs.declared.Quantity.{Quantity}
use Rattle.word.specs.Model.{Manner, slow, fast, Transition, Net}
use Rattle.tree.specs.Paths.{Path, Class, class1, class2, class3, class, class1_count}
use Rattle.tree.specs.States.{figure_of, mission_time, time_squared, second_moment, rate_sum, mean_down, moment_sum}
use Rattle.tree.specs.Upper.{share}
use Rattle.tree.specs.Grains.{grains, grain_sum}

-- a quantity's exact value c / 10^p
unfoldable pub exact : Quantity → Fraction
exact q = ratio (pos q.coefficient) (10 ^ q.scale)

-- "y = up(up(E × m) + up(M / down(down(n²) × T2) × 10^12))": what class 2 takes off, of the state s and n grains
unfoldable pub class2_loss : Net → ℕ → Quantity → Quantity → ℕ → Figure
class2_loss net s m d n =
    plus_up
    (times_up (rate_sum net s) (figure_of m))
    (times_ten (divided_up (second_moment m d) (times_down (of_whole (n ^ 2)) (time_squared net))) (pos 12))

-- "Class 3: y = up(up(up(E × H) / 2) + up(H / down(n × T)) × 10^6)"
unfoldable pub class3_loss : Net → ℕ → ℕ → Figure
class3_loss net s n =
    plus_up
    (divided_up (times_up (rate_sum net s) (moment_sum net s)) (of_whole 2))
    (times_ten (divided_up (moment_sum net s) (times_down (of_whole n) (mission_time net))) (pos 6))

-- "Class 2 factor: .. down(q × down(1 − y))"
unfoldable pub class2_factor : Net → ℕ → Manner → ℕ → Figure
class2_factor net s (slow r) n = none
class2_factor net s (fast m d q) n = times_down (figure_of q) (minus_down (of_whole 1) (class2_loss net s m d n))

-- "down(rate × down(h' − y))"
unfoldable pub class3_factor : Net → ℕ → Manner → ℕ → Figure
class3_factor net s x n = times_down (share x) (minus_down (mean_down net s) (class3_loss net s n))

-- One more step; t is down(t): "class 1 by rate, by down(t), then divided by k as above; others by their factor."
unfoldable pub lower_step : Net → Figure → Class → ℕ → ℕ → Transition → Figure → Figure
lower_step net t class1 k n x l = divided_down (times_down (times_down l (share x.manner)) t) (of_whole k)
lower_step net t class2 k n x l = times_down l (class2_factor net x.from x.manner n)
lower_step net t class3 k n x l = times_down l (class3_factor net x.from x.manner n)

-- "Lower starts at 1, rounds down, in path order"; g gives each step's grains
unfoldable pub lower_product : Net → (Transition → ℕ) → Figure → Path → Figure
lower_product net g t [] = of_whole 1
lower_product net g t (x ∷ p) = lower_step net t (class net x) (class1_count net (x ∷ p)) (g x) x (lower_product net g t p)

-- "A sums E over the class 1 steps", rounding up, in path order
abbrev pub add_rates : Class → Figure → Figure → Figure
add_rates class1 a e = plus_up a e
add_rates class2 a e = a
add_rates class3 a e = a

unfoldable pub path_rate_sum : Net → Path → Figure
path_rate_sum net [] = none
path_rate_sum net (x ∷ p) = add_rates (class net x) (path_rate_sum net p) (rate_sum net x.from)

-- "t = T × (1,000,000 − N') / 1,000,000", exact; n is N'
unfoldable pub remaining_time : Net → ℕ → Fraction
remaining_time net n = exact net.time *ᶠ (whole 1000000 -ᶠ whole n) /ᶠ whole 1000000

-- "b = up(up(up(t) × A) / (k + 1))", "Last it is multiplied by down(1 − b)"
unfoldable pub last_factor : Net → ℕ → Path → Figure
last_factor net n p = minus_down (of_whole 1) (divided_up (times_up (up 9 (remaining_time net n)) (path_rate_sum net p)) (of_whole (class1_count net p + 1)))

-- the lower of a path whose steps have the grains that g gives: "If N' is 1,000,000 or more the lower is 0."
unfoldable pub lower_with : Net → (Transition → ℕ) → Path → Figure
lower_with net g p =
    let n = grain_sum net g p in
    elim (leb 1000000 n) [ true ↦ none | false ↦ times_down (lower_product net g (down 9 (remaining_time net n)) p) (last_factor net n p) ]

unfoldable pub lower : Net → Path → Figure
lower net p = lower_with net (grains net p) p
