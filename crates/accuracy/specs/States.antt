-- Document 01, "Classes and the exact bounds": what is summed over the exits of a state, exactly. "For the state that is left: E is the sum of all
-- its slow rates, the step's own included (so for class 2 it is the paper's epsilon; for classes 1 and 3 on-path plus off-path)."
-- Assumes nothing: these are definitions.
use Rattle.std.specs.Prelude.{ℕ}
use Rattle.fraction.specs.Fraction.{Fraction, whole, ◌+ᶠ◌, ◌*ᶠ◌, ◌^ᶠ◌}
use Rattle.word.specs.declared.Quantity.{Quantity}
use Rattle.word.specs.Model.{Manner, slow, fast, Net, exits}
use Rattle.tree.specs.States.{sum_over}
use Rattle.tree.specs.Lower.{exact}

-- "For a fast exit with mean m, deviation d, probability q: M = m² + d²."
unfoldable pub moment : Quantity → Quantity → Fraction
moment m d = exact m ^ᶠ 2 +ᶠ exact d ^ᶠ 2

abbrev pub add_exact_rate : Fraction → Manner → Fraction
add_exact_rate a (slow r) = a +ᶠ exact r
add_exact_rate a (fast m d q) = a

abbrev pub add_exact_mean : Fraction → Manner → Fraction
add_exact_mean a (slow r) = a
add_exact_mean a (fast m d q) = a +ᶠ exact q *ᶠ exact m

abbrev pub add_exact_moment : Fraction → Manner → Fraction
add_exact_moment a (slow r) = a
add_exact_moment a (fast m d q) = a +ᶠ exact q *ᶠ moment m d

-- E
unfoldable pub exact_rate_sum : Net → ℕ → Fraction
exact_rate_sum net s = sum_over add_exact_rate (whole 0) (exits net s)

-- "For a state with fast exits: h = sum of q × m, and H = sum of q × M."
unfoldable pub exact_mean : Net → ℕ → Fraction
exact_mean net s = sum_over add_exact_mean (whole 0) (exits net s)

unfoldable pub exact_moment_sum : Net → ℕ → Fraction
exact_moment_sum net s = sum_over add_exact_moment (whole 0) (exits net s)

-- the rate of a slow exit, the probability q of a fast one
abbrev pub exact_share : Manner → Fraction
exact_share (slow r) = exact r
exact_share (fast m d q) = exact q
