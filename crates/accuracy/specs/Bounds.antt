-- Document 01, "Classes and the exact bounds": the exact upper of a path and the exact lower of a death path, as that page writes them.
-- Assumes nothing: these are definitions.
use Rattle.std.specs.Prelude.{ℕ, zero, suc, ◌+◌, ◌*◌, Bool, true, false, List, [], ◌∷◌, ◌++◌, leb}
use Rattle.fraction.specs.Fraction.{Fraction, whole, at_most, ◌+ᶠ◌, ◌-ᶠ◌, ◌*ᶠ◌, ◌/ᶠ◌, ◌^ᶠ◌}
use Rattle.word.specs.Model.{Manner, slow, fast, Transition, Net, any}
use Rattle.tree.specs.Paths.{Path, Class, class1, class2, class3, class, class1_count}
use Rattle.tree.specs.Grains.{grains, grain_sum}
use Rattle.tree.specs.Lower.{exact, remaining_time}
use Rattle.accuracy.specs.States.{moment, exact_rate_sum, exact_mean, exact_moment_sum, exact_share}

-- k!
unfoldable pub factorial : ℕ → ℕ
factorial zero = 1
factorial (suc k) = suc k * factorial k

unfoldable pub product : List Fraction → Fraction
product [] = whole 1
product (x ∷ xs) = x *ᶠ product xs

-- x^k / k!
unfoldable pub power_over_factorial : Fraction → ℕ → Fraction
power_over_factorial x k = x ^ᶠ k /ᶠ whole (factorial k)

-- the rate of each class 1 step
abbrev pub class1_rate : Class → Manner → List Fraction
class1_rate class1 x = exact_share x ∷ []
class1_rate class2 x = []
class1_rate class3 x = []

unfoldable pub class1_rates : Net → Path → List Fraction
class1_rates net [] = []
class1_rates net (t ∷ p) = class1_rate (class net t) t.manner ++ class1_rates net p

-- ---- the upper

-- ".. times q for each class 2 step, times rate × h for each class 3 step"
abbrev pub upper_factor : Net → Class → Transition → List Fraction
upper_factor net class1 t = []
upper_factor net class2 t = exact_share t.manner ∷ []
upper_factor net class3 t = exact_share t.manner *ᶠ exact_mean net t.from ∷ []

unfoldable pub upper_factors : Net → Path → List Fraction
upper_factors net [] = []
upper_factors net (t ∷ p) = upper_factor net (class net t) t ++ upper_factors net p

-- "Exact upper of a path with k class 1 steps: the product of their rates times T^k / k!, times q for each class 2 step, times rate × h for each
-- class 3 step. A cut path has the same upper, once, and lower 0."
unfoldable pub exact_upper : Net → Path → Fraction
exact_upper net p = product (class1_rates net p) *ᶠ power_over_factorial (exact net.time) (class1_count net p) *ᶠ product (upper_factors net p)

-- ---- the lower

-- "r = n × T / 1,000,000" for class 2, and s likewise for class 3
unfoldable pub grain_time : Net → ℕ → Fraction
grain_time net n = whole n *ᶠ exact net.time /ᶠ whole 1000000

-- "t = T × (1,000,000 − N') / 1,000,000", N' the sum of the grains that g gives the path's steps
unfoldable pub time_left : Net → (Transition → ℕ) → Path → Fraction
time_left net g p = remaining_time net (grain_sum net g p)

-- "q × (1 − E × m − M / r²) for class 2"; e is E of the state that is left, r the time of the step's grains
unfoldable pub class2_exact_factor : Fraction → Fraction → Manner → Fraction
class2_exact_factor e r (slow x) = whole 0
class2_exact_factor e r (fast m d q) = exact q *ᶠ (whole 1 -ᶠ e *ᶠ exact m -ᶠ moment m d /ᶠ r ^ᶠ 2)

-- "rate × (h − E × H / 2 − H / s) for class 3"
unfoldable pub class3_exact_factor : Fraction → Fraction → Fraction → Fraction → Manner → Fraction
class3_exact_factor e h hh s x = exact_share x *ᶠ (h -ᶠ e *ᶠ hh /ᶠ whole 2 -ᶠ hh /ᶠ s)

-- the factor of a class 2 or 3 step with n grains
abbrev pub lower_factor : Net → Class → ℕ → Transition → List Fraction
lower_factor net class1 n t = []
lower_factor net class2 n t = class2_exact_factor (exact_rate_sum net t.from) (grain_time net n) t.manner ∷ []
lower_factor net class3 n t = class3_exact_factor (exact_rate_sum net t.from) (exact_mean net t.from) (exact_moment_sum net t.from) (grain_time net n) t.manner ∷ []

-- g gives each step's grains
unfoldable pub lower_factors : Net → (Transition → ℕ) → Path → List Fraction
lower_factors net g [] = []
lower_factors net g (t ∷ p) = lower_factor net (class net t) (g t) t ++ lower_factors net g p

-- "A sums E over the class 1 steps"
abbrev pub class1_sum : Net → Class → Transition → Fraction
class1_sum net class1 t = exact_rate_sum net t.from
class1_sum net class2 t = whole 0
class1_sum net class3 t = whole 0

unfoldable pub exact_path_rate_sum : Net → Path → Fraction
exact_path_rate_sum net [] = whole 0
exact_path_rate_sum net (t ∷ p) = class1_sum net (class net t) t +ᶠ exact_path_rate_sum net p

-- "the product of: the class 1 rates times t^k / k!; 1 − t × A / (k + 1), ..; q × (..) for class 2, ..; rate × (..) for class 3"
unfoldable pub all_factors : Net → (Transition → ℕ) → Fraction → Path → List Fraction
all_factors net g t p =
    product (class1_rates net p) *ᶠ power_over_factorial t (class1_count net p)
    ∷ (whole 1 -ᶠ t *ᶠ exact_path_rate_sum net p /ᶠ whole (class1_count net p + 1))
    ∷ lower_factors net g p

abbrev pub not_positive : Fraction → Bool
not_positive x = at_most x (whole 0)

-- "If N' is 1,000,000 or more the lower is 0. Else it is the product .. If a factor is zero or negative, the lower is 0."
unfoldable pub exact_lower_with : Net → (Transition → ℕ) → Path → Fraction
exact_lower_with net g p =
    elim (leb 1000000 (grain_sum net g p)) [
      | true ↦ whole 0
      | false ↦
          (let factors = all_factors net g (time_left net g p) p in
          elim (any not_positive factors) [ true ↦ whole 0 | false ↦ product factors ])
    ]

-- "The n in an exact lower is the one under Grains"
unfoldable pub exact_lower : Net → Path → Fraction
exact_lower net p = exact_lower_with net (grains net p) p
