-- Six definitions stand on both sides of the accuracy rule, in the exact bounds and in the rounded ones: `class`, `class1_count`, `grains`,
-- `grain_sum`, `remaining_time` and `exact`. That rule cannot see a fault in them. Here each is held to cases that are worked out by hand from
-- document 01, and one claim says that the definitions agree with all of them. Assumes nothing: these are definitions.
use Rattle.std.specs.Prelude.{ℕ, ◌^◌, ◌≡◌, Bool, true, ◌&&◌, List, [], ◌∷◌, eqb, pos}
use Rattle.fraction.specs.Fraction.{Fraction, whole, ratio, at_most}
use Rattle.word.specs.declared.Quantity.{Quantity}
use Rattle.word.specs.Model.{slow, fast, Transition, Net}
use Rattle.tree.specs.Paths.{Path, Class, class1, class2, class3, class, class1_count}
use Rattle.tree.specs.Grains.{grains, grain_sum}
use Rattle.tree.specs.Lower.{exact, remaining_time}
use Rattle.tree.specs.Marked.{all}

-- ---- nets

-- c / 10^p
abbrev pub quantity : ℕ → ℕ → Quantity
quantity c p = record { coefficient = c; scale = p }

-- from a to b with a rate
abbrev pub slow_step : ℕ → ℕ → Quantity → Transition
slow_step a b r = record { from = a; to = b; manner = slow r }

-- from a to b with mean m, deviation d and probability q
abbrev pub fast_step : ℕ → ℕ → Quantity → Quantity → Quantity → Transition
fast_step a b m d q = record { from = a; to = b; manner = fast m d q }

-- start 1, these states the generator's, and a mission time
abbrev pub naming_net : List ℕ → Quantity → List Transition → Net
naming_net named time table = record { start = 1; time = time; named = named; table = table }

-- the same without a generator's state
abbrev pub net_of : Quantity → List Transition → Net
net_of time table = naming_net [] time table

-- rate 0.1
abbrev pub slow_tenth : ℕ → ℕ → Transition
slow_tenth a b = slow_step a b (quantity 1 1)

-- mean m, deviation 0 and probability 1
abbrev pub fast_sure : ℕ → ℕ → Quantity → Transition
fast_sure a b m = fast_step a b m (quantity 0 0) (quantity 1 0)

abbrev mixed_fast : ℕ → ℕ → Transition
mixed_fast a b = fast_sure a b (quantity 16 5)

-- T 10: states 2 and 5 have fast exits, of mean 1.6E-4; 1 and 4 have none, 3 has no exits
abbrev mixed : Net
mixed = net_of (quantity 10 0)
    (slow_tenth 1 2 ∷ slow_tenth 2 3 ∷ mixed_fast 2 4 ∷ slow_tenth 4 2 ∷ slow_tenth 4 5 ∷ mixed_fast 5 2 ∷ slow_tenth 5 2 ∷ [])

-- a path of `mixed`, last step first: 1 to 2 to 4 to 5 to 2 to 3
abbrev mixed_path : Path
mixed_path = slow_tenth 2 3 ∷ mixed_fast 5 2 ∷ slow_tenth 4 5 ∷ mixed_fast 2 4 ∷ slow_tenth 1 2 ∷ []

-- a state with one fast exit, of probability 1, beside the slow one from 1 to 2
abbrev sure_exit : Quantity → Quantity → Transition
sure_exit m d = fast_step 1 3 m d (quantity 1 0)

abbrev beside : Quantity → Quantity → Quantity → Net
beside time m d = net_of time (slow_tenth 1 2 ∷ sure_exit m d ∷ [])

-- T 3.417, and two fast exits of unlike means and probabilities
abbrev two_fast : Net
two_fast = net_of (quantity 3417 3)
    (slow_tenth 1 2
    ∷ fast_step 1 3 (quantity 7365 5) (quantity 0 0) (quantity 666667 6)
    ∷ fast_step 1 4 (quantity 347796 6) (quantity 0 0) (quantity 333333 6) ∷ [])

-- ---- the cases

pub data Case : Type 0 where
  class_is : Net → Transition → (number : ℕ) → Case
  -- k of a path
  count_is : Net → Path → (k : ℕ) → Case
  grains_are : Net → Transition → (n : ℕ) → Case
  -- the grains of a state's only fast exit, of mean m and deviation d, and of a slow exit beside it
  fast_grains_are slow_grains_are : (time m d : Quantity) (n : ℕ) → Case
  -- N' of a path whose steps have the grains that g gives
  sum_is : Net → (g : Transition → ℕ) → Path → (n : ℕ) → Case
  -- t of a mission time and N'
  time_is : (time : Quantity) (n : ℕ) → Fraction → Case
  exact_is : Quantity → Fraction → Case

unfoldable pub pinned_cases : List Case
pinned_cases =
    -- "Class 1: slow step from a state without fast exits": from 1 and from 4, which a fast step reaches; that 2 and 5 have fast exits is nothing to it
    class_is mixed (slow_tenth 1 2) 1
    ∷ class_is mixed (slow_tenth 4 2) 1
    ∷ class_is mixed (slow_tenth 4 5) 1
    -- "Class 2: fast step": to 4, which has none, and to 2, which has one
    ∷ class_is mixed (mixed_fast 2 4) 2
    ∷ class_is mixed (mixed_fast 5 2) 2
    -- "Class 3: slow step from a state with fast exits": to 3, with the fast exit later in the table, and to 2, with the fast exit earlier
    ∷ class_is mixed (slow_tenth 2 3) 3
    ∷ class_is mixed (slow_tenth 5 2) 3
    -- the class 1 steps are 1 to 2 and 4 to 5
    ∷ count_is mixed mixed_path 2
    ∷ count_is mixed [] 0
    -- a class 1 step has no grains
    ∷ grains_are mixed (slow_tenth 1 2) 0
    -- M = (1.6E-4)² = 2.56E-8 and T2 = 100: g = 10^18 × 5.12E-8 / 100 = 512,000,000 = 800³
    ∷ grains_are mixed (mixed_fast 2 4) 800
    -- H = 2.56E-8 and h' = 1.6E-4: g = 10^12 × 2.56E-8 / 1.6E-3 = 16,000,000 = 4,000²
    ∷ grains_are mixed (slow_tenth 2 3) 4000
    -- T 10, m 1E-12, d 0: g = 10^18 × 2E-24 / 100 = 2E-8 and g = 10^12 × 1E-24 / 1E-11 = 0.1; n is at least 1
    ∷ fast_grains_are (quantity 10 0) (quantity 1 12) (quantity 0 0) 1
    ∷ slow_grains_are (quantity 10 0) (quantity 1 12) (quantity 0 0) 1
    -- T 10, m 10, d 10, so M = 200: g = 10^18 × 400 / 100 = 4 × 10^18 and g = 10^12 × 200 / 100 = 2 × 10^12; none below 1,000,000 will do
    ∷ fast_grains_are (quantity 10 0) (quantity 10 0) (quantity 10 0) 1000000
    ∷ slow_grains_are (quantity 10 0) (quantity 10 0) (quantity 10 0) 1000000
    -- Class 2 where the other rounding of m², the sum of m² and d², 2 × M, T × T or the quotient would make n 708,853. T 6.00843, m 2.53503, d 0.053633:
    -- m² = 6.4263771009, up 6.42637711; d² = 0.002876498689, up 0.00287649869; M = 6.42925360869, up 6.42925361; 2 × M = 12.85850722, up 12.8585073;
    -- T × T = 36.1012310649, down 36.1012310; the quotient 0.35617919233.., up 0.356179193. 708,853³ = 356,179,192,638,166,477 is below
    -- g = 356,179,193,000,000,000, and 708,854³ is above it.
    ∷ fast_grains_are (quantity 600843 5) (quantity 253503 5) (quantity 53633 6) 708854
    -- with mean and deviation exchanged M is the same, and it is the other rounding of d² that would make n 708,853
    ∷ fast_grains_are (quantity 600843 5) (quantity 53633 6) (quantity 253503 5) 708854
    -- Class 3 where the other rounding of h' (that is h), h' × T, H or the quotient would make n 279,131. T 3.417, exits (0.07365, 0, 0.666667) and
    -- (0.347796, 0, 0.333333). q × m: 0.04910002455, down 0.0491000245, and 0.115931884068, down 0.115931884; h' = 0.1650319085, down 0.165031908;
    -- h' × T = 0.563914029636, down 0.563914029. M: 0.0054243225, and 0.120962057616, up 0.120962058; q × M: 0.0036162168081.., up 0.00361621681, and
    -- 0.0403206456793.., up 0.0403206457; H = 0.04393686251, up 0.0439368626. The quotient 0.077914115167.., up 0.0779141152.
    -- 279,131² = 77,914,115,161 is below g = 77,914,115,200, and 279,132² is above it.
    ∷ grains_are two_fast (slow_tenth 1 2) 279132
    -- 4,000 + 800 + 800; the class 1 steps 4 to 5 and 1 to 2 count nothing
    ∷ sum_is mixed (grains mixed mixed_path) mixed_path 5600
    -- 7 for each of the three steps of classes 2 and 3
    ∷ sum_is mixed (λ t. 7) mixed_path 21
    ∷ sum_is mixed (λ t. 7) [] 0
    -- t = T × (1,000,000 − N') / 1,000,000: T itself, 10 × 999,999 / 1,000,000, 10 / 1,000,000, and 0.3 × 750,000 / 1,000,000 = 0.225
    ∷ time_is (quantity 10 0) 0 (whole 10)
    ∷ time_is (quantity 10 0) 1 (ratio (pos 999999) 100000)
    ∷ time_is (quantity 10 0) 999999 (ratio (pos 1) 100000)
    ∷ time_is (quantity 3 1) 250000 (ratio (pos 225) 1000)
    -- "means c / 10^p"
    ∷ exact_is (quantity 999999 0) (whole 999999)
    ∷ exact_is (quantity 25 2) (ratio (pos 1) 4)
    ∷ exact_is (quantity 7 20) (ratio (pos 7) (10 ^ 20))
    ∷ exact_is (quantity 0 3) (whole 0)
    ∷ []

-- ---- the test of a case

abbrev class_number : Class → ℕ
class_number class1 = 1
class_number class2 = 2
class_number class3 = 3

-- equal as fractions: each at or below the other
abbrev pub same_fraction : Fraction → Fraction → Bool
same_fraction x y = at_most x y && at_most y x

unfoldable pub case_agrees : Case → Bool
case_agrees (class_is net t n) = eqb (class_number (class net t)) n
case_agrees (count_is net p k) = eqb (class1_count net p) k
case_agrees (grains_are net t n) = eqb (grains net [] t) n
case_agrees (fast_grains_are time m d n) = eqb (grains (beside time m d) [] (sure_exit m d)) n
case_agrees (slow_grains_are time m d n) = eqb (grains (beside time m d) [] (slow_tenth 1 2)) n
case_agrees (sum_is net g p n) = eqb (grain_sum net g p) n
case_agrees (time_is time n x) = same_fraction (remaining_time (net_of time []) n) x
case_agrees (exact_is q x) = same_fraction (exact q) x

-- the claim
unfoldable pub PinnedCasesAgree : Type 0
PinnedCasesAgree = all case_agrees pinned_cases ≡ true
