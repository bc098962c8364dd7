-- Document 02, Item 1: the exact sums of a row, "taken over that state's death paths alone", each worked out by hand, and one claim: that the
-- definitions agree with all of them. Assumes nothing: these are definitions.
use Rattle.std.specs.Prelude.{ℕ, ◌≡◌, Bool, true, ◌&&◌, List, [], ◌∷◌}
use Rattle.fraction.specs.Fraction.{Fraction, whole}
use Rattle.word.specs.Model.{Net, Limits}
use Rattle.tree.specs.Tree.{tree, deaths}
use Rattle.tree.specs.Rows.{ending_in}
use Rattle.tree.specs.Marked.{all}
use Rattle.tree.specs.Pinned.{quantity, slow_step, net_of, slow_tenth, same_fraction}
use Rattle.accuracy.specs.Rule.{exact_upper_sum, exact_lower_sum, death_upper_sum}
use Rattle.accuracy.specs.Examples.{decimal, wide, class3_deaths}

-- a model, a state and the exact sums of its row
pub record RowExample : Type 0 where
  pub net : Net
  pub limits : Limits
  pub state : ℕ
  pub upper : Fraction
  pub lower : Fraction

-- T 1. Rates: 1 to 2 0.1, 1 to 3 0.2, 2 to 3 0.1, 2 to 4 0.2, 2 to 1 0.3, 5 to 6 0.1. Deaths: 1 to 2 to 3, 1 to 2 to 4 and 1 to 3; 1 to 2 to 1 is
-- cut, and no path comes to 5.
abbrev two_ways : Net
two_ways = net_of (quantity 1 0)
    (slow_tenth 1 2 ∷ slow_step 1 3 (quantity 2 1) ∷ slow_tenth 2 3 ∷ slow_step 2 4 (quantity 2 1) ∷ slow_step 2 1 (quantity 3 1)
    ∷ slow_tenth 5 6 ∷ [])

-- State 3. Uppers: 0.1 × 0.1 × 1² / 2! = 0.005 and 0.2 × 1. Lowers: of two steps A = 0.3 + 0.6, 1 − 1 × 0.9 / 3 = 0.7, 0.005 × 0.7 = 0.0035; of
-- one step A = 0.3, 1 − 1 × 0.3 / 2 = 0.85, 0.2 × 0.85 = 0.17.
abbrev two_ways_3 : RowExample
two_ways_3 = record { net = two_ways; limits = wide; state = 3; upper = decimal 205 3; lower = decimal 1735 4 }

-- State 4. Upper: 0.1 × 0.2 × 1² / 2! = 0.01. Lower: 0.01 × 0.7.
abbrev two_ways_4 : RowExample
two_ways_4 = record { net = two_ways; limits = wide; state = 4; upper = decimal 1 2; lower = decimal 7 3 }

-- State 6, where no path ends: "a sum over no path is 0". State 1, where a cut path ends, is the same.
abbrev two_ways_6 : RowExample
two_ways_6 = record { net = two_ways; limits = wide; state = 6; upper = whole 0; lower = whole 0 }

abbrev two_ways_1 : RowExample
two_ways_1 = record { net = two_ways; limits = wide; state = 1; upper = whole 0; lower = whole 0 }

-- The two class 3 deaths of `class3_deaths`, apart: h = 1.5E-4, and the lower's factor is 1.46988E-4. State 2: 0.1 × h and 0.1 × 1.46988E-4. State 3:
-- 0.3 × h and 0.3 × 1.46988E-4.
abbrev class3_net : Net
class3_net = net_of class3_deaths.time class3_deaths.table

abbrev class3_2 : RowExample
class3_2 = record { net = class3_net; limits = class3_deaths.limits; state = 2; upper = decimal 15 6; lower = decimal 146988 10 }

abbrev class3_3 : RowExample
class3_3 = record { net = class3_net; limits = class3_deaths.limits; state = 3; upper = decimal 45 6; lower = decimal 440964 10 }

-- ---- the claim

unfoldable pub row_examples : List RowExample
row_examples = two_ways_3 ∷ two_ways_4 ∷ two_ways_6 ∷ two_ways_1 ∷ class3_2 ∷ class3_3 ∷ []

unfoldable pub row_example_agrees : RowExample → Bool
row_example_agrees x =
    let ds = ending_in x.net x.state (deaths (tree x.net x.limits)) in
    same_fraction (exact_upper_sum x.net ds []) x.upper
    && (same_fraction (exact_lower_sum x.net ds) x.lower && same_fraction (death_upper_sum x.net ds) x.upper)

unfoldable pub ExactRowsAgree : Type 0
ExactRowsAgree = all row_example_agrees row_examples ≡ true
