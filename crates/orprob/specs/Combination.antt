-- Document 02, Item 4, "One figure for several subsystems": the probabilistic OR of pairs of figures, rounded outward, and what it encloses. Assumes
-- nothing: these are definitions.
use Rattle.std.specs.Prelude.{ℕ, ◌≤◌, ◌≡◌, true, false, pos, length}
use mathlib.Core.List.{List, [], ◌∷◌, foldl, map}
use Rattle.fraction.specs.Fraction.{Fraction, ◌≤ᶠ◌, whole, ratio, ◌-ᶠ◌, ◌*ᶠ◌}
use Rattle.figure.specs.declared.Figure.{Figure}
use Rattle.figure.specs.Rounding.{none, value}
use Rattle.figure.specs.Operations.{times_up, times_down, plus_up, plus_down, minus_up, minus_down, of_whole, at_or_below}
use Rattle.word.specs.Faults.{outside}
use Rattle.word.specs.Answer.{Answer, refused, granted}
use Rattle.orprob.specs.declared.Pair.{Pair}
use Rattle.orprob.specs.Pairs.{first_wrong}

-- ---- the rounded values

-- "an upper above 1 being taken as 1", "an s above 1 is set to 1"
unfoldable pub at_most_one : Figure → Figure
at_most_one f = elim (at_or_below f (of_whole 1)) [ true ↦ f | false ↦ of_whole 1 ]

-- "each p in turn makes s into s + p × (1 − s), each of the three operations rounded outward to a figure": of uppers up, of lowers down
unfoldable pub with_upper : Figure → Figure → Figure
with_upper s p = at_most_one (plus_up s (times_up p (minus_up (of_whole 1) s)))

unfoldable pub with_lower : Figure → Figure → Figure
with_lower s p = at_most_one (plus_down s (times_down p (minus_down (of_whole 1) s)))

-- "From s = 0", "once for the lowers and once for the uppers"
unfoldable pub upper_or : List Pair → Figure
upper_or pairs = foldl (λ s x. with_upper s (at_most_one x.upper)) none pairs

unfoldable pub lower_or : List Pair → Figure
lower_or pairs = foldl (λ s x. with_lower s x.lower) none pairs

-- ---- the answer

-- "Given up to 16 pairs", "17 when there is no pair or a 17th; it comes first, with place 0", "18 .. comes next". `count` pairs are given; where these
-- are more than 16, it does not matter which of them the list has.
unfoldable pub answer : (count : ℕ) → List Pair → Answer Pair
answer count pairs =
    elim (outside 1 16 count) [
      | true ↦ refused 17 0
      | false ↦ first_wrong pairs 0 (granted (record { lower = lower_or pairs; upper = upper_or pairs }))
    ]

-- ---- the exact values

-- "1 minus the product of (1 − p)"
unfoldable pub complements : List Fraction → Fraction
complements [] = whole 1
complements (p ∷ ps) = (whole 1 -ᶠ p) *ᶠ complements ps

unfoldable pub exact_or : List Fraction → Fraction
exact_or ps = whole 1 -ᶠ complements ps

unfoldable pub exact_lower_or : List Pair → Fraction
exact_lower_or pairs = exact_or (map (λ x. value x.lower) pairs)

unfoldable pub exact_upper_or : List Pair → Fraction
exact_upper_or pairs = exact_or (map (λ x. value (at_most_one x.upper)) pairs)

-- "Each final s is shown to lie outward of its exact value and within one part in 1,000,000 of it."
pub record Encloses (pairs : List Pair) (r : Pair) : Type 0 where
  pub lower_from : exact_lower_or pairs *ᶠ ratio (pos 999999) 1000000 ≤ᶠ value r.lower
  pub lower_to : value r.lower ≤ᶠ exact_lower_or pairs
  pub upper_from : exact_upper_or pairs ≤ᶠ value r.upper
  pub upper_to : value r.upper ≤ᶠ exact_upper_or pairs *ᶠ ratio (pos 1000001) 1000000
  -- the two are bounds on one probability: in order, and at most 1
  pub in_order : value r.lower ≤ᶠ value r.upper
  pub at_most_whole : value r.upper ≤ᶠ whole 1

-- Whatever pairs are not refused, the answer encloses.
abbrev pub EnclosureTheorem : Type 0
EnclosureTheorem = (count : ℕ) (pairs : List Pair) (r : Pair) → length pairs ≤ count → answer count pairs ≡ granted r → Encloses pairs r
