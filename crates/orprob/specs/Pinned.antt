-- Document 02, Item 4: pairs with their answers, nearly all of them cases of other hands, and pairs with their exact values, worked out by hand; and two
-- claims: that the definitions agree with all of them. Assumes nothing: these are definitions.
use Rattle.std.specs.Prelude.{ℕ, ◌≡◌, Bool, true, false, ◌&&◌, List, [], ◌∷◌, length, replicate, eqb, pos, neg_ℤ}
use Rattle.fraction.specs.Fraction.{Fraction, whole, ratio, at_most}
use Rattle.figure.specs.declared.Figure.{Figure}
use Rattle.figure.specs.Rounding.{figure, none}
use Rattle.word.specs.Answer.{Answer, refused, granted}
use Rattle.tree.specs.Marked.{all, same_figure}
use Rattle.orprob.specs.declared.Pair.{Pair}
use Rattle.orprob.specs.Combination.{answer, exact_lower_or, exact_upper_or}

pub record OrCase : Type 0 where
  pub pairs : List Pair
  pub answered : Answer Pair

infix 40 ◌give◌ ◌stop_at◌
abbrev ◌give◌ : List Pair → Pair → OrCase
ps give r = record { pairs = ps; answered = granted r }

-- refusal 18 of the pair with this index
abbrev ◌stop_at◌ : List Pair → ℕ → OrCase
ps stop_at i = record { pairs = ps; answered = refused 18 i }

abbrev no_combination : List Pair → OrCase
no_combination ps = record { pairs = ps; answered = refused 17 0 }

abbrev pair : Figure → Figure → Pair
pair l u = record { lower = l; upper = u }

-- `by 123456789 11` is 123,456,789 × 10^-11
abbrev by : ℕ → ℕ → Figure
by d e = figure d (neg_ℤ (pos e))

abbrev one : Figure
one = by 100000000 8

abbrev half : Figure
half = by 500000000 9

abbrev thousandth : Figure
thousandth = by 123456789 11

-- a lower of some thousandths and an upper of a half
abbrev some : Pair
some = pair thousandth half

-- ---- the cases

unfoldable pub or_cases : List OrCase
or_cases =
    -- "17 when there is no pair or a 17th; it comes first": the pairs of the last are none
    no_combination []
    ∷ no_combination (replicate 17 some)
    ∷ no_combination (replicate 17 (pair (figure 1 (pos 0)) half))
    -- "Given up to 16 pairs"
    ∷ (replicate 16 some give pair (by 195712364 10) (by 999984742 9))
    -- one pair is its own combination; "an upper above 1 being taken as 1"
    ∷ (pair none none ∷ [] give pair none none)
    ∷ (pair half half ∷ [] give pair half half)
    ∷ (pair none one ∷ [] give pair none one)
    ∷ (pair half (by 200000000 8) ∷ [] give pair half one)
    -- "a power of ten outside −2,000 to 2,000"
    ∷ (pair thousandth (figure 999999999 (pos 2000)) ∷ [] give pair thousandth one)
    ∷ (pair thousandth (figure 100000000 (pos 2001)) ∷ [] stop_at 0)
    ∷ (pair (by 100000000 2000) thousandth ∷ [] give pair (by 100000000 2000) thousandth)
    ∷ (pair thousandth thousandth ∷ pair (by 100000000 2001) thousandth ∷ [] stop_at 1)
    ∷ (pair none (by 100000000 2001) ∷ [] stop_at 0)
    -- "what is no figure": eight digits, ten digits, a zero with another power than 0, as the lower or as the upper
    ∷ (pair thousandth thousandth ∷ pair thousandth thousandth ∷ pair (by 99999999 9) half ∷ [] stop_at 2)
    ∷ (pair (by 1000000000 10) half ∷ [] stop_at 0)
    ∷ (pair none (by 1000000000 10) ∷ [] stop_at 0)
    ∷ (pair (figure 0 (pos 1)) half ∷ [] stop_at 0)
    ∷ (pair none (by 0 8) ∷ [] stop_at 0)
    -- "a lower above 1 or above its upper": 1 itself, and a lower that is its upper, are right
    ∷ (replicate 3 (pair one one) give pair one one)
    ∷ (pair thousandth thousandth ∷ pair (by 100000001 8) (by 200000000 8) ∷ [] stop_at 1)
    ∷ (pair half (by 499999999 9) ∷ [] stop_at 0)
    ∷ (pair thousandth none ∷ [] stop_at 0)
    -- "with the first such pair's index"
    ∷ (pair half thousandth ∷ pair (figure 1 (pos 1)) thousandth ∷ [] stop_at 0)
    -- s and p that are 1, or next to it: 1 is reached from below by the upper alone
    ∷ (pair (by 333333333 9) (by 333333333 9) ∷ pair one one ∷ [] give pair one one)
    ∷ (replicate 2 (pair (by 999999999 9) one) give pair (by 999999999 9) one)
    ∷ (replicate 3 (pair (by 999999999 9) (by 999999999 9)) give pair (by 999999999 9) one)
    -- 1 − 1E-22, a half of it, and their sum: each is rounded, outward
    ∷ (pair (by 100000000 30) (by 100000000 30) ∷ pair half half ∷ [] give pair (by 499999999 9) (by 500000001 9))
    -- 1 − 5.00000001E-2 = 0.9499999999 has ten digits: up 0.95, down 0.949999999. Times 1E-1 both are exact, and so is the lower's sum, 0.145
    ∷ (pair (by 500000001 10) (by 500000001 10) ∷ pair (by 100000000 9) (by 100000000 9) ∷ [] give pair (by 145000000 9) (by 145000001 9))
    -- times 1 the lower's sum is 0.9999999991; the upper's, 1.0000000001, is rounded to 1.00000001 and set to 1
    ∷ (pair (by 500000001 10) (by 500000001 10) ∷ pair one one ∷ [] give pair (by 999999999 9) one)
    -- 0.333333333 × (1 − 0.5) = 0.1666666665 has ten digits; only the product is rounded
    ∷ (pair half half ∷ pair (by 333333333 9) (by 333333333 9) ∷ [] give pair (by 666666666 9) (by 666666667 9))
    -- 1 − 1E-1 is exact, and the product with 4E-10; only the sum is rounded
    ∷ (pair (by 100000000 9) (by 100000000 9) ∷ pair (by 400000000 18) (by 400000007 18) ∷ [] give pair (by 100000000 9) (by 100000001 9))
    -- 7.88733932E-2 and 1E-1: 1 − 7.88733932E-2 = 0.9211266068 has ten digits
    ∷ (pair (by 788733932 10) (by 100000000 9) ∷ pair (by 100000000 9) (by 100000000 9) ∷ [] give pair (by 170986053 9) (by 190000000 9))
    ∷ (pair (by 100000000 10) (by 100000000 9) ∷ pair (by 904954495 17) (by 900486852 16) ∷ pair (by 999999999 11) (by 999999999 11) ∷ []
    give pair (by 199000088 10) (by 109000082 9))
    -- 1E-1, and behind it 15 of 1E-30, each of which moves the upper by a unit of the last digit: 15 parts in 100,000,000
    ∷ (pair (by 100000000 9) (by 100000000 9) ∷ replicate 15 (pair (by 100000000 38) (by 100000000 38)) give pair (by 100000000 9) (by 100000015 9))
    ∷ []

-- ---- exact values, worked out by hand

pub record ExactOr : Type 0 where
  pub pairs : List Pair
  pub lower : Fraction
  pub upper : Fraction

abbrev quarter : Figure
quarter = by 250000000 9

abbrev fifth : Figure
fifth = by 200000000 9

unfoldable pub exact_ors : List ExactOr
exact_ors =
    record { pairs = []; lower = whole 0; upper = whole 0 }
    -- 1 − 1/2 × 3/4 = 5/8; 1 − 1/2 × 1/2 = 3/4
    ∷ record { pairs = pair half half ∷ pair quarter half ∷ []; lower = ratio (pos 5) 8; upper = ratio (pos 3) 4 }
    -- 1 − 4/5 × 1/2 × 3/4 = 7/10; an upper above 1 is taken as 1, and 1 − 4/5 × 0 × 3/4 = 1
    ∷ record { pairs = pair fifth fifth ∷ pair half (by 200000000 8) ∷ pair quarter quarter ∷ []; lower = ratio (pos 7) 10; upper = whole 1 }
    ∷ []

-- ---- the claims

abbrev same_fraction : Fraction → Fraction → Bool
same_fraction x y = at_most x y && at_most y x

abbrev exactly : ExactOr → Bool
exactly c = same_fraction (exact_lower_or c.pairs) c.lower && same_fraction (exact_upper_or c.pairs) c.upper

unfoldable pub ExactOrsAgree : Type 0
ExactOrsAgree = all exactly exact_ors ≡ true

abbrev same_answer : Answer Pair → Answer Pair → Bool
same_answer (refused n i) (refused o j) = eqb n o && eqb i j
same_answer (refused n i) (granted r) = false
same_answer (granted r) (refused n i) = false
same_answer (granted r) (granted s) = same_figure r.lower s.lower && same_figure r.upper s.upper

abbrev agrees : OrCase → Bool
agrees c = same_answer (answer (length c.pairs) c.pairs) c.answered

unfoldable pub OrCasesAgree : Type 0
OrCasesAgree = all agrees or_cases ≡ true
