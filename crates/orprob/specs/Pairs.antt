-- Document 02, Item 4: what a pair of figures is, and refusal 18. Assumes nothing: these are definitions.
use Rattle.std.specs.Prelude.{ℕ, suc, ◌≡◌, Bool, true, false, ◌&&◌, List, [], ◌∷◌, ℤ, pos, negsuc, ◌≤ℤ◌}
use Rattle.std.specs.Int.Signed.{le_z}
use Rattle.fraction.specs.Fraction.{◌≤ᶠ◌, whole}
use Rattle.figure.specs.Rounding.{IsFigure, value}
use Rattle.figure.specs.Operations.{of_whole, at_or_below}
use Rattle.figure.specs.Tested.{figure_test}
use Rattle.word.specs.Answer.{Answer, refused}
use Rattle.orprob.specs.declared.Pair.{Pair}

-- the power of ten is none "outside −2,000 to 2,000"; `negsuc 1999` is −2,000
unfoldable pub power_inside : ℤ → Bool
power_inside p = le_z (negsuc 1999) p && le_z p (pos 2000)

-- "18 when a pair holds what is no figure, or a power of ten outside −2,000 to 2,000, or a lower above 1 or above its upper": none of these
unfoldable pub is_pair : Pair → Bool
is_pair x =
    (figure_test x.lower && figure_test x.upper)
    && ((power_inside x.lower.power && power_inside x.upper.power)
    && (at_or_below x.lower (of_whole 1) && at_or_below x.lower x.upper))

-- "with the first such pair's index from 0 as its place": the first that is none, the list's own first having the index i; else the answer a
unfoldable pub first_wrong : List Pair → ℕ → Answer Pair → Answer Pair
first_wrong [] i a = a
first_wrong (x ∷ xs) i a = elim (is_pair x) [ true ↦ first_wrong xs (suc i) a | false ↦ refused 18 i ]

-- ---- the same in words

pub record IsPair (x : Pair) : Type 0 where
  -- both are figures, so that a zero has power 0
  pub lower_figure : IsFigure 9 x.lower
  pub upper_figure : IsFigure 9 x.upper
  pub lower_least : negsuc 1999 ≤ℤ x.lower.power
  pub lower_most : x.lower.power ≤ℤ pos 2000
  pub upper_least : negsuc 1999 ≤ℤ x.upper.power
  pub upper_most : x.upper.power ≤ℤ pos 2000
  -- the lower is at most 1 and at most its upper
  pub at_most_one : value x.lower ≤ᶠ whole 1
  pub in_order : value x.lower ≤ᶠ value x.upper

-- the test is right
pub record PairTested (x : Pair) : Type 0 where
  pub held : is_pair x ≡ true → IsPair x
  pub failed : is_pair x ≡ false → IsPair x → ⊥
