-- What document 01 says of the exact bounds beyond their formulas, and what Item 3 of document 02 leaves as it is: each as a statement, and all of them
-- in one record. The proof is `faithful_exact` (crates/accuracy/proofs/Faithful.antt). Assumes nothing: these are statements.
use Rattle.std.specs.Prelude.{ℕ, ◌+◌, ◌≡◌, List, pos, ◌<ℤ◌}
use Rattle.fraction.specs.Fraction.{Fraction, ◌≈ᶠ◌, whole, ◌^ᶠ◌}
use Rattle.word.specs.Model.{Transition, Model}
use Rattle.word.specs.Answer.{Answer}
use Rattle.model.specs.Reading.{read}
use Rattle.tree.specs.Paths.{Path, class1, class, class1_count}
use Rattle.tree.specs.Grains.{grains}
use Rattle.tree.specs.Tree.{tree, deaths, cuts}
use Rattle.tree.specs.NamedFaithful.{nameless}
use Rattle.accuracy.specs.Bounds.{factorial, grain_time}
use Rattle.accuracy.specs.Rule.{exact_upper_sum}
use Rattle.accuracy.specs.Examples.{ExactExamplesAgree}
use Rattle.accuracy.specs.RowExamples.{ExactRowsAgree}

-- ---- divisors

-- a fraction above 0; its denominator is positive
abbrev pub AboveZero : Fraction → Type 0
AboveZero x = pos 0 <ℤ x.num

-- Every divisor of the exact bounds and of the accuracy rule is above 0: k!, k + 1, 2, 1,000,000 and 10,000, and for the grains of a class 2 or 3
-- step r² and s. `DivisorsAbove` (crates/tree/specs/Faithful.antt) says so of the rounded bounds.
pub record ExactDivisorsAbove (m : Model) : Type 0 where
  pub factorials : (k : ℕ) → AboveZero (whole (factorial k))
  pub number_more : (p : Path) → AboveZero (whole (class1_count m.net p + 1))
  pub two : AboveZero (whole 2)
  pub million : AboveZero (whole 1000000)
  pub ten_thousand : AboveZero (whole 10000)
  pub grain_square : (p : Path) (t : Transition) → (class m.net t ≡ class1 → ⊥) → AboveZero (grain_time m.net (grains m.net p t) ^ᶠ 2)
  pub grain_times : (p : Path) (t : Transition) → (class m.net t ≡ class1 → ⊥) → AboveZero (grain_time m.net (grains m.net p t))

abbrev pub NoZeroExactDivisor : Type 0
NoZeroExactDivisor = (ws : List ℕ) (budget : ℕ) (m : Model) → read ws budget ≡ Answer.granted m → ExactDivisorsAbove m

-- ---- the generator's states

-- in a model that is not refused, the exact upper sum is the one that it has with no state named: naming a state takes nothing out of it
abbrev pub NamesKeepUpperSum : Type 0
NamesKeepUpperSum = (ws : List ℕ) (budget : ℕ) (m : Model) → read ws budget ≡ Answer.granted m
    → let us = tree (nameless m.net) m.limits in
    let vs = tree m.net m.limits in
    exact_upper_sum (nameless m.net) (deaths us) (cuts us) ≈ᶠ exact_upper_sum m.net (deaths vs) (cuts vs)

-- ---- all of it

pub record FaithfulExact : Type 0 where
  -- no exact quotient of an accepted model is that of a divisor which is not positive, for which the definitions say 0
  pub no_zero_exact_divisor : NoZeroExactDivisor
  -- the exact sums of small models are what is worked out by hand
  pub exact_examples_agree : ExactExamplesAgree
  -- so are those of single rows, document 02, Item 1
  pub exact_rows_agree : ExactRowsAgree
  -- document 02, Item 3: "the paper on the generator puts them in the upper total only", where they were before
  pub names_keep_upper_sum : NamesKeepUpperSum
