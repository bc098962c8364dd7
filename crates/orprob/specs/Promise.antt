-- Document 02, Item 4: what the entry point `probabilistic_or` promises. Assumes nothing: these are definitions.
use Rattle.std.specs.Prelude.{ℕ, ◌≡◌, List, length, Result, Ok, Err}
use Rattle.figure.specs.declared.Figure.{Figure}
use Rattle.figure.specs.Tested.{Tested}
use Rattle.figure.specs.Faithful.{FaithfulFigures}
use Rattle.word.specs.Answer.{Answer, refused, granted}
use Rattle.orprob.specs.declared.Pair.{Pair}
use Rattle.orprob.specs.declared.OrRefusal.{OrRefusal}
use Rattle.orprob.specs.declared.OrRefusal.TheVariants.{PairCountOutOfRange, PairOutOfRange}
use Rattle.orprob.specs.Pairs.{PairTested}
use Rattle.orprob.specs.Combination.{answer, Encloses}
use Rattle.orprob.specs.Pinned.{OrCasesAgree, ExactOrsAgree}

-- the documents' number and place for each case of the code's enum `OrRefusal`

abbrev pub number : OrRefusal → ℕ
number PairCountOutOfRange = 17
number (PairOutOfRange i) = 18

abbrev pub place : OrRefusal → ℕ
place PairCountOutOfRange = 0
place (PairOutOfRange i) = i

-- the code's answer as the definitions have it
abbrev pub answer_of : Result Pair OrRefusal → Answer Pair
answer_of (Ok r) = granted r
answer_of (Err e) = refused (number e) (place e)

-- What the documents say in words, where the definitions compute.
pub record FaithfulOr : Type 0 where
  -- figures and their rounding
  pub figures : FaithfulFigures
  -- what a figure is, and what a pair is, as a test and in words
  pub figure_tested : (f : Figure) → Tested f
  pub pair_tested : (x : Pair) → PairTested x
  -- pairs with their answers, and with their exact values
  pub cases : OrCasesAgree
  pub exact_cases : ExactOrsAgree

-- What `probabilistic_or` promises, of the pairs given and its answer.
pub record Promised (pairs : List Pair) (r : Result Pair OrRefusal) : Type 0 where
  pub answer_is : answer_of r ≡ answer (length pairs) pairs
  pub encloses : (x : Pair) → answer_of r ≡ granted x → Encloses pairs x
  pub faithful : FaithfulOr
