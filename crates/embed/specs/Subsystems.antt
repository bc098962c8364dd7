-- What the exported `bounds_or` promises: the probabilistic OR of pairs that are given as plain numbers, and its answer as plain numbers. Assumes nothing:
-- these are definitions.
use Rattle.std.specs.Prelude.{ℕ, ◌+◌, ◌*◌, ◌≡◌, List, [], ◌∷◌, map, take, get_or, ℤ, pos}
use Rattle.figure.specs.declared.Figure.{Figure}
use Rattle.figure.specs.Rounding.{figure, none}
use Rattle.word.specs.Model.{numbers_from}
use Rattle.word.specs.Answer.{Answer, refused, granted}
use Rattle.orprob.specs.declared.Pair.{Pair}
use Rattle.orprob.specs.Combination.{answer, Encloses}
use Rattle.orprob.specs.Promise.{FaithfulOr}

-- ---- the pairs given: the digits and the powers of lower 0, upper 0, lower 1, upper 1, and so on

abbrev pub figure_given : List ℕ → List ℤ → ℕ → Figure
figure_given digits powers k = figure (get_or digits k 0) (get_or powers k (pos 0))

abbrev pub pair_given : List ℕ → List ℤ → ℕ → Pair
pair_given digits powers i = record { lower = figure_given digits powers (2 * i); upper = figure_given digits powers (2 * i + 1) }

-- as many as there is room for
unfoldable pub pairs_given : List ℕ → List ℤ → List Pair
pairs_given digits powers = map (pair_given digits powers) (numbers_from 16 0)

-- ---- an answer as numbers: 0 and the figures, or the refusal's number and place beside zeros

pub record OrValues : Type 0 where
  pub number : ℕ
  pub place : ℕ
  pub lower : Figure
  pub upper : Figure

unfoldable pub or_values : Answer Pair → OrValues
or_values (refused number place) = record { number = number; place = place; lower = none; upper = none }
or_values (granted r) = record { number = 0; place = 0; lower = r.lower; upper = r.upper }

-- the place, and the digits of the lower and the upper figure
abbrev pub or_numbers : OrValues → List ℕ
or_numbers v = v.place ∷ v.lower.digits ∷ v.upper.digits ∷ []

-- the powers of ten of the two
abbrev pub or_powers : OrValues → List ℤ
or_powers v = v.lower.power ∷ v.upper.power ∷ []

-- an answer was put into the lent arrays, and its number, 0 for two figures, handed back
pub record OrPut (a : Answer Pair) (number : ℕ) (numbers : List ℕ) (powers : List ℤ) : Type 0 where
  pub number_is : number ≡ (or_values a).number
  pub numbers_are : numbers ≡ or_numbers (or_values a)
  pub powers_are : powers ≡ or_powers (or_values a)

-- What `bounds_or` promises, of the digits and powers given, the number of pairs, the number that it returns, and what the lent arrays hold after.
pub record OrAnswered (digits : List ℕ) (powers : List ℤ) (count : ℕ) (number : ℕ) (numbers : List ℕ) (figure_powers : List ℤ) : Type 0 where
  pub put : OrPut (answer count (take count (pairs_given digits powers))) number numbers figure_powers
  -- the figures enclose the exact values of the pairs given
  pub encloses : (r : Pair) → answer count (take count (pairs_given digits powers)) ≡ granted r → Encloses (take count (pairs_given digits powers)) r
  pub faithful : FaithfulOr
