-- What the functions of this crate promise one another. Assumes nothing: these are definitions.
use Rattle.std.specs.Prelude.{ℕ, ◌<◌, ◌≡◌, true, List, get_or}
use Rattle.figure.specs.declared.Direction.{Direction}
use Rattle.figure.specs.declared.Direction.TheVariants.{Down, Up}
use Rattle.figure.specs.declared.Figure.{Figure}
use Rattle.figure.specs.Rounding.{none}
use Rattle.orprob.specs.declared.Pair.{Pair}
use Rattle.orprob.specs.Pairs.{is_pair}
use Rattle.orprob.specs.Combination.{with_upper, with_lower}

abbrev pub no_pair : Pair
no_pair = record { lower = none; upper = none }

-- the pair with this index
abbrev pub pair_at : List Pair → ℕ → Pair
pair_at pairs i = get_or pairs i no_pair

-- the first k are pairs
pub record Right (pairs : List Pair) (k : ℕ) : Type 0 where
  pub right : (j : ℕ) → j < k → is_pair (pair_at pairs j) ≡ true

-- one subsystem more, each operation rounded the same way
abbrev pub with : Direction → Figure → Figure → Figure
with Up s p = with_upper s p
with Down s p = with_lower s p
