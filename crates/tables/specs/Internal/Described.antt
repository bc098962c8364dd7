-- The model that words describe, its index, and a part of the words that begins at a transition. Assumes nothing: these are definitions.
use Rattle.std.specs.Prelude.{ℕ, zero, suc, ◌+◌, List}
use Rattle.word.specs.Model.{Transition, Net, Model}
use Rattle.word.specs.Words.{quantity}
use Rattle.word.specs.Answer.{Answer, refused, granted}
use Rattle.model.specs.declared.index.Index.{Index}
use Rattle.model.specs.Reading.{at_head, read_from, empty_model}
use Rattle.model.specs.Index.{Indexed, Stands, exit_count}
use Rattle.model.specs.Internal.Valid.{Valid, ValidManner}

-- the model that a list of words describes, if they are read without a refusal; else one without transitions
abbrev pub model_or_none : Answer Model → Model
model_or_none (refused number place) = empty_model 0 0 (quantity 0) (quantity 0) 0 0
model_or_none (granted m) = m

unfoldable pub described : List ℕ → Model
described ws = model_or_none (read_from at_head 0 ws)

abbrev pub net_of : List ℕ → Net
net_of ws = (described ws).net

-- the words describe a valid model, and the index is theirs
pub record Indexes (ws : List ℕ) (index : Index) : Type 0 where
  pub valid : Valid (described ws)
  pub indexed : Indexed (described ws) ws index

-- the exits of the states from 1 to n, as an index counts them
unfoldable pub exit_total : Index → ℕ → ℕ
exit_total index zero = 0
exit_total index (suc n) = exit_total index n + exit_count index (suc n)

-- a part of the words begins at a transition, whole and valid
pub record StandsFirst (part : List ℕ) : Type 0 where
  pub transition : Transition
  pub stands : Stands part 0 transition
  pub valid : ValidManner transition.manner
