-- What the code's `read` promises. Assumes nothing: these are definitions.
use Rattle.std.specs.Prelude.{ℕ, ◌<◌, ◌≡◌, ◌⊎◌, List, length, get_or, Result, Ok, Err}
use Rattle.word.specs.declared.Refusal.{Refusal}
use Rattle.word.specs.Model.{Model}
use Rattle.word.specs.Words.{kind}
use Rattle.word.specs.Refusal.{number, place}
use Rattle.word.specs.Answer.{refused, granted}
use Rattle.model.specs.declared.Accepted.{Accepted}
use Rattle.model.specs.declared.index.Index.{Index}
use Rattle.model.specs.Reading.{read}
use Rattle.model.specs.Index.{place_of, Indexed}

-- what the code hands back of a model beside its index
abbrev pub summary : Model → Accepted
summary m =
    record {
      states = m.states;
      start = m.net.start;
      step_limit = m.limits.step_limit;
      entry_limit = m.limits.entry_limit;
      time = m.net.time;
      prune = m.limits.prune;
    }

-- The words are read without a refusal: as a model, of which `a` has the first four words and the lent value the index. What it holds in
-- slots past a state's number of exits, and as places past the number of transitions, is free.
pub record Accepts (ws : List ℕ) (budget : ℕ) (index : Index) (a : Accepted) : Type 0 where
  pub model : Model
  pub reads : read ws budget ≡ granted model
  pub fields : a ≡ summary model
  pub indexed : Indexed model ws index
  -- the word at each of these places is a transition's own, of kind 5 or 7, as no other word is
  pub own_words : (j : ℕ) → j < length model.net.table → (kind (get_or ws (place_of index j) 0) ≡ 5) ⊎ (kind (get_or ws (place_of index j) 0) ≡ 7)

-- The words are refused. What the lent index then holds is free: nothing is said of `index`.
pub record Refuses (ws : List ℕ) (budget : ℕ) (index : Index) (f : Refusal) : Type 0 where
  pub reads : read ws budget ≡ refused (number f) (place f)

abbrev pub Answers : List ℕ → ℕ → Index → Result Accepted Refusal → Type 0
Answers ws budget index (Ok a) = Accepts ws budget index a
Answers ws budget index (Err f) = Refuses ws budget index f

-- What `read` promises of the words before and after, the budget, what the lent index holds after, and the answer.
pub record Promised (before after : List ℕ) (budget : ℕ) (index : Index) (r : Result Accepted Refusal) : Type 0 where
  pub words_unchanged : after ≡ before
  pub answer : Answers before budget index r
