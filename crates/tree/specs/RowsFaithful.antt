-- What document 02, Item 1, "A row for each way to fail", and Item 3 of a generator's state, say of the rows in words, where the definitions
-- compute: each sentence as a statement, and all of them in one record. The proof is `faithful_rows` (crates/tree/proofs/RowsFaithful.antt). Assumes
-- nothing: these are statements.
use Rattle.std.specs.Prelude.{ℕ, ◌≤◌, ◌<◌, ◌≡◌, false, ◌↔◌, length, get_or}
use mathlib.Core.List.{List, [], Mem, Memᴰ}
use Rattle.word.specs.Model.{Transition, Model, is_named, exits}
use Rattle.word.specs.Answer.{Answer}
use Rattle.model.specs.Reading.{read}
use Rattle.tree.specs.Paths.{Path, last_state}
use Rattle.tree.specs.Tree.{tree, deaths}
use Rattle.tree.specs.Report.{answer}
use Rattle.tree.specs.Rows.{row_states, answer_with_rows}
use Rattle.tree.specs.RowsPinned.{RowCasesAgree}

-- ---- which states have rows

-- a state, 1 to N, that is none of the generator's and has no exits, with a transition of the table that arrives there
pub record HasRow (m : Model) (s : ℕ) : Type 0 where
  pub low : 1 ≤ s
  pub high : s ≤ m.states
  pub not_named : is_named m.net s ≡ false
  pub no_exits : exits m.net s ≡ []
  pub by : Transition
  pub in_table : Memᴰ by m.net.table
  pub target : by.to ≡ s

-- a state stands in the list of row states exactly if it is one of these
abbrev pub RowStatesExactly : Type 0
RowStatesExactly = (m : Model) (s : ℕ) → Mem s (row_states m) ↔ ∥ HasRow m s ∥₁

-- of two places of that list, the earlier has the lower state
abbrev pub RowStatesRise : Type 0
RowStatesRise = (m : Model) (i j : ℕ) → i < j → j < length (row_states m) → get_or (row_states m) i 0 < get_or (row_states m) j 0

-- every death path of an accepted model ends in a state that has a row, so that the rows leave none out
abbrev pub EveryDeathHasRow : Type 0
EveryDeathHasRow = (ws : List ℕ) (budget : ℕ) (m : Model) → read ws budget ≡ Answer.granted m → (p : Path)
    → Mem p (deaths (tree m.net m.limits)) → Mem (last_state m.net p) (row_states m)

-- ---- refusal 14

-- a caller who lends 1,000 rows or more has the answer that is given without rows: N is at most 1,000
abbrev pub ThousandRowsEnough : Type 0
ThousandRowsEnough = (ws : List ℕ) (budget lent : ℕ) → 1000 ≤ lent → answer_with_rows ws budget lent ≡ answer ws budget

-- ---- all of it

pub record FaithfulRows : Type 0 where
  -- "for each state that has no exits and is the target of a transition"; of a generator's, "the state has no row"
  pub row_states_exactly : RowStatesExactly
  -- "in order of state number"
  pub row_states_rise : RowStatesRise
  -- "its sums taken over that state's death paths alone": each death path is one of some row's
  pub every_death_has_row : EveryDeathHasRow
  -- "The report program lends 1,000 rows and prints none": its answers are as they were
  pub thousand_rows_enough : ThousandRowsEnough
  -- the answer and the whole table after the call, of small cases, are what is worked out apart from the definitions
  pub row_cases_agree : RowCasesAgree
