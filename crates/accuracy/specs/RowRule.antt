-- Document 02, Item 1: "In a report the accuracy rule now holds for each row filled, its sums taken over that state's death paths alone." Assumes
-- nothing: these are definitions.
use Rattle.std.specs.Prelude.{ℕ, ◌<◌, ◌≡◌, List, [], length, get_or}
use Rattle.figure.specs.Rounding.{none}
use Rattle.word.specs.Model.{Model}
use Rattle.word.specs.Answer.{Answer}
use Rattle.tree.specs.declared.Row.{Row}
use Rattle.tree.specs.Tree.{tree, deaths}
use Rattle.tree.specs.Report.{Report}
use Rattle.tree.specs.Rows.{row_states, ending_in, zero_row, read_with_rows, answer_with_rows, rows_after}
use Rattle.accuracy.specs.Rule.{Accurate}

-- a row's figures as those of a report without a cut path
abbrev pub report_of_row : Row → Report
report_of_row r = record { lower = r.lower; upper = r.upper; cut = none; deaths = 0; cuts = 0; steps = 0 }

-- The accuracy rule of the rows of an answer to a list of words and a budget: where the words are accepted, of the rows lent before, and the answer
-- is a report, row i of those after is accurate for the death paths that end in row i's state, and no cut path.
pub record RowRule (ws : List ℕ) (budget : ℕ) (a : Answer Report) (before after : List Row) : Type 0 where
  pub accurate : (m : Model) (r : Report) → read_with_rows ws budget (length before) ≡ Answer.granted m → a ≡ Answer.granted r → (i : ℕ)
      → i < length (row_states m)
      → Accurate m.net (ending_in m.net (get_or (row_states m) i 0) (deaths (tree m.net m.limits))) []
      (report_of_row (get_or after i (zero_row 0)))

-- It holds of every list of words, every budget and any rows.
abbrev pub RowTheorem : Type 0
RowTheorem = (ws : List ℕ) (budget : ℕ) (before : List Row)
    → RowRule ws budget (answer_with_rows ws budget (length before)) before (rows_after ws budget before)
