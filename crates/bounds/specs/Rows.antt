-- What the entry point that is lent rows promises: document 02, Item 1. Assumes nothing: these are definitions.
use Rattle.std.specs.Prelude.{ℕ, ◌≤◌, ◌<◌, ◌≡◌, List, map, length, get_or, Result}
use Rattle.word.specs.Model.{Model}
use Rattle.word.specs.Answer as answers
use Rattle.word.specs.declared.Refusal.{Refusal}
use Rattle.model.specs.Reading as reading
use Rattle.tree.specs.declared.Row.{Row}
use Rattle.tree.specs.Tree.{tree}
use Rattle.tree.specs.Report as definition
use Rattle.tree.specs.Rows.{row_states, zero_row, read_with_rows, answer_with_rows, laid_over, rows_after}
use Rattle.tree.specs.Marks.{marks_with}
use Rattle.accuracy.specs.Rule.{AccuracyRule}
use Rattle.accuracy.specs.Exactness.{MarkRule}
use Rattle.accuracy.specs.RowRule.{RowRule}
use Rattle.bounds.specs.Faithful.{Faithful}
use Rattle.bounds.specs.Answers.{answer_of, marks_of_answer}
use Rattle.bounds.specs.declared.Report.{Report}

-- What `unreliability_by_state` promises, of the words before and after, the budget, the rows before and after, and its answer.
pub record PromisedRows (before after : List ℕ) (budget : ℕ) (given left : List Row) (r : Result Report Refusal) : Type 0 where
  -- the answer is the definition's, a report with its figures and counts or a refusal with its number and place
  pub answer_is : answer_of r ≡ answer_with_rows before budget (length given)
  -- it follows, as plain values: a refusal's number and place, and every figure and count in it zero
  pub values_are : definition.values (answer_of r) ≡ definition.values (answer_with_rows before budget (length given))
  -- the table after the call is the definition's
  pub rows_are : left ≡ rows_after before budget given
  -- it follows: "Rows beyond them are unchanged", and as many rows are there as before
  pub rows_beyond : (m : Model) → reading.read before budget ≡ answers.granted m → (i : ℕ) (d : Row) → length (row_states m) ≤ i
      → get_or left i d ≡ get_or given i d
  pub rows_number : length left ≡ length given
  -- "any refusal but 13 changes no row"
  pub rows_unchanged : (number place : ℕ) → answer_of r ≡ answers.refused number place → (number ≡ 13 → ⊥) → left ≡ given
  -- "On 13 the filled rows hold their state numbers and zeros."
  pub rows_zero : (m : Model) → reading.read before budget ≡ answers.granted m → answer_of r ≡ answers.refused 13 0
      → left ≡ laid_over (map zero_row (row_states m)) given
  -- "14 when there are fewer rows than such states; .. its place the number of rows needed", and in no other event
  pub refused_few : (m : Model) → reading.read before budget ≡ answers.granted m → length given < length (row_states m)
      → answer_of r ≡ answers.refused 14 (length (row_states m))
  pub few_refused : (m : Model) (place : ℕ) → reading.read before budget ≡ answers.granted m → answer_of r ≡ answers.refused 14 place
      → length given < length (row_states m)
  -- an allowed budget that is not refused so is refused exactly when the tree has more steps than it
  pub refused_over : (m : Model) → read_with_rows before budget (length given) ≡ answers.granted m → budget < length (tree m.net m.limits)
      → answer_of r ≡ answers.refused 13 0
  pub over_refused : (m : Model) → read_with_rows before budget (length given) ≡ answers.granted m → answer_of r ≡ answers.refused 13 0
      → budget < length (tree m.net m.limits)
  -- demand 3, of the report and of each row filled
  pub accuracy : AccuracyRule before budget (answer_of r)
  pub rows_accurate : RowRule before budget (answer_of r) given left
  -- document 02, Item 2: the marks are the definition's, and a mark 1 means that the figure equals its exact sum
  pub marks_are : marks_of_answer r ≡ marks_with before budget (answer_with_rows before budget (length given))
  pub marks_mean : MarkRule before budget (answer_of r) (marks_of_answer r)
  -- the lent words are unchanged
  pub words_unchanged : after ≡ before
  -- the definitions that all this rests on are what the documents say of them
  pub faithful : Faithful
