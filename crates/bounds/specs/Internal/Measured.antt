-- What stands between the walk and the two entry points: the answer, and the table of the rows to be filled. Assumes nothing: these are definitions.
use Rattle.std.specs.Prelude.{ℕ, ◌≡◌, List, Result}
use Rattle.word.specs.declared.Refusal.{Refusal}
use Rattle.tree.specs.Marks.{marks_with}
use Rattle.tree.specs.Rows.{answer_with_rows, filled_rows}
use Rattle.rows.specs.declared.table.RowTable.{RowTable}
use Rattle.rows.specs.Internal.Filling.{Fits, rows_in}
use Rattle.bounds.specs.Answers.{answer_of, marks_of_answer}
use Rattle.bounds.specs.declared.Report.{Report}

-- of the words before and after, the budget, the number of rows lent, the table and the answer
pub record Measured (before after : List ℕ) (budget lent : ℕ) (table : RowTable) (r : Result Report Refusal) : Type 0 where
  pub answer_is : answer_of r ≡ answer_with_rows before budget lent
  pub marks_are : marks_of_answer r ≡ marks_with before budget (answer_with_rows before budget lent)
  pub has : rows_in table ≡ filled_rows before budget lent
  pub fits : Fits table lent
  pub words_unchanged : after ≡ before
