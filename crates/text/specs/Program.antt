-- Document 01, "The report program and the marked models", and document 02, Items 1 and 2: what the program prints for the bytes of its standard input.
-- Assumes nothing: these are definitions.
use Rattle.std.specs.Prelude.{ℕ, ◌≡◌, List, Result}
use Rattle.word.specs.declared.Refusal.{Refusal}
use Rattle.tree.specs.Rows.{answer_with_rows}
use Rattle.tree.specs.Marks.{marks_with}
use Rattle.accuracy.specs.Rule.{AccuracyRule}
use Rattle.bounds.specs.declared.Report.{Report}
use Rattle.bounds.specs.Answers.{answer_of, marks_of_answer}
use Rattle.text.specs.Bytes.{words_of}
use Rattle.text.specs.Text.{text_of}

-- "Budget 1,000,000."
abbrev pub report_budget : ℕ
report_budget = 1000000

-- "The report program lends 1,000 rows and prints none."
abbrev pub report_rows : ℕ
report_rows = 1000

-- the text that the program prints for these bytes
abbrev pub printed : List ℕ → List ℕ
printed bytes = text_of (words_of bytes) report_budget (answer_with_rows (words_of bytes) report_budget report_rows)

-- an answer to a caller who lends so many rows, of the words before and after, the budget and the answer
pub record LendsRows (before after : List ℕ) (budget : ℕ) (r : Result Report Refusal) : Type 0 where
  pub answer_is : answer_of r ≡ answer_with_rows before budget report_rows
  pub marks_are : marks_of_answer r ≡ marks_with before budget (answer_with_rows before budget report_rows)
  pub accuracy : AccuracyRule before budget (answer_of r)
  pub words_unchanged : after ≡ before
