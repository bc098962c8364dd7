-- What the exported functions promise: an answer as plain numbers, its text, how two figures compare, and the version. Assumes nothing: these are
-- definitions.
use Rattle.std.specs.Prelude.{ℕ, ◌+◌, ◌*◌, ◌≤◌, ◌≡◌, true, false, List, [], ◌∷◌, length, take, ℤ, Result}
use Rattle.figure.specs.declared.Figure.{Figure}
use Rattle.figure.specs.Operations.{at_or_below}
use Rattle.figure.specs.Tested.{figure_test, Tested}
use Rattle.word.specs.declared.Refusal.{Refusal}
use Rattle.word.specs.Model.{one_if}
use Rattle.tree.specs.Report.{Values, values, answer}
use Rattle.tree.specs.Marks.{Marks, marks_with}
use Rattle.tree.specs.declared.Row.{Row}
use Rattle.tree.specs.Rows.{answer_with_rows, rows_after}
use Rattle.accuracy.specs.Rule.{AccuracyRule}
use Rattle.accuracy.specs.RowRule.{RowRule}
use Rattle.accuracy.specs.Exactness.{MarkRule}
use Rattle.bounds.specs.declared.Report.{Report}
use Rattle.bounds.specs.Answers.{answer_of, marks_of_answer}
use Rattle.text.specs.Text.{text_of}
use Rattle.text.specs.Rules.{Rules}

-- the place, the digits of the lower, the upper and the cut figure, the counts of deaths, cuts and steps, and the marks of the lower and the upper
abbrev pub numbers_of : Values → Marks → List ℕ
numbers_of v k =
    let r = v.report in
    v.place ∷ r.lower.digits ∷ r.upper.digits ∷ r.cut.digits ∷ r.deaths ∷ r.cuts ∷ r.steps ∷ one_if k.lower ∷ one_if k.upper ∷ []

-- the powers of ten of the lower, the upper and the cut figure
abbrev pub powers_of : Values → List ℤ
powers_of v =
    let r = v.report in
    r.lower.power ∷ r.upper.power ∷ r.cut.power ∷ []

-- an answer was put into the lent arrays, and its number, 0 for a report, handed back
pub record AnswerPut (a : Result Report Refusal) (number : ℕ) (numbers : List ℕ) (powers : List ℤ) : Type 0 where
  pub number_is : number ≡ (values (answer_of a)).number
  pub numbers_are : numbers ≡ numbers_of (values (answer_of a)) (marks_of_answer a)
  pub powers_are : powers ≡ powers_of (values (answer_of a))

-- What `bounds_assess` promises, of the words before and after, the budget, the number that it returns, and what the lent arrays hold after.
pub record Assessed (before after : List ℕ) (budget : ℕ) (number : ℕ) (numbers : List ℕ) (powers : List ℤ) : Type 0 where
  pub number_is : number ≡ (values (answer before budget)).number
  pub numbers_are : numbers ≡ numbers_of (values (answer before budget)) (marks_with before budget (answer before budget))
  pub powers_are : powers ≡ powers_of (values (answer before budget))
  -- the accuracy rule holds of that answer, and a mark 1 means that the figure equals its exact sum
  pub accuracy : AccuracyRule before budget (answer before budget)
  pub marks_mean : MarkRule before budget (answer before budget) (marks_with before budget (answer before budget))
  pub words_unchanged : after ≡ before

-- What `bounds_assess_rows` promises, beside that of the rows before and after.
pub record AssessedRows (before after : List ℕ) (budget : ℕ) (given left : List Row) (number : ℕ) (numbers : List ℕ) (powers : List ℤ) : Type 0 where
  pub number_is : number ≡ (values (answer_with_rows before budget (length given))).number
  pub numbers_are : numbers
      ≡ numbers_of (values (answer_with_rows before budget (length given))) (marks_with before budget (answer_with_rows before budget (length given)))
  pub powers_are : powers ≡ powers_of (values (answer_with_rows before budget (length given)))
  -- the caller's table after the call is the definition's
  pub rows_are : left ≡ rows_after before budget given
  -- the accuracy rule holds of that answer and of each row filled
  pub accuracy : AccuracyRule before budget (answer_with_rows before budget (length given))
  pub rows_accurate : RowRule before budget (answer_with_rows before budget (length given)) given left
  -- a mark 1 means that the figure equals its exact sum
  pub marks_mean : MarkRule before budget (answer_with_rows before budget (length given))
      (marks_with before budget (answer_with_rows before budget (length given)))
  pub words_unchanged : after ≡ before

-- What `bounds_text` promises: of the bytes that the lent buffer then holds, the first n are the answer's text. What the others are is free.
pub record Texted (before after : List ℕ) (budget : ℕ) (bytes : List ℕ) (n : ℕ) : Type 0 where
  pub within : n ≤ length bytes
  pub text_is : take n bytes ≡ text_of before budget (answer before budget)
  -- the accuracy rule holds of that answer, and what its marks mean
  pub rules : Rules before budget (answer before budget)
  pub words_unchanged : after ≡ before

-- ---- figures compared

-- 1 where the first is at or below the second, 0 where it is above, 2 where one of them is no figure
unfoldable pub compared : Figure → Figure → ℕ
compared a b = elim (figure_test a) [ true ↦ elim (figure_test b) [ true ↦ elim (at_or_below a b) [ true ↦ 1 | false ↦ 0 ] | false ↦ 2 ] | false ↦ 2 ]

-- What `bounds_at_or_below` promises, of the two figures and its answer.
pub record Compared (a b : Figure) (answer : ℕ) : Type 0 where
  pub answer_is : answer ≡ compared a b
  pub first_tested : Tested a
  pub second_tested : Tested b

-- ---- the version

-- the number of a version: three digits each for minor and patch
abbrev pub version_number : ℕ → ℕ → ℕ → ℕ
version_number major minor patch = major * 1000000 + minor * 1000 + patch

-- this version
abbrev pub version : ℕ
version = version_number 1 5 1
