-- What the entry point promises. Assumes nothing: these are definitions.
use Rattle.std.specs.Prelude.{ℕ, ◌<◌, ◌≡◌, List, length, Result, Ok, Err}
use Rattle.word.specs.Model.{Model}
use Rattle.word.specs.Answer as answers
use Rattle.model.specs.Reading as reading
use Rattle.word.specs.declared.Refusal.{Refusal}
use Rattle.word.specs.Refusal.{number, place}
use Rattle.tree.specs.Tree.{tree}
use Rattle.tree.specs.Report as definition
use Rattle.tree.specs.Marks.{Marks, no_marks, marks_with}
use Rattle.accuracy.specs.Rule.{AccuracyRule}
use Rattle.accuracy.specs.Exactness.{MarkRule}
use Rattle.bounds.specs.Faithful.{Faithful}
use Rattle.bounds.specs.declared.Report.{Report}

abbrev pub report_of : Report → definition.Report
report_of r = record { lower = r.lower; upper = r.upper; cut = r.cut; deaths = r.deaths; cuts = r.cuts; steps = r.steps }

-- document 01's answer for each case of the code's: the report, or the refusal's number and place
abbrev pub answer_of : Result Report Refusal → answers.Answer definition.Report
answer_of (Ok r) = answers.granted (report_of r)
answer_of (Err f) = answers.refused (number f) (place f)

-- the two marks of a report, and of an answer: "(in a refusal both are 0)"

abbrev pub marks_of : Report → Marks
marks_of r = record { lower = r.lower_exact; upper = r.upper_exact }

abbrev pub marks_of_answer : Result Report Refusal → Marks
marks_of_answer (Ok r) = marks_of r
marks_of_answer (Err f) = no_marks

-- What `unreliability` promises, of the words before and after, the budget and its answer.
pub record Promised (before after : List ℕ) (budget : ℕ) (r : Result Report Refusal) : Type 0 where
  -- demands 1 and 2: the answer is the definition's, a report with its figures and counts or a refusal with its number and place
  pub answer_is : answer_of r ≡ definition.answer before budget
  -- it follows, as plain values: a refusal's number and place, and every figure and count in it zero
  pub values_are : definition.values (answer_of r) ≡ definition.values (definition.answer before budget)
  -- demand 3: the accuracy rule
  pub accuracy : AccuracyRule before budget (answer_of r)
  -- document 02, Item 2: the marks are the definition's, and a mark 1 means that the figure equals its exact sum
  pub marks_are : marks_of_answer r ≡ marks_with before budget (definition.answer before budget)
  pub marks_mean : MarkRule before budget (answer_of r) (marks_of_answer r)
  -- the lent words are unchanged
  pub words_unchanged : after ≡ before
  -- in a report the steps are the count of paths in the cut tree
  pub steps_are : (m : Model) (q : definition.Report) → reading.read before budget ≡ answers.granted m → answer_of r ≡ answers.granted q
      → q.steps ≡ length (tree m.net m.limits)
  -- an allowed budget is refused exactly when the tree has more steps than it ("13: the cut tree has more steps than the budget. Place 0.")
  pub refused_over : (m : Model) → reading.read before budget ≡ answers.granted m → budget < length (tree m.net m.limits)
      → answer_of r ≡ answers.refused 13 0
  pub over_refused : (m : Model) → reading.read before budget ≡ answers.granted m → answer_of r ≡ answers.refused 13 0
      → budget < length (tree m.net m.limits)
  -- the definitions that all this rests on are what document 01 says of them
  pub faithful : Faithful
