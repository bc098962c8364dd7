-- `unreliability` meets its contract: the answer to a caller who lends 1,000 rows is that given without rows. Assumes nothing.
use mathlib.Core.Path.{◌∙◌, ap}
use native.Mathlib.Nat.{le_refl}
use Rattle.tree.specs.Marks.{marks_with}
use Rattle.tree.proofs.RowAnswers.{thousand_rows_enough}
use Rattle.bounds.proofs.AnswerPromise.{promise}
use Rattle.bounds.proofs.unreliability.Goals as goal

pub returns : goal.returns
returns c =
    let same = thousand_rows_enough _ _ 1000 (le_refl 1000) in promise _ _ _ _ c.measured.ensures.words_unchanged (c.measured.ensures.answer_is ∙ same)
    (c.measured.ensures.marks_are ∙ ap (marks_with _ _) same)
