-- What holds of the answer that a text shows: the accuracy rule, and what its marks mean. Assumes nothing: these are definitions.
use Rattle.std.specs.Prelude.{ℕ, List}
use Rattle.word.specs.Answer.{Answer}
use Rattle.tree.specs.Report.{Report}
use Rattle.tree.specs.Marks.{marks_with}
use Rattle.accuracy.specs.Rule.{AccuracyRule}
use Rattle.accuracy.specs.Exactness.{MarkRule}

-- of an answer to a list of words and a budget
pub record Rules (ws : List ℕ) (budget : ℕ) (a : Answer Report) : Type 0 where
  pub accuracy : AccuracyRule ws budget a
  pub marks_mean : MarkRule ws budget a (marks_with ws budget a)
