-- `text::answers::report_text` meets its contract: the figures' lines, the counts' and that of the marks, written from nothing. Assumes nothing.
use Rattle.std.proofs.Common.{arith}
use Rattle.std.proofs.lemmas.Grind.{common_steps}
use Rattle.word.specs.Answer.{granted}
use Rattle.bounds.specs.Answers.{report_of, marks_of}
use Rattle.text.specs.Text.{answer_text}
use Rattle.text.proofs.Lengths.{answer_short}
use Rattle.text.proofs.answers.report_text.Goals as goal

pub with_figures-requires : goal.with_figures-requires
unfolding answer_text
with_figures-requires c = let h = answer_short (granted (report_of c.args.r)) (marks_of c.args.r) in grind (arith, common_steps, h)

pub with_counts-requires : goal.with_counts-requires
unfolding answer_text
with_counts-requires c = let h = answer_short (granted (report_of c.args.r)) (marks_of c.args.r) in grind (arith, common_steps, h)

pub with_exact-requires : goal.with_exact-requires
unfolding answer_text
with_exact-requires c = let h = answer_short (granted (report_of c.args.r)) (marks_of c.args.r) in grind (arith, common_steps, h)

pub returns : goal.returns
unfolding answer_text
returns c = grind (arith, common_steps)
