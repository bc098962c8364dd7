-- `text::answers::refusal_text` meets its contract: one line, written from nothing. Assumes nothing.
use Rattle.std.proofs.Common.{arith}
use Rattle.std.proofs.lemmas.Grind.{common_steps}
use Rattle.word.specs.Answer.{refused}
use Rattle.word.specs.Refusal.{number, place}
use Rattle.tree.specs.Marks.{no_marks}
use Rattle.text.specs.Text.{answer_text}
use Rattle.text.proofs.Lengths.{answer_short}
use Rattle.text.proofs.answers.refusal_text.Goals as goal

pub with_line-requires : goal.with_line-requires
unfolding answer_text
with_line-requires c = let h = answer_short (refused (number c.args.f) (place c.args.f)) no_marks in grind (arith, common_steps, h)

pub returns : goal.returns
unfolding answer_text
returns c = grind (arith, common_steps)
