-- `text::answers::answered` meets its contract: the answer to the words of the first `most_bytes` bytes is that to all of them. Assumes nothing.
use Rattle.text.proofs.Lending.{rules, text_enough}
use Rattle.text.proofs.answers.answered.Goals as goal

pub returns-clause-holds : goal.returns-clause-holds
returns-clause-holds c =
    let t = rw c.words_of-n.ensures.spelled.words_are at c.words_text.ensures.holds in
    rw (text_enough c.args.bytes.now c.args.budget) t

pub returns-clause-rules : goal.returns-clause-rules
returns-clause-rules c = rules _ _
