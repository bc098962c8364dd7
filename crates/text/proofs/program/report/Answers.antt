-- `text::program::report` meets its contract: the budget and the number of rows are the documents', the answer to the words of the first `most_bytes` bytes is
-- that to all of them, and the laws of the text are proved. Assumes nothing.
use Rattle.text.proofs.Faithful as laws
use Rattle.text.proofs.Lending.{row_rules, printed_enough}
use Rattle.text.proofs.program.report.Goals as goal

pub returns-clause-holds : goal.returns-clause-holds
returns-clause-holds c =
    let t = rw (c.lending_rows.ensures.answer_is, c.lending_rows.ensures.marks_are, c.words_of-n.ensures.spelled.words_are) at c.answer_text.ensures in
    rw (printed_enough c.args.bytes.now 1000000) t

pub returns-clause-rules : goal.returns-clause-rules
returns-clause-rules c = row_rules _ _

pub returns-clause-faithful_text : goal.returns-clause-faithful_text
returns-clause-faithful_text c = laws.faithful_text
