-- `total::widened` meets its contract. Assumes nothing.
use mathlib.Core.Path.{refl}
use Rattle.figure.proofs.Totals.{widened_zero, widened_answer}
use Rattle.figure.proofs.total.widened.Goals as goal

pub returns-then-a-eq0 : goal.returns-then-a-eq0
returns-then-a-eq0 c = widened_zero c.requires c.if-a-eq0.true

pub returns : goal.returns
returns c = widened_answer c.requires c.if-a-eq0.false refl
