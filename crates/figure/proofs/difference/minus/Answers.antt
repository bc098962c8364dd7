-- `difference::minus` meets its contract. Assumes nothing.
use mathlib.Core.Path.{◌∙◌}
use Rattle.figure.proofs.Differences.{nothing_taken, taken_from_nothing, higher_taken}
use Rattle.figure.proofs.difference.minus.Goals.{then-a-eq0-via-then-a-eq0, then-a-eq0-via-else-a-eq0+then-b-eq0}
use Rattle.figure.proofs.difference.minus.Goals as goal

pub returns-then-a-eq0 : goal.returns-then-a-eq0
returns-then-a-eq0 c = elim c.then-a-eq0.branch [
  | then-a-eq0-via-then-a-eq0 w ↦ taken_from_nothing c.args.to c.args.a c.args.b w.if-a-eq0.true c.requires.0.is_figure
  | then-a-eq0-via-else-a-eq0+then-b-eq0 w ↦ nothing_taken c.args.to c.args.a c.args.b w.if-b-eq0.true c.requires.0.is_figure
]

pub returns : goal.returns
returns c = c.zero.ensures ∙ higher_taken c.args.to c.args.a c.args.b c.requires.0 c.requires.1 c.if-b-eq0.false c.if-b-a.false
