-- `Figure::minus` meets its contract. Assumes nothing.
use mathlib.Core.Path.{sym, ◌∙◌}
use Rattle.figure.proofs.Directions.{minus_rounded}
use Rattle.figure.proofs.Figure.minus.Goals as goal

pub returns : goal.returns
returns c = c.minus.ensures ∙ sym (minus_rounded c.args.to c.args.self c.args.other)
