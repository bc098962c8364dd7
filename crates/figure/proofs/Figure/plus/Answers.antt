-- `Figure::plus` meets its contract. Assumes nothing.
use mathlib.Core.Path.{sym, ◌∙◌}
use Rattle.figure.proofs.Directions.{plus_rounded}
use Rattle.figure.proofs.Figure.plus.Goals as goal

pub returns : goal.returns
returns c = c.plus.ensures ∙ sym (plus_rounded c.args.to c.args.self c.args.other)
