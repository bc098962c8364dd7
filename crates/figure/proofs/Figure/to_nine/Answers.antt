-- `Figure::to_nine` meets its contract. Assumes nothing.
use mathlib.Core.Path.{sym, ◌∙◌}
use Rattle.figure.proofs.Directions.{to_nine_rounded}
use Rattle.figure.proofs.Figure.to_nine.Goals as goal

pub returns : goal.returns
returns c = c.to_nine.ensures ∙ sym (to_nine_rounded c.args.to c.args.self)
