-- `Figure::divided` meets its contract. Assumes nothing.
use mathlib.Core.Path.{sym, ◌∙◌}
use Rattle.figure.proofs.Directions.{divided_rounded}
use Rattle.figure.proofs.Figure.divided.Goals as goal

pub returns : goal.returns
returns c = c.divided.ensures ∙ sym (divided_rounded c.args.to c.args.self c.args.other)
