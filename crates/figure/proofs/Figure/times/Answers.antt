-- `Figure::times` meets its contract. Assumes nothing.
use mathlib.Core.Path.{sym, ◌∙◌}
use Rattle.figure.proofs.Directions.{times_rounded}
use Rattle.figure.proofs.Figure.times.Goals as goal

pub returns : goal.returns
returns c = c.times.ensures ∙ sym (times_rounded c.args.to c.args.self c.args.other)
