-- `Figure::sum_to_nine` meets its contract. Assumes nothing.
use mathlib.Core.Path.{sym, ◌∙◌}
use Rattle.figure.proofs.Directions.{sum_to_nine_rounded}
use Rattle.figure.proofs.Figure.sum_to_nine.Goals as goal

pub returns : goal.returns
returns c = c.sum_to_nine.ensures ∙ sym (sum_to_nine_rounded c.args.to c.args.self c.args.other)
