-- `Figure::total` meets its contract. Assumes nothing.
use mathlib.Core.Path.{sym, ◌∙◌}
use Rattle.figure.proofs.Figures.{sized_more}
use Rattle.figure.proofs.Totals.{widening_sized, total_answer}
use Rattle.figure.proofs.Directions.{total_rounded}
use Rattle.figure.proofs.Figure.total.Goals as goal

pub plus-requires : goal.plus-requires
plus-requires c = (sized_more c.requires.0, rw c.widened.ensures (widening_sized c.requires.1))

pub returns : goal.returns
returns c =
    total_answer c.requires.1 c.args.to c.args.self c.widened.ensures c.plus.ensures ∙ sym (total_rounded c.args.to c.args.self c.args.a)
