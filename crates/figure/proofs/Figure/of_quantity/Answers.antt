-- `Figure::of_quantity` meets its contract. Assumes nothing.
use Rattle.figure.specs.declared.Direction.TheVariants.{Up}
use Rattle.figure.specs.Operations.{of_quantity}
use Rattle.figure.proofs.Wholes.{quantity_answer}
use Rattle.figure.proofs.Figure.of_quantity.Goals as goal

pub returns : goal.returns
unfolding of_quantity
returns c = quantity_answer c.args.p c.requires Up c.args.c c.from.ensures c.fitted.ensures
