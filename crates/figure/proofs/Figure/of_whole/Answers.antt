-- `Figure::of_whole` meets its contract. Assumes nothing.
use Rattle.figure.specs.declared.Direction.TheVariants.{Down}
use Rattle.figure.specs.Operations.{of_whole}
use Rattle.figure.proofs.Wholes.{of_whole_answer}
use Rattle.figure.proofs.Figure.of_whole.Goals as goal

pub returns : goal.returns
unfolding of_whole
returns c = of_whole_answer Down c.args.n c.fitted.ensures
