-- `product::extra_digit` meets its contract. Assumes nothing.
use Rattle.figure.proofs.Products.{eighteenth_is}
use Rattle.figure.proofs.product.extra_digit.Goals as goal

pub returns-clause-value : goal.returns-clause-value
returns-clause-value c = eighteenth_is c.args.p
