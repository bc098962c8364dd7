-- `product::divisor` meets its contract. Assumes nothing.
use mathlib.Core.Path.{◌∙◌, ap}
use Prim.Native.Nat.{ℕ, ◌+◌, ◌*◌}
use Rattle.figure.proofs.Products.{divisor_is}
use Rattle.figure.proofs.product.divisor.Goals as goal

pub returns : goal.returns
returns c = ap (λ (n : ℕ). 100000000 + 900000000 * n) c.extra_digit.ensures.value ∙ divisor_is c.args.p
