-- `product::nine_digits` meets its contract. Assumes nothing.
use mathlib.Core.Path.{refl, subst, sym}
use Prim.Native.Nat.{ℕ, ◌<◌}
use Rattle.figure.proofs.Products.{divisor_some, scaling_is}
use Rattle.figure.proofs.product.nine_digits.Goals as goal

pub of-part-requires : goal.of-part-requires
of-part-requires c = subst (λ (n : ℕ). 0 < n) (sym c.divisor.ensures) (divisor_some c.args.p)

pub returns : goal.returns
returns c = scaling_is c.args.p c.divisor.ensures c.of-part.ensures c.extra_digit.ensures.value refl
