-- `product::times` meets its contract. Assumes nothing.
use mathlib.Core.Path.{refl, ◌∙◌}
use Rattle.figure.proofs.Products.{product_zero, product_fits_power, product_below, product_power, product_answer}
use Rattle.figure.proofs.product.times.Goals as goal

pub returns-then-p-eq0 : goal.returns-then-p-eq0
returns-then-p-eq0 c = c.zero.ensures ∙ product_zero c.requires.0 c.requires.1 c.args.to c.if-p-eq0.true

pub overflow_add-a-2 : goal.overflow_add-a-2
overflow_add-a-2 c = product_fits_power c.requires.0 c.requires.1 c.if-p-eq0.false c.nine_digits-s.ensures refl

pub directed-requires : goal.directed-requires
directed-requires c = (
  product_below c.requires.0 c.requires.1 c.if-p-eq0.false c.nine_digits-s.ensures refl,
  product_power c.requires.0 c.requires.1 c.if-p-eq0.false c.nine_digits-s.ensures refl refl,
)

pub returns : goal.returns
returns c =
    product_answer c.requires.0 c.requires.1 c.if-p-eq0.false c.nine_digits-s.ensures refl refl c.args.to c.directed.ensures
