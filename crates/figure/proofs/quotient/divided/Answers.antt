-- `quotient::divided` meets its contract. Assumes nothing.
use mathlib.Core.Path.{refl}
use Rattle.figure.proofs.Quotients.{quotient_zero, quotient_below, quotient_power, quotient_answer}
use Rattle.figure.proofs.quotient.divided.Goals as goal

pub returns-then-a-eq0 : goal.returns-then-a-eq0
returns-then-a-eq0 c = quotient_zero c.requires.0 c.requires.1 c.requires.2 c.args.to c.if-a-eq0.true

pub directed-requires : goal.directed-requires
directed-requires c = (
  quotient_below c.requires.0 c.requires.1 c.requires.2 c.zeros_needed-zeros.ensures c.ten_to.ensures c.of-part.ensures,
  quotient_power c.requires.0 c.requires.1 c.requires.2 c.zeros_needed-zeros.ensures c.ten_to.ensures refl refl refl,
)

pub returns : goal.returns
returns c =
    quotient_answer c.requires.0 c.requires.1 c.requires.2 c.zeros_needed-zeros.ensures c.ten_to.ensures refl refl refl c.args.to
    c.of-part.ensures c.directed.ensures
