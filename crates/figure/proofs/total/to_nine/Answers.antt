-- `total::to_nine` meets its contract. Assumes nothing.
use mathlib.Core.Path.{refl}
use Rattle.figure.proofs.Totals.{to_nine_zero, to_nine_below, to_nine_power, to_nine_answer}
use Rattle.figure.proofs.total.to_nine.Goals as goal

pub returns-then-t-eq0 : goal.returns-then-t-eq0
returns-then-t-eq0 c = to_nine_zero c.requires c.args.to c.if-t-eq0.true

pub directed-requires : goal.directed-requires
directed-requires c = (to_nine_below c.requires c.of.ensures, to_nine_power c.requires refl)

pub returns : goal.returns
returns c = to_nine_answer c.requires c.args.to c.if-t-eq0.false refl c.of.ensures c.directed.ensures
