-- `text::Text::with_decimal` meets its contract, by the digits before the last and the last. Assumes nothing.
use Rattle.std.proofs.Common.{arith, sym, append-nil}
use Rattle.std.proofs.lemmas.Grind.{common_steps}
use Rattle.text.proofs.Digits.{digits_none, digits_one, digits_more}
use Rattle.text.proofs.Text.+with_decimal.Goals as goal

pub returns-then-most-eq0 : goal.returns-then-most-eq0
returns-then-most-eq0 t c = rw (c.if-most-eq0.true, digits_none) (sym (append-nil c.args.self))

pub with_byte-requires : goal.with_byte-requires
with_byte-requires t c =
    let e = digits_one c.args.most c.args.n (omega arith) (omega arith) in grind (arith, common_steps, e)

pub returns-then-n-lt10 : goal.returns-then-n-lt10
returns-then-n-lt10 t c =
    let e = digits_one c.args.most c.args.n (omega arith) (omega arith) in grind (arith, common_steps, e)

pub with_decimal-requires : goal.with_decimal-requires
with_decimal-requires t c =
    let e = digits_more c.args.most c.args.n (omega arith) (omega arith) in
    (omega arith, grind (arith, common_steps, e))

pub with_byte-requires-2 : goal.with_byte-requires-2
with_byte-requires-2 t c =
    let e = digits_more c.args.most c.args.n (omega arith) (omega arith) in grind (arith, common_steps, e)

pub returns : goal.returns
returns t c =
    let e = digits_more c.args.most c.args.n (omega arith) (omega arith) in grind (arith, common_steps, e)
