-- `text::Text::with_last` meets its contract, by the digits before the last and the last. Assumes nothing.
use Rattle.std.proofs.Common.{arith, sym, append-nil}
use Rattle.std.proofs.lemmas.Grind.{common_steps}
use Rattle.text.proofs.Digits.{last_none, last_more}
use Rattle.text.proofs.Text.+with_last.Goals as goal

pub returns-then-k-eq0 : goal.returns-then-k-eq0
returns-then-k-eq0 t c = rw (c.if-k-eq0.true, last_none) (sym (append-nil c.args.self))

pub with_last-requires : goal.with_last-requires
with_last-requires t c =
    let e = last_more c.args.k c.args.n (omega arith) in
    (omega arith, grind (arith, common_steps, e))

pub with_byte-requires : goal.with_byte-requires
with_byte-requires t c =
    let e = last_more c.args.k c.args.n (omega arith) in grind (arith, common_steps, e)

pub returns : goal.returns
returns t c =
    let e = last_more c.args.k c.args.n (omega arith) in grind (arith, common_steps, e)
