-- A figure is written as its text says: zero as 0, and else piece by piece. Assumes nothing.
use Rattle.std.proofs.Common.{arith}
use Rattle.std.proofs.lemmas.Grind.{common_steps}
use mir.Syntax.{w32, w64}
use mir.Val.{SFits}
use Rattle.text.proofs.Figures.{zero_text, some_text, exponent_is}
use Rattle.text.proofs.writing.FigureWritten.behind.Goals as goal

pub with_byte-requires : goal.with_byte-requires
with_byte-requires c = let e = zero_text c.args.self c.if-d-eq0.true in grind (arith, common_steps, e)

pub returns-then-d-eq0 : goal.returns-then-d-eq0
returns-then-d-eq0 c = let e = zero_text c.args.self c.if-d-eq0.true in grind (arith, common_steps, e)

pub with_last-requires : goal.with_last-requires
with_last-requires c = let e = some_text c.args.self c.if-d-eq0.false in grind (arith, common_steps, e)

pub with_byte-requires-2 : goal.with_byte-requires-2
with_byte-requires-2 c = let e = some_text c.args.self c.if-d-eq0.false in grind (arith, common_steps, e)

pub with_last-requires-2 : goal.with_last-requires-2
with_last-requires-2 c = let e = some_text c.args.self c.if-d-eq0.false in grind (arith, common_steps, e)

pub with_byte-requires-3 : goal.with_byte-requires-3
with_byte-requires-3 c = let e = some_text c.args.self c.if-d-eq0.false in grind (arith, common_steps, e)

pub with-requires : goal.with-requires
with-requires c =
    let e = some_text c.args.self c.if-d-eq0.false in
    let p : SFits w32 c.args.self.power = record { sfits = omega arith } in
    let x : SFits w64 c.exponent.result = record { sfits = omega arith } in
    rw (exponent_is p x c.exponent.ensures) (grind (arith, common_steps, e))

pub returns : goal.returns
returns c =
    let e = some_text c.args.self c.if-d-eq0.false in
    let p : SFits w32 c.args.self.power = record { sfits = omega arith } in
    let x : SFits w64 c.exponent.result = record { sfits = omega arith } in
    let written = rw (exponent_is p x c.exponent.ensures) at c.with.ensures in
    grind (arith, common_steps, e, written)
