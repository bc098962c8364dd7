-- A signed number is written as its text says: its size, behind a minus sign where it is negative. Assumes nothing.
use Rattle.std.proofs.Common.{arith}
use Rattle.std.proofs.lemmas.Grind.{common_steps}
use Rattle.text.proofs.Figures.{with_minus, without_minus}
use Rattle.text.proofs.writing.I64Written.behind.Goals as goal

pub with_byte-requires : goal.with_byte-requires
with_byte-requires c = let e = with_minus c.ranges.self c.unsigned_abs-size.ensures.value c.if-self-lt0.true in grind (arith, common_steps, e)

pub with-requires : goal.with-requires
with-requires c = let e = with_minus c.ranges.self c.unsigned_abs-size.ensures.value c.if-self-lt0.true in grind (arith, common_steps, e)

pub returns-then-self-lt0 : goal.returns-then-self-lt0
returns-then-self-lt0 c = let e = with_minus c.ranges.self c.unsigned_abs-size.ensures.value c.if-self-lt0.true in grind (arith, common_steps, e)

pub with-requires-2 : goal.with-requires-2
with-requires-2 c = let e = without_minus c.ranges.self c.unsigned_abs-size.ensures.value c.if-self-lt0.false in grind (arith, common_steps, e)

pub returns : goal.returns
returns c = let e = without_minus c.ranges.self c.unsigned_abs-size.ensures.value c.if-self-lt0.false in grind (arith, common_steps, e)
