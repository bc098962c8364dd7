-- `Part::trimmed` meets its contract. Assumes nothing.
use Prim.Native.Nat.{◌^◌}
use mathlib.Core.Path.{refl}
use native.Mathlib.Nat.{zero-lt-suc}
use native.Mathlib.Omega.{arith}
use Rattle.figure.specs.Internal.Steps.{digits_of}
use Rattle.figure.proofs.Parts.{trimmed_short, trimmed_long, shorter_small, next_near}
use Rattle.figure.proofs.division.Part.trimmed.Goals as goal

pub returns-then-self-limit : goal.returns-then-self-limit
returns-then-self-limit c =
    trimmed_short c.args.power (omega (arith, c.requires.1)) c.args.to (digits_of c.args.width) c.args.self
    (rw c.limit.ensures at c.if-self-limit.true) c.directed.ensures

pub directed-requires-2 : goal.directed-requires-2
directed-requires-2 c = (
  rw c.shortened.ensures (shorter_small c.args.self (10 ^ digits_of c.args.width) 10 (zero-lt-suc 9) (omega (arith, c.requires.0))),
  next_near c.args.power c.requires.1 refl,
)

pub returns : goal.returns
returns c =
    trimmed_long c.args.power (omega (arith, c.requires.1)) c.args.to (digits_of c.args.width) c.args.self
    (rw c.limit.ensures at c.if-self-limit.false) c.shortened.ensures refl c.directed-2.ensures
