-- `division::carried` meets its contract. Assumes nothing.
use mathlib.Core.Path.{refl}
use Rattle.figure.specs.Internal.Steps.{digits_of}
use Rattle.figure.proofs.Parts.{within, carried_full, carried_short}
use Rattle.figure.proofs.division.carried.Goals as goal

pub returns-then-digits-limit : goal.returns-then-digits-limit
returns-then-digits-limit c = carried_full c.args.power c.requires (within c.args.width) c.limit-limit.ensures c.if-digits-limit.true refl

pub returns : goal.returns
returns c = carried_short c.args.power c.requires (digits_of c.args.width) c.args.digits c.limit-limit.ensures c.if-digits-limit.false
