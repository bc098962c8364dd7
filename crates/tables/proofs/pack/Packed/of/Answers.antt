-- `pack::Packed::of` meets its contract: digits, raised power and mark lie side by side. Assumes nothing.
use Rattle.tables.proofs.Packed.{packed_is}
use Rattle.tables.proofs.pack.Packed.of.Goals as goal

pub returns : goal.returns
returns c = packed_is c.args.x.figure c.requires c.raised.result c.raised.ensures c.args.x.kept c.mark.ensures
