-- `pack::Packed::figure` meets its contract. Assumes nothing.
use Rattle.tables.proofs.Packed.{unpacked_is}
use Rattle.tables.proofs.pack.Packed.figure.Goals as goal

pub returns : goal.returns
returns c = unpacked_is c.args.self c.lowered-power.result c.lowered-power.ensures
