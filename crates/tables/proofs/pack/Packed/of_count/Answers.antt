-- `pack::Packed::of_count` meets its contract. Assumes nothing.
use Rattle.tables.proofs.Packed.{count_is}
use Rattle.tables.proofs.pack.Packed.of_count.Goals as goal

pub returns : goal.returns
returns c = count_is c.requires c.args.kept c.mark.ensures
