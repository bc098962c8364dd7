-- `indexed::Indexed::part` meets its contract. Assumes nothing.
use Rattle.tables.proofs.Reached.{part_first}
use Rattle.tables.proofs.indexed.Indexed.part.Goals as goal

pub returns-clause-stands_first : goal.returns-clause-stands_first
returns-clause-stands_first c = part_first c.args.self.indexes c.requires c.place_of-at.ensures.0
