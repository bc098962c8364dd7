-- `pack::Packed::is_kept` meets its contract. Assumes nothing.
use borrow.Author.Rules.{rules}
use Rattle.tables.specs.Internal.Tables.{marked}
use Rattle.tables.proofs.pack.Packed.is_kept.Goals as goal

pub returns : goal.returns
unfolding marked
returns c = search rules
