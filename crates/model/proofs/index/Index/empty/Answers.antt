-- `model::index::Index::empty` meets its contract. Assumes nothing.
use Rattle.std.proofs.Common.{refl}
use Rattle.model.proofs.IndexGrowth.{empty_index}
use Rattle.model.proofs.index.Index.empty.Goals as goal

pub returns : goal.returns
returns c = empty_index _ _ refl refl refl
