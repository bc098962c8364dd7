-- `model::index::Index::clear` meets its contract. Assumes nothing.
use Rattle.std.proofs.Common.{refl, rules, ◌≡◌, length}
use Rattle.model.proofs.IndexGrowth.{empty_index}
use Rattle.model.proofs.index.Index.clear.Goals as goal

pub returns : goal.returns
returns c =
    let long : length c.args.self.now.states ≡ 1001 = search rules in
    empty_index _ _ refl refl (rw long at (c.fill.ensures.after (λ y e. e)))
