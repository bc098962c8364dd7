-- `grains` meets its contract: the table holds them. Assumes nothing.
use Rattle.path.proofs.PathSteps.{grains_held, grains_high_held}
use Rattle.path.proofs.prepared.Prepared.grains.Goals as goal

pub returns : goal.returns
returns c =
    let is = grains_held c.args.self.now.filled c.requires c.count.ensures in (is, rw is (grains_high_held c.args.self.now.filled c.requires))
