-- `targets` meets its contract: each turn marks the target of one transition more. Assumes nothing.
use Rattle.std.proofs.Common.{arith, add-one, length, ◌<◌}
use Rattle.tables.specs.Internal.Described.{net_of}
use Rattle.rows.proofs.RowNames.{targets_none, targets_more, target_is, target_small}
use Rattle.rows.proofs.names.targets.Goals as goal

pub loop-j-init : goal.loop-j-init
loop-j-init c = targets_none _

pub bounds-targets-to : goal.bounds-targets-to
bounds-targets-to c =
    let inside : c.loop-j.j < length (net_of c.args.model.words.now).table = omega arith in
    let h = target_small c.args.model.indexes inside c.word_of.ensures c.to.ensures.value in omega arith

pub loop-j-preserved : goal.loop-j-preserved
loop-j-preserved c =
    let inside : c.loop-j.j < length (net_of c.args.model.words.now).table = omega arith in
    rw add-one
    (targets_more _ (target_is c.args.model.indexes inside c.word_of.ensures c.to.ensures.value)
    (target_small c.args.model.indexes inside c.word_of.ensures c.to.ensures.value) c.loop-j.invariant)
