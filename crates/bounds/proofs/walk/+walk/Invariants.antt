use Rattle.std.specs.Prelude.{take}
use Rattle.path.specs.Internal.Held.{lent_by}
use Rattle.bounds.specs.Internal.Walk.{asked}
use Rattle.bounds.proofs.WalkLoop.{held, AtExit}
use Rattle.bounds.proofs.walk.+walk.Given as goal

abbrev pub invariant-loop-x : goal.invariant-loop-x
invariant-loop-x l = AtExit (lent_by l.prepared)
    (asked l.task l.tip l.left l.initial.entered (take l.tip.len l.initial.path) l.initial.made l.initial.rows)
    (held l.x-index l.entered l.path l.made l.cache l.rows)

-- the steps that the path may still take
abbrev pub decreases-walk : goal.decreases-walk
decreases-walk l = l.left
