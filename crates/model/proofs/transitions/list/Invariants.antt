use Rattle.std.proofs.Common.{◌-◌, length}
use Rattle.model.specs.Internal.Parts.{Begun}
use Rattle.model.proofs.transitions.list.Given as goal

abbrev pub invariant-loop-at : goal.invariant-loop-at
invariant-loop-at l = Begun l.a l.words l.at l.known l.index

abbrev pub decreases-loop-at : goal.decreases-loop-at
decreases-loop-at l = length l.words - l.at
