use Rattle.std.proofs.Common.{take}
use Rattle.tables.specs.Internal.Described.{net_of}
use Rattle.path.specs.Internal.Paths.{path_of}
use Rattle.path.specs.Internal.Spent.{SpentIs}
use Rattle.path.proofs.lower.spent_on.Given as goal

abbrev pub invariant-loop-x : goal.invariant-loop-x
invariant-loop-x g l =
    SpentIs g.A.Arithmetic.Is (net_of l.walked.prepared.now.words.now) (path_of (net_of l.walked.prepared.now.words.now) (take l.x-index l.walked.path.now)) l.spent
