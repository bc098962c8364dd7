use Rattle.std.proofs.Common.{take}
use Rattle.tables.specs.Internal.Described.{net_of}
use Rattle.path.specs.Internal.Paths.{path_of}
use Rattle.path.proofs.UpperMarks.{UpperSoFar}
use Rattle.path.proofs.marks.upper_kept.Given as goal

abbrev pub invariant-loop-x : goal.invariant-loop-x
invariant-loop-x l = UpperSoFar (net_of l.walked.prepared.now.words.now) (path_of (net_of l.walked.prepared.now.words.now) (take l.x-index l.walked.path.now)) l.ones l.upper
