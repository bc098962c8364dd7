use Rattle.std.proofs.Common.{take}
use Rattle.tables.specs.Internal.Described.{net_of}
use Rattle.path.specs.Internal.Paths.{path_of}
use Rattle.path.proofs.PathSums.{ProductSoFar}
use Rattle.path.proofs.lower.product.Given as goal

abbrev pub invariant-loop-x : goal.invariant-loop-x
invariant-loop-x g l =
    ProductSoFar g.A.Arithmetic.Is (net_of l.walked.prepared.now.words.now) l.fn.t (path_of (net_of l.walked.prepared.now.words.now) (take l.x-index l.walked.path.now)) l.k l.p
