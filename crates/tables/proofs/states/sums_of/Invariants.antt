use Rattle.tables.specs.Internal.Described.{net_of}
use Rattle.tables.proofs.StateSums.{SummedTo}
use Rattle.tables.proofs.states.sums_of.Given as goal

abbrev pub invariant-loop-j : goal.invariant-loop-j
invariant-loop-j l = SummedTo (net_of l.model.words.now) l.s l.j-index l.so_far
