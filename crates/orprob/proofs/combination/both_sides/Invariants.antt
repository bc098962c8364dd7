-- What the loop of `both_sides` keeps: the pairs before x are combined. Assumes nothing.
use Rattle.orprob.proofs.Turns.{Combining}
use Rattle.orprob.proofs.combination.both_sides.Given as goal

abbrev pub invariant-loop-x : goal.invariant-loop-x
invariant-loop-x l = Combining l.pairs l.x-index l.lower l.upper
