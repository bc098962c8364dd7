-- `model::transitions::list` meets its contract: where the words run out before the end, they are refused. Assumes nothing.
use Rattle.model.proofs.Turn.{turn_out}
use Rattle.model.proofs.transitions.list.Goals as goal

pub returns : goal.returns
returns c = turn_out _ _ _ _ _ c.loop-at.invariant c.loop-at-test.false
