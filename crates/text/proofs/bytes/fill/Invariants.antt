-- the words of the chunks passed stand
use Rattle.text.proofs.Words.{Filled}
use Rattle.text.proofs.bytes.fill.Given as goal

abbrev pub invariant-loop-i : goal.invariant-loop-i
invariant-loop-i l = Filled l.bytes l.words l.i
