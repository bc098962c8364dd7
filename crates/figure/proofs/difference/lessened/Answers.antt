-- `difference::lessened` meets its contract. Assumes nothing.
use Rattle.figure.proofs.Differences.{below_least, below_more}
use Rattle.figure.proofs.difference.lessened.Goals.{then-a-eq100000000, else-a-eq100000000}
use Rattle.figure.proofs.difference.lessened.Goals as goal

pub returns : goal.returns
returns c = elim c.if-a-eq100000000.branch [
  | then-a-eq100000000 w ↦ below_least c.args.to c.requires.0 c.directed.ensures w.if-a-eq100000000.true w.whole-is
  | else-a-eq100000000 w ↦ below_more c.args.to c.requires.0 c.directed.ensures w.if-a-eq100000000.false w.whole-is
]
