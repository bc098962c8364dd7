-- `mark_ended` meets its contract: the totals, the lower and the upper are in range. Assumes nothing.
use lib.Dec.{lit≤}
use Rattle.figure.proofs.Sized.{sized-≤}
use Rattle.rows.proofs.RowTotals.{room_operand}
use Rattle.bounds.proofs.marks.mark_ended.Goals as goal
use Rattle.bounds.proofs.marks.mark_ended.Goals.{in-Some, in-None}

pub adds_exactly-upper_stays-requires : goal.adds_exactly-upper_stays-requires
adds_exactly-upper_stays-requires c =
    let fits = sized-≤ (lit≤ tt) c.requires.2 in
    elim c.match-lower.branch [
      | in-Some w ↦ (rw w.uppers-is (room_operand c.requires.0.death), fits)
      | in-None w ↦ (rw w.uppers-is (room_operand c.requires.0.cut), fits)
    ]

pub adds_exactly-requires : goal.adds_exactly-requires
adds_exactly-requires c =
    (room_operand c.requires.0.lower, sized-≤ (lit≤ tt) (rw c.in-Some-lower.is at c.requires.1))
