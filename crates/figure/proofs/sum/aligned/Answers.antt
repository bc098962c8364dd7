-- `sum::aligned` meets its contract. Assumes nothing.
use Rattle.figure.proofs.Stored.{gap_is}
use Rattle.figure.proofs.Figures.{room}
use Rattle.figure.proofs.Sums.{whole_fits, aligned_is}
use Rattle.figure.proofs.sum.aligned.Goals as goal

pub overflow_add-result : goal.overflow_add-result
overflow_add-result c = whole_fits c.requires _ c.lowered-part.ensures

pub returns : goal.returns
returns c = aligned_is c.requires _ (gap_is c.requires.order (room tt c.requires.first_near) (room tt c.requires.second_near)) c.lowered-part.ensures
