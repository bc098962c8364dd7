-- the number of digits that may still be written
use Rattle.text.proofs.Text.+with_last.Given as goal

abbrev pub decreases-with_last : goal.decreases-with_last
decreases-with_last l = l.k
