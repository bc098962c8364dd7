-- the number of digits that may still be written
use Rattle.text.proofs.Text.+with_decimal.Given as goal

abbrev pub decreases-with_decimal : goal.decreases-with_decimal
decreases-with_decimal l = l.most
