-- The laws of the text that the report program's contract carries, together. Assumes nothing.
use Rattle.text.specs.Faithful.{FaithfulText}
use Rattle.text.proofs.Numerals.{decimal_worth, figure_digits}
use Rattle.text.proofs.Example.{as_documented}
use Rattle.text.proofs.Words.{answer_enough}
use Rattle.text.proofs.Lending.{prints_no_row}

pub faithful_text : FaithfulText
faithful_text = record { decimal_worth = decimal_worth; figure_digits = figure_digits; as_documented = as_documented; answer_enough = answer_enough; prints_no_row = prints_no_row }
