-- The definitions agree with document 01's examples: by computing them. Model A's report is computed in crates/tree/proofs/ModelA.antt. Assumes nothing.
use mathlib.Core.Path.{refl, ap, ◌∙◌}
use mathlib.Core.List.{[]}
use Rattle.word.specs.Answer.{granted, then}
use Rattle.model.specs.Reading.{at_words_end, read_from, first_of, read}
use Rattle.tree.specs.Report.{answer}
use Rattle.tree.proofs.ModelA.{words-A, report-A, answer-A, marks-A}
use Rattle.text.specs.Bytes.{words_of}
use Rattle.text.specs.Text.{digits_within, last_digits, signed_decimal, figure_text, answer_text, text_of}
use Rattle.text.proofs.Lending.{prints_no_row}
use Rattle.text.specs.Example.{bytes-A, AsDocumented}

pub as_documented : AsDocumented
unfolding words_of digits_within last_digits signed_decimal figure_text answer_text answer read first_of then read_from at_words_end
as_documented = record {
  words-A = refl;
  text-A = prints_no_row bytes-A ∙ ap (text_of words-A 1000000) answer-A ∙ ap (answer_text (granted report-A)) marks-A;
  text-F = prints_no_row [] ∙ refl;
  words_left_over = refl;
}
