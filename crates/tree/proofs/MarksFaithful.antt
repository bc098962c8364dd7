-- The definitions of the two digits are what document 02 says of them. Assumes nothing.
use mathlib.Core.Path.{◌≡◌, refl, ap, ◌∙◌}
use mathlib.Core.Bool.{true, ◌&&◌}
use mathlib.Core.List.{[]}
use Rattle.fraction.specs.Fraction.{whole, ten, at_most, ◌*ᶠ◌}
use Rattle.figure.specs.Rounding.{value}
use Rattle.figure.specs.Losses.{keeps, to_nine_keeps}
use Rattle.word.specs.Model.{Net}
use Rattle.tree.specs.Report.{lower_total}
use Rattle.tree.specs.Marks.{total_kept, lower_total_kept, marks_of, marks_on, marks_with}
use Rattle.tree.specs.MarksFaithful.{RefusedMarks, RefusedRowMarks, NoDeathKeeps, CutsNotInLower, FaithfulMarks}
use Rattle.tree.proofs.Answer.{marks_refused}
use Rattle.tree.proofs.MarksPinned.{mark_cases_agree}

pub refused_marks : RefusedMarks
refused_marks ws budget number place e = ap (marks_with ws budget) e ∙ marks_refused ws budget number place

pub refused_row_marks : RefusedRowMarks
refused_row_marks ws budget lent number place e = ap (marks_with ws budget) e ∙ marks_refused ws budget number place

pub cuts_not_in_lower : CutsNotInLower
unfolding marks_on marks_of
cuts_not_in_lower net vs ws e = ap (λ ds. lower_total_kept net ds && to_nine_keeps (lower_total net ds)) e

none_lost : (net : Net) → lower_total_kept net [] && to_nine_keeps (lower_total net []) ≡ true
unfolding total_kept to_nine_keeps lower_total keeps at_most value ◌*ᶠ◌ whole ten
none_lost net = refl

pub no_death_keeps : NoDeathKeeps
unfolding marks_on marks_of
no_death_keeps net vs e = ap (λ ds. lower_total_kept net ds && to_nine_keeps (lower_total net ds)) e ∙ none_lost net

pub faithful_marks : FaithfulMarks
faithful_marks = record {
  refused_marks = refused_marks;
  refused_row_marks = refused_row_marks;
  no_death_keeps = no_death_keeps;
  cuts_not_in_lower = cuts_not_in_lower;
  mark_cases_agree = mark_cases_agree;
}
