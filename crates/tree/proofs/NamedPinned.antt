-- The definitions agree with the small cases of the generator's states: by computing them. Assumes nothing.
use mathlib.Core.Path.{refl}
use Rattle.word.specs.Model.{numbers_from}
use Rattle.tree.specs.Rows.{has_row, row_states, ending_in, row_on, rows_of, read_with_rows, answer_with_rows, filled_rows}
use Rattle.tree.specs.Rows.{laid_over, rows_after}
use Rattle.tree.specs.Marked.{all}
use Rattle.tree.specs.RowsPinned.{same_rows, row_case_agrees}
use Rattle.tree.specs.NamedPinned.{NamedCasesAgree, named_cases}
use Rattle.tree.proofs.Computing.{computing}

pub named_cases_agree : NamedCasesAgree
unfolding computing NamedCasesAgree named_cases all row_case_agrees same_rows
    has_row numbers_from row_states ending_in row_on rows_of read_with_rows answer_with_rows filled_rows laid_over rows_after
named_cases_agree = refl
