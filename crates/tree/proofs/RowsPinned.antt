-- The definitions agree with the small cases of rows: by computing them. Assumes nothing.
use mathlib.Core.Path.{refl}
use Rattle.word.specs.Model.{numbers_from}
use Rattle.tree.specs.Rows.{has_row, row_states, ending_in, row_on, rows_of, read_with_rows, answer_with_rows, filled_rows}
use Rattle.tree.specs.Rows.{laid_over, rows_after}
use Rattle.tree.specs.Marked.{all}
use Rattle.tree.specs.RowsPinned.{RowCasesAgree, row_cases, same_rows, row_case_agrees}
use Rattle.tree.proofs.Computing.{computing}

pub row_cases_agree : RowCasesAgree
unfolding computing RowCasesAgree row_cases all row_case_agrees same_rows
    has_row numbers_from row_states ending_in row_on rows_of read_with_rows answer_with_rows filled_rows laid_over rows_after
row_cases_agree = refl
