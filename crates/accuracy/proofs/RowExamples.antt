-- The exact sums of single rows are what is worked out by hand: by computing them. Assumes nothing.
use mathlib.Core.Path.{refl}
use Rattle.tree.specs.Rows.{ending_in}
use Rattle.tree.specs.Marked.{all}
use Rattle.accuracy.specs.RowExamples.{row_examples, row_example_agrees, ExactRowsAgree}
use Rattle.accuracy.proofs.Computing.{computing_exact}

pub exact_rows_agree : ExactRowsAgree
unfolding computing_exact ExactRowsAgree row_examples all row_example_agrees ending_in
exact_rows_agree = refl
