-- The definitions agree with the small models of the two digits: by computing them. Assumes nothing.
use mathlib.Core.Path.{refl}
use Rattle.tree.specs.Marked.{all}
use Rattle.tree.specs.MarksPinned.{MarkCasesAgree, mark_cases, mark_case_agrees}
use Rattle.tree.proofs.Computing.{computing}

pub mark_cases_agree : MarkCasesAgree
unfolding computing MarkCasesAgree mark_cases all mark_case_agrees
mark_cases_agree = refl
