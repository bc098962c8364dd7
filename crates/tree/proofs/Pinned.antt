-- The classes, grains, times and exact values are what is worked out by hand: by computing them. Assumes nothing.
use mathlib.Core.Path.{refl}
use Rattle.tree.specs.Marked.{all}
use Rattle.tree.specs.Pinned.{pinned_cases, case_agrees, PinnedCasesAgree}
use Rattle.tree.proofs.Computing.{computing}

pub pinned_cases_agree : PinnedCasesAgree
unfolding computing PinnedCasesAgree pinned_cases all case_agrees
pinned_cases_agree = refl
