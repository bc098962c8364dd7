-- The exact sums of small models are what is worked out by hand: by computing them. Assumes nothing.
use mathlib.Core.Path.{refl}
use Rattle.tree.specs.Marked.{all}
use Rattle.accuracy.specs.Examples.{examples, example_agrees, ExactExamplesAgree}
use Rattle.accuracy.proofs.Computing.{computing_exact}

pub exact_examples_agree : ExactExamplesAgree
unfolding computing_exact ExactExamplesAgree examples all example_agrees
exact_examples_agree = refl
