-- `manner::Manner::at` meets its contract: a transition's words are there, and their quantities in range. Assumes nothing.
use mathlib.Core.Path.{sym, ◌∙◌}
use native.Mathlib.Omega.{arith}
use Rattle.tables.proofs.Firsts.{first_long_fast, fast_1, fast_2, fast_3, fast_is, slow_1, slow_is}
use Rattle.tables.proofs.manner.Manner.at.Goals as goal

pub figure_at-mean-requires : goal.figure_at-mean-requires
figure_at-mean-requires c = fast_1 c.requires (sym c.is_fast.ensures ∙ c.if-is_fast.true)

pub figure_at-deviation-requires : goal.figure_at-deviation-requires
figure_at-deviation-requires c = fast_2 c.requires (sym c.is_fast.ensures ∙ c.if-is_fast.true)

pub slice_bounds-figure_at-count-then-is_fast-2 : goal.slice_bounds-figure_at-count-then-is_fast-2
slice_bounds-figure_at-count-then-is_fast-2 c = omega (arith, first_long_fast c.requires (sym c.is_fast.ensures ∙ c.if-is_fast.true))

pub slice_bounds-figure_at-start-then-is_fast-2 : goal.slice_bounds-figure_at-start-then-is_fast-2
slice_bounds-figure_at-start-then-is_fast-2 c = omega (arith, first_long_fast c.requires (sym c.is_fast.ensures ∙ c.if-is_fast.true))

pub figure_at-probability-requires : goal.figure_at-probability-requires
figure_at-probability-requires c = fast_3 c.requires (sym c.is_fast.ensures ∙ c.if-is_fast.true)

pub returns-then-is_fast : goal.returns-then-is_fast
returns-then-is_fast c =
    fast_is c.requires (sym c.is_fast.ensures ∙ c.if-is_fast.true) c.figure_at-mean.ensures c.figure_at-deviation.ensures
    c.figure_at-probability.ensures

pub figure_at-requires : goal.figure_at-requires
figure_at-requires c = slow_1 c.requires (sym c.is_fast.ensures ∙ c.if-is_fast.false)

pub returns : goal.returns
returns c = slow_is c.requires (sym c.is_fast.ensures ∙ c.if-is_fast.false) c.figure_at.ensures
