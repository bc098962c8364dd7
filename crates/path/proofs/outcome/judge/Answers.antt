-- `judge` meets its contract: its tests are those of the definition, in the same order. Assumes nothing.
use mathlib.Core.Path.{sym, ◌∙◌}
use borrow.Author.Tests.{eq-eqb, ne_eqb, le-leb, lt-leb}
use Rattle.tree.specs.Internal.Outcomes.{decided}
use Rattle.path.specs.Internal.Outcomes.{judged}
use Rattle.path.proofs.outcome.judge.Goals as goal

pub returns-then-named : goal.returns-then-named
unfolding judged decided
returns-then-named c = rw (c.if-named.true, decided)

pub returns-then-exits-eq0 : goal.returns-then-exits-eq0
unfolding judged decided
returns-then-exits-eq0 c = rw (c.if-named.false, eq-eqb _ _ c.if-exits-eq0.true, decided)

pub returns-then-entry_limit-before : goal.returns-then-entry_limit-before
unfolding judged decided
returns-then-entry_limit-before c = rw (c.if-named.false, ne_eqb _ _ c.if-exits-eq0.false, le-leb _ _ c.if-entry_limit-before.true, decided)

pub returns-then-left-eq0 : goal.returns-then-left-eq0
unfolding judged decided
returns-then-left-eq0 c =
    rw (c.if-named.false, ne_eqb _ _ c.if-exits-eq0.false, lt-leb _ _ c.if-entry_limit-before.false, eq-eqb _ _ c.if-left-eq0.true, decided)

pub returns-then-at_or_below : goal.returns-then-at_or_below
unfolding judged decided
returns-then-at_or_below c =
    rw (
      c.if-named.false,
      ne_eqb _ _ c.if-exits-eq0.false,
      lt-leb _ _ c.if-entry_limit-before.false,
      ne_eqb _ _ c.if-left-eq0.false,
      sym c.at_or_below.ensures
          ∙ c.if-at_or_below.true,
      decided,
    )

pub returns : goal.returns
unfolding judged decided
returns c =
    rw (
      c.if-named.false,
      ne_eqb _ _ c.if-exits-eq0.false,
      lt-leb _ _ c.if-entry_limit-before.false,
      ne_eqb _ _ c.if-left-eq0.false,
      sym c.at_or_below.ensures
          ∙ c.if-at_or_below.false,
      decided,
    )
