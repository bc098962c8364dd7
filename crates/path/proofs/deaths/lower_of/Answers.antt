-- `lower_of` meets its contract: every figure on the way is an operand. Assumes nothing.
use mathlib.Core.Path.{sym, ◌∙◌}
use lib.Dec.{lit≤}
use Rattle.figure.proofs.Sized.{sized-≤, times_down_sized, divided_down_sized}
use Rattle.path.proofs.DeathStems.{sized_some, lower_none, lower_one, lower_other}
use Rattle.path.proofs.deaths.lower_of.Goals as goal

pub returns-in_default : goal.returns-in_default
returns-in_default c = c.zero.ensures ∙ sym (lower_none _ _ _ _ c.in_default.is)

pub times-requires-then-is_class1 : goal.times-requires-then-is_class1
times-requires-then-is_class1 c =
    let fine = sized_some c.in-Some.is c.requires.0 in (rw c.times.ensures (sized-≤ (lit≤ tt) (times_down_sized fine.product c.requires.1)), sized-≤ (lit≤ tt) fine.time)

pub divided-requires : goal.divided-requires
divided-requires c =
    let fine = sized_some c.in-Some.is c.requires.0 in (
      rw (c.times-then-is_class1.ensures, c.times.ensures)
          (sized-≤ (lit≤ tt) (times_down_sized (times_down_sized fine.product c.requires.1) fine.time)),
      sized-≤ (lit≤ tt) c.requires.3,
      c.requires.4,
    )

pub times-requires-then-is_class1-2 : goal.times-requires-then-is_class1-2
times-requires-then-is_class1-2 c =
    let fine = sized_some c.in-Some.is c.requires.0 in (
      rw (c.divided.ensures, c.times-then-is_class1.ensures, c.times.ensures)
          (sized-≤ (lit≤ tt) (divided_down_sized (times_down_sized
          (times_down_sized fine.product c.requires.1) fine.time) c.requires.3 c.requires.4)),
      sized-≤ (lit≤ tt) fine.last,
    )

pub returns-then-is_class1 : goal.returns-then-is_class1
returns-then-is_class1 c =
    rw (c.times-then-is_class1-2.ensures, c.divided.ensures, c.times-then-is_class1.ensures, c.times.ensures)
    (sym (lower_one _ _ _ _ c.in-Some.is (sym c.is_class1.ensures ∙ c.if-is_class1.true)))

pub times-requires-3 : goal.times-requires-3
times-requires-3 c =
    let fine = sized_some c.in-Some.is c.requires.0 in (rw c.times-2.ensures (sized-≤ (lit≤ tt) (times_down_sized fine.product c.requires.2)), sized-≤ (lit≤ tt) fine.last)

pub returns : goal.returns
returns c =
    rw (c.times-3.ensures, c.times-2.ensures) (sym (lower_other _ _ _ _ c.in-Some.is
    (sym c.is_class1.ensures ∙ c.if-is_class1.false)))
