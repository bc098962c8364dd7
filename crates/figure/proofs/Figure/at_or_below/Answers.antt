-- `Figure::at_or_below` meets its contract. Assumes nothing.
use mathlib.Core.Path.{◌∙◌}
use borrow.Author.Rules.{rules}
use mir.Syntax.{w32}
use mir.Val.{SFits}
use mir.Facts.{to_z-of_z}
use Rattle.figure.proofs.Orders.{first_zero, second_zero, two_whole}
use Rattle.figure.proofs.Figure.at_or_below.Goals as goal

pub returns-then-self-eq0 : goal.returns-then-self-eq0
returns-then-self-eq0 c = first_zero c.args.self c.args.other c.if-self-eq0.true

pub returns-then-other-eq0 : goal.returns-then-other-eq0
returns-then-other-eq0 c = second_zero c.args.self c.args.other c.if-self-eq0.false c.if-other-eq0.true

pub returns : goal.returns
returns c =
    let a : SFits w32 c.args.self.power = search rules in
    let b : SFits w32 c.args.other.power = search rules in
    (rw (to_z-of_z a, to_z-of_z b) at c.le.ensures)
    ∙ two_whole c.args.self c.args.other c.requires.0 c.requires.1 c.if-self-eq0.false c.if-other-eq0.false
