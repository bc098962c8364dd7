-- `Figure::times_ten` meets its contract. Assumes nothing.
use mathlib.Core.Path.{refl}
use Rattle.figure.proofs.Figures.{times_ten_zero, times_ten_whole}
use Rattle.figure.proofs.Figure.times_ten.Goals as goal

pub returns-then-self-eq0 : goal.returns-then-self-eq0
returns-then-self-eq0 c = times_ten_zero c.args.p c.requires.0 c.if-self-eq0.true

pub returns : goal.returns
returns c = times_ten_whole c.args.p c.requires.0 c.if-self-eq0.false c.requires.1 refl
