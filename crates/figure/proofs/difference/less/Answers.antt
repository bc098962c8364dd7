-- `difference::less` meets its contract. Assumes nothing.
use mathlib.Core.Path.{◌∙◌}
use Rattle.figure.proofs.Stored.{gap_is}
use Rattle.figure.proofs.Figures.{room}
use Rattle.figure.proofs.Differences.{far_answer, near_nothing, near_answer}
use Rattle.figure.proofs.difference.less.Goals as goal

pub returns-then-gap-gt9 : goal.returns-then-gap-gt9
returns-then-gap-gt9 c =
    far_answer c.requires (gap_is c.requires.order (room tt c.requires.first.near) (room tt c.requires.second.near)) c.if-gap-gt9.true c.args.to
    c.lessened.ensures

pub returns-then-n-b : goal.returns-then-n-b
returns-then-n-b c =
    c.zero.ensures
    ∙ near_nothing c.requires (gap_is c.requires.order (room tt c.requires.first.near) (room tt c.requires.second.near)) c.ten_to.ensures c.args.to
    c.if-n-b.true

pub returns : goal.returns
returns c =
    near_answer c.requires (gap_is c.requires.order (room tt c.requires.first.near) (room tt c.requires.second.near)) c.ten_to.ensures c.args.to
    c.fitted.ensures
