-- `Figure::is_figure` meets its contract. Assumes nothing.
use mathlib.Core.Path.{◌≡◌}
use Prim.Native.Nat.{◌≤◌, ◌<◌}
use borrow.Author.Rules.{rules}
use Rattle.figure.proofs.Tested.{zero_digits, few_digits, nine_digits, more_digits}
use Rattle.figure.proofs.Figure.is_figure.Goals as goal

pub returns-in-0 : goal.returns-in-0
returns-in-0 c = zero_digits c.args.self (search rules) c.in-0.is

pub returns-in-100000000-to-999999999 : goal.returns-in-100000000-to-999999999
returns-in-100000000-to-999999999 c =
    let l : 100000000 ≤ c.args.self.digits = search rules in let u : c.args.self.digits < 1000000000 = search rules in nine_digits c.args.self l u

pub returns-in_default : goal.returns-in_default
returns-in_default c =
    let n : c.args.self.digits ≡ 0 → ⊥ = search rules in let h : c.args.self.digits < 100000000 = search rules in few_digits c.args.self n h

pub returns-in_default-2 : goal.returns-in_default-2
returns-in_default-2 c = let h : 1000000000 ≤ c.args.self.digits = search rules in more_digits c.args.self h
