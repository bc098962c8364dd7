-- `total` of `Rounded` meets its contract: its mark is lost with either operand's, or where the two roundings differ. Assumes nothing.
use Rattle.std.proofs.Common.{rules}
use Rattle.figure.specs.Operations.{total}
use Rattle.figure.specs.Losses.{total_keeps}
use Rattle.figure.proofs.Directions.{total_rounded}
use Rattle.figure.proofs.Tellings.{kept_of_both, same_keeps}
use Rattle.figure.proofs.generic.RoundedArithmetic.total.Goals as goal

pub returns : goal.returns
unfolding total_keeps
returns c =
    kept_of_both c.args.self.kept c.args.a.kept (c.both_ways.ensures (λ d. total d c.args.self.figure c.args.a.figure) (λ d f p. search rules))
    (same_keeps 17 _ (λ d. total d c.args.self.figure c.args.a.figure) (λ d. total_rounded d c.args.self.figure c.args.a.figure) c.args.to)
