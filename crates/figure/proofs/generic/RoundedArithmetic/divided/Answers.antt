-- `divided` of `Rounded` meets its contract: its mark is lost with either operand's, or where the two roundings differ. Assumes nothing.
use Rattle.std.proofs.Common.{rules}
use Rattle.figure.specs.Operations.{divided}
use Rattle.figure.specs.Losses.{divided_keeps}
use Rattle.figure.proofs.Directions.{divided_rounded}
use Rattle.figure.proofs.Tellings.{kept_of_both, same_keeps}
use Rattle.figure.proofs.generic.RoundedArithmetic.divided.Goals as goal

pub returns : goal.returns
unfolding divided_keeps
returns c =
    kept_of_both c.args.self.kept c.args.other.kept (c.both_ways.ensures (λ d. divided d c.args.self.figure c.args.other.figure) (λ d f p. search rules))
    (same_keeps 8 _ (λ d. divided d c.args.self.figure c.args.other.figure) (λ d. divided_rounded d c.args.self.figure c.args.other.figure) c.args.to)
