-- `minus` of `Rounded` meets its contract: its mark is lost with either operand's, or where the two roundings differ. Assumes nothing.
use Rattle.std.proofs.Common.{rules}
use Rattle.figure.specs.Operations.{minus}
use Rattle.figure.specs.Losses.{minus_keeps}
use Rattle.figure.proofs.Directions.{minus_rounded}
use Rattle.figure.proofs.Tellings.{kept_of_both, same_keeps}
use Rattle.figure.proofs.generic.RoundedArithmetic.minus.Goals as goal

pub returns : goal.returns
unfolding minus_keeps
returns c =
    kept_of_both c.args.self.kept c.args.other.kept (c.both_ways.ensures (λ d. minus d c.args.self.figure c.args.other.figure) (λ d f p. search rules))
    (same_keeps 8 _ (λ d. minus d c.args.self.figure c.args.other.figure) (λ d. minus_rounded d c.args.self.figure c.args.other.figure) c.args.to)
