-- `sum_to_nine` of `Rounded` meets its contract: its mark is lost with either operand's, or where the two roundings differ. Assumes nothing.
use Rattle.std.proofs.Common.{rules}
use Rattle.figure.specs.Operations.{sum_to_nine}
use Rattle.figure.specs.Losses.{sum_to_nine_keeps}
use Rattle.figure.proofs.Directions.{sum_to_nine_rounded}
use Rattle.figure.proofs.Tellings.{kept_of_both, same_keeps}
use Rattle.figure.proofs.generic.RoundedArithmetic.sum_to_nine.Goals as goal

pub returns : goal.returns
unfolding sum_to_nine_keeps
returns c =
    kept_of_both c.args.self.kept c.args.other.kept (c.both_ways.ensures (λ d. sum_to_nine d c.args.self.figure c.args.other.figure) (λ d f p. search rules))
    (same_keeps 8 _ (λ d. sum_to_nine d c.args.self.figure c.args.other.figure) (λ d. sum_to_nine_rounded d c.args.self.figure c.args.other.figure) c.args.to)
