-- `to_nine` of `Rounded` meets its contract: its mark is lost with the total's, or where the two roundings differ. Assumes nothing.
use Rattle.std.proofs.Common.{rules, true}
use Rattle.figure.specs.Operations.{to_nine}
use Rattle.figure.specs.Losses.{to_nine_keeps}
use Rattle.figure.proofs.Directions.{to_nine_rounded}
use Rattle.figure.proofs.Tellings.{kept_of_both, same_keeps}
use Rattle.figure.proofs.generic.RoundedArithmetic.to_nine.Goals as goal

pub returns : goal.returns
unfolding to_nine_keeps
returns c =
    kept_of_both true c.args.self.kept (c.both_ways.ensures (λ d. to_nine d c.args.self.figure) (λ d f p. search rules))
    (same_keeps 8 _ (λ d. to_nine d c.args.self.figure) (λ d. to_nine_rounded d c.args.self.figure) c.args.to)
