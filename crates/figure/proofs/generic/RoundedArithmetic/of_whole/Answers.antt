-- `of_whole` of `Rounded` meets its contract: its mark is lost where the two roundings differ. Assumes nothing.
use mathlib.Core.Path.{refl}
use Rattle.std.proofs.Common.{rules}
use Rattle.fraction.specs.Fraction.{whole}
use Rattle.figure.specs.declared.Direction.TheVariants.{Down}
use Rattle.figure.specs.Operations.{of_whole}
use Rattle.figure.specs.Losses.{whole_keeps}
use Rattle.figure.specs.Internal.Steps.{rounded}
use Rattle.figure.proofs.Wholes.{of_whole_answer}
use Rattle.figure.proofs.Tellings.{told_by}
use Rattle.figure.proofs.generic.RoundedArithmetic.of_whole.Goals as goal

pub returns : goal.returns
unfolding of_whole whole_keeps
returns c =
    told_by 8 (whole c.args.n) Down refl refl
    (c.both_ways.ensures (λ d. rounded d 9 (whole c.args.n)) (λ d f p. of_whole_answer d c.args.n (search rules)))
