-- `of_quantity` of `Rounded` meets its contract: its mark is lost where the two roundings differ. Assumes nothing.
use mathlib.Core.Path.{refl}
use Prim.Native.Nat.{◌^◌}
use lib.IntN.{pos}
use Rattle.std.proofs.Common.{rules}
use Rattle.fraction.specs.Fraction.{ratio}
use Rattle.figure.specs.declared.Direction.TheVariants.{Up}
use Rattle.figure.specs.Operations.{of_quantity}
use Rattle.figure.specs.Losses.{quantity_keeps}
use Rattle.figure.specs.Internal.Steps.{rounded}
use Rattle.figure.proofs.Wholes.{quantity_answer}
use Rattle.figure.proofs.Tellings.{told_by}
use Rattle.figure.proofs.generic.RoundedArithmetic.of_quantity.Goals as goal

pub returns : goal.returns
unfolding of_quantity quantity_keeps
returns c =
    told_by 8 (ratio (pos c.args.c) (10 ^ c.args.p)) Up refl refl
    (c.both_ways.ensures (λ d. rounded d 9 (ratio (pos c.args.c) (10 ^ c.args.p))) (λ d f p. quantity_answer c.args.p c.requires d c.args.c c.from-n.ensures (search rules)))
