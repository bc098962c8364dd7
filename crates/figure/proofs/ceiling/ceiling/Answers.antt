-- `ceiling` meets its contract, by the range of the power. Assumes nothing.
use mathlib.Core.Path.{◌≡◌}
use mathlib.Core.Bool.{true, false}
use borrow.Author.Rules.{rules}
use lib.IntN.{pos, negsuc}
use lib.Signed.{lt_z, le_z}
use Rattle.figure.proofs.Stored.{stored}
use Rattle.figure.proofs.Ceilings.{ceiling_high, ceiling_whole, ceiling_low, part_pos, ceiling_part}
use Rattle.figure.proofs.ceiling.ceiling.Goals as goal

pub returns-in-10-to-2147483647 : goal.returns-in-10-to-2147483647
returns-in-10-to-2147483647 c =
    let high : lt_z (pos 9) (stored c.args.g.power) ≡ true = search rules in ceiling_high c.args.g c.requires (search rules) high

pub returns-in-0-to-9 : goal.returns-in-0-to-9
returns-in-0-to-9 c =
    let low : lt_z (pos 9) (stored c.args.g.power) ≡ false = search rules in
    let test : le_z (pos 0) (stored c.args.g.power) ≡ true = search rules in
    ceiling_whole c.args.g c.requires (search rules) low test c.ten_to-in-0-to-9.result c.ten_to-in-0-to-9.ensures

pub div_ceil-requires : goal.div_ceil-requires
div_ceil-requires c =
    let test : le_z (pos 0) (stored c.args.g.power) ≡ false = search rules in
    let high : lt_z (stored c.args.g.power) (negsuc 8) ≡ false = search rules in
    part_pos c.args.g c.requires (search rules) test high c.ten_to.result c.ten_to.ensures

pub returns-in-minus9-to-minus1 : goal.returns-in-minus9-to-minus1
returns-in-minus9-to-minus1 c =
    let test : le_z (pos 0) (stored c.args.g.power) ≡ false = search rules in
    let high : lt_z (stored c.args.g.power) (negsuc 8) ≡ false = search rules in
    rw c.div_ceil.ensures (ceiling_part c.args.g c.requires (search rules) test high c.ten_to.result c.ten_to.ensures)

pub returns-in_default : goal.returns-in_default
returns-in_default c =
    let low : lt_z (stored c.args.g.power) (negsuc 8) ≡ true = search rules in ceiling_low c.args.g c.requires (search rules) low
