-- `probabilistic_or` meets its contract. Assumes nothing.
use Rattle.std.proofs.Common.{sym, ◌≡◌, ◌≤◌, true, false, length, arith}
use Rattle.std.proofs.lemmas.Grind.{common_steps}
use Rattle.word.specs.Faults.{outside}
use Rattle.orprob.proofs.Promising.{miscounted, one_wrong, all_right, none_wrong}
use Rattle.orprob.proofs.probabilistic_or.Goals as goal

pub returns-then-not-contains : goal.returns-then-not-contains
returns-then-not-contains c =
    let out : outside 1 16 (length c.args.pairs.now) ≡ true = grind (arith, common_steps) in
    miscounted _ out

pub both_sides-requires : goal.both_sides-requires
both_sides-requires c =
    let few : length c.args.pairs.now ≤ 16 = grind (arith, common_steps) in
    (few, none_wrong _ (sym c.in-None.ensures))

pub returns-in-Some : goal.returns-in-Some
returns-in-Some c =
    let inside : outside 1 16 (length c.args.pairs.now) ≡ false = grind (arith, common_steps) in
    one_wrong _ inside _ (sym c.in-Some.ensures)

pub returns-in-None : goal.returns-in-None
returns-in-None c =
    let inside : outside 1 16 (length c.args.pairs.now) ≡ false = grind (arith, common_steps) in
    all_right _ inside (none_wrong _ (sym c.in-None.ensures)) _ c.both_sides.ensures.lower_value c.both_sides.ensures.upper_value
