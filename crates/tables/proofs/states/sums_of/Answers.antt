-- `states::sums_of` meets its contract. The loop's invariant: the sums so far and the exits still to come make the state's sums. Assumes
-- nothing.
use mathlib.Core.Path.{ap, ◌∙◌}
use native.Mathlib.Omega.{arith}
use Rattle.model.specs.Index.{transition}
use Rattle.tables.specs.Internal.Described.{net_of}
use Rattle.tables.proofs.Classes.{step_valid}
use Rattle.tables.proofs.Reached.{count_is, exit_more, number_below, number_exit}
use Rattle.tables.proofs.StateSums.{summed_none, summed_more, summed_all}
use Rattle.tables.proofs.states.sums_of.Goals as goal

pub loop-j-init : goal.loop-j-init
loop-j-init c =
    let nothing = rw c.zero.ensures at c.exact-nothing.ensures.mark_value in
    summed_none (net_of c.args.model.words.now) c.args.s nothing nothing nothing nothing

pub part-requires : goal.part-requires
part-requires c =
    let e = c.exits-j-items.ensures in
    rw c.from.ensures (number_below c.args.model.indexes c.requires e.value e.len c.loop-j-test.true)

pub loop-j-preserved : goal.loop-j-preserved
loop-j-preserved c =
    let e = c.exits-j-items.ensures in
    let below = number_below c.args.model.indexes c.requires e.value e.len c.loop-j-test.true in
    let number = c.from.ensures in
    summed_more (net_of c.args.model.words.now) c.args.s c.loop-j.invariant (exit_more c.args.model.indexes c.requires e.value e.len c.loop-j-test.true)
    (ap (transition (net_of c.args.model.words.now)) number ∙ number_exit c.args.model.indexes c.requires e.value e.len c.loop-j-test.true)
    (step_valid c.args.model.indexes.valid (rw number below)).manner (rw c.part.ensures.reads at c.with_exit-so_far.ensures)

pub returns : goal.returns
returns c =
    let e = c.exits-j-items.ensures in
    let all = count_is c.args.model.indexes c.requires e.value e.len in
    summed_all (net_of c.args.model.words.now) c.args.s c.loop-j.invariant (omega (arith, all))
