-- `states::fill_states` meets its contract. The loop's invariant: the table holds the sums of the states below s. Assumes nothing.
use borrow.Author.Rules.{rules}
use native.Mathlib.Omega.{arith}
use Prim.Native.Nat.{◌+◌}
use Rattle.tables.specs.Internal.Described.{net_of}
use Rattle.tables.proofs.Summaries.{states_are}
use Rattle.tables.proofs.StatesFilled.{states_more, states_all, sums_sized}
use Rattle.tables.proofs.states.fill_states.Goals as goal

pub packed-requires : goal.packed-requires
packed-requires c = sums_sized c.args.model.indexes.valid c.loop-s.s c.sums_of-x.ensures

pub loop-s-preserved : goal.loop-s-preserved
loop-s-preserved c =
    states_more (net_of c.args.model.words.now) c.loop-s.table c.packed.result (search rules) c.sums_of-x.ensures c.packed.ensures c.loop-s.invariant

pub returns-2 : goal.returns-2
returns-2 c =
    states_all (net_of c.args.model.words.now) {s = c.loop-s.s + 1} (omega (arith, states_are c.args.model.indexes c.args.model.accepted_is))
    (states_more (net_of c.args.model.words.now) c.loop-s.table c.packed.result (search rules) c.sums_of-x.ensures c.packed.ensures c.loop-s.invariant)
