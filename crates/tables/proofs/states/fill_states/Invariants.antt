use Prim.Native.Nat.{◌-◌}
use Rattle.tables.specs.Internal.Described.{net_of}
use Rattle.tables.specs.Internal.Tables.{StatesHold}
use Rattle.tables.proofs.states.fill_states.Given as goal

abbrev pub invariant-loop-s : goal.invariant-loop-s
invariant-loop-s l = StatesHold (net_of l.model.words.now) (l.s - 1) l.table
