use Rattle.tables.specs.Internal.Described.{described, net_of}
use Rattle.tables.specs.Internal.Tables.{StatesHold, StepsHold}
use Rattle.tables.proofs.steps.fill_steps.Given as goal

abbrev pub invariant-loop-j : goal.invariant-loop-j
invariant-loop-j l = StatesHold (net_of l.model.words.now) (described l.model.words.now).states l.table × StepsHold (net_of l.model.words.now) l.j l.table
