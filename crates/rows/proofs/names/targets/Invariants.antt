-- What the loop of `targets` keeps: the targets of the transitions below j are marked.
use Rattle.tables.specs.Internal.Described.{net_of}
use Rattle.rows.specs.Internal.Names.{Targets}
use Rattle.rows.proofs.names.targets.Given as goal

abbrev pub invariant-loop-j : goal.invariant-loop-j
invariant-loop-j l = Targets (net_of l.model.words.now).table l.j l.targets
