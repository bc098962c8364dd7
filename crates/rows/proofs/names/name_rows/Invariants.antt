-- What the loop of `name_rows` keeps: the states below s were looked at, and those with rows are listed.
use Rattle.std.proofs.Common.{◌-◌, ◌+◌, ◌≤◌}
use Rattle.rows.proofs.RowNames.{Naming}
use Rattle.rows.proofs.names.name_rows.Given as goal

abbrev pub invariant-loop-s : goal.invariant-loop-s
invariant-loop-s l = (l.s ≤ l.states + 1) × Naming l.model.index.now l.targets (l.s - 1) l.table
