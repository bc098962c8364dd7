use mathlib.Core.Path.{◌≡◌}
use Prim.Native.Nat.{◌+◌, ◌*◌, ◌-◌, ◌≤◌}
use Rattle.tables.specs.Internal.Described.{exit_total}
use Rattle.tables.proofs.transition_count.Given as goal

abbrev pub invariant-loop-s : goal.invariant-loop-s
invariant-loop-s l = (l.total ≡ exit_total l.index (l.s - 1)) × (l.s ≤ l.states + 1) × (l.total ≤ 65536 * l.s)
