use Prim.Native.Nat.{◌-◌}
use Rattle.tables.specs.Internal.Roots.{exponent}
use Rattle.tables.proofs.Search.{Searched}
use Rattle.tables.proofs.grains.least.Given as goal

abbrev pub invariant-loop-n : goal.invariant-loop-n
invariant-loop-n l = Searched (exponent l.power) l.c l.n

abbrev pub decreases-loop-n : goal.decreases-loop-n
decreases-loop-n l = 1000000 - l.n
