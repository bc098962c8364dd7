use Rattle.tables.specs.Internal.Roots.{exponent, Below}
use Rattle.tables.proofs.grains.close_below.Given as goal

abbrev pub invariant-loop-place : goal.invariant-loop-place
invariant-loop-place l = Below (exponent l.power) l.c l.n
