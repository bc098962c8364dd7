-- `rate_sum` meets its contract: the table holds E of the state. Assumes nothing.
use mathlib.Core.Path.{refl}
use native.Mathlib.Omega.{arith}
use Rattle.path.proofs.PathSteps.{state_held_small, rate_held, rate_kept_held}
use Rattle.path.proofs.prepared.Prepared.rate_sum.Goals as goal

pub offset_bounds-self-state : goal.offset_bounds-self-state
offset_bounds-self-state g c = omega (arith, state_held_small c.args.self.now.filled c.requires)

pub bounds-self-state : goal.bounds-self-state
bounds-self-state g c = state_held_small c.args.self.now.filled c.requires

pub returns : goal.returns
returns g c =
    let filled = c.args.self.now.filled in
    rw (← rate_held filled c.requires refl, ← rate_kept_held filled c.requires refl) c.value.ensures
