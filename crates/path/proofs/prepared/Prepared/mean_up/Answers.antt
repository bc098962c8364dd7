-- `mean_up` meets its contract: the table holds h of the state. Assumes nothing.
use mathlib.Core.Path.{refl}
use native.Mathlib.Omega.{arith}
use Rattle.path.proofs.PathSteps.{state_held_small, mean_held, mean_kept_held}
use Rattle.path.proofs.prepared.Prepared.mean_up.Goals as goal

pub offset_bounds-self-state : goal.offset_bounds-self-state
offset_bounds-self-state g c = omega (arith, state_held_small c.args.self.now.filled c.requires)

pub bounds-self-state : goal.bounds-self-state
bounds-self-state g c = state_held_small c.args.self.now.filled c.requires

pub returns : goal.returns
returns g c =
    let filled = c.args.self.now.filled in
    rw (← mean_held filled c.requires refl, ← mean_kept_held filled c.requires refl) c.value.ensures
