-- What `fill` takes from an accepted model's summary. Assumes nothing.
use Prim.Native.Nat.{ℕ, ◌≤◌}
use mathlib.Core.Path.{◌≡◌, ap, ◌∙◌}
use mathlib.Core.List.{List}
use lib.ListN.{length}
use Rattle.figure.specs.declared.Rounded.{Rounded}
use Rattle.model.specs.declared.Accepted.{Accepted}
use Rattle.model.specs.declared.index.Index.{Index}
use Rattle.model.specs.Promise.{summary}
use Rattle.tree.specs.States.{figure_of}
use Rattle.tables.specs.declared.table.Table.{Table}
use Rattle.tables.specs.Internal.Described.{Indexes, described, net_of, exit_total}
use Rattle.tables.specs.Internal.Told.{exact}
use Rattle.tables.specs.Internal.Tables.{StatesHold}
use Rattle.tables.specs.Internal.Steps.{StepReady}
use Rattle.tables.proofs.TransitionCount.{count_is}

module _ {ws : List ℕ} {index : Index} (indexes : Indexes ws index) {a : Accepted} (is : a ≡ summary (described ws)) where
  pub states_are : a.states ≡ (described ws).states
  states_are = ap (λ (x : Accepted). x.states) is

  pub states_few : a.states ≤ 1000
  states_few = rw states_are indexes.valid.states_high

  pub transitions_are : {count : ℕ} → count ≡ exit_total index a.states → count ≡ length (net_of ws).table
  transitions_are e = e ∙ ap (exit_total index) states_are ∙ count_is indexes

  pub steps_ready : {time : Rounded} {table : Table} → time ≡ exact (figure_of a.time) → StatesHold (net_of ws) (described ws).states table
      → StepReady ws time table
  steps_ready e h = record { time_is = e ∙ ap (λ (x : Accepted). exact (figure_of x.time)) is; states = h }
