-- `steps::fill_steps` meets its contract. The loop's invariant: the table holds the sums of the states and the steps of the transitions below j.
-- Assumes nothing.
use borrow.Author.Rules.{rules}
use native.Mathlib.Omega.{arith}
use Rattle.tables.specs.Internal.Described.{net_of}
use Rattle.tables.proofs.StepsFilled.{step_sized, steps_more, states_stay}
use Rattle.tables.proofs.steps.fill_steps.Goals as goal

pub packed-requires : goal.packed-requires
packed-requires c = step_sized c.args.model.indexes.valid (omega (arith, c.loop-j-test.true, c.requires.1)) c.step_at-x.ensures

pub loop-j-preserved : goal.loop-j-preserved
loop-j-preserved c = (
  states_stay (net_of c.args.model.words.now) _ c.loop-j.invariant.0,
  steps_more (net_of c.args.model.words.now) c.loop-j.table c.packed.result (search rules) c.step_at-x.ensures c.packed.ensures c.loop-j.invariant.1,
)
