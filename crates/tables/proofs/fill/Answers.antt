-- `fill` meets its contract. Assumes nothing.
use Rattle.tables.proofs.Summaries.{states_few, transitions_are, steps_ready}
use Rattle.tables.proofs.fill.Goals as goal

pub transition_count-count-requires : goal.transition_count-count-requires
transition_count-count-requires c = states_few c.args.model.indexes c.args.model.accepted_is

pub fill_steps-requires : goal.fill_steps-requires
fill_steps-requires c = (
  steps_ready c.args.model.indexes c.args.model.accepted_is (rw c.figure_of.ensures at c.exact-time.ensures.mark_value) c.fill_states.ensures,
  transitions_are c.args.model.indexes c.args.model.accepted_is c.transition_count-count.ensures,
)
