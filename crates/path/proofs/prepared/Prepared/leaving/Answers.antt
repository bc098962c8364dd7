-- `leaving` meets its contract: the state stands in the transition's word, and the class follows from it and from h of that state. Assumes
-- nothing.
use native.Mathlib.Omega.{arith}
use Rattle.tables.proofs.Classes.{origin_small, state_read, class_read}
use Rattle.path.proofs.PathSteps.{left_fine, mean_held}
use Rattle.path.proofs.prepared.Prepared.leaving.Goals as goal

pub bounds-self-state : goal.bounds-self-state
bounds-self-state c =
    let filled = c.args.self.now.filled in
    omega (arith, state_read filled.indexes c.requires c.word_of-w.ensures c.from-state.ensures.value, origin_small filled.indexes.valid c.requires)

pub returns-clause-class_value : goal.returns-clause-class_value
returns-clause-class_value c =
    let filled = c.args.self.now.filled in let leaves = state_read filled.indexes c.requires c.word_of-w.ensures c.from-state.ensures.value in
    let mean = mean_held filled (left_fine filled c.requires leaves) c.figure.ensures in
    class_read filled.indexes c.requires c.word_of-w.ensures c.is_fast.ensures (rw leaves at mean) c.of-class.ensures

pub returns-clause-state_value : goal.returns-clause-state_value
returns-clause-state_value c = state_read c.args.self.now.filled.indexes c.requires c.word_of-w.ensures c.from-state.ensures.value
