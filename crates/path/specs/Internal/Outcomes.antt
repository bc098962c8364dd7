-- What becomes of a path, as the code has it. Assumes nothing: these are definitions.
use Rattle.std.specs.Prelude.{ℕ, Bool, ◌&&◌, leb, eqb}
use Rattle.figure.specs.declared.Figure.{Figure}
use Rattle.figure.specs.Operations.{at_or_below}
use Rattle.model.specs.declared.index.Index.{Index}
use Rattle.model.specs.Index.{named_flag}
use Rattle.tree.specs.Tree.{Outcome, generators_state, death, entered_too_often, step_limit, low_level, continued}
use Rattle.tree.specs.Internal.Outcomes.{decided}
use Rattle.path.specs.declared.outcome.Outcome.{Outcome as Coded}
use Rattle.path.specs.declared.outcome.Outcome.TheVariants.{GeneratorsState, Death, EnteredTooOften, StepLimit, LowLevel, Continued}

-- the definition's outcome for each case of the code's
abbrev pub outcome_of : Coded → Outcome
outcome_of GeneratorsState = generators_state
outcome_of Death = death
outcome_of EnteredTooOften = entered_too_often
outcome_of StepLimit = step_limit
outcome_of LowLevel = low_level
outcome_of Continued = continued

-- whether a state of so many exits, which are none, has the flag of the generator's
abbrev pub named_end : (index : Index) → (s exits : ℕ) → Bool
named_end index s exits = eqb exits 0 && eqb (named_flag index s) 1

-- what becomes of a path: by whether its last state is the generator's, that state's number of exits, how often it entered it before, the steps left,
-- U, P and V
unfoldable pub judged : Bool → ℕ → ℕ → ℕ → Figure → Figure → ℕ → Outcome
judged named exits before left u level most = decided named (eqb exits 0) (leb most before) (eqb left 0) (at_or_below u level)
