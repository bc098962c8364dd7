-- What becomes of a path, as a decision by five tests; `outcome_decided` (crates/tree/proofs/Outcomes.antt) says that it is the tree's.
-- Assumes nothing: these are definitions.
use Rattle.std.specs.Prelude.{Bool, true, false}
use Rattle.tree.specs.Tree.{Outcome, generators_state, death, entered_too_often, step_limit, low_level, continued}

-- the outcome by the documents' five tests in their order
unfoldable pub decided : (named no_exits too_often at_limit low : Bool) → Outcome
decided named no_exits too_often at_limit low =
    elim named [
      | true ↦ generators_state
      | false ↦
          elim no_exits [
            | true ↦ death
            | false ↦
                elim too_often [
                  | true ↦ entered_too_often
                  | false ↦ elim at_limit [ true ↦ step_limit | false ↦ elim low [ true ↦ low_level | false ↦ continued ] ]
                ]
          ]
    ]
