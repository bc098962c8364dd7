-- Which states have rows, as the code finds them: by the index of exits and by marks of the targets. Assumes nothing: these are definitions.
use Rattle.std.specs.Prelude.{ℕ, zero, suc, ◌≤◌, ◌≡◌, Bool, true, false, not, ◌&&◌, ◌||◌, List, [], ◌∷◌, ◌++◌, length, get_or, eqb}
use Rattle.word.specs.Model.{Transition, Model}
use Rattle.model.specs.declared.index.Index.{Index}
use Rattle.model.specs.Index.{no_transition, exit_count, named_flag}
use Rattle.tree.specs.Rows.{row_states}
use Rattle.rows.specs.declared.table.RowTable.{RowTable}
use Rattle.rows.specs.Internal.Table.{named_states, NoTotals}

-- ---- targets

-- whether the state s is the target of one of the first j transitions of a table
unfoldable pub target_among : List Transition → ℕ → ℕ → Bool
target_among ts zero s = false
target_among ts (suc j) s = target_among ts j s || eqb (get_or ts j no_transition).to s

-- each state that is one is marked
pub record Targets (ts : List Transition) (j : ℕ) (targets : List Bool) : Type 0 where
  pub size : length targets ≡ 1001
  pub marks : (s : ℕ) → s ≤ 1000 → get_or targets s false ≡ target_among ts j s

-- ---- the list

abbrev pub marked : (index : Index) (targets : List Bool) → ℕ → Bool
marked index targets s = not (eqb (named_flag index s) 1) && (eqb (exit_count index s) 0 && get_or targets s false)

-- the states from 1 to n that are marked so, in their order
unfoldable pub listed : (index : Index) (targets : List Bool) → ℕ → List ℕ
listed index targets zero = []
listed index targets (suc n) = listed index targets n ++ elim (marked index targets (suc n)) [ true ↦ suc n ∷ [] | false ↦ [] ]

-- ---- the table

-- a table names the rows of a model, and has no totals yet
pub record Named (m : Model) (table : RowTable) : Type 0 where
  pub count_is : table.count ≡ length (row_states m)
  pub states_are : named_states table ≡ row_states m
  pub no_totals : NoTotals table
