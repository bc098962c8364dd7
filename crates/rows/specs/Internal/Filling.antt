-- The rows that a table has, and when a caller's rows can be filled from it. Assumes nothing: these are definitions.
use Rattle.std.specs.Prelude.{ℕ, ◌≤◌, ◌<◌, List, map, get_or}
use Rattle.figure.specs.Operands.{Operand}
use Rattle.tree.specs.declared.Row.{Row}
use Rattle.tree.specs.Internal.Tally.{finish_row}
use Rattle.rows.specs.declared.table.RowTable.{RowTable}
use Rattle.rows.specs.Internal.Table.{named_states, totals_in}

-- the row of the state s
unfoldable pub row_of : RowTable → ℕ → Row
row_of table s = finish_row s (totals_in table s)

abbrev pub rows_in : RowTable → List Row
rows_in table = map (row_of table) (named_states table)

-- the row of the state s can be made: its totals may be rounded
pub record RowFits (table : RowTable) (s : ℕ) : Type 0 where
  pub state_small : s ≤ 1000
  pub lower : Operand 18 (totals_in table s).lower
  pub upper : Operand 18 (totals_in table s).upper

-- all rows of a table can be made, and a caller who lends so many has room for them
pub record Fits (table : RowTable) (lent : ℕ) : Type 0 where
  pub few : table.count ≤ 1000
  pub room : table.count ≤ lent
  pub rows : (i : ℕ) → i < table.count → RowFits table (get_or table.states i 0)
