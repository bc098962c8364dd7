-- The table of totals: the states that have rows, the report's totals and marks, and the totals of each state. Assumes nothing: these are definitions.
use Rattle.std.specs.Prelude.{ℕ, ◌+◌, ◌≡◌, ◌&&◌, List, [], ◌∷◌, ◌++◌, take, get_or, replicate}
use Rattle.figure.specs.declared.Figure.{Figure}
use Rattle.figure.specs.Rounding.{none}
use Rattle.figure.specs.Internal.Gathered.{Gathered}
use Rattle.figure.specs.Operations.{total_up, total_down}
use Rattle.tree.specs.Marks.{Marks}
use Rattle.tree.specs.Internal.Tally.{RowTotals, row_with_death, zero_row_totals, all_kept}
use Rattle.rows.specs.declared.table.Sums.{Sums}
use Rattle.rows.specs.declared.table.RowTable.{RowTable}

-- ---- the parts

-- the states that have rows, in their order
abbrev pub named_states : RowTable → List ℕ
named_states table = take table.count table.states

-- the report's totals, of the lowers and the uppers of death paths and of the uppers of cut paths

abbrev pub lower_total : RowTable → Figure
lower_total table = table.deaths.lower

abbrev pub death_total : RowTable → Figure
death_total table = table.deaths.upper

abbrev pub cut_total : RowTable → Figure
cut_total table = table.cuts

-- whether nothing was lost so far that the report's lower and its upper rest on
abbrev pub marks_in : RowTable → Marks
marks_in table = record { lower = table.lower_kept; upper = table.upper_kept }

-- of no path
abbrev pub no_sums : Sums
no_sums = record { lower = none; upper = none }

-- the totals of the state s
abbrev pub sums_of : RowTable → ℕ → Sums
sums_of table s = get_or table.by_state s no_sums

unfoldable pub totals_in : RowTable → ℕ → RowTotals
totals_in table s = record { lower = (sums_of table s).lower; upper = (sums_of table s).upper }

-- ---- what is written

-- totals with one death path more, of the lower l and the upper u
pub record TotalsWith (l u : Figure) (before after : Sums) : Type 0 where
  pub lower_is : after.lower ≡ total_down before.lower l
  pub upper_is : after.upper ≡ total_up before.upper u

-- the states that have rows are as they were
pub record NamesKept (before after : RowTable) : Type 0 where
  pub count_same : after.count ≡ before.count
  pub states_same : after.states ≡ before.states

-- one more death path, of the lower l and the upper u, which ends in the state s
pub record DeathNoted (s : ℕ) (l u : Figure) (before after : RowTable) : Type 0 where
  pub lower_is : lower_total after ≡ total_down (lower_total before) l
  pub death_is : death_total after ≡ total_up (death_total before) u
  pub cut_same : cut_total after ≡ cut_total before
  pub rows_are : totals_in after ≡ row_with_death (totals_in before) s l u
  pub marks_same : marks_in after ≡ marks_in before
  pub names_kept : NamesKept before after

-- one more cut path, of the upper u
pub record CutNoted (u : Figure) (before after : RowTable) : Type 0 where
  pub lower_same : lower_total after ≡ lower_total before
  pub death_same : death_total after ≡ death_total before
  pub cut_is : cut_total after ≡ total_up (cut_total before) u
  pub rows_same : totals_in after ≡ totals_in before
  pub marks_same : marks_in after ≡ marks_in before
  pub names_kept : NamesKept before after

-- it was noted whether something more, that the report's lower or its upper rests on, lost nothing
pub record MarksNoted (k : Marks) (before after : RowTable) : Type 0 where
  pub marks_are : marks_in after ≡ record { lower = (marks_in before).lower && k.lower; upper = (marks_in before).upper && k.upper }
  pub lower_same : lower_total after ≡ lower_total before
  pub death_same : death_total after ≡ death_total before
  pub cut_same : cut_total after ≡ cut_total before
  pub rows_same : totals_in after ≡ totals_in before
  pub names_kept : NamesKept before after

-- no total and no mark was written yet
pub record NoTotals (table : RowTable) : Type 0 where
  pub lower_is : lower_total table ≡ none
  pub death_is : death_total table ≡ none
  pub cut_is : cut_total table ≡ none
  pub rows_are : totals_in table ≡ zero_row_totals
  pub marks_are : marks_in table ≡ all_kept

-- a table without rows
pub record Empty (table : RowTable) : Type 0 where
  pub no_rows : table.count ≡ 0
  pub states_zero : table.states ≡ replicate 1000 0
  pub no_totals : NoTotals table

-- one more row, of the state s, behind the others
pub record RowAdded (s : ℕ) (before after : RowTable) : Type 0 where
  pub count_is : after.count ≡ before.count + 1
  pub names_are : named_states after ≡ named_states before ++ (s ∷ [])
  pub totals_kept : NoTotals before → NoTotals after

-- ---- ranges

-- a total of at most n terms, each 0 or from 10^-40,000 to 10^40,000
abbrev pub TotalOf : ℕ → Figure → Type 0
TotalOf n f = Gathered 18 40000 40000 n f

pub record SumsGathered (n : ℕ) (t : Sums) : Type 0 where
  pub lower : TotalOf n t.lower
  pub upper : TotalOf n t.upper

pub record RowGathered (n : ℕ) (t : RowTotals) : Type 0 where
  pub lower : TotalOf n t.lower
  pub upper : TotalOf n t.upper

-- all totals of a table
pub record TableGathered (n : ℕ) (table : RowTable) : Type 0 where
  pub lower : TotalOf n (lower_total table)
  pub death : TotalOf n (death_total table)
  pub cut : TotalOf n (cut_total table)
  pub each_row : (s : ℕ) → RowGathered n (totals_in table s)
