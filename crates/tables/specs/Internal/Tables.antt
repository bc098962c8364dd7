-- The table: what belongs to a state or to a transition alone, worked out once, with its marks. Its entries by name, and what a filled table holds.
-- Assumes nothing: these are definitions.
use Rattle.std.specs.Prelude.{ℕ, ◌/◌, ◌%◌, ◌≤◌, ◌<◌, ◌≡◌, Bool, true, false, List, [], length, get_or, replicate, eqb, pos, ◌-ℤ◌}
use Rattle.figure.specs.declared.Figure.{Figure}
use Rattle.figure.specs.declared.Rounded.{Rounded}
use Rattle.figure.specs.Rounding.{figure, none}
use Rattle.figure.specs.Losses.{told}
use Rattle.word.specs.Model.{Transition, Net}
use Rattle.model.specs.Index.{transition}
use Rattle.tree.specs.Paths.{Class, class1, class2, class3, class}
use Rattle.tree.specs.States.{rate_sum, mean_up, mean_down, moment_sum}
use Rattle.tree.specs.Upper.{share}
use Rattle.tree.specs.Grains.{grains}
use Rattle.tree.specs.Lower.{class2_factor, class3_factor}
use Rattle.tree.specs.Marks.{rate_sum_kept, mean_up_kept, mean_down_kept, moment_sum_kept, class2_factor_kept, class3_factor_kept, grains_kept}
use Rattle.tables.specs.declared.pack.Packed.{Packed}
use Rattle.tables.specs.declared.table.StateEntry.{StateEntry}
use Rattle.tables.specs.declared.table.StepEntry.{StepEntry}
use Rattle.tables.specs.declared.table.Table.{Table}
use Rattle.tables.specs.Internal.Described.{described, net_of}

-- ---- one entry

-- A figure in 64 bits: its digits in the low 30 bits, its power, raised by 2^20, above them.
unfoldable pub unpacked : Packed → Figure
unpacked x = figure (x.bits % 1073741824) (pos (x.bits / 1073741824 % 2097152) -ℤ pos 1048576)

-- a number of grains is no figure: it stands in the low 30 bits
abbrev pub counted : Packed → ℕ
counted x = x.bits % 1073741824

-- Above them, at bit 51, an entry has its mark: 1 if no operation that it rests on lost anything.
unfoldable pub marked : Packed → Bool
marked x = eqb (x.bits / 2251799813685248) 1

-- a mark at its bit
abbrev pub mark_of : Bool → ℕ
mark_of true = 2251799813685248
mark_of false = 0

-- a figure with its mark
abbrev pub told_of : Packed → Rounded
told_of x = told (unpacked x) (marked x)

-- ---- the entries of a table, by state and by transition; past their ends, entries without a bit

abbrev pub none_packed : Packed
none_packed = record { bits = 0 }

abbrev pub no_state : StateEntry
no_state = record { rate = none_packed; mean_up = none_packed; mean_down = none_packed; moment = none_packed }

abbrev pub state_in : Table → ℕ → StateEntry
state_in table s = get_or table.states s no_state

abbrev pub no_step : StepEntry
no_step = record { share = none_packed; factor = none_packed; grains = none_packed }

abbrev pub step_in : Table → ℕ → StepEntry
step_in table j = get_or table.steps j no_step

-- a table to be filled
abbrev pub no_entries : Table
no_entries = record { states = replicate 1001 no_state; steps = replicate 4000 no_step }

-- of each state from 0 to 1,000: E, h, h' and H

abbrev pub rate_sum_in : Table → ℕ → Figure
rate_sum_in table s = unpacked (state_in table s).rate

abbrev pub mean_up_in : Table → ℕ → Figure
mean_up_in table s = unpacked (state_in table s).mean_up

abbrev pub mean_down_in : Table → ℕ → Figure
mean_down_in table s = unpacked (state_in table s).mean_down

abbrev pub moment_sum_in : Table → ℕ → Figure
moment_sum_in table s = unpacked (state_in table s).moment

-- of each transition from 0 to 3,999: its rate or probability, its factor in a lower, and its grains

abbrev pub share_in : Table → ℕ → Figure
share_in table j = unpacked (step_in table j).share

abbrev pub factor_in : Table → ℕ → Figure
factor_in table j = unpacked (step_in table j).factor

abbrev pub grain_count_in : Table → ℕ → ℕ
grain_count_in table j = counted (step_in table j).grains

-- the marks of E, h, h' and H, of the factor and of the grains

abbrev pub rate_sum_kept_in : Table → ℕ → Bool
rate_sum_kept_in table s = marked (state_in table s).rate

abbrev pub mean_up_kept_in : Table → ℕ → Bool
mean_up_kept_in table s = marked (state_in table s).mean_up

abbrev pub mean_down_kept_in : Table → ℕ → Bool
mean_down_kept_in table s = marked (state_in table s).mean_down

abbrev pub moment_sum_kept_in : Table → ℕ → Bool
moment_sum_kept_in table s = marked (state_in table s).moment

abbrev pub factor_kept_in : Table → ℕ → Bool
factor_kept_in table j = marked (step_in table j).factor

abbrev pub grains_kept_in : Table → ℕ → Bool
grains_kept_in table j = marked (step_in table j).grains

-- ---- what they hold

-- a step's factor in a lower, by its class; a class 1 step has none
unfoldable pub step_factor : Net → Class → Transition → Figure
step_factor net class1 t = none
step_factor net class2 t = class2_factor net t.from t.manner (grains net [] t)
step_factor net class3 t = class3_factor net t.from t.manner (grains net [] t)

-- and its mark, with all that it rests on
unfoldable pub step_factor_kept : Net → Class → Transition → Bool
step_factor_kept net class1 t = true
step_factor_kept net class2 t = class2_factor_kept net t.from t.manner (grains net [] t)
step_factor_kept net class3 t = class3_factor_kept net t.from t.manner (grains net [] t)

-- a table holds what belongs to each state from 1 to n
pub record StatesHold (net : Net) (n : ℕ) (table : Table) : Type 0 where
  pub rate_sums : (s : ℕ) → 1 ≤ s → s ≤ n → rate_sum_in table s ≡ rate_sum net s
  pub means_up : (s : ℕ) → 1 ≤ s → s ≤ n → mean_up_in table s ≡ mean_up net s
  pub means_down : (s : ℕ) → 1 ≤ s → s ≤ n → mean_down_in table s ≡ mean_down net s
  pub moment_sums : (s : ℕ) → 1 ≤ s → s ≤ n → moment_sum_in table s ≡ moment_sum net s
  pub rate_sums_kept : (s : ℕ) → 1 ≤ s → s ≤ n → rate_sum_kept_in table s ≡ rate_sum_kept net s
  pub means_up_kept : (s : ℕ) → 1 ≤ s → s ≤ n → mean_up_kept_in table s ≡ mean_up_kept net s
  pub means_down_kept : (s : ℕ) → 1 ≤ s → s ≤ n → mean_down_kept_in table s ≡ mean_down_kept net s
  pub moment_sums_kept : (s : ℕ) → 1 ≤ s → s ≤ n → moment_sum_kept_in table s ≡ moment_sum_kept net s

-- and what belongs to each of the first n transitions
pub record StepsHold (net : Net) (n : ℕ) (table : Table) : Type 0 where
  pub shares : (j : ℕ) → j < n → share_in table j ≡ share (transition net j).manner
  pub factors : (j : ℕ) → j < n → factor_in table j ≡ step_factor net (class net (transition net j)) (transition net j)
  pub grain_counts : (j : ℕ) → j < n → grain_count_in table j ≡ grains net [] (transition net j)
  pub factors_kept : (j : ℕ) → j < n → factor_kept_in table j ≡ step_factor_kept net (class net (transition net j)) (transition net j)
  pub grains_kept : (j : ℕ) → j < n → grains_kept_in table j ≡ grains_kept net [] (transition net j)

-- a table is filled for the model that the words describe
pub record Tabled (ws : List ℕ) (table : Table) : Type 0 where
  pub states : StatesHold (net_of ws) (described ws).states table
  pub steps : StepsHold (net_of ws) (length (net_of ws).table) table
