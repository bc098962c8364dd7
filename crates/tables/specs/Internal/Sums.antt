-- What is summed over the exits of a state, in one pass, and how the table holds the sums. Assumes nothing: these are definitions.
use Rattle.std.specs.Prelude.{ℕ, ◌≡◌}
use Rattle.figure.specs.Operands.{Sized}
use Rattle.figure.specs.Losses.{told}
use Rattle.word.specs.Model.{Manner, Net}
use Rattle.tree.specs.Marks.{rate_kept_by, mean_up_kept_by, mean_down_kept_by, moment_kept_by, rate_sum_kept, mean_up_kept, mean_down_kept, moment_sum_kept}
use Rattle.tree.specs.States.{rate_sum, mean_up, mean_down, moment_sum, add_rate, add_mean_up, add_mean_down, add_moment}
use Rattle.tables.specs.declared.states.Sums.{Sums}
use Rattle.tables.specs.declared.table.StateEntry.{StateEntry}
use Rattle.tables.specs.Internal.Tables.{told_of}
use Rattle.tables.specs.Internal.Told.{add_told}

-- E, h, h' and H with one exit more, and their marks
unfoldable pub add_exit : Sums → Manner → Sums
add_exit s x = record {
  rate = add_told add_rate rate_kept_by s.rate x;
  up = add_told add_mean_up mean_up_kept_by s.up x;
  down = add_told add_mean_down mean_down_kept_by s.down x;
  moment = add_told add_moment moment_kept_by s.moment x;
}

-- each of the sums is a figure whose power is at most n from zero
pub record SumsSized (n : ℕ) (s : Sums) : Type 0 where
  pub rate : Sized 9 n s.rate.figure
  pub up : Sized 9 n s.up.figure
  pub down : Sized 9 n s.down.figure
  pub moment : Sized 9 n s.moment.figure

-- E, h, h' and H of a state, and their marks
unfoldable pub sums : Net → ℕ → Sums
sums net s = record {
  rate = told (rate_sum net s) (rate_sum_kept net s);
  up = told (mean_up net s) (mean_up_kept net s);
  down = told (mean_down net s) (mean_down_kept net s);
  moment = told (moment_sum net s) (moment_sum_kept net s);
}

-- an entry of the table with the sums of a state
pub record SumsPacked (x : Sums) (entry : StateEntry) : Type 0 where
  pub rate : told_of entry.rate ≡ x.rate
  pub up : told_of entry.mean_up ≡ x.up
  pub down : told_of entry.mean_down ≡ x.down
  pub moment : told_of entry.moment ≡ x.moment
