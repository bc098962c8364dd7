-- The entries of the states' sums, with their marks, while they are filled: the law of the loop of `states::fill_states`. Assumes nothing.
use Prim.Native.Nat.{ℕ, ◌+◌, ◌-◌, ◌≤◌, ◌<◌}
use mathlib.Core.Path.{◌≡◌, ap, ◌∙◌}
use native.Mathlib.Omega.{arith}
use lib.Dec.{lit≤}
use lib.ListN.{length, get_or, set}
use Rattle.figure.proofs.Sized.{sized-≤}
use Rattle.word.specs.Model.{Net, Model}
use Rattle.model.specs.Internal.Valid.{Valid}
use Rattle.tree.specs.States.{rate_sum, mean_up, mean_down, moment_sum}
use Rattle.tree.specs.Marks.{rate_sum_kept, mean_up_kept, mean_down_kept, moment_sum_kept}
use Rattle.tree.proofs.Ranges.{rate_sum_sized, mean_up_sized, mean_down_sized, moment_sum_sized}
use Rattle.tables.specs.declared.states.Sums.{Sums}
use Rattle.tables.specs.declared.table.StateEntry.{StateEntry}
use Rattle.tables.specs.declared.table.Table.{Table}
use Rattle.tables.specs.Internal.Tables.{unpacked, marked, no_state, state_in, StatesHold}
use Rattle.tables.specs.Internal.Sums.{SumsPacked, SumsSized, sums}
use Rattle.tables.proofs.Sections.{same_figure, same_mark, put_more}

module _ (net : Net) where
  module _ {s : ℕ} (table : Table) {x : Sums} (entry : StateEntry) (inside : s < length table.states) (is : x ≡ sums net s)
      (packed : SumsPacked x entry) where
    -- what is read of an entry, its figure or its mark, is that of its state
    more : {A : Type 0} (read : StateEntry → A) (f : ℕ → A) → read entry ≡ f s
        → ((i : ℕ) → 1 ≤ i → i ≤ s - 1 → read (state_in table i) ≡ f i)
        → (k : ℕ) → 1 ≤ k → k ≤ s + 1 - 1 → read (get_or (set table.states s entry) k no_state) ≡ f k
    more read f new old k low high =
        put_more (λ i v. 1 ≤ i → read v ≡ f i) table.states no_state entry inside (λ _. new) (λ i below low. old i low (omega arith)) k
        (omega arith) low

    pub states_more : StatesHold net (s - 1) table → StatesHold net (s + 1 - 1) (record { states = set table.states s entry; steps = table.steps })
    unfolding sums
    states_more h = record {
      rate_sums = more (λ e. unpacked e.rate) (rate_sum net) (same_figure (packed.rate ∙ ap (λ (y : Sums). y.rate) is)) h.rate_sums;
      rate_sums_kept =
          more (λ e. marked e.rate) (rate_sum_kept net) (same_mark (packed.rate ∙ ap (λ (y : Sums). y.rate) is)) h.rate_sums_kept;
      means_up = more (λ e. unpacked e.mean_up) (mean_up net) (same_figure (packed.up ∙ ap (λ (y : Sums). y.up) is)) h.means_up;
      means_up_kept = more (λ e. marked e.mean_up) (mean_up_kept net) (same_mark (packed.up ∙ ap (λ (y : Sums). y.up) is)) h.means_up_kept;
      means_down =
          more (λ e. unpacked e.mean_down) (mean_down net) (same_figure (packed.down ∙ ap (λ (y : Sums). y.down) is)) h.means_down;
      means_down_kept =
          more (λ e. marked e.mean_down) (mean_down_kept net) (same_mark (packed.down ∙ ap (λ (y : Sums). y.down) is)) h.means_down_kept;
      moment_sums =
          more (λ e. unpacked e.moment) (moment_sum net) (same_figure (packed.moment ∙ ap (λ (y : Sums). y.moment) is)) h.moment_sums;
      moment_sums_kept =
          more (λ e. marked e.moment) (moment_sum_kept net) (same_mark (packed.moment ∙ ap (λ (y : Sums). y.moment) is)) h.moment_sums_kept;
    }

  pub states_all : {s n : ℕ} {table : Table} → n < s → StatesHold net (s - 1) table → StatesHold net n table
  states_all all h = record {
    rate_sums = λ k low high. h.rate_sums k low (omega arith);
    rate_sums_kept = λ k low high. h.rate_sums_kept k low (omega arith);
    means_up = λ k low high. h.means_up k low (omega arith);
    means_up_kept = λ k low high. h.means_up_kept k low (omega arith);
    means_down = λ k low high. h.means_down k low (omega arith);
    means_down_kept = λ k low high. h.means_down_kept k low (omega arith);
    moment_sums = λ k low high. h.moment_sums k low (omega arith);
    moment_sums_kept = λ k low high. h.moment_sums_kept k low (omega arith);
  }

pub sums_sized : {m : Model} (valid : Valid m) (s : ℕ) {x : Sums} → x ≡ sums m.net s → SumsSized 100000 x
unfolding sums
sums_sized valid s e = rw e (record {
  rate = sized-≤ (lit≤ tt) (rate_sum_sized valid s);
  up = sized-≤ (lit≤ tt) (mean_up_sized valid s);
  down = sized-≤ (lit≤ tt) (mean_down_sized valid s);
  moment = sized-≤ (lit≤ tt) (moment_sum_sized valid s);
})
