-- From the index of a transition to its place and to what the table holds of the state that it leaves. Assumes nothing.
use Prim.Native.Nat.{ℕ, ◌≤◌, ◌<◌}
use mathlib.Core.Path.{◌≡◌, refl, sym, ap, ap₂, ◌∙◌}
use mathlib.Core.Bool.{Bool, true, false}
use mathlib.Core.List.{List}
use native.Mathlib.Omega.{arith}
use lib.ListN.{length, get_or}
use Rattle.figure.specs.declared.Figure.{Figure}
use Rattle.figure.specs.declared.Rounded.{Rounded}
use Rattle.figure.specs.Rounding.{none}
use Rattle.figure.specs.Operands.{Sized}
use Rattle.figure.specs.Losses.{told}
use Rattle.word.specs.Model.{Transition, exits, has_fast}
use Rattle.word.specs.Words.{from_field}
use Rattle.model.specs.declared.index.Index.{Index}
use Rattle.model.specs.Index.{transition_at, transition}
use Rattle.model.specs.Internal.Valid.{ValidTransition}
use Rattle.tree.specs.States.{rate_sum, mean_down, moment_sum}
use Rattle.tree.specs.Marks.{rate_sum_kept, mean_down_kept, moment_sum_kept}
use Rattle.tree.proofs.Positive.{Above, mean_down_zero_iff}
use Rattle.tree.proofs.Divisors.{time_above}
use Rattle.tree.proofs.Ranges.{rate_sum_sized, mean_down_sized, moment_sum_sized, mission_time_sized}
use Rattle.tables.specs.declared.manner.Spread.{Spread}
use Rattle.tables.specs.declared.steps.Step.{Step}
use Rattle.tables.specs.declared.table.Table.{Table}
use Rattle.tables.specs.Internal.Described.{Indexes, StandsFirst, described, net_of}
use Rattle.tables.specs.Internal.Tables.{rate_sum_in, mean_down_in, moment_sum_in, rate_sum_kept_in, mean_down_kept_in, moment_sum_kept_in}
use Rattle.tables.specs.Internal.Told.{exact}
use Rattle.tables.specs.Internal.Steps.{StepReady, class2_step_of, class3_step_of, step_of}
use Rattle.tables.proofs.Firsts.{FastRead, SlowRead, first_from}
use Rattle.tables.proofs.Classes.{step_valid}
use Rattle.tables.proofs.Sections.{same_figure}
use Rattle.tables.proofs.StepLaws.{rate_told, mean_told, moment_told, fast_step, slow_step, lone_step}

-- an entry of the table is a figure, in range, with its mark
pub record Entry (held f : Rounded) : Type 0 where
  pub is : held ≡ f
  pub sized : Sized 9 500 held.figure

-- E, h' and H of a state as the table holds them

abbrev pub rate_held : Table → ℕ → Rounded
rate_held table s = told (rate_sum_in table s) (rate_sum_kept_in table s)

abbrev pub mean_held : Table → ℕ → Rounded
mean_held table s = told (mean_down_in table s) (mean_down_kept_in table s)

abbrev pub moment_held : Table → ℕ → Rounded
moment_held table s = told (moment_sum_in table s) (moment_sum_kept_in table s)

-- what the table holds of the state s that a transition leaves
pub record Leaves (ws : List ℕ) (table : Table) (t : Transition) (s : ℕ) : Type 0 where
  pub small : s ≤ 1000
  pub rate : Entry (rate_held table s) (rate_told (net_of ws) t.from)
  pub mean : Entry (mean_held table s) (mean_told (net_of ws) t.from)
  pub moment : Entry (moment_held table s) (moment_told (net_of ws) t.from)

module _ {ws : List ℕ} {index : Index} {table : Table} {time : Rounded} (indexes : Indexes ws index) (h : StepReady ws time table) where
  pub time_in_range : Sized 9 40 time.figure
  time_in_range = rw h.time_is (mission_time_sized indexes.valid)

  pub time_positive : Above time.figure
  time_positive = rw h.time_is (time_above indexes.valid)

  module _ {j : ℕ} (inside : j < length (net_of ws).table) {part : List ℕ} (first : StandsFirst part)
      (reads : transition_at part ≡ transition (net_of ws) j) {w s : ℕ} (w-is : w ≡ get_or part 0 0) (s-is : s ≡ from_field w) where
    origin_is : s ≡ (transition (net_of ws) j).from
    origin_is = s-is ∙ ap from_field w-is ∙ first_from first ∙ ap (λ (u : Transition). u.from) reads

    valid_step : ValidTransition (described ws).states (transition (net_of ws) j)
    valid_step = step_valid indexes.valid inside

    entry : (f held : ℕ → Figure) (k marks : ℕ → Bool) → ((i : ℕ) → 1 ≤ i → i ≤ (described ws).states → held i ≡ f i)
        → ((i : ℕ) → 1 ≤ i → i ≤ (described ws).states → marks i ≡ k i) → Sized 9 500 (f (transition (net_of ws) j).from)
        → Entry (told (held s) (marks s)) (told (f (transition (net_of ws) j).from) (k (transition (net_of ws) j).from))
    entry f held k marks are kept sized = record { is = same; sized = rw (same_figure same) sized }
      where
        same : told (held s) (marks s) ≡ told (f (transition (net_of ws) j).from) (k (transition (net_of ws) j).from)
        same = rw origin_is (ap₂ told (are (transition (net_of ws) j).from valid_step.from_low valid_step.from_high)
            (kept (transition (net_of ws) j).from valid_step.from_low valid_step.from_high))

    pub step_leaves : Leaves ws table (transition (net_of ws) j) s
    step_leaves = record {
      small = omega (arith, origin_is, valid_step.from_high, indexes.valid.states_high);
      rate =
          entry (rate_sum (net_of ws)) (rate_sum_in table) (rate_sum_kept (net_of ws)) (rate_sum_kept_in table) h.states.rate_sums
          h.states.rate_sums_kept (rate_sum_sized indexes.valid _);
      mean =
          entry (mean_down (net_of ws)) (mean_down_in table) (mean_down_kept (net_of ws)) (mean_down_kept_in table) h.states.means_down
          h.states.means_down_kept (mean_down_sized indexes.valid _);
      moment =
          entry (moment_sum (net_of ws)) (moment_sum_in table) (moment_sum_kept (net_of ws)) (moment_sum_kept_in table) h.states.moment_sums
          h.states.moment_sums_kept (moment_sum_sized indexes.valid _);
    }

  -- ---- what was worked out of a transition's manner is its step

  module _ {t : Transition} {s : ℕ} (l : Leaves ws table t s) {rate : Rounded} (rate-at : rate ≡ rate_held table s) where
    pub found_fast : {e : Spread} → FastRead t.manner e → {x : Step} → x ≡ class2_step_of rate time e → x ≡ step_of (net_of ws) t
    found_fast f e = e ∙ rw (rate-at, l.rate.is, h.time_is) (fast_step (net_of ws) t f)

    module _ {share : Rounded} (f : SlowRead t.manner share) {mean : Rounded} (mean-at : mean ≡ mean_held table s) where
      mean_is : mean ≡ mean_told (net_of ws) t.from
      mean_is = mean-at ∙ l.mean.is

      -- the digits of h' tell whether the state has fast exits

      no_fast : mean.figure.digits ≡ 0 → has_fast (exits (net_of ws) t.from) ≡ false
      no_fast z = (mean_down_zero_iff indexes.valid t.from).0 (ap (λ (f : Rounded). f.figure.digits) (sym mean_is) ∙ z)

      some_fast : (mean.figure.digits ≡ 0 → ⊥) → has_fast (exits (net_of ws) t.from) ≡ true
      some_fast n = go (has_fast (exits (net_of ws) t.from)) (mean_down_zero_iff indexes.valid t.from).1
        where
          go : (b : Bool) → (b ≡ false → (mean_down (net_of ws) t.from).digits ≡ 0) → b ≡ true
          go true zero = refl
          go false zero = absurd (n (ap (λ (f : Rounded). f.figure.digits) mean_is ∙ zero refl))

      pub found_lone : mean.figure.digits ≡ 0 → {factor : Rounded} → factor ≡ exact none
          → ◌≡◌ {A = Step} (record { share = share; grains = 0; grains_kept = true; factor = factor }) (step_of (net_of ws) t)
      found_lone z n = lone_step (net_of ws) t (no_fast z) f n

      pub found_slow : (mean.figure.digits ≡ 0 → ⊥) → {moment : Rounded} → moment ≡ moment_held table s → {x : Step}
          → x ≡ class3_step_of rate mean moment time share → x ≡ step_of (net_of ws) t
      found_slow n moment-at e =
          e ∙ rw (rate-at, l.rate.is, mean_is, moment-at, l.moment.is, h.time_is) (slow_step (net_of ws) t (some_fast n) f)
