-- The entries of the transitions' shares, factors and grains, with their marks, while they are filled: the law of the loop of
-- `steps::fill_steps`. Assumes nothing.
use Prim.Native.Nat.{ℕ, ◌+◌, ◌<◌}
use mathlib.Core.Path.{◌≡◌, ap, ◌∙◌}
use mathlib.Core.List.{List, []}
use lib.Dec.{lit≤}
use lib.ListN.{length, get_or, set}
use Rattle.figure.specs.Operands.{Sized}
use Rattle.figure.proofs.Sized.{sized-≤}
use Rattle.word.specs.Model.{Transition, Net, Model}
use Rattle.model.specs.Index.{no_transition, transition}
use Rattle.model.specs.Internal.Valid.{ValidManner, ValidTransition, Valid}
use Rattle.word.proofs.Members.{each_lookup}
use Rattle.tree.specs.Paths.{Class, class1, class2, class3, class}
use Rattle.tree.specs.Upper.{share}
use Rattle.tree.specs.Grains.{grains}
use Rattle.tree.specs.Marks as marks
use Rattle.tree.proofs.Least.{GrainsOf, grains_of_class, grains_high}
use Rattle.tree.proofs.Ranges.{none_sized, share_sized, class2_factor_sized, class3_factor_sized}
use Rattle.tables.specs.declared.steps.Step.{Step}
use Rattle.tables.specs.declared.table.StepEntry.{StepEntry}
use Rattle.tables.specs.declared.table.Table.{Table}
use Rattle.tables.specs.Internal.Tables.{StatesHold, StepsHold, unpacked, counted, marked, no_step, step_in, step_factor, step_factor_kept}
use Rattle.tables.specs.Internal.Steps.{StepPacked, StepSized, step_of}
use Rattle.tables.proofs.Sections.{same_figure, same_mark, put_more}

-- ---- a step of a valid model is in range

factor_sized : {m : Model} (valid : Valid m) (t : Transition) → ValidManner t.manner → Sized 9 1200 (step_factor m.net (class m.net t) t)
unfolding step_factor
factor_sized {m} valid t w = go (class m.net t) (grains_of_class m.net [] t)
  where
    go : (c : Class) → GrainsOf c (grains m.net [] t) → Sized 9 1200 (step_factor m.net c t)
    go class1 g = none_sized 1200
    go class2 g = class2_factor_sized valid t.from t.manner w g.0 g.1
    go class3 g = class3_factor_sized valid t.from t.manner w g.0 g.1

module _ {m : Model} (valid : Valid m) {j : ℕ} (index : j < length m.net.table) {x : Step} (is : x ≡ step_of m.net (transition m.net j)) where
  manner_valid : ValidManner (transition m.net j).manner
  manner_valid = (each_lookup (ValidTransition m.states) m.net.table j no_transition valid.table index).manner

  pub step_sized : StepSized x
  unfolding step_of
  step_sized = rw is (record {
    share = sized-≤ (lit≤ tt) (share_sized (transition m.net j).manner manner_valid);
    factor = sized-≤ (lit≤ tt) (factor_sized valid (transition m.net j) manner_valid);
    grains = grains_high m.net [] (transition m.net j);
  })

-- ---- the steps of the transitions below j

module _ (net : Net) where
  module _ {j : ℕ} (table : Table) {x : Step} (entry : StepEntry) (inside : j < length table.steps) (is : x ≡ step_of net (transition net j))
      (packed : StepPacked x entry) where
    -- what is read of an entry is that of its transition
    more : {A : Type 0} (read : StepEntry → A) (f : ℕ → A) → read entry ≡ f j → ((i : ℕ) → i < j → read (step_in table i) ≡ f i)
        → (k : ℕ) → k < j + 1 → read (get_or (set table.steps j entry) k no_step) ≡ f k
    more read f = put_more (λ i v. read v ≡ f i) table.steps no_step entry inside

    pub steps_more : StepsHold net j table → StepsHold net (j + 1) (record { states = table.states; steps = set table.steps j entry })
    unfolding step_of
    steps_more h = record {
      shares = more (λ e. unpacked e.share) (λ k. share (transition net k).manner) (same_figure (packed.share ∙ ap (λ (y : Step). y.share) is)) h.shares;
      factors =
          more (λ e. unpacked e.factor) (λ k. step_factor net (class net (transition net k)) (transition net k))
          (same_figure (packed.factor ∙ ap (λ (y : Step). y.factor) is)) h.factors;
      grain_counts =
          more (λ e. counted e.grains) (λ k. grains net [] (transition net k)) (packed.grain_count ∙ ap (λ (y : Step). y.grains) is)
          h.grain_counts;
      factors_kept =
          more (λ e. marked e.factor) (λ k. step_factor_kept net (class net (transition net k)) (transition net k))
          (same_mark (packed.factor ∙ ap (λ (y : Step). y.factor) is)) h.factors_kept;
      grains_kept =
          more (λ e. marked e.grains) (λ k. marks.grains_kept net [] (transition net k))
          (packed.grains_mark ∙ ap (λ (y : Step). y.grains_kept) is) h.grains_kept;
    }

  -- the states' sums stay
  pub states_stay : {n : ℕ} {table : Table} (steps : List StepEntry) → StatesHold net n table
      → StatesHold net n (record { states = table.states; steps = steps })
  states_stay steps h = record {
    rate_sums = h.rate_sums;
    rate_sums_kept = h.rate_sums_kept;
    means_up = h.means_up;
    means_up_kept = h.means_up_kept;
    means_down = h.means_down;
    means_down_kept = h.means_down_kept;
    moment_sums = h.moment_sums;
    moment_sums_kept = h.moment_sums_kept;
  }
