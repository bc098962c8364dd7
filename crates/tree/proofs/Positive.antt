-- Sums over exits to which fast exits alone add: h and h' of a state of a valid model are above 0 if it has fast exits, and else 0. Assumes
-- nothing.
use mathlib.Core.Path.{◌≡◌, refl, ◌∙◌, ap}
use mathlib.Core.Bool.{Bool, true, false, ◌||◌, true≢false, false≢true}
use mathlib.Core.Logic.{◌↔◌, inl, inr}
use mathlib.Core.List.{List, [], ◌∷◌}
use Prim.Native.Nat.{ℕ}
use native.Mathlib.Nat.{lt_irrefl}
use Rattle.figure.specs.declared.Figure.{Figure}
use Rattle.figure.specs.Rounding.{none}
pub use Rattle.figure.proofs.Positive.{Above, times_down_above, of_whole_above}
use Rattle.figure.proofs.Positive.{times_up_above, plus_up_above, plus_down_above}
use Rattle.word.specs.declared.Quantity.{Quantity}
use Rattle.word.specs.Model.{Manner, slow, fast, Transition, Model, is_fast, any, exits, has_fast}
use Rattle.word.specs.Internal.Lists.{Each}
use Rattle.model.specs.Internal.Valid.{ValidManner, ValidTransition, Valid}
use Rattle.word.proofs.Members.{each_monotone}
use Rattle.word.proofs.Exits.{exits_each}
use Rattle.tree.specs.States.{sum_over, add_mean_up, add_mean_down, mean_up, mean_down}
use Rattle.tree.proofs.Quantities.{quantity_above}

abbrev pub ValidSteps : List Transition → Type 0
ValidSteps ts = Each (λ t. ValidManner t.manner) ts

-- Fast exits alone add, and each adds more than 0. Then a sum from 0 on is positive exactly if there is a fast exit.
pub record AddsFast (add : Figure → Manner → Figure) : Type 0 where
  pub skips : (a : Figure) (r : Quantity) → add a (slow r) ≡ a
  pub keeps : (a : Figure) (m d q : Quantity) → Above a → Above (add a (fast m d q))
  pub adds : (a : Figure) (m d q : Quantity) → ValidManner (fast m d q) → Above (add a (fast m d q))

module _ {add : Figure → Manner → Figure} (is : AddsFast add) where
  kept : (a : Figure) (x : Manner) → Above a → Above (add a x)
  kept a (slow r) h = rw (is.skips a r) h
  kept a (fast m d q) h = is.keeps a m d q h

  sum_keeps : (a : Figure) (ts : List Transition) → Above a → Above (sum_over add a ts)
  unfolding sum_over
  sum_keeps a [] h = h
  sum_keeps a (t ∷ ts) h = sum_keeps (add a t.manner) ts (kept a t.manner h)

  pub sum_above : (a : Figure) (ts : List Transition) → ValidSteps ts → has_fast ts ≡ true → Above (sum_over add a ts)
  unfolding sum_over Each has_fast any
  sum_above a [] w h = absurd (false≢true h)
  sum_above a (t ∷ ts) w h = go t.manner w.0 h (λ b k. sum_above b ts w.1 k)
    where
      go : (x : Manner) → ValidManner x → (is_fast x || has_fast ts) ≡ true
          → ((b : Figure) → has_fast ts ≡ true → Above (sum_over add b ts)) → Above (sum_over add (add a x) ts)
      go (slow r) v k below = below (add a (slow r)) k
      go (fast m d q) v k below = sum_keeps (add a (fast m d q)) ts (is.adds a m d q v)

  pub sum_none : (a : Figure) (ts : List Transition) → has_fast ts ≡ false → sum_over add a ts ≡ a
  unfolding sum_over has_fast any
  sum_none a [] h = refl
  sum_none a (t ∷ ts) h = go t.manner h (λ b k. sum_none b ts k)
    where
      go : (x : Manner) → (is_fast x || has_fast ts) ≡ false → ((b : Figure) → has_fast ts ≡ false → sum_over add b ts ≡ b)
          → sum_over add (add a x) ts ≡ a
      go (slow r) k below = below (add a (slow r)) k ∙ is.skips a r
      go (fast m d q) k below = absurd (true≢false k)

  pub sum_zero_iff : (ts : List Transition) → ValidSteps ts → ((sum_over add none ts).digits ≡ 0) ↔ (has_fast ts ≡ false)
  sum_zero_iff ts w = (λ e. go (has_fast ts) refl e, λ h. ap (λ f. f.digits) (sum_none none ts h))
    where
      go : (b : Bool) → has_fast ts ≡ b → (sum_over add none ts).digits ≡ 0 → b ≡ false
      go false h e = refl
      go true h e = absurd (lt_irrefl 0 (rw e at (sum_above none ts w h)))

mean_up_adds : AddsFast add_mean_up
unfolding ValidManner
mean_up_adds = record {
  skips = λ a r. refl;
  keeps = λ a m d q h. plus_up_above a _ (inl h);
  adds = λ a m d q w. plus_up_above a _ (inr (times_up_above _ _ (quantity_above w.1.1) (quantity_above w.0)));
}

mean_down_adds : AddsFast add_mean_down
unfolding ValidManner
mean_down_adds = record {
  skips = λ a r. refl;
  keeps = λ a m d q h. plus_down_above a _ (inl h);
  adds = λ a m d q w. plus_down_above a _ (inr (times_down_above _ _ (quantity_above w.1.1) (quantity_above w.0)));
}

-- ---- h and h' of a state of a valid model

module _ {m : Model} (valid : Valid m) (s : ℕ) where
  pub exits_valid : ValidSteps (exits m.net s)
  exits_valid = each_monotone (ValidTransition m.states) (λ t. ValidManner t.manner) (λ t h. h.manner) (exits m.net s)
      (exits_each (ValidTransition m.states) m.net.table s valid.table)

  pub mean_down_above : has_fast (exits m.net s) ≡ true → Above (mean_down m.net s)
  unfolding mean_down
  mean_down_above h = sum_above mean_down_adds none (exits m.net s) exits_valid h

  -- the digits of h, or of h', tell whether the state has fast exits

  pub mean_up_zero_iff : ((mean_up m.net s).digits ≡ 0) ↔ (has_fast (exits m.net s) ≡ false)
  unfolding mean_up
  mean_up_zero_iff = sum_zero_iff mean_up_adds (exits m.net s) exits_valid

  pub mean_down_zero_iff : ((mean_down m.net s).digits ≡ 0) ↔ (has_fast (exits m.net s) ≡ false)
  unfolding mean_down
  mean_down_zero_iff = sum_zero_iff mean_down_adds (exits m.net s) exits_valid
