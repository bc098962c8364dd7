-- A digit 1 for the upper means that the upper figure equals its exact sum: where each operation keeps, each figure's value is the exact value.
-- Assumes nothing.
use mathlib.Core.Path.{◌≡◌, sym, subst}
use mathlib.Core.Bool.{Bool, true, ◌&&◌}
use mathlib.Core.List.{List, [], ◌∷◌, foldl}
use Prim.Native.Nat.{ℕ, suc, ◌^◌, ◌≤◌, ◌<◌}
use native.Mathlib.Omega.{arith}
use lib.Dec.{lit≤}
use lib.ListN.{length}
use Rattle.fraction.specs.Fraction.{Fraction, ◌≤ᶠ◌, ◌≈ᶠ◌, whole}
use Rattle.fraction.proofs.Ratio.{Ratio, ◌≈◌, ofℕ, ◌⊕◌, ◌⊗◌, ≈_sym, ≈_trans, ⊕_cong, ⊗_cong, ⊗_assoc, ⊗_zero, zero-≼}
use Rattle.fraction.proofs.Inverse.{inv, inv_cong}
use Rattle.fraction.proofs.Ratio.{≼_antisym}
use Rattle.fraction.proofs.Laws.{≈ᶠ-≤, ≈ᶠ_sym}
use Rattle.fraction.proofs.Signed.{signed, signed_whole, signed-≼, signed-≈}
use Rattle.figure.specs.declared.Figure.{Figure}
use Rattle.figure.specs.Rounding.{none, value, up}
use Rattle.figure.specs.Operations.{times_up, plus_up, divided_up, total_up, sum_to_nine_up}
use Rattle.figure.proofs.Value.{val, value_is, below_val, above_val}
use Rattle.figure.proofs.Operations.{value_times, value_plus, value_divided}
use Rattle.figure.proofs.Exact.{natural_of_whole}
use Rattle.word.specs.Model.{Manner, slow, fast, Transition, Model, exits}
use Rattle.word.specs.Internal.Lists.{Each}
use Rattle.model.specs.Internal.Valid.{ValidManner, Valid}
use Rattle.word.proofs.Members.{both}
use Rattle.tree.specs.Paths.{Path, Class, class1, class2, class3, class, class1_count}
use Rattle.tree.specs.States.{figure_of, mission_time, sum_over, add_mean_up, mean_up}
use Rattle.tree.specs.Upper.{share, upper_step, upper}
use Rattle.tree.specs.Report.{upper_total}
use Rattle.tree.proofs.Positive.{ValidSteps, exits_valid}
use Rattle.tree.proofs.Ranges.{class1_count-≤}
use Rattle.accuracy.specs.Bounds.{exact_upper}
use Rattle.accuracy.specs.Rule.{sum_of, exact_upper_sum}
use Rattle.accuracy.proofs.Natural.{◌is◌, is_whole, is_plus}
use Rattle.accuracy.proofs.Folds.{sum, fold_sum}
use Rattle.accuracy.proofs.ExactStates.{timeᴺ, shareᴺ, meanᴺ, add_meanᴺ}
use Rattle.accuracy.proofs.ExactSteps.{stepᴺ, steppedᴺ}
use Rattle.accuracy.proofs.ExactUpper.{upper_valueᴺ, upperᴺ, exact_upper_is}
use Rattle.accuracy.proofs.RoundedStates.{figure_is, share_figure_is}
use Rattle.accuracy.proofs.PathUpper.{short_count}
use Rattle.figure.specs.Losses.{keeps, times_keeps, plus_keeps, divided_keeps, total_keeps, sum_to_nine_keeps}
use Rattle.tree.specs.Marks.{sum_kept, mean_up_kept_by, mean_up_kept, upper_step_kept, upper_kept, total_kept}
use Rattle.figure.proofs.Losses.{keeps_up}

-- ---- operations that keep

pub not_negative : (x : Ratio) → whole 0 ≤ᶠ signed x
not_negative x = subst (λ (z : Fraction). z ≤ᶠ signed x) (signed_whole 0) (signed-≼ (zero-≼ x))

kept_up : (w : ℕ) (x : Ratio) → keeps (suc w) (signed x) ≡ true → val (up (suc w) (signed x)) ≈ x
kept_up w x e = let h = keeps_up w (signed x) (not_negative x) e in ≼_antisym (above_val _ (≈ᶠ-≤ h)) (below_val _ (≈ᶠ-≤ (≈ᶠ_sym h)))

-- the exact result z is that of x
pub kept_as : (w : ℕ) {z : Fraction} (x : Ratio) → z ≡ signed x → keeps (suc w) z ≡ true → val (up (suc w) z) ≈ x
kept_as w x e = subst (λ (y : Fraction). keeps (suc w) y ≡ true → val (up (suc w) y) ≈ x) (sym e) (kept_up w x)

-- the figure f is x; a record, so that f and x can be inferred
pub record Equals (f : Figure) (x : Ratio) : Type 0 where
  pub same : val f ≈ x

module _ {a b : Figure} {x y : Ratio} (p : Equals a x) (q : Equals b y) where
  pub times_exact : times_keeps a b ≡ true → Equals (times_up a b) (x ⊗ y)
  unfolding times_keeps times_up
  times_exact e = record { same = ≈_trans (kept_as 8 (val a ⊗ val b) (value_times a b) e) (⊗_cong p.same q.same) }

  pub plus_exact : plus_keeps a b ≡ true → Equals (plus_up a b) (x ⊕ y)
  unfolding plus_keeps plus_up
  plus_exact e = record { same = ≈_trans (kept_as 8 (val a ⊕ val b) (value_plus a b) e) (⊕_cong p.same q.same) }

  pub divided_exact : divided_keeps a b ≡ true → Equals (divided_up a b) (x ⊗ inv y)
  unfolding divided_keeps divided_up
  divided_exact e = record { same = ≈_trans (kept_as 8 (val a ⊗ inv (val b)) (value_divided a b) e) (⊗_cong p.same (inv_cong q.same)) }

  total_exact : total_keeps a b ≡ true → Equals (total_up a b) (x ⊕ y)
  unfolding total_keeps total_up
  total_exact e = record { same = ≈_trans (kept_as 17 (val a ⊕ val b) (value_plus a b) e) (⊕_cong p.same q.same) }

  sum_exact : sum_to_nine_keeps a b ≡ true → Equals (sum_to_nine_up a b) (x ⊕ y)
  unfolding sum_to_nine_keeps sum_to_nine_up
  sum_exact e = record { same = ≈_trans (kept_as 8 (val a ⊕ val b) (value_plus a b) e) (⊕_cong p.same q.same) }

-- ---- sums over exits

pub exits_exact : (add : Figure → Manner → Figure) (addᴺ : Ratio → Manner → Ratio) (kept : Figure → Manner → Bool)
    → ((f : Figure) (x : Ratio) (y : Manner) → ValidManner y → Equals f x → kept f y ≡ true → Equals (add f y) (addᴺ x y))
    → (ts : List Transition) → Each (λ t. ValidManner t.manner) ts → (f : Figure) (x : Ratio) → Equals f x → sum_kept add kept f ts ≡ true
    → Equals (sum_over add f ts) (sum_over addᴺ x ts)
unfolding sum_over sum_kept Each
exits_exact add addᴺ kept step [] w f x p e = p
exits_exact add addᴺ kept step (t ∷ ts) w f x p e =
    let h = both (kept f t.manner) (sum_kept add kept (add f t.manner) ts) e in
    exits_exact add addᴺ kept step ts w.1 (add f t.manner) (addᴺ x t.manner) (step f x t.manner w.0 p h.0) h.1

pub none_exact : Equals none (ofℕ 0)
none_exact = record { same = ⊗_zero _ }

module _ {m : Model} (valid : Valid m) where
  mean_exact : (s : ℕ) → mean_up_kept m.net s ≡ true → Equals (mean_up m.net s) (meanᴺ m.net s)
  unfolding mean_up meanᴺ mean_up_kept ValidManner
  mean_exact s e = exits_exact add_mean_up add_meanᴺ mean_up_kept_by step (exits m.net s) (exits_valid valid s) none (ofℕ 0) none_exact e
    where
      step : (f : Figure) (x : Ratio) (y : Manner) → ValidManner y → Equals f x → mean_up_kept_by f y ≡ true → Equals (add_mean_up f y) (add_meanᴺ x y)
      step f x (slow r) w p k = p
      step f x (fast a d q) w p k =
          let h = both (times_keeps (figure_of q) (figure_of a)) (plus_keeps f (times_up (figure_of q) (figure_of a))) k in
          plus_exact p (times_exact (record { same = figure_is w.1.1 }) (record { same = figure_is w.0 }) h.0) h.1

  -- ---- a path

  step_exact : (c : Class) (k : ℕ) (t : Transition) (u : Figure) (x : Ratio) → k < 10 ^ 9 → ValidManner t.manner → Equals u x
      → upper_step_kept m.net c k t u ≡ true → Equals (upper_step m.net c k t u) (stepᴺ (timeᴺ m.net) (upper_valueᴺ m.net) c k t x)
  unfolding upper_step
  step_exact class1 k t u x l w p e =
      let s : Equals (share t.manner) (shareᴺ t.manner) = record { same = share_figure_is t.manner w } in
      let h = both (times_keeps u (share t.manner)) _ e in
      let g = both (times_keeps (times_up u (share t.manner)) (mission_time m.net)) _ h.1 in
      divided_exact (times_exact (times_exact p s h.0) (record { same = figure_is valid.time }) g.0)
      (record { same = natural_of_whole k l }) g.1
  step_exact class2 k t u x l w p e = times_exact p (record { same = share_figure_is t.manner w }) e
  step_exact class3 k t u x l w p e =
      let h = both (mean_up_kept m.net t.from) _ e in
      let g = both (times_keeps u (share t.manner)) _ h.1 in
      let s : Equals (share t.manner) (shareᴺ t.manner) = record { same = share_figure_is t.manner w } in
      record { same = ≈_trans (times_exact (times_exact p s g.0) (mean_exact t.from h.0) g.1).same (⊗_assoc x _ _) }

  path_exact : (p : Path) → ValidSteps p → length p ≤ 24 → upper_kept m.net p ≡ true → Equals (upper m.net p) (upperᴺ m.net p)
  unfolding upper upperᴺ steppedᴺ upper_kept Each
  path_exact [] w l e = record { same = natural_of_whole 1 (lit≤ tt) }
  path_exact (t ∷ p) w l e =
      let h = both (upper_step_kept m.net (class m.net t) (class1_count m.net (t ∷ p)) t (upper m.net p)) (upper_kept m.net p) e in
      step_exact (class m.net t) (class1_count m.net (t ∷ p)) t (upper m.net p) _
      (omega (arith, short_count (length (t ∷ p)) (class1_count m.net (t ∷ p)) (class1_count-≤ m.net (t ∷ p)) l)) w.0
      (path_exact p w.1 (omega arith) h.1) h.0

  -- ---- totals

  pub record Short (p : Path) : Type 0 where
    pub steps : ValidSteps p
    pub few : length p ≤ 24

  total_from : (ps : List Path) → Each Short ps → (a : Figure) (x : Ratio) → Equals a x
      → total_kept total_up (upper m.net) (upper_kept m.net) a ps ≡ true
      → Equals (foldl (λ b p. total_up b (upper m.net p)) a ps) (foldl (λ y p. y ⊕ upperᴺ m.net p) x ps)
  unfolding total_kept Each
  total_from [] w a x q e = q
  total_from (p ∷ ps) w a x q e =
      let h = both (upper_kept m.net p) _ e in
      let g = both (total_keeps a (upper m.net p)) _ h.1 in
      total_from ps w.1 _ _ (total_exact q (path_exact p w.0.steps w.0.few h.0) g.0) g.1

  list_exact : (ps : List Path) → Each Short ps → total_kept total_up (upper m.net) (upper_kept m.net) none ps ≡ true
      → Equals (upper_total m.net ps) (sum (upperᴺ m.net) ps)
  unfolding upper_total
  list_exact ps w e = record { same = ≈_trans (total_from ps w none (ofℕ 0) none_exact e).same (fold_sum (upperᴺ m.net) ps) }

  sum_is : (ps : List Path) → sum_of (exact_upper m.net) ps is sum (upperᴺ m.net) ps
  unfolding sum_of sum
  sum_is [] = is_whole 0
  sum_is (p ∷ ps) = is_plus (exact_upper_is m.net p) (sum_is ps)

  -- the digit for the upper
  pub upper_means : (ds cs : List Path) → Each Short ds → Each Short cs
      → (total_kept total_up (upper m.net) (upper_kept m.net) none ds && (total_kept total_up (upper m.net) (upper_kept m.net) none cs
      && sum_to_nine_keeps (upper_total m.net ds) (upper_total m.net cs))) ≡ true
      → value (sum_to_nine_up (upper_total m.net ds) (upper_total m.net cs)) ≈ᶠ exact_upper_sum m.net ds cs
  unfolding exact_upper_sum
  upper_means ds cs wd wc e =
      let h = both (total_kept total_up (upper m.net) (upper_kept m.net) none ds) _ e in
      let g = both (total_kept total_up (upper m.net) (upper_kept m.net) none cs) _ h.1 in
      let k = is_plus (sum_is ds) (sum_is cs) in
      let v = sum_exact (list_exact ds wd h.0) (list_exact cs wc g.0) g.1 in
      rw (value_is (sum_to_nine_up (upper_total m.net ds) (upper_total m.net cs)), k.equal) (signed-≈ (≈_trans v.same (≈_sym k.same)))
