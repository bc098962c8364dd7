-- A digit 1 for the lower means that the lower figure equals its exact sum. Assumes nothing.
use mathlib.Core.Path.{◌≡◌, sym, ◌∙◌, ap, subst}
use mathlib.Core.Bool.{Bool, true, false, ◌&&◌}
use mathlib.Core.Logic.{⊎_elim}
use mathlib.Core.List.{List, [], ◌∷◌, foldl}
use Prim.Native.Nat.{ℕ, suc, ◌+◌, ◌^◌, ◌≤◌, ◌<◌}
use native.Mathlib.Omega.{arith}
use native.Mathlib.Nat.{le_trans}
use lib.IntN.{pos}
use lib.Dec.{T, leb, lit≤, nleb→lt}
use mathlib.Core.Bool.{not}
use lib.ListN.{length}
use Rattle.fraction.specs.Fraction.{Fraction, ◌≤ᶠ◌, ◌≈ᶠ◌, whole, ◌-ᶠ◌}
use Rattle.fraction.proofs.Ratio.{Ratio, ◌≈◌, ofℕ, ◌⊕◌, ◌⊗◌, ◌⊖◌, ≈_sym, ≈_trans, ⊕_cong, ⊗_cong, ⊖_cong, ⊗_zero, num_zero, ≼_antisym}
use Rattle.fraction.proofs.Inverse.{inv, inv_cong}
use Rattle.fraction.proofs.PowersOfTen.{ten_nat}
use Rattle.fraction.proofs.Laws.{≤ᶠ_or, ≈ᶠ-≤, ≈ᶠ_sym}
use Rattle.fraction.proofs.Signed.{signed, nonnegative, signed_whole, signed-≈, nonnegative_none, nonnegative_minus, signed_nonnegative}
use Rattle.figure.specs.declared.Figure.{Figure}
use Rattle.figure.specs.Rounding.{none, value, up, down}
use Rattle.figure.specs.Operations.{times_up, times_down, plus_up, plus_down, minus_down, divided_up, divided_down, times_ten, of_whole, total_down}
use Rattle.figure.specs.Operations.{to_nine_down}
use Rattle.figure.proofs.Value.{val, value_is, below_val, above_val}
use Rattle.figure.proofs.Operations.{value_times, value_plus, value_divided}
use Rattle.figure.proofs.Exact.{natural_of_whole, natural_times_ten}
use Rattle.figure.proofs.Rounding.{down_none}
use Rattle.word.specs.declared.Quantity.{Quantity}
use Rattle.word.specs.Model.{Manner, slow, fast, Transition, Net, Model, exits}
use Rattle.word.specs.Internal.Lists.{Each}
use Rattle.model.specs.Internal.Valid.{InRange, ValidManner, Valid}
use Rattle.word.proofs.Members.{both}
use Rattle.tree.specs.Paths.{Path, Class, class1, class2, class3, class, class1_count}
use Rattle.tree.specs.States.{figure_of, mission_time, time_squared, second_moment, add_rate, add_mean_down, add_moment, rate_sum, mean_down}
use Rattle.tree.specs.States.{moment_sum}
use Rattle.tree.specs.Upper.{share}
use Rattle.tree.specs.Grains.{grains, grain_sum}
use Rattle.tree.specs.Lower.{class2_loss, class3_loss, class2_factor, class3_factor, lower_step, lower_product, add_rates, path_rate_sum}
use Rattle.tree.specs.Lower.{remaining_time, last_factor, lower_with, lower}
use Rattle.tree.specs.Report.{lower_total}
use Rattle.tree.proofs.Positive.{ValidSteps, exits_valid}
use Rattle.tree.proofs.Ranges.{class1_count-≤}
use Rattle.tree.proofs.Least.{grains_high}
use Rattle.accuracy.specs.Bounds.{exact_lower}
use Rattle.accuracy.specs.Rule.{sum_of, exact_lower_sum}
use Rattle.accuracy.proofs.Natural.{◌is◌, is_whole, is_plus}
use Rattle.accuracy.proofs.Folds.{sum, fold_sum}
use Rattle.accuracy.proofs.ExactStates.{exactᴺ, timeᴺ, shareᴺ, momentᴺ, add_rateᴺ, add_meanᴺ, add_momentᴺ, rate_sumᴺ, meanᴺ, moment_sumᴺ}
use Rattle.accuracy.proofs.ExactStates.{remaining_timeᴺ, remaining_time_is}
use Rattle.accuracy.proofs.ExactSteps.{stepᴺ, steppedᴺ}
use Rattle.accuracy.proofs.ExactLower.{class2_lossᴺ, class3_lossᴺ, class2_valueᴺ, class3_valueᴺ, lower_valueᴺ, add_ratesᴺ, path_rate_sumᴺ}
use Rattle.accuracy.proofs.ExactLower.{last_valueᴺ, lowerᴺ, exact_lower_is}
use Rattle.accuracy.proofs.RoundedStates.{figure_is, share_figure_is}
use Rattle.accuracy.proofs.PathUpper.{short_count}
use Rattle.figure.specs.Losses.{keeps, times_keeps, plus_keeps, minus_keeps, divided_keeps, whole_keeps, total_keeps, to_nine_keeps}
use Rattle.tree.specs.Marks.{time_squared_kept, second_moment_kept, rate_kept_by, mean_down_kept_by, moment_kept_by, rate_sum_kept}
use Rattle.tree.specs.Marks.{mean_down_kept, moment_sum_kept, grains_kept, all_grains_kept}
use Rattle.tree.specs.Marks.{class2_loss_kept, class3_loss_kept}
use Rattle.tree.specs.Marks.{class2_factor_kept, class3_factor_kept, lower_step_kept, lower_product_kept, rates_kept_by, path_rates_kept}
use Rattle.tree.specs.Marks.{last_factor_kept, lower_kept_with, lower_kept, total_kept}
use Rattle.figure.proofs.Losses.{keeps_down}
use Rattle.accuracy.proofs.UpperExact.{Equals, not_negative, kept_as, times_exact, plus_exact, divided_exact, exits_exact, none_exact, Short}

-- ---- operations that round down and keep

kept_down_as : (w : ℕ) {z : Fraction} (x : Ratio) → z ≡ signed x → keeps (suc w) z ≡ true → val (down (suc w) z) ≈ x
kept_down_as w x e = subst (λ (y : Fraction). keeps (suc w) y ≡ true → val (down (suc w) y) ≈ x) (sym e)
    (λ k. let h = keeps_down w (signed x) (not_negative x) k in ≼_antisym (above_val _ (≈ᶠ-≤ h)) (below_val _ (≈ᶠ-≤ (≈ᶠ_sym h))))

module _ {a b : Figure} {x y : Ratio} (p : Equals a x) (q : Equals b y) where
  times_down_exact : times_keeps a b ≡ true → Equals (times_down a b) (x ⊗ y)
  unfolding times_keeps times_down
  times_down_exact e = record { same = ≈_trans (kept_down_as 8 (val a ⊗ val b) (value_times a b) e) (⊗_cong p.same q.same) }

  plus_down_exact : plus_keeps a b ≡ true → Equals (plus_down a b) (x ⊕ y)
  unfolding plus_keeps plus_down
  plus_down_exact e = record { same = ≈_trans (kept_down_as 8 (val a ⊕ val b) (value_plus a b) e) (⊕_cong p.same q.same) }

  divided_down_exact : divided_keeps a b ≡ true → Equals (divided_down a b) (x ⊗ inv y)
  unfolding divided_keeps divided_down
  divided_down_exact e = record { same = ≈_trans (kept_down_as 8 (val a ⊗ inv (val b)) (value_divided a b) e) (⊗_cong p.same (inv_cong q.same)) }

  total_down_exact : total_keeps a b ≡ true → Equals (total_down a b) (x ⊕ y)
  unfolding total_keeps total_down
  total_down_exact e = record { same = ≈_trans (kept_down_as 17 (val a ⊕ val b) (value_plus a b) e) (⊕_cong p.same q.same) }

  -- a difference that isn't positive is 0 on both sides
  minus_exact : minus_keeps a b ≡ true → Equals (minus_down a b) (x ⊖ y)
  unfolding minus_keeps minus_down
  minus_exact e = record { same = ≈_trans (⊎_elim nothing_left something_left (≤ᶠ_or z (whole 0))) (⊖_cong p.same q.same) }
    where
      z : Fraction
      z = value a -ᶠ value b

      natural : nonnegative z ≡ val a ⊖ val b
      natural = rw (value_is a, value_is b) (nonnegative_minus (val a) (val b))

      nothing_left : z ≤ᶠ whole 0 → val (down 9 z) ≈ val a ⊖ val b
      nothing_left h = subst (λ (f : Figure). val f ≈ val a ⊖ val b) (sym (down_none 9 z h))
          (≈_trans (⊗_zero _) (≈_sym (num_zero (val a ⊖ val b) (rw (← natural) (nonnegative_none z h)))))

      something_left : whole 0 ≤ᶠ z → val (down 9 z) ≈ val a ⊖ val b
      something_left h = kept_down_as 8 (val a ⊖ val b) (sym (signed_nonnegative h) ∙ ap signed natural) e

to_nine_exact : {a : Figure} {x : Ratio} → Equals a x → to_nine_keeps a ≡ true → Equals (to_nine_down a) x
unfolding to_nine_keeps to_nine_down
to_nine_exact {a} p e = record { same = ≈_trans (kept_down_as 8 (val a) (value_is a) e) p.same }

ten_exact : {a : Figure} {x : Ratio} (k : ℕ) → Equals a x → Equals (times_ten a (pos k)) (x ⊗ ofℕ (10 ^ k))
ten_exact {a} k p = record { same = ≈_trans (natural_times_ten a (pos k)) (⊗_cong p.same (ten_nat k)) }

whole_exact : (n : ℕ) → whole_keeps n ≡ true → Equals (of_whole n) (ofℕ n)
unfolding whole_keeps of_whole
whole_exact n e = record { same = kept_down_as 8 (ofℕ n) (sym (signed_whole n)) e }

few_exact : (n : ℕ) → n < 10 ^ 9 → Equals (of_whole n) (ofℕ n)
few_exact n h = record { same = natural_of_whole n h }

quantity_exact : {least most : ℕ} {q : Quantity} → InRange least most q → Equals (figure_of q) (exactᴺ q)
quantity_exact h = record { same = figure_is h }

moment_exact : {m d : Quantity} → InRange 1 20 m → InRange 0 20 d → second_moment_kept m d ≡ true → Equals (second_moment m d) (momentᴺ m d)
unfolding second_moment momentᴺ second_moment_kept
moment_exact {m} {d} h k e =
    let b = both (times_keeps (figure_of m) (figure_of m)) _ e in
    let c = both (times_keeps (figure_of d) (figure_of d)) _ b.1 in
    plus_exact (times_exact (quantity_exact h) (quantity_exact h) b.0) (times_exact (quantity_exact k) (quantity_exact k) c.0) c.1

module _ {m : Model} (valid : Valid m) where
  abbrev net : Net
  net = m.net

  time_exact : Equals (mission_time net) (timeᴺ net)
  time_exact = quantity_exact valid.time

  square_exact : time_squared_kept net ≡ true → Equals (time_squared net) (timeᴺ net ⊗ timeᴺ net)
  unfolding time_squared time_squared_kept
  square_exact e = times_down_exact time_exact time_exact e

  share_exact : (x : Manner) → ValidManner x → Equals (share x) (shareᴺ x)
  share_exact x w = record { same = share_figure_is x w }

  -- ---- states

  rate_exact : (s : ℕ) → rate_sum_kept net s ≡ true → Equals (rate_sum net s) (rate_sumᴺ net s)
  unfolding rate_sum rate_sumᴺ rate_sum_kept ValidManner
  rate_exact s e = exits_exact add_rate add_rateᴺ rate_kept_by step (exits net s) (exits_valid valid s) none (ofℕ 0) none_exact e
    where
      step : (f : Figure) (x : Ratio) (y : Manner) → ValidManner y → Equals f x → rate_kept_by f y ≡ true → Equals (add_rate f y) (add_rateᴺ x y)
      step f x (slow r) w p k = plus_exact p (quantity_exact w) k
      step f x (fast a d q) w p k = p

  mean_down_exact : (s : ℕ) → mean_down_kept net s ≡ true → Equals (mean_down net s) (meanᴺ net s)
  unfolding mean_down meanᴺ mean_down_kept ValidManner
  mean_down_exact s e = exits_exact add_mean_down add_meanᴺ mean_down_kept_by step (exits net s) (exits_valid valid s) none (ofℕ 0) none_exact e
    where
      step : (f : Figure) (x : Ratio) (y : Manner) → ValidManner y → Equals f x → mean_down_kept_by f y ≡ true
          → Equals (add_mean_down f y) (add_meanᴺ x y)
      step f x (slow r) w p k = p
      step f x (fast a d q) w p k =
          let h = both (times_keeps (figure_of q) (figure_of a)) _ k in
          plus_down_exact p (times_down_exact (quantity_exact w.1.1) (quantity_exact w.0) h.0) h.1

  moment_sum_exact : (s : ℕ) → moment_sum_kept net s ≡ true → Equals (moment_sum net s) (moment_sumᴺ net s)
  unfolding moment_sum moment_sumᴺ moment_sum_kept ValidManner
  moment_sum_exact s e = exits_exact add_moment add_momentᴺ moment_kept_by step (exits net s) (exits_valid valid s) none (ofℕ 0) none_exact e
    where
      step : (f : Figure) (x : Ratio) (y : Manner) → ValidManner y → Equals f x → moment_kept_by f y ≡ true → Equals (add_moment f y) (add_momentᴺ x y)
      step f x (slow r) w p k = p
      step f x (fast a d q) w p k =
          let h = both (second_moment_kept a d) _ k in
          let g = both (times_keeps (figure_of q) (second_moment a d)) _ h.1 in
          plus_exact p (times_exact (quantity_exact w.1.1) (moment_exact w.0 w.1.0 h.0) g.0) g.1

  -- ---- factors

  class2_exact : (s : ℕ) (x : Manner) (n : ℕ) → ValidManner x → class2_factor_kept net s x n ≡ true
      → Equals (class2_factor net s x n) (class2_valueᴺ net s x n)
  unfolding class2_factor class2_valueᴺ class2_loss class2_lossᴺ class2_loss_kept class2_factor_kept ValidManner
  class2_exact s (slow r) n v e = none_exact
  class2_exact s (fast a d q) n v e =
      let b0 = both (class2_loss_kept net s a d n) _ e in
      let b1 = both (rate_sum_kept net s) _ b0.0 in
      let b2 = both (times_keeps (rate_sum net s) (figure_of a)) _ b1.1 in
      let b3 = both (second_moment_kept a d) _ b2.1 in
      let b4 = both (time_squared_kept net) _ b3.1 in
      let b5 = both (whole_keeps (n ^ 2)) _ b4.1 in
      let b6 = both (times_keeps (of_whole (n ^ 2)) (time_squared net)) _ b5.1 in
      let b7 = both (divided_keeps (second_moment a d) (times_down (of_whole (n ^ 2)) (time_squared net))) _ b6.1 in
      let added : Figure = times_ten (divided_up (second_moment a d) (times_down (of_whole (n ^ 2)) (time_squared net))) (pos 12) in
      let b9 = both (minus_keeps (of_whole 1) (plus_up (times_up (rate_sum net s) (figure_of a)) added)) _ b0.1 in
      let divisor = times_down_exact (whole_exact (n ^ 2) b5.0) (square_exact b4.0) b6.0 in
      let rest = ten_exact 12 (divided_exact (moment_exact v.0 v.1.0 b3.0) divisor b7.0) in
      let loss = plus_exact (times_exact (rate_exact s b1.0) (quantity_exact v.0) b2.0) rest b7.1 in
      times_down_exact (quantity_exact v.1.1) (minus_exact (few_exact 1 (lit≤ tt)) loss b9.0) b9.1

  class3_exact : (s : ℕ) (x : Manner) (n : ℕ) → n < 10 ^ 9 → ValidManner x → class3_factor_kept net s x n ≡ true
      → Equals (class3_factor net s x n) (class3_valueᴺ net s x n)
  unfolding class3_factor class3_valueᴺ class3_loss class3_lossᴺ class3_loss_kept class3_factor_kept
  class3_exact s x n small v e =
      let b0 = both (class3_loss_kept net s n) _ e in
      let b1 = both (rate_sum_kept net s) _ b0.0 in
      let b2 = both (moment_sum_kept net s) _ b1.1 in
      let b3 = both (mean_down_kept net s) _ b0.1 in
      let b4 = both (times_keeps (rate_sum net s) (moment_sum net s)) _ b2.1 in
      let b5 = both (divided_keeps (times_up (rate_sum net s) (moment_sum net s)) (of_whole 2)) _ b4.1 in
      let b6 = both (times_keeps (of_whole n) (mission_time net)) _ b5.1 in
      let b7 = both (divided_keeps (moment_sum net s) (times_down (of_whole n) (mission_time net))) _ b6.1 in
      let halved : Figure = divided_up (times_up (rate_sum net s) (moment_sum net s)) (of_whole 2) in
      let added : Figure = times_ten (divided_up (moment_sum net s) (times_down (of_whole n) (mission_time net))) (pos 6) in
      let b9 = both (minus_keeps (mean_down net s) (plus_up halved added)) _ b3.1 in
      let half = divided_exact (times_exact (rate_exact s b1.0) (moment_sum_exact s b2.0) b4.0) (few_exact 2 (lit≤ tt)) b5.0 in
      let rest = ten_exact 6 (divided_exact (moment_sum_exact s b2.0) (times_down_exact (few_exact n small) time_exact b6.0) b7.0) in
      times_down_exact (share_exact x v) (minus_exact (mean_down_exact s b3.0) (plus_exact half rest b7.1) b9.0) b9.1

  -- ---- the steps

  module _ (g : Transition → ℕ) (small : (x : Transition) → g x < 10 ^ 9) (t̂ : Figure) (t : Ratio) (time_is : Equals t̂ t) where
    step_exact : (c : Class) (k : ℕ) (x : Transition) (l : Figure) (y : Ratio) → k < 10 ^ 9 → ValidManner x.manner → Equals l y
        → lower_step_kept net t̂ c k (g x) x l ≡ true → Equals (lower_step net t̂ c k (g x) x l) (stepᴺ t (lower_valueᴺ net g) c k x y)
    unfolding lower_step
    step_exact class1 k x l y b v p e =
        let h = both (times_keeps l (share x.manner)) _ e in
        let i = both (times_keeps (times_down l (share x.manner)) t̂) _ h.1 in
        divided_down_exact (times_down_exact (times_down_exact p (share_exact x.manner v) h.0) time_is i.0) (few_exact k b) i.1
    step_exact class2 k x l y b v p e =
        let h = both (class2_factor_kept net x.from x.manner (g x)) _ e in
        times_down_exact p (class2_exact x.from x.manner (g x) v h.0) h.1
    step_exact class3 k x l y b v p e =
        let h = both (class3_factor_kept net x.from x.manner (g x)) _ e in
        times_down_exact p (class3_exact x.from x.manner (g x) (small x) v h.0) h.1

    product_exact : (p : Path) → ValidSteps p → length p ≤ 24 → lower_product_kept net g t̂ p ≡ true
        → Equals (lower_product net g t̂ p) (steppedᴺ net t (lower_valueᴺ net g) p)
    unfolding lower_product steppedᴺ lower_product_kept Each
    product_exact [] w l e = few_exact 1 (lit≤ tt)
    product_exact (x ∷ p) w l e =
        let h = both (lower_step_kept net t̂ (class net x) (class1_count net (x ∷ p)) (g x) x (lower_product net g t̂ p)) _ e in
        step_exact (class net x) (class1_count net (x ∷ p)) x (lower_product net g t̂ p) _
        (omega (arith, short_count (length (x ∷ p)) (class1_count net (x ∷ p)) (class1_count-≤ net (x ∷ p)) l)) w.0
        (product_exact p w.1 (omega arith) h.1) h.0

  -- ---- A, and the last factor

  rates_exact : (p : Path) → path_rates_kept net p ≡ true → Equals (path_rate_sum net p) (path_rate_sumᴺ net p)
  unfolding path_rate_sum path_rate_sumᴺ path_rates_kept
  rates_exact [] e = none_exact
  rates_exact (x ∷ p) e =
      let h = both (rates_kept_by net (class net x) x.from (path_rate_sum net p)) _ e in
      go (class net x) h.0 (rates_exact p h.1)
    where
      go : (c : Class) → rates_kept_by net c x.from (path_rate_sum net p) ≡ true → Equals (path_rate_sum net p) (path_rate_sumᴺ net p)
          → Equals (add_rates c (path_rate_sum net p) (rate_sum net x.from)) (add_ratesᴺ c (path_rate_sumᴺ net p) (rate_sumᴺ net x.from))
      go class1 k q = let h = both (rate_sum_kept net x.from) _ k in plus_exact q (rate_exact x.from h.0) h.1
      go class2 k q = q
      go class3 k q = q

  module _ (n : ℕ) (few : n ≤ 1000000) where
    left_is : remaining_time net n is remaining_timeᴺ net n
    left_is = remaining_time_is net n few

    up_exact : keeps 9 (remaining_time net n) ≡ true → Equals (up 9 (remaining_time net n)) (remaining_timeᴺ net n)
    up_exact e = record { same = ≈_trans (kept_as 8 left_is.held left_is.equal e) left_is.same }

    down_exact : keeps 9 (remaining_time net n) ≡ true → Equals (down 9 (remaining_time net n)) (remaining_timeᴺ net n)
    down_exact e = record { same = ≈_trans (kept_down_as 8 left_is.held left_is.equal e) left_is.same }

    last_exact : (p : Path) → length p ≤ 24 → last_factor_kept net n p ≡ true → Equals (last_factor net n p) (last_valueᴺ net (remaining_timeᴺ net n) p)
    unfolding last_factor last_valueᴺ last_factor_kept
    last_exact p l e =
        let b1 = both (keeps 9 (remaining_time net n)) _ e in
        let b2 = both (path_rates_kept net p) _ b1.1 in
        let b3 = both (times_keeps (up 9 (remaining_time net n)) (path_rate_sum net p)) _ b2.1 in
        let b4 = both (divided_keeps (times_up (up 9 (remaining_time net n)) (path_rate_sum net p)) (of_whole (class1_count net p + 1))) _ b3.1 in
        let count : class1_count net p + 1 < 10 ^ 9 = le_trans {m = 26} (omega (arith, class1_count-≤ net p, l)) (lit≤ tt) in
        let b = divided_exact (times_exact (up_exact b1.0) (rates_exact p b2.0) b3.0) (few_exact (class1_count net p + 1) count) b4.0 in
        minus_exact (few_exact 1 (lit≤ tt)) b b4.1

    time_kept : (p : Path) → last_factor_kept net n p ≡ true → keeps 9 (remaining_time net n) ≡ true
    unfolding last_factor_kept
    time_kept p e = (both (keeps 9 (remaining_time net n)) _ e).0

  -- ---- the lower of a path, over any grains of at most nine digits

  with_exact : (g : Transition → ℕ) (kept : Transition → Bool) → ((x : Transition) → g x < 10 ^ 9) → (p : Path) → ValidSteps p → length p ≤ 24
      → lower_kept_with net g kept p ≡ true → Equals (lower_with net g p) (lowerᴺ net g p)
  unfolding lower_with lowerᴺ lower_kept_with
  with_exact g kept small p w l e = go (leb 1000000 n) (nleb→lt 1000000 n) (both (all_grains_kept kept p) _ e).1
    where
      n : ℕ
      n = grain_sum net g p

      t̂ : Figure
      t̂ = down 9 (remaining_time net n)

      t : Ratio
      t = remaining_timeᴺ net n

      rounded : Figure
      rounded = times_down (lower_product net g t̂ p) (last_factor net n p)

      marked : Bool
      marked = lower_product_kept net g t̂ p && (last_factor_kept net n p && times_keeps (lower_product net g t̂ p) (last_factor net n p))

      exact : Ratio
      exact = steppedᴺ net t (lower_valueᴺ net g) p ⊗ last_valueᴺ net t p

      go : (b : Bool) → (T (not b) → n < 1000000) → elim b as (λ _. Bool) [ true ↦ true | false ↦ marked ] ≡ true
          → Equals (elim b as (λ _. Figure) [ true ↦ none | false ↦ rounded ]) (elim b as (λ _. Ratio) [ true ↦ ofℕ 0 | false ↦ exact ])
      go true h k = none_exact
      go false h k =
          let few : n ≤ 1000000 = omega (arith, h tt) in
          let b1 = both (lower_product_kept net g t̂ p) _ k in
          let b2 = both (last_factor_kept net n p) _ b1.1 in
          times_down_exact (product_exact g small t̂ t (down_exact n few (time_kept n few p b2.0)) p w l b1.0)
          (last_exact n few p l b2.0) b2.1

  path_exact : (p : Path) → ValidSteps p → length p ≤ 24 → lower_kept net p ≡ true → Equals (lower net p) (lowerᴺ net (grains net p) p)
  unfolding lower lower_kept
  path_exact p w l e =
      with_exact (grains net p) (grains_kept net p) (λ x. le_trans {m = 1000001} (omega (arith, grains_high net p x)) (lit≤ tt)) p w l e

  -- ---- totals

  total_from : (ps : List Path) → Each (Short valid) ps → (a : Figure) (x : Ratio) → Equals a x
      → total_kept total_down (lower net) (lower_kept net) a ps ≡ true
      → Equals (foldl (λ b p. total_down b (lower net p)) a ps) (foldl (λ y p. y ⊕ lowerᴺ net (grains net p) p) x ps)
  unfolding total_kept Each
  total_from [] w a x q e = q
  total_from (p ∷ ps) w a x q e =
      let h = both (lower_kept net p) _ e in
      let i = both (total_keeps a (lower net p)) _ h.1 in
      total_from ps w.1 _ _ (total_down_exact q (path_exact p w.0.steps w.0.few h.0) i.0) i.1

  list_exact : (ps : List Path) → Each (Short valid) ps → total_kept total_down (lower net) (lower_kept net) none ps ≡ true
      → Equals (lower_total net ps) (sum (λ p. lowerᴺ net (grains net p) p) ps)
  unfolding lower_total
  list_exact ps w e = record { same = ≈_trans (total_from ps w none (ofℕ 0) none_exact e).same (fold_sum (λ p. lowerᴺ net (grains net p) p) ps) }

  sum_is : (ps : List Path) → sum_of (exact_lower net) ps is sum (λ p. lowerᴺ net (grains net p) p) ps
  unfolding sum_of sum exact_lower
  sum_is [] = is_whole 0
  sum_is (p ∷ ps) = is_plus (exact_lower_is net (grains net p) p) (sum_is ps)

  -- the digit for the lower
  pub lower_means : (ds : List Path) → Each (Short valid) ds
      → (total_kept total_down (lower net) (lower_kept net) none ds && to_nine_keeps (lower_total net ds)) ≡ true
      → value (to_nine_down (lower_total net ds)) ≈ᶠ exact_lower_sum net ds
  unfolding exact_lower_sum
  lower_means ds w e =
      let h = both (total_kept total_down (lower net) (lower_kept net) none ds) _ e in
      let v = to_nine_exact (list_exact ds w h.0) h.1 in
      let k = sum_is ds in
      rw (value_is (to_nine_down (lower_total net ds)), k.equal) (signed-≈ (≈_trans v.same (≈_sym k.same)))
