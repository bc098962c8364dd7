-- The rounded lower of a path of at most 24 steps is at or below the exact one, by at most 1,500 parts of 10^-8 of the path's exact upper: 60 for
-- each step, 45 for the last factor and one for its product, 1,486 in all. It holds for any grains, at least 1 for each class 2 or 3 step. Assumes
-- nothing.
use mathlib.Core.Path.{◌≡◌}
use mathlib.Core.Bool.{Bool, true, false, not}
use mathlib.Core.List.{[], ◌∷◌}
use Prim.Native.Nat.{ℕ, suc, ◌+◌, ◌*◌, ◌^◌, ◌≤◌, ◌<◌}
use native.Mathlib.Nat.{one-le-pow}
use native.Mathlib.Omega.{arith}
use lib.Dec.{T, leb, nleb→lt, lit≤}
use lib.ListN.{length}
use Rattle.fraction.specs.Fraction.{Fraction}
use Rattle.fraction.proofs.Ratio.{Ratio, ofℕ, ◌⊗◌, ≈_refl, ⊗_one_right, ⊗_zero, ⊗_pos, ofℕ_pos}
use Rattle.fraction.proofs.Inverse.{inv}
use Rattle.figure.specs.declared.Figure.{Figure}
use Rattle.figure.specs.Rounding.{none, up, down}
use Rattle.figure.specs.Operations.{times_up, times_down, divided_up, of_whole}
use Rattle.figure.proofs.Exact.{natural_of_whole}
use Rattle.word.specs.declared.Quantity.{Quantity}
use Rattle.word.specs.Model.{Manner, slow, fast, Transition, Net, Model}
use Rattle.word.specs.Internal.Lists.{Each}
use Rattle.model.specs.Internal.Valid.{InRange, ValidManner, Valid}
use Rattle.tree.specs.Paths.{Path, Class, class1, class2, class3, class, class1_count, counts_1}
use Rattle.tree.specs.States.{mission_time, time_squared, rate_sum}
use Rattle.tree.specs.Grains.{grain_sum}
use Rattle.tree.specs.Lower.{remaining_time, class2_loss, class3_loss, class2_factor, class3_factor, lower_step, lower_product, add_rates, path_rate_sum, last_factor, lower_with}
use Rattle.tree.proofs.Positive.{ValidSteps}
use Rattle.tree.proofs.Ranges.{class1_count-≤}
use Rattle.accuracy.proofs.Near.{Near, near_exact, near-≤, near-≈, near_times, near_plus, near_add, near_divided, near_by_whole, near_ten, up_near}
use Rattle.accuracy.proofs.Under.{Under, under_times, under_whole}
use Rattle.accuracy.proofs.Short.{Short, short_exact, short_none, short-≤, short_cap, short-≈, short_under, down_short, short_times, short_by_whole, short_minus}
use Rattle.accuracy.proofs.Natural.{◌is◌}
use Rattle.accuracy.proofs.ExactStates.{shareᴺ, rate_sumᴺ, meanᴺ, timeᴺ, remaining_timeᴺ, remaining_time_is, remaining_time-≼}
use Rattle.accuracy.proofs.ExactSteps.{stepᴺ, steppedᴺ}
use Rattle.accuracy.proofs.ExactUpper.{upper_valueᴺ, upperᴺ}
use Rattle.accuracy.proofs.ExactLower.{class2_lossᴺ, class3_lossᴺ, class2_valueᴺ, class3_valueᴺ, lower_valueᴺ, add_ratesᴺ, path_rate_sumᴺ, last_valueᴺ, lowerᴺ}
use Rattle.accuracy.proofs.RoundedStates.{figure_is, quantity_near, quantity_under, quantity_pos, share_figure_is, moment_near, rate_sum_near, mean_under, moment_sum_near}
use Rattle.accuracy.proofs.PathUpper.{short_count}

-- a class 2 or 3 step has at least one grain
abbrev pub Grained : Class → ℕ → Type 0
Grained class1 n = Unit {0}
Grained class2 n = 1 ≤ n
Grained class3 n = 1 ≤ n

abbrev pub GrainedSteps : Net → (Transition → ℕ) → Path → Type 0
GrainedSteps net g p = Each (λ x. Grained (class net x) (g x)) p

-- ---- small laws

short_one : Short 0 (of_whole 1) (ofℕ 1) (ofℕ 1)
short_one = short_exact (natural_of_whole 1 (lit≤ tt))

down_is_short : {x : Fraction} {t : Ratio} → x is t → Short 1 (down 9 x) t t
down_is_short p = rw p.equal (short-≈ p.same p.same (down_short p.held))

up_is_near : {x : Fraction} {t : Ratio} → x is t → Near 1 (up 9 x) t
up_is_near p = rw p.equal (near-≈ p.same (up_near p.held))

module _ {m : Model} (valid : Valid m) where
  abbrev net : Net
  net = m.net

  time_pos : 0 < (timeᴺ net).num
  time_pos = quantity_pos valid.time

  time_under : Under 0 (mission_time net) (timeᴺ net)
  time_under = quantity_under valid.time

  -- ---- what is taken off

  -- E × m errs by 16 + 1 roundings, the quotient by M's two, its divisor's three and one; their sum by one more than the larger
  class2_loss_near : (s : ℕ) (mean deviation : Quantity) (n : ℕ) → 1 ≤ n → InRange 1 20 mean → InRange 0 20 deviation
      → Near 18 (class2_loss net s mean deviation n) (class2_lossᴺ net s mean deviation n)
  unfolding class2_loss class2_lossᴺ
  class2_loss_near s mean deviation n h v w =
      near-≤ 18 (omega arith) (near_plus (near_times (rate_sum_near valid s) (quantity_near v))
      (near_ten 12 (near_divided positive (moment_near v w) divisor)))
    where
      positive : 0 < (ofℕ (n ^ 2) ⊗ (timeᴺ net ⊗ timeᴺ net)).num
      positive = ⊗_pos _ _ (ofℕ_pos (one-le-pow 2 n h)) (⊗_pos _ _ time_pos time_pos)

      divisor : Under 3 (times_down (of_whole (n ^ 2)) (time_squared net)) (ofℕ (n ^ 2) ⊗ (timeᴺ net ⊗ timeᴺ net))
      divisor = unfold time_squared in under_times (under_whole (n ^ 2)) (under_times time_under time_under)

  -- E × H / 2 errs by 16 + 19 + 1 + 1, the quotient by H's 19, its divisor's two and one; their sum by one more than the larger
  class3_loss_near : (s n : ℕ) → 1 ≤ n → Near 38 (class3_loss net s n) (class3_lossᴺ net s n)
  unfolding class3_loss class3_lossᴺ
  class3_loss_near s n h =
      near-≤ 38 (omega arith) (near_plus (near_by_whole 1 (lit≤ tt) (near_times (rate_sum_near valid s) (moment_sum_near valid s)))
      (near_ten 6 (near_divided positive (moment_sum_near valid s) divisor)))
    where
      positive : 0 < (ofℕ n ⊗ timeᴺ net).num
      positive = ⊗_pos _ _ (ofℕ_pos h) time_pos

      divisor : Under 2 (times_down (of_whole n) (mission_time net)) (ofℕ n ⊗ timeᴺ net)
      divisor = under_times (under_whole n) time_under

  -- ---- the factors; each is at most what the step brings to the upper

  class2_short : (s : ℕ) (x : Manner) (n : ℕ) → 1 ≤ n → ValidManner x → Short 21 (class2_factor net s x n) (class2_valueᴺ net s x n) (shareᴺ x)
  unfolding class2_factor class2_valueᴺ ValidManner
  class2_short s (slow r) n h v = short_none 21 _
  class2_short s (fast mean deviation q) n h v = short-≈ (≈_refl _) (⊗_one_right _)
      (short_times (short_exact (figure_is v.1.1)) (short_minus (omega arith) short_one (class2_loss_near s mean deviation n h v.0 v.1.0)))

  class3_short : (s : ℕ) (x : Manner) (n : ℕ) → 1 ≤ n → ValidManner x
      → Short 59 (class3_factor net s x n) (class3_valueᴺ net s x n) (shareᴺ x ⊗ meanᴺ net s)
  unfolding class3_factor class3_valueᴺ
  class3_short s x n h v = short_times (short_exact (share_figure_is x v))
      (short_minus (omega arith) (short_under (omega arith) (mean_under valid s)) (class3_loss_near s n h))

  -- ---- the steps

  module _ (g : Transition → ℕ) (t̂ : Figure) (t : Ratio) (short-t : Short 1 t̂ t (timeᴺ net)) where
    lower_step_short : (c : Class) (k n : ℕ) (x : Transition) (l : Figure) (y u : Ratio)
        → suc k < 10 ^ 9 → ValidManner x.manner → Grained c (g x) → Short n l y u
        → Short (n + 60) (lower_step net t̂ c (counts_1 c + k) (g x) x l)
        (stepᴺ t (lower_valueᴺ net g) c (counts_1 c + k) x y) (stepᴺ (timeᴺ net) (upper_valueᴺ net) c (counts_1 c + k) x u)
    unfolding lower_step
    lower_step_short class1 k n x l y u b v w p = let e : 1 + k ≡ suc k = omega arith in
        rw e (short-≤ (n + 60) (omega arith) (short_by_whole (suc k) b
        (short_times (short_times p (short_exact (share_figure_is x.manner v))) short-t)))
    lower_step_short class2 k n x l y u b v w p = short-≤ (n + 60) (omega arith) (short_times p (class2_short x.from x.manner (g x) w v))
    lower_step_short class3 k n x l y u b v w p = short-≤ (n + 60) (omega arith) (short_times p (class3_short x.from x.manner (g x) w v))

    steps_short : (p : Path) → ValidSteps p → GrainedSteps net g p → length p ≤ 24
        → Short (length p * 60) (lower_product net g t̂ p) (steppedᴺ net t (lower_valueᴺ net g) p) (upperᴺ net p)
    unfolding lower_product upperᴺ steppedᴺ Each class1_count
    steps_short [] v w l = short_one
    steps_short (x ∷ p) v w l = let e : suc (length p) * 60 ≡ length p * 60 + 60 = omega arith in
        rw e (lower_step_short (class net x) (class1_count net p) (length p * 60) x (lower_product net g t̂ p) _ _
        (short_count (length p) _ (class1_count-≤ net p) (omega arith)) v.0 w.0 (steps_short p v.1 w.1 (omega arith)))

  -- ---- A, and the last factor

  -- A class 1 step adds an E, which errs by 16.
  path_rate_sum_near : (p : Path) → Near (16 + length p) (path_rate_sum net p) (path_rate_sumᴺ net p)
  unfolding path_rate_sum path_rate_sumᴺ
  path_rate_sum_near [] = near-≤ 16 (omega arith) (near_exact (⊗_zero _))
  path_rate_sum_near (x ∷ p) = go (class net x) (path_rate_sum_near p)
    where
      go : (c : Class) → Near (16 + length p) (path_rate_sum net p) (path_rate_sumᴺ net p)
          → Near (16 + suc (length p)) (add_rates c (path_rate_sum net p) (rate_sum net x.from))
          (add_ratesᴺ c (path_rate_sumᴺ net p) (rate_sumᴺ net x.from))
      go class1 h = near-≤ (16 + suc (length p)) (omega arith) (near_add (omega arith) h (rate_sum_near valid x.from))
      go class2 h = near-≤ (16 + suc (length p)) (omega arith) h
      go class3 h = near-≤ (16 + suc (length p)) (omega arith) h

  last_short : (n : ℕ) (p : Path) → n ≤ 1000000 → length p ≤ 24
      → Short 45 (last_factor net n p) (last_valueᴺ net (remaining_timeᴺ net n) p) (ofℕ 1)
  unfolding last_factor last_valueᴺ
  last_short n p h l = short_minus (omega arith) short_one (near-≤ 43 (omega arith) divided)
    where
      divided : Near (1 + (16 + length p) + 1 + 1)
          (divided_up (times_up (up 9 (remaining_time net n)) (path_rate_sum net p)) (of_whole (class1_count net p + 1)))
          (remaining_timeᴺ net n ⊗ path_rate_sumᴺ net p ⊗ inv (ofℕ (class1_count net p + 1)))
      divided = let e : class1_count net p + 1 ≡ suc (class1_count net p) = omega arith in
          rw e (near_by_whole (class1_count net p) (short_count (length p) _ (class1_count-≤ net p) l)
          (near_times (up_is_near (remaining_time_is net n h)) (path_rate_sum_near p)))

  -- ---- the lower

  pub lower_short : (g : Transition → ℕ) (p : Path) → ValidSteps p → GrainedSteps net g p → length p ≤ 24
      → Short 1500 (lower_with net g p) (lowerᴺ net g p) (upperᴺ net p)
  unfolding lower_with lowerᴺ
  lower_short g p v w l = go (leb 1000000 (grain_sum net g p)) (nleb→lt 1000000 (grain_sum net g p))
    where
      n : ℕ
      n = grain_sum net g p

      t : Ratio
      t = remaining_timeᴺ net n

      rounded : Figure
      rounded = times_down (lower_product net g (down 9 (remaining_time net n)) p) (last_factor net n p)

      exact : Ratio
      exact = steppedᴺ net t (lower_valueᴺ net g) p ⊗ last_valueᴺ net t p

      go : (b : Bool) → (T (not b) → n < 1000000)
          → Short 1500 (elim b as (λ _. Figure) [ true ↦ none | false ↦ rounded ]) (elim b as (λ _. Ratio) [ true ↦ ofℕ 0 | false ↦ exact ])
          (upperᴺ net p)
      go true h = short_none 1500 _
      go false h =
          let few : n ≤ 1000000 = omega (arith, h tt) in
          let time = short_cap (remaining_time-≼ net n) (down_is_short (remaining_time_is net n few)) in
          let steps = steps_short g (down 9 (remaining_time net n)) t time p v w l in
          short-≤ 1500 (omega arith) (short-≈ (≈_refl _) (⊗_one_right _) (short_times steps (last_short n p few l)))
