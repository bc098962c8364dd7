-- Every figure that the rules form in a valid model has nine digits and a power near 0: quantities, sums over exits, the goals of grains, losses,
-- factors, t, and the upper and the lower of a path of at most 24 steps. So operations take them all; totals of them too. Assumes nothing.
use mathlib.Core.Path.{◌≡◌, refl}
use mathlib.Core.Bool.{Bool, true, false, not}
use mathlib.Core.List.{List, [], ◌∷◌}
use Prim.Native.Nat.{ℕ, suc, ◌+◌, ◌-◌, ◌*◌, ◌^◌, ◌≤◌, ◌<◌}
use native.Mathlib.Nat.{le_trans, pow-le-pow_left, one-le-pow}
use native.Mathlib.Omega.{arith}
use lib.Dec.{T, leb, nleb→lt, lit≤}
use lib.ListN.{length}
use lib.IntN.{pos, negsuc}
use Rattle.figure.specs.declared.Figure.{Figure}
use Rattle.figure.specs.Rounding.{none, is_zero, up, down}
use Rattle.figure.specs.Operations.{times_up, times_down, plus_up, minus_down, divided_up, times_ten, of_whole, total_up, total_down}
use Rattle.figure.specs.Operands.{Sized, Operand}
use Rattle.figure.proofs.Positive.{Above, times_down_above, of_whole_above}
use Rattle.figure.proofs.Sized.{sized-≤, times_up_sized, times_down_sized, plus_up_sized, plus_down_sized, minus_down_sized}
use Rattle.figure.proofs.Sized.{divided_up_sized, divided_down_sized, times_ten_sized, of_whole_sized, of_quantity_sized}
use Rattle.figure.specs.Internal.Gathered.{Gathered}
use Rattle.figure.proofs.Gathered.{gathered_none, gathered_one, gathered_more, total_up_gathered, total_down_gathered, gathered_sized}
use Rattle.word.specs.declared.Quantity.{Quantity}
use Rattle.word.specs.Model.{Manner, slow, fast, Transition, Net, Model, exits}
use Rattle.word.specs.Internal.Lists.{Each}
use Rattle.model.specs.Internal.Valid.{InRange, ValidManner, Valid}
use Rattle.tree.specs.Paths.{Path, Class, class1, class2, class3, class, counts_1, class1_count}
use Rattle.tree.specs.States.{figure_of, mission_time, time_squared, second_moment, sum_over, add_rate, add_mean_up, add_mean_down, add_moment, rate_sum, mean_up, mean_down, moment_sum}
use Rattle.tree.specs.Upper.{share, upper_step, upper}
use Rattle.tree.specs.Grains.{grains, grain_sum}
use Rattle.tree.specs.Lower.{class2_loss, class3_loss, class2_factor, class3_factor, lower_step, lower_product, add_rates, path_rate_sum, remaining_time, last_factor, lower_with, lower}
use Rattle.tree.proofs.Least.{GrainsOf, grains_of_class}
use Rattle.tree.proofs.Quantities.{coefficient_short}
use Rattle.tree.proofs.Positive.{ValidSteps, exits_valid}
use Rattle.tree.proofs.Divisors.{class1_count_low, time_above, time_squared_above}
use Rattle.tree.proofs.RemainingTime.{remaining_time_down, remaining_time_up}

-- ---- quantities

pub none_sized : (n : ℕ) → Sized 9 n none
none_sized n = record { is_figure = is_zero refl refl; near = omega arith }

-- a quantity whose scale is at most `most`
pub quantity_sized : {least most : ℕ} {q : Quantity} → InRange least most q → Sized 9 (most + 20) (figure_of q)
quantity_sized {q = q} h = sized-≤ (omega (arith, h.scale)) (of_quantity_sized q.coefficient q.scale (coefficient_short h))

pub share_sized : (x : Manner) → ValidManner x → Sized 9 40 (share x)
unfolding ValidManner
share_sized (slow r) w = quantity_sized w
share_sized (fast m d q) w = sized-≤ (lit≤ tt) (quantity_sized w.1.1)

pub second_moment_sized : {m d : Quantity} → InRange 1 20 m → InRange 0 20 d → Sized 9 120 (second_moment m d)
unfolding second_moment
second_moment_sized h k = plus_up_sized (times_up_sized (quantity_sized h) (quantity_sized h)) (times_up_sized (quantity_sized k) (quantity_sized k))

-- a number of class 1 steps, a number of grains, or its square
pub count_sized : (n : ℕ) → n ≤ 1000000000000 → Sized 9 20 (of_whole n)
count_sized n h = of_whole_sized n (le_trans {m = 1000000000001} (omega arith) (lit≤ tt))

-- ---- sums over exits

-- one exit more moves the power by at most 20
abbrev pub Grows : (Figure → Manner → Figure) → Type 0
Grows add = (n : ℕ) (a : Figure) (x : Manner) → 180 ≤ n → ValidManner x → Sized 9 n a → Sized 9 (n + 20) (add a x)

pub add_rate_sized : Grows add_rate
unfolding ValidManner
add_rate_sized n a (slow r) few w h = sized-≤ (omega arith) (plus_up_sized h (quantity_sized w))
add_rate_sized n a (fast m d q) few w h = sized-≤ (omega arith) h

pub add_mean_up_sized : Grows add_mean_up
unfolding ValidManner
add_mean_up_sized n a (slow r) few w h = sized-≤ (omega arith) h
add_mean_up_sized n a (fast m d q) few w h =
    sized-≤ (omega arith) (plus_up_sized h (times_up_sized (quantity_sized w.1.1) (quantity_sized w.0)))

pub add_mean_down_sized : Grows add_mean_down
unfolding ValidManner
add_mean_down_sized n a (slow r) few w h = sized-≤ (omega arith) h
add_mean_down_sized n a (fast m d q) few w h =
    sized-≤ (omega arith) (plus_down_sized h (times_down_sized (quantity_sized w.1.1) (quantity_sized w.0)))

pub add_moment_sized : Grows add_moment
unfolding ValidManner
add_moment_sized n a (slow r) few w h = sized-≤ (omega arith) h
add_moment_sized n a (fast m d q) few w h =
    sized-≤ (omega arith) (plus_up_sized h (times_up_sized (quantity_sized w.1.1) (second_moment_sized w.0 w.1.0)))

module _ {add : Figure → Manner → Figure} (grows : Grows add) where
  sum_from : (n : ℕ) (a : Figure) (ts : List Transition) → 180 ≤ n → ValidSteps ts → Sized 9 n a → Sized 9 (n + 20 * length ts) (sum_over add a ts)
  unfolding sum_over Each
  sum_from n a [] few w h = sized-≤ (omega arith) h
  sum_from n a (t ∷ ts) few w h =
      sized-≤ (omega arith) (sum_from (n + 20) (add a t.manner) ts (omega arith) w.1 (grows n a t.manner few w.0 h))

  -- "16 exits from a state"
  pub sum_sized : (ts : List Transition) → length ts ≤ 16 → ValidSteps ts → Sized 9 500 (sum_over add none ts)
  sum_sized ts few w = sized-≤ (omega arith) (sum_from 180 none ts (lit≤ tt) w (none_sized 180))

module _ {m : Model} (valid : Valid m) (s : ℕ) where
  exits_sized : {add : Figure → Manner → Figure} → Grows add → Sized 9 500 (sum_over add none (exits m.net s))
  exits_sized grows = sum_sized grows (exits m.net s) (valid.few_exits s) (exits_valid valid s)

  pub rate_sum_sized : Sized 9 500 (rate_sum m.net s)
  unfolding rate_sum
  rate_sum_sized = exits_sized add_rate_sized

  pub mean_up_sized : Sized 9 500 (mean_up m.net s)
  unfolding mean_up
  mean_up_sized = exits_sized add_mean_up_sized

  pub mean_down_sized : Sized 9 500 (mean_down m.net s)
  unfolding mean_down
  mean_down_sized = exits_sized add_mean_down_sized

  pub moment_sum_sized : Sized 9 500 (moment_sum m.net s)
  unfolding moment_sum
  moment_sum_sized = exits_sized add_moment_sized

-- ---- T, T2, the prune level

module _ {m : Model} (valid : Valid m) where
  pub mission_time_sized : Sized 9 40 (mission_time m.net)
  mission_time_sized = quantity_sized valid.time

  pub prune_sized : Sized 9 40 (figure_of m.limits.prune)
  prune_sized = quantity_sized valid.prune

  pub time_squared_sized : Sized 9 100 (time_squared m.net)
  unfolding time_squared
  time_squared_sized = times_down_sized mission_time_sized mission_time_sized

  -- ---- one more step of U

  pub upper_step_sized : {n : ℕ} {u : Figure} (c : Class) (k : ℕ) (t : Transition) → (c ≡ class1 → 1 ≤ k) → k ≤ 24 → ValidManner t.manner
      → Sized 9 n u → Sized 9 (n + 580) (upper_step m.net c k t u)
  unfolding upper_step
  upper_step_sized class1 k t low high w h =
      sized-≤ (omega arith) (divided_up_sized (times_up_sized (times_up_sized h (share_sized t.manner w)) mission_time_sized)
      (count_sized k (le_trans high (lit≤ tt))) (of_whole_above k (low refl)))
  upper_step_sized class2 k t low high w h = sized-≤ (omega arith) (times_up_sized h (share_sized t.manner w))
  upper_step_sized class3 k t low high w h =
      sized-≤ (omega arith) (times_up_sized (times_up_sized h (share_sized t.manner w)) (mean_up_sized valid t.from))

-- ---- U

pub class1_count-≤ : (net : Net) (p : Path) → class1_count net p ≤ length p
unfolding class1_count
class1_count-≤ net [] = omega arith
class1_count-≤ net (t ∷ p) = go (class net t) (class1_count-≤ net p)
  where
    go : (c : Class) → class1_count net p ≤ length p → counts_1 c + class1_count net p ≤ suc (length p)
    go class1 h = omega arith
    go class2 h = omega arith
    go class3 h = omega arith

pub upper_sized : {m : Model} (valid : Valid m) (p : Path) → length p ≤ 24 → ValidSteps p → Sized 9 (20 + 580 * length p) (upper m.net p)
unfolding upper Each
upper_sized valid [] short w = of_whole_sized 1 (lit≤ tt)
upper_sized {m} valid (t ∷ p) short w =
    sized-≤ (omega arith) (upper_step_sized valid (class m.net t) (class1_count m.net (t ∷ p)) t (class1_count_low m.net t p)
    (le_trans (class1_count-≤ m.net (t ∷ p)) short) w.0 (upper_sized valid p (omega arith) w.1))

-- whatever its length up to 24
pub any_upper_sized : {m : Model} (valid : Valid m) (p : Path) → length p ≤ 24 → ValidSteps p → Sized 9 14000 (upper m.net p)
any_upper_sized valid p short w = sized-≤ (omega arith) (upper_sized valid p short w)

-- ---- goals, losses and factors, of figures in range

-- g of class 2, of M and T2
pub goal2_sized : {moment time2 : Figure} → Sized 9 120 moment → Sized 9 100 time2 → Above time2
    → Sized 9 300 (times_ten (divided_up (times_up (of_whole 2) moment) time2) (pos 18))
goal2_sized p q z = sized-≤ (lit≤ tt) (times_ten_sized (pos 18) (divided_up_sized (times_up_sized (count_sized 2 (lit≤ tt)) p) q z))

-- g of class 3, of H, h' and T
pub goal3_sized : {moment mean time : Figure} → Sized 9 500 moment → Sized 9 500 mean → Sized 9 40 time → Above (times_down mean time)
    → Sized 9 1100 (times_ten (divided_up moment (times_down mean time)) (pos 12))
goal3_sized p q r z = sized-≤ (lit≤ tt) (times_ten_sized (pos 12) (divided_up_sized p (times_down_sized q r) z))

-- n² of a number of grains
pub square_sized : {n : ℕ} → n ≤ 1000000 → Sized 9 20 (of_whole (n ^ 2))
square_sized {n} high = count_sized (n ^ 2) (le_trans (pow-le-pow_left high 2) (lit≤ tt))

pub grain_count_sized : {n : ℕ} → n ≤ 1000000 → Sized 9 20 (of_whole n)
grain_count_sized {n} high = count_sized n (le_trans high (lit≤ tt))

-- y of class 2, of E, m, M and T2
pub loss2_sized : {rate mean moment time2 : Figure} {n : ℕ} → Sized 9 500 rate → Sized 9 40 mean → Sized 9 120 moment → Sized 9 100 time2
    → Above time2 → 1 ≤ n → n ≤ 1000000
    → Sized 9 600 (plus_up (times_up rate mean) (times_ten (divided_up moment (times_down (of_whole (n ^ 2)) time2)) (pos 12)))
loss2_sized {time2 = time2} {n} p q r t z low high =
    sized-≤ (lit≤ tt) (plus_up_sized (times_up_sized p q) (times_ten_sized (pos 12) (divided_up_sized r (times_down_sized (square_sized high) t)
    (times_down_above (of_whole (n ^ 2)) time2 (of_whole_above (n ^ 2) (one-le-pow 2 n low)) z))))

-- y of class 3, of E, H and T
pub loss3_sized : {rate moment time : Figure} {n : ℕ} → Sized 9 500 rate → Sized 9 500 moment → Sized 9 40 time → Above time → 1 ≤ n → n ≤ 1000000
    → Sized 9 1100 (plus_up (divided_up (times_up rate moment) (of_whole 2)) (times_ten (divided_up moment (times_down (of_whole n) time)) (pos 6)))
loss3_sized {time = time} {n} p q t z low high =
    sized-≤ (lit≤ tt) (plus_up_sized (divided_up_sized (times_up_sized p q) (count_sized 2 (lit≤ tt)) (of_whole_above 2 (lit≤ tt)))
    (times_ten_sized (pos 6) (divided_up_sized q (times_down_sized (grain_count_sized high) t)
    (times_down_above (of_whole n) time (of_whole_above n low) z))))

-- q or the rate, times 1 or h' less y
pub factor_sized : {share cap loss : Figure} → Sized 9 40 share → Sized 9 500 cap → Sized 9 1100 loss
    → Sized 9 1200 (times_down share (minus_down cap loss))
factor_sized p q r = sized-≤ (lit≤ tt) (times_down_sized p (minus_down_sized q r))

-- ---- the same of a valid model

module _ {m : Model} (valid : Valid m) where
  pub class2_loss_sized : (s : ℕ) {x d : Quantity} {n : ℕ} → InRange 1 20 x → InRange 0 20 d → 1 ≤ n → n ≤ 1000000
      → Sized 9 600 (class2_loss m.net s x d n)
  unfolding class2_loss
  class2_loss_sized s h k =
      loss2_sized (rate_sum_sized valid s) (quantity_sized h) (second_moment_sized h k) (time_squared_sized valid) (time_squared_above valid)

  pub class3_loss_sized : (s : ℕ) {n : ℕ} → 1 ≤ n → n ≤ 1000000 → Sized 9 1100 (class3_loss m.net s n)
  unfolding class3_loss
  class3_loss_sized s = loss3_sized (rate_sum_sized valid s) (moment_sum_sized valid s) (mission_time_sized valid) (time_above valid)

  pub class2_factor_sized : (s : ℕ) (x : Manner) {n : ℕ} → ValidManner x → 1 ≤ n → n ≤ 1000000 → Sized 9 1200 (class2_factor m.net s x n)
  unfolding class2_factor ValidManner
  class2_factor_sized s (slow r) w low high = none_sized 1200
  class2_factor_sized s (fast x d q) w low high =
      factor_sized (share_sized (fast x d q) w) (sized-≤ (lit≤ tt) (of_whole_sized 1 (lit≤ tt)))
      (sized-≤ (lit≤ tt) (class2_loss_sized s w.0 w.1.0 low high))

  pub class3_factor_sized : (s : ℕ) (x : Manner) {n : ℕ} → ValidManner x → 1 ≤ n → n ≤ 1000000 → Sized 9 1200 (class3_factor m.net s x n)
  unfolding class3_factor
  class3_factor_sized s x w low high = factor_sized (share_sized x w) (mean_down_sized valid s) (class3_loss_sized s low high)

  -- ---- t, down and up

  left_sized : (n : ℕ) → n ≤ 1000000 → Sized 9 20 (of_whole (1000000 - n))
  left_sized n h = count_sized (1000000 - n) (le_trans {m = 1000000} (omega arith) (lit≤ tt))

  pub time_down_sized : (n : ℕ) → n ≤ 1000000 → Sized 9 100 (down 9 (remaining_time m.net n))
  time_down_sized n h = rw (remaining_time_down valid n h)
      (sized-≤ (lit≤ tt) (times_ten_sized (negsuc 5) (times_down_sized (mission_time_sized valid) (left_sized n h))))

  pub time_up_sized : (n : ℕ) → n ≤ 1000000 → Sized 9 100 (up 9 (remaining_time m.net n))
  time_up_sized n h = rw (remaining_time_up valid n h)
      (sized-≤ (lit≤ tt) (times_ten_sized (negsuc 5) (times_up_sized (mission_time_sized valid) (left_sized n h))))

  -- ---- one more step of a lower

  pub lower_step_sized : {n : ℕ} {t l : Figure} (c : Class) (k g : ℕ) (x : Transition) → (c ≡ class1 → 1 ≤ k) → k ≤ 24 → GrainsOf c g
      → ValidManner x.manner → Sized 9 100 t → Sized 9 n l → Sized 9 (n + 1220) (lower_step m.net t c k g x l)
  unfolding lower_step
  lower_step_sized class1 k g x low high r w p h =
      sized-≤ (omega arith) (divided_down_sized (times_down_sized (times_down_sized h (share_sized x.manner w)) p)
      (count_sized k (le_trans high (lit≤ tt))) (of_whole_above k (low refl)))
  lower_step_sized class2 k g x low high r w p h =
      sized-≤ (omega arith) (times_down_sized h (class2_factor_sized x.from x.manner w r.0 r.1))
  lower_step_sized class3 k g x low high r w p h =
      sized-≤ (omega arith) (times_down_sized h (class3_factor_sized x.from x.manner w r.0 r.1))

  -- of steps whose grains g gives
  abbrev pub Grained : (Transition → ℕ) → Type 0
  Grained g = (x : Transition) → GrainsOf (class m.net x) (g x)

  pub lower_product_sized : (g : Transition → ℕ) {t : Figure} (p : Path) → Grained g → length p ≤ 24 → ValidSteps p → Sized 9 100 t
      → Sized 9 (20 + 1220 * length p) (lower_product m.net g t p)
  unfolding lower_product Each
  lower_product_sized g [] r short w h = of_whole_sized 1 (lit≤ tt)
  lower_product_sized g (x ∷ p) r short w h =
      sized-≤ (omega arith) (lower_step_sized (class m.net x) (class1_count m.net (x ∷ p)) (g x) x (class1_count_low m.net x p)
      (le_trans (class1_count-≤ m.net (x ∷ p)) short) (r x) w.0 h (lower_product_sized g p r (omega arith) w.1 h))

  -- ---- A and the last factor

  pub path_rate_sum_sized : (p : Path) → Sized 9 (500 + 20 * length p) (path_rate_sum m.net p)
  unfolding path_rate_sum
  path_rate_sum_sized [] = none_sized 500
  path_rate_sum_sized (x ∷ p) = go (class m.net x) (path_rate_sum_sized p)
    where
      go : (c : Class) {a : Figure} → Sized 9 (500 + 20 * length p) a
          → Sized 9 (500 + 20 * suc (length p)) (add_rates c a (rate_sum m.net x.from))
      go class1 h = sized-≤ (omega arith) (plus_up_sized h (rate_sum_sized valid x.from))
      go class2 h = sized-≤ (omega arith) h
      go class3 h = sized-≤ (omega arith) h

  pub last_sized : {a : Figure} (n k : ℕ) → n ≤ 1000000 → k ≤ 24 → Sized 9 1000 a
      → Sized 9 1200 (minus_down (of_whole 1) (divided_up (times_up (up 9 (remaining_time m.net n)) a) (of_whole (k + 1))))
  last_sized n k h few p =
      sized-≤ (lit≤ tt) (minus_down_sized (of_whole_sized 1 (lit≤ tt)) (divided_up_sized (times_up_sized (time_up_sized n h) p)
      (count_sized (k + 1) (le_trans {m = 25} (omega arith) (lit≤ tt))) (of_whole_above (k + 1) (omega arith))))

  pub last_factor_sized : (n : ℕ) (p : Path) → n ≤ 1000000 → length p ≤ 24 → Sized 9 1200 (last_factor m.net n p)
  unfolding last_factor
  last_factor_sized n p h short =
      last_sized n (class1_count m.net p) h (le_trans (class1_count-≤ m.net p) short) (sized-≤ (omega arith) (path_rate_sum_sized p))

  -- ---- the lower of a path

  pub lower_with_sized : (g : Transition → ℕ) (p : Path) → Grained g → length p ≤ 24 → ValidSteps p → Sized 9 32000 (lower_with m.net g p)
  unfolding lower_with
  lower_with_sized g p r short w = go (leb 1000000 N) (nleb→lt 1000000 N)
    where
      N : ℕ
      N = grain_sum m.net g p

      product : Figure
      product = lower_product m.net g (down 9 (remaining_time m.net N)) p

      go : (b : Bool) → (T (not b) → N < 1000000)
          → Sized 9 32000 (elim b as (λ _. Figure) [ true ↦ none | false ↦ times_down product (last_factor m.net N p) ])
      go true inside = none_sized 32000
      go false inside =
          let h : N ≤ 1000000 = omega (arith, inside tt) in
          sized-≤ (omega arith) (times_down_sized (lower_product_sized g p r short w (time_down_sized N h)) (last_factor_sized N p h short))

  pub lower_sized : (p : Path) → length p ≤ 24 → ValidSteps p → Sized 9 32000 (lower m.net p)
  unfolding lower
  lower_sized p short w = lower_with_sized (grains m.net p) p (grains_of_class m.net p) short w

-- ---- totals of at most n terms, each an upper or a lower in range

abbrev pub Total : ℕ → Figure → Type 0
Total n t = Gathered 18 40000 40000 n t

pub total_none : Total 0 none
total_none = gathered_none 18 40000 40000

module _ {n : ℕ} {t : Figure} (h : Total n t) where
  pub total_up_more : {a : Figure} → n < 10 ^ 9 → Sized 9 35000 a → Total (n + 1) (total_up t a)
  total_up_more few w = total_up_gathered (le_trans {m = 10 ^ 9 + 2} (omega arith) (lit≤ tt)) h (gathered_one 40000 40000 (lit≤ tt) (lit≤ tt) w)

  pub total_down_more : {a : Figure} → Sized 9 35000 a → Total (n + 1) (total_down t a)
  total_down_more w = total_down_gathered h (gathered_one 40000 40000 (lit≤ tt) (lit≤ tt) w)

  -- a step that adds nothing
  pub total_same : Total (n + 1) t
  total_same = gathered_more (omega arith) h

  pub total_operand : n ≤ 10 ^ 9 → Operand 18 t
  total_operand few = gathered_sized 100000 9 few (lit≤ tt) (lit≤ tt) h
