-- A step's share, grains and factor with their marks, worked out from figures in turn, are those of the definitions. Assumes nothing.
use Prim.Native.Nat.{ℕ, ◌^◌, ◌≤◌}
use mathlib.Core.Path.{◌≡◌, refl, sym, ap, ◌∙◌}
use mathlib.Core.List.{[]}
use lib.IntN.{pos}
use mathlib.Core.Bool.{Bool, true, false, true≢false, false≢true}
use Rattle.figure.specs.declared.Figure.{Figure}
use Rattle.figure.specs.declared.Rounded.{Rounded}
use Rattle.figure.specs.declared.Direction.TheVariants.{Down}
use Rattle.figure.specs.Operations.{times_up, times_down, minus_down, divided_up, times_ten, of_whole}
use Rattle.figure.specs.Losses.{told, times_keeps, plus_keeps, minus_keeps, divided_keeps, whole_keeps}
use Rattle.figure.specs.Rounding.{none}
use Rattle.word.specs.declared.Quantity.{Quantity}
use Rattle.word.specs.Model.{Manner, slow, fast, Transition, Net, is_fast, exits, has_fast}
use Rattle.tree.specs.Paths.{Class, class1, class2, class3, class_of, class}
use Rattle.tree.specs.States.{figure_of, mission_time, time_squared, second_moment, rate_sum, mean_down, moment_sum}
use Rattle.tree.specs.Upper.{share}
use Rattle.tree.specs.Grains.{least, class2_goal, class3_goal, class2_grains, class3_grains, grains_by, grains}
use Rattle.tree.specs.Lower.{class2_loss, class3_loss, class2_factor, class3_factor}
use Rattle.tree.specs.Marks.{time_squared_kept, second_moment_kept, rate_sum_kept, mean_down_kept, moment_sum_kept}
use Rattle.tree.specs.Marks.{class2_goal_kept, class3_goal_kept, grains_kept_by, grains_kept}
use Rattle.tree.specs.Marks.{class2_loss_kept, class3_loss_kept, class2_factor_kept, class3_factor_kept}
use Rattle.tree.proofs.Least.{least_is_least}
use Rattle.tables.specs.declared.manner.Spread.{Spread}
use Rattle.tables.specs.declared.steps.Step.{Step}
use Rattle.tables.specs.Internal.Steps.{class2_loss_of, class3_loss_of, class2_quotient_of, class3_quotient_of, factor_of}
use Rattle.tables.specs.Internal.Steps.{class2_step_of, class3_step_of, step_of}
use Rattle.tables.specs.Internal.Told.{exact, times, moment_of}
use Rattle.tables.specs.Internal.Tables.{step_factor, step_factor_kept}
use Rattle.tables.proofs.MarkOrders.{class2_quotient_order, class3_quotient_order, class2_marks, class3_marks}
use Rattle.tables.proofs.Firsts.{FastRead, SlowRead}

pub grains_positive : (e : ℕ) (g : Figure) {n : ℕ} → n ≡ least e g → 1 ≤ n
grains_positive e g h = rw h (least_is_least e g).positive

pub class2_is : (rate time : Rounded) (e : Spread) {moment time2 quotient y all factor : Rounded} {goal : Figure} {n : ℕ}
    → moment ≡ moment_of e.mean e.deviation → time2 ≡ times Down time time → quotient ≡ class2_quotient_of moment time2
    → goal ≡ times_ten quotient.figure (pos 18) → n ≡ least 3 goal → y ≡ class2_loss_of rate e.mean moment time2 n → all ≡ exact (of_whole 1)
    → factor ≡ factor_of e.probability all y
    → ◌≡◌ {A = Step} (record { share = e.probability; grains = n; grains_kept = quotient.kept; factor = factor }) (class2_step_of rate time e)
unfolding class2_step_of
class2_is rate time e em et eq eg en ey ew ef = rw (ef, ew, ey, en, eg, eq, em, et)

pub class3_is : (rate mean moment time share : Rounded) {quotient y factor : Rounded} {goal : Figure} {n : ℕ}
    → quotient ≡ class3_quotient_of moment mean time → goal ≡ times_ten quotient.figure (pos 12) → n ≡ least 2 goal
    → y ≡ class3_loss_of rate moment time n → factor ≡ factor_of share mean y
    → ◌≡◌ {A = Step} (record { share = share; grains = n; grains_kept = quotient.kept; factor = factor }) (class3_step_of rate mean moment time share)
unfolding class3_step_of
class3_is rate mean moment time share eq eg en ey ef = rw (ef, ey, en, eg, eq)

-- ---- of a net's own sums, by class

class_fast : (net : Net) (t : Transition) → is_fast t.manner ≡ true → class net t ≡ class2
unfolding class
class_fast net t = go (has_fast (exits net t.from)) t.manner
  where
    go : (b : Bool) (x : Manner) → is_fast x ≡ true → class_of b x ≡ class2
    go b (slow r) h = absurd (false≢true h)
    go true (fast m d q) h = refl
    go false (fast m d q) h = refl

class_slow : (net : Net) (t : Transition) → is_fast t.manner ≡ false → class net t ≡ class_of (has_fast (exits net t.from)) (slow net.time)
unfolding class
class_slow net t = go (has_fast (exits net t.from)) t.manner
  where
    go : (b : Bool) (x : Manner) → is_fast x ≡ false → class_of b x ≡ class_of b (slow net.time)
    go b (fast m d q) h = absurd (true≢false h)
    go true (slow r) h = refl
    go false (slow r) h = refl

-- E, h' and H of a net's state, with their marks

abbrev pub rate_told : Net → ℕ → Rounded
rate_told net s = told (rate_sum net s) (rate_sum_kept net s)

abbrev pub mean_told : Net → ℕ → Rounded
mean_told net s = told (mean_down net s) (mean_down_kept net s)

abbrev pub moment_told : Net → ℕ → Rounded
moment_told net s = told (moment_sum net s) (moment_sum_kept net s)

-- steps that differ only in how their marks are counted
same_marks : {s : Rounded} {n : ℕ} {a b : Bool} {f : Figure} {k l : Bool} → a ≡ b → k ≡ l
    → ◌≡◌ {A = Step} (record { share = s; grains = n; grains_kept = a; factor = told f k })
    (record { share = s; grains = n; grains_kept = b; factor = told f l })
same_marks ea ek = rw (ea, ek)

module _ (net : Net) (t : Transition) where
  step_with : ℕ → Bool → Rounded → Step
  step_with n k f = record { share = exact (share t.manner); grains = n; grains_kept = k; factor = f }

  -- the factor and its mark by the class, with n grains
  factor_by : Class → ℕ → Rounded
  factor_by class1 n = told none true
  factor_by class2 n = told (class2_factor net t.from t.manner n) (class2_factor_kept net t.from t.manner n)
  factor_by class3 n = told (class3_factor net t.from t.manner n) (class3_factor_kept net t.from t.manner n)

  factor_told : (c : Class) → told (step_factor net c t) (step_factor_kept net c t) ≡ factor_by c (grains net [] t)
  unfolding factor_by step_factor step_factor_kept
  factor_told class1 = refl
  factor_told class2 = refl
  factor_told class3 = refl

  of_class : (c : Class) → class net t ≡ c → step_of net t ≡ step_with (grains_by net c t) (grains_kept_by net c t) (factor_by c (grains_by net c t))
  unfolding step_of step_with grains grains_kept
  of_class c e = ap (step_with (grains net [] t) (grains_kept net [] t)) (factor_told (class net t))
      ∙ ap (λ (k : Class). step_with (grains_by net k t) (grains_kept_by net k t) (factor_by k (grains_by net k t))) e

  pub fast_step : {e : Spread} → FastRead t.manner e → class2_step_of (rate_told net t.from) (exact (mission_time net)) e ≡ step_of net t
  unfolding step_with factor_by grains_by class2_step_of class2_quotient_of class2_loss_of factor_of moment_of
      class2_grains class2_goal class2_factor class2_loss time_squared second_moment
      class2_goal_kept class2_factor_kept class2_loss_kept time_squared_kept second_moment_kept
  fast_step f = rw f.is (go f.mean f.deviation f.probability f.manner) ∙ sym (of_class class2 (class_fast net t (ap is_fast f.manner)))
    where
      go : (m d q : Quantity) → t.manner ≡ fast m d q
          → class2_step_of (rate_told net t.from) (exact (mission_time net))
          (record { mean = exact (figure_of m); deviation = exact (figure_of d); probability = exact (figure_of q) })
          ≡ step_with (grains_by net class2 t) (grains_kept_by net class2 t) (factor_by class2 (grains_by net class2 t))
      go m d q h =
          let n = class2_grains net (fast m d q) in
          let e = rate_sum net t.from in
          let moment = second_moment m d in
          let time2 = time_squared net in
          let square = times_down (of_whole (n ^ 2)) time2 in
          let y = class2_loss net t.from m d n in
          rw h (same_marks
          (class2_quotient_order (second_moment_kept m d) (times_keeps (of_whole 2) moment) (time_squared_kept net)
          (divided_keeps (times_up (of_whole 2) moment) time2))
          (class2_marks (rate_sum_kept net t.from) (times_keeps e (figure_of m)) (second_moment_kept m d) (whole_keeps (n ^ 2))
          (time_squared_kept net) (times_keeps (of_whole (n ^ 2)) time2) (divided_keeps moment square)
          (plus_keeps (times_up e (figure_of m)) (times_ten (divided_up moment square) (pos 12))) (minus_keeps (of_whole 1) y)
          (times_keeps (figure_of q) (minus_down (of_whole 1) y))))

  slow_of : is_fast t.manner ≡ false → (b : Bool) → has_fast (exits net t.from) ≡ b → class net t ≡ class_of b (slow net.time)
  slow_of h b k = class_slow net t h ∙ ap (λ (b : Bool). class_of b (slow net.time)) k

  share_told : {r : Rounded} → SlowRead t.manner r → r ≡ exact (share t.manner)
  share_told f = f.is ∙ ap (λ (x : Manner). exact (share x)) (sym f.manner)

  pub slow_step : has_fast (exits net t.from) ≡ true → {r : Rounded} → SlowRead t.manner r
      → class3_step_of (rate_told net t.from) (mean_told net t.from) (moment_told net t.from) (exact (mission_time net)) r ≡ step_of net t
  unfolding step_with factor_by grains_by class3_step_of class3_quotient_of class3_loss_of factor_of
      class3_grains class3_goal class3_factor class3_loss class3_goal_kept class3_factor_kept class3_loss_kept
  slow_step k f =
      let n = class3_grains net t.from in
      let e = rate_sum net t.from in
      let mean = mean_down net t.from in
      let moment = moment_sum net t.from in
      let time = mission_time net in
      let product = times_up e moment in
      let span = times_down (of_whole n) time in
      let y = class3_loss net t.from n in
      rw (share_told f) (same_marks
      (class3_quotient_order (moment_sum_kept net t.from) (mean_down_kept net t.from) (times_keeps mean time)
      (divided_keeps moment (times_down mean time)))
      (class3_marks (rate_sum_kept net t.from) (moment_sum_kept net t.from) (times_keeps e moment) (divided_keeps product (of_whole 2))
      (times_keeps (of_whole n) time) (divided_keeps moment span)
      (plus_keeps (divided_up product (of_whole 2)) (times_ten (divided_up moment span) (pos 6))) (mean_down_kept net t.from)
      (minus_keeps mean y) (times_keeps (share t.manner) (minus_down mean y)))
      ∙ sym (of_class class3 (slow_of (ap is_fast f.manner) true k)))

  pub lone_step : has_fast (exits net t.from) ≡ false → {r f : Rounded} → SlowRead t.manner r → f ≡ exact none
      → ◌≡◌ {A = Step} (record { share = r; grains = 0; grains_kept = true; factor = f }) (step_of net t)
  unfolding step_with factor_by grains_by
  lone_step k f e = rw (e, share_told f, of_class class1 (slow_of (ap is_fast f.manner) false k))
