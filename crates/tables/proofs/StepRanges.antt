-- What a step is worked out from, and what stands on the way, is in range. Assumes nothing.
use Prim.Native.Nat.{ℕ, ◌≤◌}
use mathlib.Core.Path.{◌≡◌}
use lib.Dec.{lit≤}
use lib.IntN.{pos}
use Rattle.figure.specs.declared.Direction.TheVariants.{Down}
use Rattle.figure.specs.declared.Figure.{Figure}
use Rattle.figure.specs.declared.Rounded.{Rounded}
use Rattle.figure.specs.Operations.{times_down, times_ten}
use Rattle.figure.specs.Operands.{Sized}
use Rattle.figure.proofs.Sized.{times_up_sized, times_down_sized, plus_up_sized, divided_up_sized}
use Rattle.tree.proofs.Positive.{Above, times_down_above}
use Rattle.tree.proofs.Ranges.{count_sized, goal2_sized, goal3_sized, loss2_sized, loss3_sized}
use Rattle.tables.specs.declared.manner.Spread.{Spread}
use Rattle.tables.specs.Internal.Manners.{SpreadSized}
use Rattle.tables.specs.Internal.Told.{times, moment_of}
use Rattle.tables.specs.Internal.Steps.{class2_loss_of, class2_quotient_of, class3_loss_of, class3_quotient_of}

pub moment_sized : {e : Spread} {moment : Rounded} → SpreadSized 40 e → moment ≡ moment_of e.mean e.deviation → Sized 9 120 moment.figure
unfolding moment_of
moment_sized f e = rw e (plus_up_sized (times_up_sized f.mean f.mean) (times_up_sized f.deviation f.deviation))

-- ---- class 2: T2, g's quotient, g and the loss

module _ (time time2 : Rounded) (is : time2 ≡ times Down time time) where
  pub time2_sized : Sized 9 40 time.figure → Sized 9 100 time2.figure
  time2_sized h = rw is (times_down_sized h h)

  pub time2_above : Above time.figure → Above time2.figure
  time2_above h = rw is (times_down_above time.figure time.figure h h)

module _ (moment time2 : Rounded) (m : Sized 9 120 moment.figure) (t : Sized 9 100 time2.figure) (above : Above time2.figure) where
  module _ {quotient : Rounded} (is : quotient ≡ class2_quotient_of moment time2) where
    pub quotient2_sized : Sized 9 280 quotient.figure
    unfolding class2_quotient_of
    quotient2_sized = rw is (divided_up_sized (times_up_sized (count_sized 2 (lit≤ tt)) m) t above)

    pub grains2_sized : {goal : Figure} → goal ≡ times_ten quotient.figure (pos 18) → Sized 9 300 goal
    unfolding class2_quotient_of
    grains2_sized e = rw (e, is) (goal2_sized m t above)

  pub loss2_in_range : (rate mean : Rounded) {y : Rounded} {n : ℕ} → y ≡ class2_loss_of rate mean moment time2 n → Sized 9 500 rate.figure
      → Sized 9 40 mean.figure → 1 ≤ n → n ≤ 1000000 → Sized 9 600 y.figure
  unfolding class2_loss_of
  loss2_in_range rate mean e r a low high = rw e (loss2_sized r a m t above low high)

-- ---- class 3: g's quotient, g and the loss

module _ (moment mean time : Rounded) (m : Sized 9 500 moment.figure) (h : Sized 9 500 mean.figure) (t : Sized 9 40 time.figure)
    (some : Above mean.figure) (above : Above time.figure) {quotient : Rounded} (is : quotient ≡ class3_quotient_of moment mean time) where
  span_above : Above (times_down mean.figure time.figure)
  span_above = times_down_above mean.figure time.figure some above

  pub quotient3_sized : Sized 9 1080 quotient.figure
  unfolding class3_quotient_of
  quotient3_sized = rw is (divided_up_sized m (times_down_sized h t) span_above)

  pub grains3_sized : {goal : Figure} → goal ≡ times_ten quotient.figure (pos 12) → Sized 9 1100 goal
  unfolding class3_quotient_of
  grains3_sized e = rw (e, is) (goal3_sized m h t span_above)

pub loss3_in_range : (rate moment time : Rounded) {y : Rounded} {n : ℕ} → y ≡ class3_loss_of rate moment time n → Sized 9 500 rate.figure
    → Sized 9 500 moment.figure → Sized 9 40 time.figure → Above time.figure → 1 ≤ n → n ≤ 1000000 → Sized 9 1100 y.figure
unfolding class3_loss_of
loss3_in_range rate moment time e r m t above low high = rw e (loss3_sized r m t above low high)
