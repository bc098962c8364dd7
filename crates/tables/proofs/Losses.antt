-- What class 2 takes off 1 and class 3 off h': every figure on the way is in range, and no divisor is 0. Assumes nothing.
use Prim.Native.Nat.{ℕ, ◌*◌, ◌≤◌, ◌<◌}
use mathlib.Core.Path.{◌≡◌}
use native.Mathlib.Nat.{le_trans, mul-le-mul, mul-pos}
use lib.Dec.{lit≤}
use native.Mathlib.Omega.{arith}
use lib.IntN.{pos}
use Rattle.figure.specs.declared.Figure.{Figure}
use Rattle.figure.specs.declared.Rounded.{Rounded}
use Rattle.figure.specs.Operations.{times_down, divided_up, times_ten, of_whole}
use Rattle.figure.specs.Operands.{Sized, Operand}
use Rattle.figure.proofs.Sized.{sized-≤, times_down_sized, divided_up_sized, times_ten_sized}
use Rattle.tree.proofs.Positive.{times_down_above, of_whole_above}
use Rattle.tree.proofs.Ranges.{count_sized}
use Rattle.tables.specs.Internal.Told.{exact, whole}
use Rattle.tables.proofs.Sections.{same_figure}

-- ---- n², of a number of grains

module _ {n : ℕ} (low : 1 ≤ n) (high : n ≤ 1000000) where
  square_low : 1 ≤ n * n
  square_low = mul-pos low low

  square_high : n * n ≤ 1000000000000
  square_high = mul-le-mul high high

-- ---- M or H over a whole number k times T2 or T: w is k, b the divisor and q the quotient

pub record Over (moment time : Figure) (k : ℕ) (w : Figure) : Type 0 where
  pub moment_sized : Sized 9 2000 moment
  pub time_sized : Sized 9 2000 time
  pub time_above : 0 < time.digits
  pub low : 1 ≤ k
  pub high : k ≤ 1000000000000
  pub is : w ≡ of_whole k

-- k is n², or n

pub over_square : {moment time : Figure} {w : Rounded} {n : ℕ} → Sized 9 2000 moment → Sized 9 2000 time
    → (0 < time.digits) × (1 ≤ n) × (n ≤ 1000000) → w ≡ whole (n * n) → Over moment time (n * n) w.figure
over_square m t d e = record {
  moment_sized = m;
  time_sized = t;
  time_above = d.0;
  low = square_low d.1 d.2;
  high = square_high d.1 d.2;
  is = same_figure e;
}

pub over_grains : {moment time : Figure} {w : Rounded} {n : ℕ} → Sized 9 2000 moment → Sized 9 2000 time
    → (0 < time.digits) × (1 ≤ n) × (n ≤ 1000000) → w ≡ exact (of_whole n) → Over moment time n w.figure
over_grains m t d e = record {
  moment_sized = m;
  time_sized = t;
  time_above = d.0;
  low = d.1;
  high = le_trans d.2 (lit≤ tt);
  is = same_figure e;
}

module _ {moment time w : Figure} {k : ℕ} (o : Over moment time k w) where
  pub whole_sized : Sized 9 20 w
  whole_sized = rw o.is (count_sized k o.high)

  module _ {b : Figure} (product : b ≡ times_down w time) where
    pub divisor_sized : Sized 9 2040 b
    divisor_sized = rw product (times_down_sized whole_sized o.time_sized)

    pub divisor_above : 0 < b.digits
    divisor_above = rw (product, o.is) (times_down_above (of_whole k) time (of_whole_above k o.low) o.time_above)

    pub quotient_sized : {q : Figure} → q ≡ divided_up moment b → Sized 9 4060 q
    quotient_sized quotient = rw quotient (divided_up_sized o.moment_sized divisor_sized divisor_above)

-- shifted by a power of ten
pub shifted_sized : (n : ℕ) {q r : Figure} → n ≤ 20 → Sized 9 4060 q → r ≡ times_ten q (pos n) → Operand 9 r
shifted_sized n few h e = rw e (sized-≤ (omega arith) (times_ten_sized (pos n) h))
