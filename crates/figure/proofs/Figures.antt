-- What the code's proofs ask of one figure: its digits, its value, its own rounding. Assumes nothing.
use mathlib.Core.Path.{◌≡◌, refl, sym, ◌∙◌, ap, ap₂}
use Prim.Native.Nat.{ℕ, zero, suc, ◌-◌, ◌*◌, ◌^◌, ◌≤◌, ◌<◌}
use native.Mathlib.Nat.{le_trans, lt_irrefl}
use native.Mathlib.Omega.{arith}
use lib.Dec.{T, leb, lit≤}
use lib.IntN.{ℤ, pos, ◌+ℤ◌}
use lib.Signed.{mag}
use Rattle.fraction.proofs.Ratio.{Ratio, ◌≈◌, ofℕ, ◌⊗◌, ≈_trans, ⊗_one_right}
use Rattle.fraction.proofs.PowersOfTen.{ten_to}
use Rattle.fraction.proofs.Signed.{signed, signed-≈}
use Rattle.figure.specs.declared.Figure.{Figure}
use Rattle.figure.specs.declared.Direction.{Direction}
use Rattle.figure.specs.declared.Direction.TheVariants.{Down as downward, Up as upward}
use Rattle.figure.specs.Rounding.{figure, none, value, IsFigure, is_zero, is_whole}
use Rattle.figure.specs.Operands.{Operand, Sized}
use Rattle.figure.specs.Operations.{times_ten}
use Rattle.figure.specs.Internal.Steps.{rounded}
use Rattle.figure.proofs.Scale.{pow_pos}
use Rattle.figure.proofs.Value.{val, Shape, empty, full, shape}
use Rattle.figure.proofs.Rounding.{up_of_figure, down_of_figure, up_respects, down_respects}
use Rattle.figure.proofs.Up as Up
use Rattle.figure.proofs.Down as Down
use Rattle.figure.proofs.Stored.{stored, kept, mag_sum, read_sum}
use Rattle.figure.proofs.PartsRounded.{Over, over_lift}

-- ---- digits and powers

pub digits_high : {K : ℕ} {f : Figure} → IsFigure K f → f.digits < 10 ^ K
digits_high {K} (is_zero z p) = rw z (pow_pos K)
digits_high (is_whole l h) = h

pub digits_low : {w : ℕ} {f : Figure} → IsFigure (suc w) f → (f.digits ≡ 0 → ⊥) → 10 ^ w ≤ f.digits
digits_low {w} {f} i n = go (shape i)
  where
    go : Shape w f → 10 ^ w ≤ f.digits
    go (empty z p) = absurd (n z)
    go (full l h) = l

pub zero_is_none : {K : ℕ} {f : Figure} → 0 < K → IsFigure K f → f.digits ≡ 0 → f ≡ none
zero_is_none h (is_zero z p) e = ap₂ figure z p
zero_is_none {K} h (is_whole l u) e = absurd (lt_irrefl 0 (le_trans (pow_pos (K - 1)) (rw e at l)))

pub zero_num : (f : Figure) → f.digits ≡ 0 → (val f).num ≡ 0
zero_num f z = unfold ◌⊗◌ ofℕ in omega (arith, ap (λ n. n * (ten_to f.power).num) z)

-- a bound on a power that leaves room in 32 bits
pub room : {n m : ℕ} → T (leb m 1000000000) → n ≤ m → n ≤ 1000000000
room t h = le_trans h (lit≤ t)

pub sized_more : {K : ℕ} {f : Figure} → Operand K f → Sized K 200000 f
sized_more o = record { is_figure = o.is_figure; near = le_trans o.near (lit≤ tt) }

-- ---- roundings, over the direction

-- a figure is its own rounding
pub rounded_own : (to : Direction) (w : ℕ) (f : Figure) → IsFigure (suc w) f → rounded to (suc w) (value f) ≡ f
rounded_own upward w f i = up_of_figure w f i
rounded_own downward w f i = down_of_figure w f i

pub rounded_zero : (to : Direction) (K : ℕ) (x : Ratio) → x.num ≡ 0 → rounded to K (signed x) ≡ none
rounded_zero upward K x z = Up.up_zero K x z
rounded_zero downward K x z = Down.down_zero K x z

-- equal fractions have one rounding
pub rounded_same : (to : Direction) (w : ℕ) {x y : Ratio} → x ≈ y → rounded to (suc w) (signed x) ≡ rounded to (suc w) (signed y)
rounded_same upward w h = up_respects w _ _ (signed-≈ h)
rounded_same downward w h = down_respects w _ _ (signed-≈ h)

-- ---- n times 10^e, with the last k digits behind the point
pub over_tens : {x : Ratio} (n k : ℕ) (e : ℤ) → x ≈ ofℕ n ⊗ ten_to e → Over x n (10 ^ k) (e +ℤ pos k)
over_tens {x} n k e h = rw one_times at (over_lift k (record { is = ≈_trans (⊗_one_right x) h }))
  where
    one_times : 1 * 10 ^ k ≡ 10 ^ k
    one_times = omega arith

-- ---- a power of ten changes no digit

module _ {f : Figure} (p : ℤ) (o : Operand 9 f) where
  pub times_ten_zero : f.digits ≡ 0 → f ≡ times_ten f p
  unfolding times_ten
  times_ten_zero z = zero_is_none (lit≤ tt) o.is_figure z ∙ sym (rw (z, times_ten))

  pub times_ten_whole : {s : ℤ} → (f.digits ≡ 0 → ⊥) → mag p ≤ 100000 → s ≡ stored f.power +ℤ stored p → figure f.digits (stored s) ≡ times_ten f p
  unfolding times_ten
  times_ten_whole n h e = ap (figure f.digits) (ap stored (read_sum f.power p (room tt o.near) (room tt h) e) ∙ kept (f.power +ℤ p) near)
      ∙ go f.digits n
    where
      near : mag (f.power +ℤ p) ≤ 2000000002
      near = omega (arith, mag_sum f.power p, o.near)

      go : (d : ℕ) → (d ≡ 0 → ⊥) → figure d (f.power +ℤ p) ≡ elim d as (λ _. Figure) [ zero ↦ none | suc m ↦ figure (suc m) (f.power +ℤ p) ]
      go zero m = absurd (m refl)
      go (suc d) m = refl
