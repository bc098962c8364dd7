-- The power of a result, bounded by the powers of the operands: at most 20 beyond their sum for a product or a quotient, beyond the larger for
-- a sum or a difference. So a caller that chains operations knows that every figure on the way is an operand. Assumes nothing.
use mathlib.Core.Path.{◌≡◌, refl}
use Prim.Native.Nat.{ℕ, zero, suc, ◌+◌, ◌^◌, ◌≤◌, ◌<◌, max}
use native.Mathlib.Nat.{le_trans, le_of_lt, lt_irrefl, pow-succ'}
use native.Mathlib.Omega.{arith}
use lib.Dec.{leb→le, lit≤}
use lib.IntN.{ℤ, pos, negsuc, ◌+ℤ◌}
use lib.Signed.{mag, ◌≤ℤ◌}
use Rattle.fraction.proofs.Ratio.{Ratio, ◌≈◌, ofℕ, ◌⊕◌, ◌⊗◌, ◌⊖◌, ≼_refl, ≼_trans, ≈_le, ≈_ge, ⊗_mono, ⊗_one, ⊗_pos, ofℕ-≼, ofℕ_pos, pos_ofℕ, pos-≼}
use Rattle.fraction.proofs.Inverse.{inv, ◌over◌, over_is}
use Rattle.fraction.proofs.Signed.{signed, signed_whole, signed_ratio}
use Rattle.figure.specs.declared.Figure.{Figure}
use Rattle.figure.specs.Rounding.{figure, none, IsFigure, is_zero, is_whole, up, down}
use Rattle.figure.specs.Operations.{times_up, times_down, plus_up, plus_down, minus_up, minus_down, divided_up, divided_down, times_ten}
use Rattle.figure.specs.Operations.{of_whole, of_quantity, total_up, total_down, to_nine_up, to_nine_down, sum_to_nine_up}
use Rattle.figure.specs.Operands.{Sized, Operand}
use Rattle.figure.proofs.Scale.{pow_pos, multiple_pos}
use Rattle.figure.proofs.Value.{val, value_is, Shape, empty, full, shape}
use Rattle.figure.proofs.Rounding.{up_figure, down_figure}
use Rattle.figure.proofs.Stored.{mag_sum}
use Rattle.figure.proofs.Figures.{digits_high}
use Rattle.figure.proofs.Operations.{value_times, value_plus, value_divided, up_minus, down_minus}
use Rattle.figure.proofs.Reach.{Reach, Multiple, reach_one, reach-≤, reach-⊗, reach-⊕, reach_inv, reach-⊖, reach_up, reach_down, power_reach, power_multiple, reach_mag}

-- ---- the range that operations ask for

pub sized-≤ : {K m n : ℕ} {f : Figure} → m ≤ n → Sized K m f → Sized K n f
sized-≤ h s = record { is_figure = s.is_figure; near = le_trans s.near h }

pub operand : {K : ℕ} {f : Figure} → Sized K 2000 f → Operand K f
operand s = sized-≤ (lit≤ tt) s

-- every figure with a power from -2,000 to 2,000, and so an operand
pub sized_2000 : (K : ℕ) (f : Figure) → IsFigure K f → negsuc 1999 ≤ℤ f.power → f.power ≤ℤ pos 2000 → Sized K 2000 f
sized_2000 K f i a b = record { is_figure = i; near = go f.power a b }
  where
    go : (p : ℤ) → negsuc 1999 ≤ℤ p → p ≤ℤ pos 2000 → mag p ≤ 2000
    go (pos n) a b = leb→le _ _ b.le
    go (negsuc n) a b = omega (arith, leb→le n 1999 a.le)

-- ---- from a power to a reach, and back

pub sized_reach : {w m : ℕ} {f : Figure} → Sized (suc w) m f → Reach (suc m) (m + suc w) 1 (val f)
sized_reach {w} {m} {f} s = power_reach w m f.digits f.power (digits_high s.is_figure) s.near

pub sized_multiple : {K m : ℕ} (n : ℕ) {f : Figure} → m ≤ n → Sized K m f → Multiple (suc n) (val f)
sized_multiple n {f} h s = power_multiple n f.digits f.power (le_trans s.near h)

pub reach_sized : (w : ℕ) {N l h : ℕ} (f : Figure) → IsFigure (suc w) f → Reach l h 1 (val f) → l + w ≤ suc N → h ≤ N + w → Sized (suc w) N f
reach_sized w {N} f i r a b = record { is_figure = i; near = go (shape i) }
  where
    go : Shape w f → mag f.power ≤ N
    go (empty z e) = rw e (omega arith)
    go (full big small) = reach_mag w N f.digits f.power big small r a b

-- the law for rounding up, and the one for rounding down
pub up_sized : (w N : ℕ) {l h : ℕ} {x : Ratio} → Reach l h 1 x → l + w ≤ suc N → h ≤ N + w → Sized (suc w) N (up (suc w) (signed x))
up_sized w N {x = x} r = reach_sized w (up (suc w) (signed x)) (up_figure w (signed x)) (reach_up w (omega (arith, pow-succ' 10 w, pow_pos w)) r)

pub down_sized : (w N : ℕ) {l h : ℕ} {x : Ratio} → Reach l h 1 x → l + w ≤ suc N → h ≤ N + w → Sized (suc w) N (down (suc w) (signed x))
down_sized w N {x = x} r = reach_sized w (down (suc w) (signed x)) (down_figure w (signed x)) (reach_down w r)

-- ---- the exact results of two operands

module _ {v w m n : ℕ} {a b : Figure} (p : Sized (suc v) m a) (q : Sized (suc w) n b) where
  product_reach : Reach (suc m + suc n) (m + suc v + (n + suc w)) 1 (val a ⊗ val b)
  product_reach = reach-⊗ (sized_reach p) (sized_reach q)

  quotient_reach : 0 < b.digits → Reach (suc m + (n + suc w)) (m + suc v + suc n) 1 (val a ⊗ inv (val b))
  quotient_reach z = reach-⊗ (sized_reach p) (reach_inv (multiple_pos b.digits b.power z) (sized_reach q))

  sum_reach : Reach (suc (max m n)) (max m n + suc (max v w) + 1) 1 (val a ⊕ val b)
  sum_reach = reach_one 1 (lit≤ tt) (reach-⊕ {n = 1} {n' = 1} (reach-≤ (omega arith) (omega arith) (sized_reach p))
      (reach-≤ (omega arith) (omega arith) (sized_reach q)))

  difference_reach : Reach (suc (max m n)) (m + suc v) 1 (val a ⊖ val b)
  difference_reach = reach-⊖ (sized_multiple (max m n) (omega arith) p) (sized_multiple (max m n) (omega arith) q) (sized_reach p)

-- ---- nine digits

module _ {m n : ℕ} {a b : Figure} (p : Sized 9 m a) (q : Sized 9 n b) where
  pub times_up_sized : Sized 9 (m + n + 20) (times_up a b)
  unfolding times_up
  times_up_sized = rw (value_times a b) (up_sized 8 (m + n + 20) (product_reach p q) (omega arith) (omega arith))

  pub times_down_sized : Sized 9 (m + n + 20) (times_down a b)
  unfolding times_down
  times_down_sized = rw (value_times a b) (down_sized 8 (m + n + 20) (product_reach p q) (omega arith) (omega arith))

  pub plus_up_sized : Sized 9 (max m n + 20) (plus_up a b)
  unfolding plus_up
  plus_up_sized = rw (value_plus a b) (up_sized 8 (max m n + 20) (sum_reach p q) (omega arith) (omega arith))

  pub plus_down_sized : Sized 9 (max m n + 20) (plus_down a b)
  unfolding plus_down
  plus_down_sized = rw (value_plus a b) (down_sized 8 (max m n + 20) (sum_reach p q) (omega arith) (omega arith))

  pub minus_up_sized : Sized 9 (max m n + 20) (minus_up a b)
  unfolding minus_up
  minus_up_sized = rw (up_minus 9 a b) (up_sized 8 (max m n + 20) (difference_reach p q) (omega arith) (omega arith))

  pub minus_down_sized : Sized 9 (max m n + 20) (minus_down a b)
  unfolding minus_down
  minus_down_sized = rw (down_minus 9 a b) (down_sized 8 (max m n + 20) (difference_reach p q) (omega arith) (omega arith))

  pub divided_up_sized : 0 < b.digits → Sized 9 (m + n + 20) (divided_up a b)
  unfolding divided_up
  divided_up_sized z = rw (value_divided a b) (up_sized 8 (m + n + 20) (quotient_reach p q z) (omega arith) (omega arith))

  pub divided_down_sized : 0 < b.digits → Sized 9 (m + n + 20) (divided_down a b)
  unfolding divided_down
  divided_down_sized z = rw (value_divided a b) (down_sized 8 (m + n + 20) (quotient_reach p q z) (omega arith) (omega arith))

-- ---- totals, and back to nine digits

module _ {m n : ℕ} {t a : Figure} (p : Sized 18 m t) (q : Sized 9 n a) where
  pub total_up_sized : Sized 18 (max m n + 20) (total_up t a)
  unfolding total_up
  total_up_sized = rw (value_plus t a) (up_sized 17 (max m n + 20) (sum_reach p q) (omega arith) (omega arith))

  pub total_down_sized : Sized 18 (max m n + 20) (total_down t a)
  unfolding total_down
  total_down_sized = rw (value_plus t a) (down_sized 17 (max m n + 20) (sum_reach p q) (omega arith) (omega arith))

module _ {m : ℕ} {t : Figure} (p : Sized 18 m t) where
  pub to_nine_up_sized : Sized 9 (m + 20) (to_nine_up t)
  unfolding to_nine_up
  to_nine_up_sized = rw (value_is t) (up_sized 8 (m + 20) (sized_reach p) (omega arith) (omega arith))

  pub to_nine_down_sized : Sized 9 (m + 20) (to_nine_down t)
  unfolding to_nine_down
  to_nine_down_sized = rw (value_is t) (down_sized 8 (m + 20) (sized_reach p) (omega arith) (omega arith))

module _ {m n : ℕ} {t s : Figure} (p : Sized 18 m t) (q : Sized 18 n s) where
  pub sum_to_nine_up_sized : Sized 9 (max m n + 20) (sum_to_nine_up t s)
  unfolding sum_to_nine_up
  sum_to_nine_up_sized = rw (value_plus t s) (up_sized 8 (max m n + 20) (sum_reach p q) (omega arith) (omega arith))

-- ---- exact operations

pub times_ten_sized : {K n : ℕ} {a : Figure} (p : ℤ) → Sized K n a → Sized K (n + mag p + 1) (times_ten a p)
unfolding times_ten
times_ten_sized {K} {n} {a} p s = go a.digits refl s.is_figure
  where
    go : (d : ℕ) → a.digits ≡ d → IsFigure K a
        → Sized K (n + mag p + 1) (elim d as (λ _. Figure) [ zero ↦ none | suc d ↦ figure (suc d) (a.power +ℤ p) ])
    go zero e i = record { is_figure = is_zero refl refl; near = omega arith }
    go (suc d) e (is_zero z _) = absurd (lt_irrefl 0 (omega arith))
    go (suc d) e (is_whole b t) = record { is_figure = is_whole (rw e at b) (rw e at t); near = omega (arith, mag_sum a.power p, s.near) }

pub of_whole_sized : (n : ℕ) → n < 10 ^ 18 → Sized 9 20 (of_whole n)
unfolding of_whole
of_whole_sized n h = rw (← signed_whole n) (down_sized 8 20 {l = 0} {h = 18} reach (lit≤ tt) (lit≤ tt))
  where
    reach : Reach 0 18 1 (ofℕ n)
    reach = record { low = λ z. ≼_trans (ofℕ-≼ (pos_ofℕ z)) (≈_ge (⊗_one (ofℕ n))); high = ofℕ-≼ (le_of_lt h) }

pub of_quantity_sized : (c p : ℕ) → c < 10 ^ 9 → Sized 9 (p + 20) (of_quantity c p)
unfolding of_quantity
of_quantity_sized c p h = rw (← signed_ratio c (10 ^ p)) (up_sized 8 (p + 20) {l = p} {h = 9} reach (omega arith) (omega arith))
  where
    x : Ratio
    x = c over (10 ^ p)

    times : ofℕ (10 ^ p) ⊗ x ≈ ofℕ c
    times = over_is c (10 ^ p) (pow_pos p)

    reach : Reach p 9 1 x
    reach = record {
      low = λ z. ≼_trans (ofℕ-≼ (pos_ofℕ (pos-≼ (≈_le times) (⊗_pos _ _ (ofℕ_pos (pow_pos p)) z)))) (≈_ge times);
      high = ≼_trans (≈_ge (⊗_one x)) (≼_trans (⊗_mono (ofℕ-≼ (pow_pos p)) (≼_refl x)) (≼_trans (≈_le times) (ofℕ-≼ (le_of_lt h))));
    }
