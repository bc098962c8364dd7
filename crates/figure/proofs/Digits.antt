-- The number of decimal digits, and the power of ten at which a rounding to w + 1 digits begins. Assumes nothing.
use mathlib.Core.Path.{◌≡◌}
use mathlib.Core.Bool.{Bool, true, false, not}
use Prim.Native.Nat.{ℕ, zero, suc, ◌+◌, ◌*◌, ◌^◌, ◌≤◌, ◌<◌}
use native.Mathlib.Nat.{pow-succ', mul-pos, zero-lt-suc, mul-le-mul_left, mul-le-mul_right, mul-le-mul, le_of_lt, le_of_mul-le-mul_left}
use native.Mathlib.Omega.{arith}
use lib.Dec.{T, ltb, ltb→lt, nltb→le}
use lib.Pow.{pow-add}
use lib.IntN.{ℤ, suc_ℤ, pred_ℤ, suc-pred}
use Rattle.fraction.proofs.Ratio.{Ratio, ◌≼◌, ◌≈◌, ofℕ, ◌⊗◌, ≈_refl, ≈_sym, ≈_trans, ⊗_cong, ⊗_comm, ⊗_assoc, ofℕ-⊗}
use Rattle.fraction.proofs.PowersOfTen.{ten_to, ten_suc, ten_sub}
use Rattle.fraction.proofs.Multiples.{at_scale, from_scale, at_scale_ge, from_scale_ge}
use Rattle.fraction.proofs.Signed.{signed}
use Rattle.figure.specs.Rounding.{digits_from, digit_count, lowest_power}
use Rattle.figure.proofs.Scale.{pow_pos, ten_step}

-- ---- n has the number of digits j where 10^(j - 1) ≤ n < 10^j

below_power : (n : ℕ) → n < 10 ^ n
below_power zero = zero-lt-suc 0
below_power (suc n) = omega (arith, below_power n, pow-succ' 10 n)

from_above : (k j n : ℕ) → n < 10 ^ (j + k) → n < 10 ^ digits_from k j n
unfolding digits_from
from_above zero j n h = let e : j + 0 ≡ j = omega arith in rw e at h
from_above (suc k) j n h = go (ltb n (10 ^ j)) (ltb→lt n (10 ^ j)) (from_above k (suc j) n (let e : j + suc k ≡ suc j + k = omega arith in rw e at h))
  where
    go : (b : Bool) → (T b → n < 10 ^ j) → n < 10 ^ digits_from k (suc j) n
        → n < 10 ^ (elim b as (λ _. ℕ) [ true ↦ j | false ↦ digits_from k (suc j) n ])
    go true p q = p tt
    go false p q = q

from_below : (k j n : ℕ) → 10 ^ j ≤ 10 * n → 10 ^ digits_from k j n ≤ 10 * n
unfolding digits_from
from_below zero j n h = h
from_below (suc k) j n h = go (ltb n (10 ^ j)) (nltb→le n (10 ^ j)) (λ p. from_below k (suc j) n (omega (arith, p, pow-succ' 10 j)))
  where
    go : (b : Bool) → (T (not b) → 10 ^ j ≤ n) → (10 ^ j ≤ n → 10 ^ digits_from k (suc j) n ≤ 10 * n)
        → 10 ^ (elim b as (λ _. ℕ) [ true ↦ j | false ↦ digits_from k (suc j) n ]) ≤ 10 * n
    go true p q = h
    go false p q = q (p tt)

pub digits_above : (n : ℕ) → n < 10 ^ digit_count n
unfolding digit_count
digits_above n = from_above n 0 n (let e : 0 + n ≡ n = omega arith in rw e (below_power n))

pub digits_below : (n : ℕ) → 0 < n → 10 ^ digit_count n ≤ 10 * n
unfolding digit_count
digits_below n h = from_below n 0 n (omega arith)

-- ---- the lowest power, e: 10^w ≤ x / 10^e < 10^(w + 2)

scale_pred : (e : ℤ) (u v : ℕ) → ten_to e ⊗ ofℕ u ≈ ofℕ v → ten_to (pred_ℤ e) ⊗ ofℕ (10 * u) ≈ ofℕ v
scale_pred e u v h = ≈_trans (⊗_comm _ _) (≈_trans (≈_sym (ten_step u (pred_ℤ e))) (≈_trans (rw suc-pred (⊗_comm _ _)) h))

scale_suc : (e : ℤ) (u v : ℕ) → ten_to e ⊗ ofℕ u ≈ ofℕ v → ten_to (suc_ℤ e) ⊗ ofℕ u ≈ ofℕ (10 * v)
scale_suc e u v h = ≈_trans (⊗_cong (ten_suc e) (≈_refl _)) (≈_trans (⊗_assoc _ _ _) (≈_trans (⊗_cong (≈_refl _) h) (≈_sym (ofℕ-⊗ 10 v))))

module _ (w : ℕ) (x : Ratio) where
  abbrev pub start : ℤ
  start = lowest_power (suc w) (signed x)

  -- ten to it, times 10^(digits of the denominator + w + 1), is 10^(digits of the numerator)
  start_is : ten_to start ⊗ ofℕ (10 ^ digit_count x.den * (10 * 10 ^ w)) ≈ ofℕ (10 ^ digit_count x.num)
  unfolding lowest_power signed
  start_is = rw (pow-add 10 (digit_count x.den) (suc w), pow-succ' 10 w) at (ten_sub (digit_count x.num) (digit_count x.den + suc w))

  scale_pos : 0 < 10 ^ digit_count x.den * (10 * 10 ^ w)
  scale_pos = mul-pos (pow_pos (digit_count x.den)) (omega (arith, pow_pos w))

  -- x is below 10^w times the power after the next
  pub start_high : x ≼ ofℕ (10 ^ w) ⊗ ten_to (suc_ℤ (suc_ℤ start))
  start_high = from_scale x (ten_to (suc_ℤ (suc_ℤ start))) (10 ^ w) _ _ scale_pos (scale_suc (suc_ℤ start) _ _ (scale_suc start _ _ start_is))
      (go x.num x.den (10 ^ digit_count x.num) (10 ^ digit_count x.den) (10 ^ w) (digits_above x.num)
      (digits_below x.den x.den_pos))
    where
      go : (n d A B W : ℕ) → n < A → B ≤ 10 * d → n * (B * (10 * W)) ≤ W * (10 * (10 * A)) * d
      go n d A B W p q = omega (arith, mul-le-mul_right (10 * W) (mul-le-mul (le_of_lt p) q))

  -- .. and does not reach 10 · 10^w times the next
  pub start_not_high : ¬ (ofℕ (10 * 10 ^ w) ⊗ ten_to (suc_ℤ start) ≼ x)
  start_not_high h = go x.num x.den (10 ^ digit_count x.num) (10 ^ digit_count x.den) (10 ^ w) (pow_pos w) x.den_pos
      (digits_above x.num) (digits_below x.den x.den_pos)
      (at_scale_ge x (ten_to (suc_ℤ start)) (10 * 10 ^ w) _ _ (scale_suc start _ _ start_is) h)
    where
      go : (n d A B W : ℕ) → 0 < W → 0 < d → n < A → B ≤ 10 * d → 10 * W * (10 * A) * d ≤ n * (B * (10 * W)) → ⊥
      go n d A B W hw hd p q h = omega (arith, mul-le-mul_right (10 * W) (mul-le-mul_left n q), mul-le-mul_right (W * d) p, mul-pos hw hd)

  -- where x is positive, it is at least 10^w times the power
  pub start_low : 0 < x.num → ofℕ (10 ^ w) ⊗ ten_to start ≼ x
  start_low pos_x = from_scale_ge x (ten_to start) (10 ^ w) _ _ scale_pos start_is
      (go x.num x.den (10 ^ digit_count x.num) (10 ^ digit_count x.den) (10 ^ w) (digits_below x.num pos_x) (digits_above x.den))
    where
      go : (n d A B W : ℕ) → A ≤ 10 * n → d < B → W * A * d ≤ n * (B * (10 * W))
      go n d A B W p q = omega (arith, mul-le-mul_right W (mul-le-mul p (le_of_lt q)))

  -- .. and more than any smaller number of times the power before
  pub start_not_low : 0 < x.num → (c : ℕ) → c < 10 * 10 ^ w → ¬ (x ≼ ofℕ c ⊗ ten_to (pred_ℤ start))
  start_not_low pos_x c l h = go x.num x.den (10 ^ digit_count x.num) (10 ^ digit_count x.den) (10 ^ w) pos_x
      (digits_below x.num pos_x) (digits_above x.den) l
      (at_scale x (ten_to (pred_ℤ start)) c _ _ (scale_pred start _ _ start_is) h)
    where
      go : (n d A B W : ℕ) → 0 < n → A ≤ 10 * n → d < B → c < 10 * W → n * (10 * (B * (10 * W))) ≤ c * A * d → ⊥
      go n d A B W z p q r h =
          let k : n * (B * (10 * W)) ≤ n * (c * d) = omega (arith, mul-le-mul_right (c * d) p) in
          omega (arith, le_of_mul-le-mul_left k z, mul-le-mul r q)
