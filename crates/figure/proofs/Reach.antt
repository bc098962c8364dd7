-- How far from 1 a number lies: it is 0, or from 10^-l to n · 10^h. Sums, products, quotients and differences of such numbers are such
-- numbers, and a rounding to w + 1 digits does not move them out. Assumes nothing.
use mathlib.Core.Path.{◌≡◌, refl, ◌∙◌, ap}
use mathlib.Core.List.{[], ◌∷◌}
use mathlib.Core.Logic.{⊎_elim}
use Prim.Native.Nat.{ℕ, zero, suc, ◌+◌, ◌*◌, ◌-◌, ◌^◌, ◌≤◌, ◌<◌, suc-le-suc}
use native.Mathlib.Nat.{le_refl, le_of_lt, le_of_eq, lt_of_not-le, not-le_of_lt, zero-lt-suc, mul-pos, mul-le-mul_left, mul-le-mul_right, mul-lt-mul_of_pos_left, pow-succ'}
use native.Mathlib.Omega.{arith, patom, plit}
use lib.Pow.{pow-add}
use lib.IntN.{ℤ, pos, negsuc, neg_ℤ}
use lib.Signed.{mag}
use Rattle.fraction.proofs.Ratio.{Ratio, ◌≼◌, ◌≈◌, ofℕ, ◌⊕◌, ◌⊗◌, ◌⊖◌, ≼_refl, ≼_trans, ≈_refl, ≈_sym, ≈_trans, ≈_le, ≈_ge, ⊕_mono, ⊗_mono}
use Rattle.fraction.proofs.Ratio.{⊗_cong, ⊕_cong, ⊕_zero, ofℕ-≼, ofℕ-⊕, ofℕ-⊗, zero_or_pos, num_zero, pos_ofℕ, pos_left, pos_right, pos-≼, ⊖_cap}
use Rattle.fraction.proofs.Certificate.{◌+'◌, ◌*'◌, prove, hyp}
use Rattle.fraction.proofs.Inverse.{inv, inv_is}
use Rattle.fraction.proofs.PowersOfTen.{ten_to, ten_nat}
use Rattle.fraction.proofs.Signed.{signed}
use Rattle.figure.specs.Rounding.{none, up, down}
use Rattle.figure.proofs.Scale.{pow_pos, pow_mono, exponent-<, exponent-≤, power_inverse}
use Rattle.figure.proofs.Value.{val, below_val, above_val}
use Rattle.figure.proofs.Up.{natural_up, up_zero}
use Rattle.figure.proofs.Down.{natural_down}
use Rattle.figure.proofs.Exact.{Exact, up_below, down_above, short_exact, exact-≈}

pub record Reach (l h n : ℕ) (x : Ratio) : Type 0 where
  pub low : 0 < x.num → ofℕ 1 ≼ ofℕ (10 ^ l) ⊗ x
  pub high : x ≼ ofℕ (n * 10 ^ h)

-- ---- wider ends

pub reach_wide : {l h n l' h' n' : ℕ} {x : Ratio} → l ≤ l' → n * 10 ^ h ≤ n' * 10 ^ h' → Reach l h n x → Reach l' h' n' x
reach_wide p q r = record {
  low = λ z. ≼_trans (r.low z) (⊗_mono (ofℕ-≼ (pow_mono p)) (≼_refl _));
  high = ≼_trans r.high (ofℕ-≼ q);
}

-- n is at most 10^j
pub reach_one : {l h n : ℕ} (j : ℕ) {x : Ratio} → n ≤ 10 ^ j → Reach l h n x → Reach l (h + j) 1 x
reach_one {h = h} j p r = reach_wide (le_refl _) (rw (pow-add 10 h j) (omega (arith, mul-le-mul_right (10 ^ h) p))) r

pub reach-≤ : {l h l' h' : ℕ} {x : Ratio} → l ≤ l' → h ≤ h' → Reach l h 1 x → Reach l' h' 1 x
reach-≤ p q r = reach_wide p (omega (arith, pow_mono q)) r

-- ---- products

pub reach-⊗ : {l h n l' h' n' : ℕ} {x y : Ratio} → Reach l h n x → Reach l' h' n' y → Reach (l + l') (h + h') (n * n') (x ⊗ y)
reach-⊗ {l} {h} {n} {l'} {h'} {n'} {x} {y} p q = record { low = λ z. low (pos_left x y z) (pos_right x y z); high = high }
  where
    low : 0 < x.num → 0 < y.num → ofℕ 1 ≼ ofℕ (10 ^ (l + l')) ⊗ (x ⊗ y)
    low a b = prove (ofℕ (10 ^ l) ∷ ofℕ (10 ^ l') ∷ ofℕ (10 ^ (l + l')) ∷ x ∷ y ∷ [])
        (hyp (plit 1) (plit 1) (patom 0 *' patom 3) ∷ hyp (patom 0 *' patom 3) (plit 1) (patom 1 *' patom 4)
        ∷ hyp (patom 3 *' patom 4) (patom 0 *' patom 1) (patom 2) ∷ [])
        (plit 1) (patom 2 *' (patom 3 *' patom 4)) tt
        (p.low a) (q.low b) (rw (pow-add 10 l l') (≈_ge (ofℕ-⊗ (10 ^ l) (10 ^ l'))))

    high : x ⊗ y ≼ ofℕ (n * n' * 10 ^ (h + h'))
    high = ≼_trans (⊗_mono p.high q.high) (≼_trans (≈_ge (ofℕ-⊗ (n * 10 ^ h) (n' * 10 ^ h'))) (ofℕ-≼ (rw (pow-add 10 h h') (omega arith))))

-- ---- sums

pub reach-⊕ : {l h n n' : ℕ} {x y : Ratio} → Reach l h n x → Reach l h n' y → Reach l h (n + n') (x ⊕ y)
reach-⊕ {l} {h} {n} {n'} {x} {y} p q = record { low = λ z. go x.num refl z; high = high }
  where
    L : Ratio
    L = ofℕ (10 ^ l)

    right : x.num ≡ 0 → 0 < (x ⊕ y).num → 0 < y.num
    right e z = pos-≼ (≈_le (≈_trans (⊕_cong (num_zero x e) (≈_refl y)) (⊕_zero y))) z

    go : (m : ℕ) → x.num ≡ m → 0 < (x ⊕ y).num → ofℕ 1 ≼ L ⊗ (x ⊕ y)
    go zero e z = prove (L ∷ x ∷ y ∷ []) (hyp (plit 1) (plit 1) (patom 0 *' patom 2) ∷ []) (plit 1) (patom 0 *' (patom 1 +' patom 2)) tt
        (q.low (right e z))
    go (suc m) e z = prove (L ∷ x ∷ y ∷ []) (hyp (plit 1) (plit 1) (patom 0 *' patom 1) ∷ []) (plit 1) (patom 0 *' (patom 1 +' patom 2)) tt
        (p.low (rw e (zero-lt-suc m)))

    high : x ⊕ y ≼ ofℕ ((n + n') * 10 ^ h)
    high = ≼_trans (⊕_mono p.high q.high) (≼_trans (≈_ge (ofℕ-⊕ (n * 10 ^ h) (n' * 10 ^ h))) (ofℕ-≼ (omega arith)))

-- ---- quotients

pub reach_inv : {l h : ℕ} {y : Ratio} → 0 < y.num → Reach l h 1 y → Reach h l 1 (inv y)
reach_inv {l} {h} {y} z p = record {
  low = λ _. prove (y ∷ inv y ∷ ofℕ (10 ^ h) ∷ ofℕ (1 * 10 ^ h) ∷ [])
      (hyp (plit 1) (plit 1) (patom 0 *' patom 1) ∷ hyp (patom 1) (patom 0) (patom 3) ∷ hyp (patom 1) (patom 3) (patom 2) ∷ []) (plit 1)
      (patom 2 *' patom 1) tt
      (≈_ge (inv_is y z)) p.high (ofℕ-≼ (omega arith));
  high = prove (y ∷ inv y ∷ ofℕ (10 ^ l) ∷ ofℕ (1 * 10 ^ l) ∷ [])
      (hyp (patom 1) (plit 1) (patom 2 *' patom 0) ∷ hyp (patom 2) (patom 0 *' patom 1) (plit 1) ∷ hyp (plit 1) (patom 2) (patom 3) ∷ []) (patom 1)
      (patom 3) tt
      (p.low z) (≈_le (inv_is y z)) (ofℕ-≼ (omega arith));
}

-- ---- differences: of multiples of 10^-l

pub record Multiple (l : ℕ) (x : Ratio) : Type 0 where
  pub times : ℕ
  pub is : ofℕ (10 ^ l) ⊗ x ≈ ofℕ times

pub reach-⊖ : {l l' h n : ℕ} {x y : Ratio} → Multiple l x → Multiple l y → Reach l' h n x → Reach l h n (x ⊖ y)
reach-⊖ {l} {x = x} {y} p q r = record { low = low; high = ≼_trans (⊖_cap x y) r.high }
  where
    go : (L a b c d s t : ℕ) → 0 < L → L * a ≡ s * b → L * c ≡ t * d → 0 < a * d - c * b → b * d ≤ L * (a * d - c * b)
    go L a b c d s t hL e f z =
        let sum : a * d - c * b + c * b ≡ a * d = omega arith in
        let less : t * (b * d) < s * (b * d) = omega
        (arith, ap (λ u. u * d) e, ap (λ u. u * b) f, mul-le-mul_left L (le_of_eq sum), mul-le-mul_left L z) in
        let one : suc t ≤ s = lt_of_not-le (λ q. not-le_of_lt less (mul-le-mul_right (b * d) q)) in
        omega (arith, ap (λ u. L * u) sum, mul-le-mul_right (b * d) one, ap (λ u. u * d) e, ap (λ u. u * b) f)

    low : 0 < (x ⊖ y).num → ofℕ 1 ≼ ofℕ (10 ^ l) ⊗ (x ⊖ y)
    low z = unfold ofℕ ◌⊗◌ ◌⊖◌ in record {
      le = let k = go (10 ^ l) x.num x.den y.num y.den p.times q.times (pow_pos l)
          (omega (arith, p.is.eq)) (omega (arith, q.is.eq)) z in omega (arith, k);
    }

-- ---- roundings: both ends are numbers that w + 1 digits can hold

end_exact : (w h n : ℕ) → n < 10 ^ suc w → Exact w (ofℕ (n * 10 ^ h))
end_exact w h n p = exact-≈ (≈_trans (⊗_cong (≈_refl _) (ten_nat h)) (≈_sym (ofℕ-⊗ n (10 ^ h)))) (short_exact w n (pos h) p)

-- 10^-l, below x where 10^l times x is at least 1
pub low_end_below : {x : Ratio} (l : ℕ) → ofℕ 1 ≼ ofℕ (10 ^ l) ⊗ x → ofℕ 1 ⊗ ten_to (neg_ℤ (pos l)) ≼ x
low_end_below {x} l p = prove (ofℕ (10 ^ l) ∷ ten_to (neg_ℤ (pos l)) ∷ x ∷ [])
    (hyp (patom 1) (plit 1) (patom 0 *' patom 2) ∷ hyp (patom 2) (patom 0 *' patom 1) (plit 1) ∷ []) (plit 1 *' patom 1) (patom 2) tt p
    (≈_le (power_inverse l))

pub low_end_above : {x : Ratio} (l : ℕ) → ofℕ 1 ⊗ ten_to (neg_ℤ (pos l)) ≼ x → ofℕ 1 ≼ ofℕ (10 ^ l) ⊗ x
low_end_above {x} l p = prove (ofℕ (10 ^ l) ∷ ten_to (neg_ℤ (pos l)) ∷ x ∷ [])
    (hyp (patom 0) (plit 1 *' patom 1) (patom 2) ∷ hyp (plit 1) (plit 1) (patom 0 *' patom 1) ∷ []) (plit 1) (patom 0 *' patom 2) tt p
    (≈_ge (power_inverse l))

pub none_not_pos : ¬ (0 < (val none).num)
unfolding ofℕ ◌⊗◌
none_not_pos z = omega (arith, z)

pub reach_up : (w : ℕ) {l h n : ℕ} {x : Ratio} → n < 10 ^ suc w → Reach l h n x → Reach l h n (val (up (suc w) (signed x)))
reach_up w {l} {h} {n} {x} s r = record {
  low = λ z. ≼_trans (r.low (positive z)) (⊗_mono (≼_refl _) (below_val _ (natural_up w x).not_below));
  high = up_below (end_exact w h n s) r.high;
}
  where
    positive : 0 < (val (up (suc w) (signed x))).num → 0 < x.num
    positive z = ⊎_elim (λ e. absurd (none_not_pos (rw (up_zero (suc w) x e) at z))) (λ p. p) (zero_or_pos x)

pub reach_down : (w : ℕ) {l h n : ℕ} {x : Ratio} → Reach l h n x → Reach l h n (val (down (suc w) (signed x)))
reach_down w {l} {x = x} r = record {
  low = λ z. low_end_above l (down_above (short_exact w 1 (neg_ℤ (pos l)) (omega (arith, pow-succ' 10 w, pow_pos w)))
      (low_end_below l (r.low (pos-≼ below z))));
  high = ≼_trans below r.high;
}
  where
    below : val (down (suc w) (signed x)) ≼ x
    below = above_val _ (natural_down w x).not_above

-- ---- figures: from the power to the reach, and back

ten_high : (p : ℤ) (m : ℕ) → mag p ≤ m → ten_to p ≼ ofℕ (10 ^ m)
unfolding ten_to ofℕ
ten_high (pos k) m h = record { le = omega (arith, pow_mono h) }
ten_high (negsuc k) m h = record { le = omega (arith, mul-pos (pow_pos m) (pow_pos (suc k))) }

ten_low : (p : ℤ) (m : ℕ) → mag p ≤ m → ofℕ 1 ≼ ofℕ (10 ^ suc m) ⊗ ten_to p
unfolding ten_to ofℕ ◌⊗◌
ten_low (pos k) m h = record { le = omega (arith, mul-pos (pow_pos (suc m)) (pow_pos k)) }
ten_low (negsuc k) m h = record { le = omega (arith, pow_mono (suc-le-suc h)) }

pub power_reach : (v m d : ℕ) (p : ℤ) → d < 10 ^ suc v → mag p ≤ m → Reach (suc m) (m + suc v) 1 (ofℕ d ⊗ ten_to p)
power_reach v m d p s h = record {
  low = λ z. prove (ofℕ d ∷ ten_to p ∷ ofℕ (10 ^ suc m) ∷ [])
      (hyp (plit 1) (plit 1) (patom 2 *' patom 1) ∷ hyp (patom 2 *' patom 1) (plit 1) (patom 0) ∷ []) (plit 1) (patom 2 *' (patom 0 *' patom 1)) tt
      (ten_low p m h) (ofℕ-≼ (digits z));
  high = ≼_trans (⊗_mono (ofℕ-≼ (le_of_lt s)) (ten_high p m h))
      (≼_trans (≈_ge (ofℕ-⊗ (10 ^ suc v) (10 ^ m))) (ofℕ-≼ (rw (pow-add 10 m (suc v)) (omega arith))));
}
  where
    digits : 0 < (ofℕ d ⊗ ten_to p).num → 0 < d
    digits z = pos_ofℕ (pos_left (ofℕ d) (ten_to p) z)

pub power_multiple : (m d : ℕ) (p : ℤ) → mag p ≤ m → Multiple (suc m) (ofℕ d ⊗ ten_to p)
unfolding ten_to ofℕ ◌⊗◌
power_multiple m d (pos k) h = record { times = 10 ^ suc m * (d * 10 ^ k); is = record { eq = omega arith } }
power_multiple m d (negsuc k) h = record { times = d * 10 ^ (m - k); is = record { eq = split (10 ^ suc m) (10 ^ suc k) (10 ^ (m - k)) whole } }
  where
    whole : 10 ^ suc m ≡ 10 ^ suc k * 10 ^ (m - k)
    whole = ap (λ t. 10 ^ t) (omega arith) ∙ pow-add 10 (suc k) (m - k)

    split : (a b c : ℕ) → a ≡ b * c → a * (d * 1) * 1 ≡ d * c * (1 * (1 * b))
    split a b c e = rw e (omega arith)

-- a number of w + 1 digits times a power of ten: the power is bounded by the reach
pub reach_mag : (w N d : ℕ) (p : ℤ) {l h : ℕ} → 10 ^ w ≤ d → d < 10 * 10 ^ w → Reach l h 1 (ofℕ d ⊗ ten_to p) → l + w ≤ suc N → h ≤ N + w → mag p ≤ N
unfolding ten_to ofℕ ◌⊗◌
reach_mag w N d (pos k) {l} {h} big small r a b =
    let top : 10 ^ (w + k) ≤ 10 ^ h = rw (pow-add 10 w k) (omega (arith, r.high.le, mul-le-mul_right (10 ^ k) big)) in
    omega (arith, exponent-≤ (w + k) h top)
reach_mag w N d (negsuc k) {l} {h} big small r a b =
    let low : 10 ^ suc k ≤ 10 ^ l * d = omega (arith, (r.low (omega (arith, big, pow_pos w))).le) in
    let top : 10 ^ suc k < 10 ^ (l + suc w) = rw (pow-add 10 l (suc w), pow-succ' 10 w)
    (omega (arith, low, mul-lt-mul_of_pos_left small (pow_pos l))) in
    omega (arith, exponent-< (suc k) (l + suc w) top)
