-- Multiples of powers of ten: how those of one power and of two powers compare. Assumes nothing.
use mathlib.Core.Path.{◌≡◌, refl, sym, ◌∙◌, ap}
use mathlib.Core.List.{[], ◌∷◌}
use Prim.Native.Nat.{ℕ, zero, suc, ◌*◌, ◌^◌, ◌≤◌, ◌<◌}
use native.Mathlib.Nat.{mul-pos, one-le-pow, zero-lt-suc, pow-le-pow_right, pow-succ', lt_of_not-le, not-le_of_lt, le_of_suc-le-suc}
use native.Mathlib.Omega.{arith, patom}
use lib.IntN.{ℤ, pos, negsuc, suc_ℤ, pred_ℤ, neg_ℤ, ◌+ℤ◌, ◌-ℤ◌, +ℤ_idl, +ℤ-suc_ℤ, suc_ℤ-+ℤ, +ℤ_comm, -ℤ-+ℤ_cancel, suc-pred, pred-suc, neg_ℤ-neg_ℤ, neg_ℤ-+ℤ, +ℤ_invr}
use Rattle.fraction.proofs.Ratio.{Ratio, ◌≼◌, ◌≈◌, ofℕ, ◌⊗◌, ≼_refl, ≼_trans, ≈_refl, ≈_sym, ≈_trans, ≈_le, ≈_ge, ⊗_mono}
use Rattle.fraction.proofs.Ratio.{⊗_cong, ⊗_comm, ⊗_assoc, ⊗_one_right, ofℕ-≼, ofℕ-⊗, ofℕ-≤, ofℕ_pos, ⊗_pos, ⊗_cancel}
use Rattle.fraction.proofs.Certificate.{◌*'◌, same_value}
use Rattle.fraction.proofs.PowersOfTen.{ten_to, ten_pos, ten_suc, ten_zero, ten_nat, ten-+, ten-≼}

pub pow_pos : (w : ℕ) → 0 < 10 ^ w
pow_pos w = one-le-pow w 10 (zero-lt-suc 9)

pub pow_mono : {i j : ℕ} → i ≤ j → 10 ^ i ≤ 10 ^ j
pow_mono h = pow-le-pow_right (zero-lt-suc 9) h

-- powers of ten compare as their exponents do
pub exponent-< : (i j : ℕ) → 10 ^ i < 10 ^ j → i < j
exponent-< i j h = lt_of_not-le (λ l. not-le_of_lt h (pow_mono l))

pub exponent-≤ : (i j : ℕ) → 10 ^ i ≤ 10 ^ j → i ≤ j
exponent-≤ i j h = le_of_suc-le-suc (exponent-< i (suc j) (omega (arith, pow-succ' 10 j, pow_pos j)))

-- ---- nothing, and more than nothing

pub not_zero : (x : Ratio) (e : ℤ) → 0 < x.num → ¬ (x ≼ ofℕ 0 ⊗ ten_to e)
unfolding ◌⊗◌ ofℕ
not_zero x e h p = omega (arith, p.le, mul-pos h (ten_to e).den_pos)

pub multiple_pos : (d : ℕ) (e : ℤ) → 0 < d → 0 < (ofℕ d ⊗ ten_to e).num
multiple_pos d e h = ⊗_pos _ _ (ofℕ_pos h) (ten_pos e)

-- ---- one power

-- a multiple of 10^0 is its number
pub ten_units : (n : ℕ) → ofℕ n ⊗ ten_to (pos 0) ≈ ofℕ n
ten_units n = ≈_trans (⊗_cong (≈_refl _) ten_zero) (⊗_one_right _)

-- a multiple of the next power is ten times as many of this one
pub ten_step : (c : ℕ) (e : ℤ) → ofℕ c ⊗ ten_to (suc_ℤ e) ≈ ofℕ (10 * c) ⊗ ten_to e
ten_step c e = ≈_trans (⊗_cong (≈_refl _) (ten_suc e))
    (≈_trans (same_value (ofℕ 10 ∷ ofℕ c ∷ ten_to e ∷ []) (patom 1 *' (patom 0 *' patom 2)) (patom 0 *' patom 1 *' patom 2) tt tt)
    (⊗_cong (≈_sym (ofℕ-⊗ 10 c)) (≈_refl _)))

-- the same, seen from above
pub ten_step_down : (c : ℕ) (e : ℤ) → ofℕ c ⊗ ten_to e ≈ ofℕ (10 * c) ⊗ ten_to (pred_ℤ e)
ten_step_down c e = rw suc-pred at (ten_step c (pred_ℤ e))

-- two multiples of one power compare as their numbers do
pub multiple-≤ : (c d : ℕ) (e : ℤ) → ofℕ c ⊗ ten_to e ≼ ofℕ d ⊗ ten_to e → c ≤ d
multiple-≤ c d e h = ofℕ-≤ (⊗_cancel (ten_to e) (ten_pos e) (≼_trans (≈_le (⊗_comm _ _)) (≼_trans h (≈_le (⊗_comm _ _)))))

pub multiple-≼ : {c d : ℕ} (e : ℤ) → c ≤ d → ofℕ c ⊗ ten_to e ≼ ofℕ d ⊗ ten_to e
multiple-≼ e h = ⊗_mono (ofℕ-≼ h) (≼_refl _)

-- ---- two powers: equal, or one is above the other
pub data Powers (p q : ℤ) : Type 0 where
  same_power : p ≡ q → Powers p q
  lower : (k : ℕ) → q ≡ p +ℤ pos (suc k) → Powers p q
  higher : (k : ℕ) → p ≡ q +ℤ pos (suc k) → Powers p q

pub powers : (p q : ℤ) → Powers p q
powers p q = go (q -ℤ p) refl
  where
    turn : (a b : ℤ) → b -ℤ a ≡ neg_ℤ (a -ℤ b)
    turn a b = +ℤ_comm b (neg_ℤ a) ∙ ap (λ t. neg_ℤ a +ℤ t) (sym (neg_ℤ-neg_ℤ b)) ∙ sym (neg_ℤ-+ℤ a (neg_ℤ b))

    go : (d : ℤ) → q -ℤ p ≡ d → Powers p q
    go (pos zero) e = same_power (sym (sym (-ℤ-+ℤ_cancel q p) ∙ ap (λ t. t +ℤ p) e ∙ +ℤ_idl p))
    go (pos (suc k)) e = lower k (sym (-ℤ-+ℤ_cancel q p) ∙ ap (λ t. t +ℤ p) e ∙ +ℤ_comm (pos (suc k)) p)
    go (negsuc k) e = higher k (sym (-ℤ-+ℤ_cancel p q) ∙ ap (λ t. t +ℤ q) (turn q p ∙ ap neg_ℤ e) ∙ +ℤ_comm (pos (suc k)) q)

-- a multiple of a lower power is at most as many of the power just below the higher one
pub lower-≼ : (c : ℕ) (p : ℤ) (k : ℕ) → ofℕ c ⊗ ten_to p ≼ ofℕ c ⊗ ten_to (pred_ℤ (p +ℤ pos (suc k)))
lower-≼ c p k = ⊗_mono (≼_refl _) (rw (+ℤ-suc_ℤ p (pos k), pred-suc) (ten-≼ p k))

-- a multiple of a higher power is at least ten times as many of the lower
pub higher-≼ : (b c : ℕ) (p : ℤ) (k : ℕ) → b ≤ c → ofℕ (10 * b) ⊗ ten_to p ≼ ofℕ c ⊗ ten_to (p +ℤ pos (suc k))
higher-≼ b c p k h = ≼_trans (≈_ge (ten_step b p)) (⊗_mono (ofℕ-≼ h) (rw (+ℤ-suc_ℤ p (pos k), ← suc_ℤ-+ℤ p (pos k)) (ten-≼ (suc_ℤ p) k)))

-- a multiple of 10^e is a larger one of a lower power
pub ten_shift : (c k : ℕ) (e : ℤ) → ofℕ (c * 10 ^ k) ⊗ ten_to (e -ℤ pos k) ≈ ofℕ c ⊗ ten_to e
ten_shift c k e = ≈_trans (⊗_cong (ofℕ-⊗ c (10 ^ k)) (≈_refl _)) (≈_trans (⊗_assoc _ _ _) (⊗_cong (≈_refl (ofℕ c)) back))
  where
    back : ofℕ (10 ^ k) ⊗ ten_to (e -ℤ pos k) ≈ ten_to e
    back = ≈_trans (⊗_comm _ _) (≈_trans (⊗_cong (≈_refl _) (≈_sym (ten_nat k)))
        (≈_trans (≈_sym (ten-+ (e -ℤ pos k) (pos k))) (rw -ℤ-+ℤ_cancel (≈_refl _))))

pub power_inverse : (k : ℕ) → ofℕ (10 ^ k) ⊗ ten_to (neg_ℤ (pos k)) ≈ ofℕ 1
power_inverse k = ≈_trans (⊗_cong (≈_sym (ten_nat k)) (≈_refl _)) (≈_trans (≈_sym (ten-+ (pos k) (neg_ℤ (pos k)))) (rw (+ℤ_invr (pos k)) ten_zero))
