-- Powers of ten with a signed exponent, as natural fractions: the product's law, and the order.
use mathlib.Core.Path.{◌≡◌, refl, sym, ◌∙◌, ap}
use mathlib.Core.List.{[], ◌∷◌}
use Prim.Native.Nat.{ℕ, zero, suc, ◌^◌, ◌<◌}
use native.Mathlib.Nat.{zero-lt-suc, one-le-pow, pow-succ'}
use native.Mathlib.Omega.{arith, patom}
use lib.IntN.{ℤ, pos, negsuc, suc_ℤ, pred_ℤ, ◌+ℤ◌, +ℤ_idr, +ℤ-suc_ℤ, +ℤ-pred_ℤ, -ℤ-+ℤ_cancel, sub_ℕ}
use Rattle.fraction.proofs.Integers.{minus_is}
use Rattle.fraction.proofs.Ratio.{Ratio, ◌≼◌, ◌≈◌, ofℕ, ◌⊗◌, ≼_trans, ≈_refl, ≈_sym, ≈_trans, ≈_ge, ⊗_cong, ofℕ-≼, ⊗_one_right, ≼-⊗}
use Rattle.fraction.proofs.Certificate.{◌*'◌, same_value}

-- ten to the power p
unfoldable pub ten_to : ℤ → Ratio
ten_to (pos k) = record { num = 10 ^ k; den = 1; den_pos = zero-lt-suc 0 }
ten_to (negsuc k) = record { num = 1; den = 10 ^ suc k; den_pos = one-le-pow (suc k) 10 (zero-lt-suc 9) }

pub ten_pos : (p : ℤ) → 0 < (ten_to p).num
unfolding ten_to
ten_pos (pos k) = one-le-pow k 10 (zero-lt-suc 9)
ten_pos (negsuc k) = zero-lt-suc 0

pub ten_nat : (k : ℕ) → ten_to (pos k) ≈ ofℕ (10 ^ k)
unfolding ten_to ofℕ
ten_nat k = record { eq = refl }

pub ten_zero : ten_to (pos 0) ≈ ofℕ 1
unfolding ten_to ofℕ
ten_zero = record { eq = refl }

-- ---- one power more, and one less

pub ten_suc : (p : ℤ) → ten_to (suc_ℤ p) ≈ ofℕ 10 ⊗ ten_to p
unfolding ten_to ofℕ ◌⊗◌
ten_suc (pos k) = record { eq = omega (arith, pow-succ' 10 k) }
ten_suc (negsuc zero) = record { eq = refl }
ten_suc (negsuc (suc k)) = record { eq = omega (arith, pow-succ' 10 (suc k)) }

tenth : Ratio
tenth = ten_to (negsuc 0)

ten_pred : (p : ℤ) → ten_to (pred_ℤ p) ≈ tenth ⊗ ten_to p
unfolding ten_to ofℕ ◌⊗◌ tenth
ten_pred (pos zero) = record { eq = refl }
ten_pred (pos (suc k)) = record { eq = omega (arith, pow-succ' 10 k) }
ten_pred (negsuc k) = record { eq = omega (arith, pow-succ' 10 (suc k)) }

-- ---- the power of a sum, by induction on the second exponent

step : {a b z : Ratio} (t x y : Ratio) → a ≈ t ⊗ b → b ≈ x ⊗ y → z ≈ t ⊗ y → a ≈ x ⊗ z
step t x y p q r = ≈_trans p (≈_trans (⊗_cong (≈_refl t) q) (≈_trans swap (⊗_cong (≈_refl x) (≈_sym r))))
  where
    swap : t ⊗ (x ⊗ y) ≈ x ⊗ (t ⊗ y)
    swap = same_value (t ∷ x ∷ y ∷ []) (patom 0 *' (patom 1 *' patom 2)) (patom 1 *' (patom 0 *' patom 2)) tt tt

ten-+0 : (p : ℤ) → ten_to (p +ℤ pos 0) ≈ ten_to p ⊗ ten_to (pos 0)
ten-+0 p = rw +ℤ_idr (≈_trans (≈_sym (⊗_one_right (ten_to p))) (⊗_cong (≈_refl _) (≈_sym ten_zero)))

pub ten-+ : (p q : ℤ) → ten_to (p +ℤ q) ≈ ten_to p ⊗ ten_to q
ten-+ p (pos zero) = ten-+0 p
ten-+ p (pos (suc n)) = rw (+ℤ-suc_ℤ p (pos n)) (step _ _ _ (ten_suc (p +ℤ pos n)) (ten-+ p (pos n)) (ten_suc (pos n)))
ten-+ p (negsuc zero) = rw (+ℤ-pred_ℤ p (pos 0)) (step _ _ _ (ten_pred (p +ℤ pos 0)) (ten-+0 p) (ten_pred (pos 0)))
ten-+ p (negsuc (suc n)) = rw (+ℤ-pred_ℤ p (negsuc n)) (step _ _ _ (ten_pred (p +ℤ negsuc n)) (ten-+ p (negsuc n)) (ten_pred (negsuc n)))

-- ---- hence: the order of powers, and differences of exponents

pub ten-≼ : (p : ℤ) (k : ℕ) → ten_to p ≼ ten_to (p +ℤ pos k)
ten-≼ p k = ≼_trans (≼-⊗ (ten_to p) one-≼) (≈_ge (ten-+ p (pos k)))
  where
    one-≼ : ofℕ 1 ≼ ten_to (pos k)
    one-≼ = ≼_trans (ofℕ-≼ (one-le-pow k 10 (zero-lt-suc 9))) (≈_ge (ten_nat k))

back : (a b : ℕ) → sub_ℕ a b +ℤ pos b ≡ pos a
back a b = ap (λ t. t +ℤ pos b) (sym (minus_is a b)) ∙ -ℤ-+ℤ_cancel (pos a) (pos b)

-- a − b for naturals: 10^(a − b) times 10^b is 10^a
pub ten_sub : (a b : ℕ) → ten_to (sub_ℕ a b) ⊗ ofℕ (10 ^ b) ≈ ofℕ (10 ^ a)
ten_sub a b = ≈_trans (⊗_cong (≈_refl _) (≈_sym (ten_nat b))) (≈_trans (≈_sym (ten-+ (sub_ℕ a b) (pos b))) (rw (back a b) (ten_nat a)))
