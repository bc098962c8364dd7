-- Powers of natural fractions with a natural exponent.
use mathlib.Core.Path.{refl}
use mathlib.Core.List.{[], ◌∷◌}
use Prim.Native.Nat.{ℕ, zero, suc, ◌^◌}
use native.Mathlib.Nat as Nat
use native.Mathlib.Omega.{patom}
use Rattle.fraction.proofs.Ratio.{Ratio, ◌≈◌, ofℕ, ◌⊗◌, ≈_refl, ≈_sym, ≈_trans, ⊗_cong, ⊗_one, ofℕ-⊗, ⊗_one_right}
use Rattle.fraction.proofs.Certificate.{◌*'◌, same_value}
use Rattle.fraction.proofs.Inverse.{inv, inv-⊗, inv_ofℕ, ◌over◌}

-- k factors x
unfoldable pub pow : Ratio → ℕ → Ratio
pow x zero = ofℕ 1
pow x (suc k) = x ⊗ pow x k

pub pow_cong : {x y : Ratio} (k : ℕ) → x ≈ y → pow x k ≈ pow y k
unfolding pow
pow_cong zero e = ≈_refl _
pow_cong (suc k) e = ⊗_cong e (pow_cong k e)

pub pow-⊗ : (x y : Ratio) (k : ℕ) → pow (x ⊗ y) k ≈ pow x k ⊗ pow y k
unfolding pow
pow-⊗ x y zero = ≈_sym (⊗_one _)
pow-⊗ x y (suc k) = ≈_trans (⊗_cong (≈_refl (x ⊗ y)) (pow-⊗ x y k)) (same_value (x ∷ y ∷ pow x k ∷ pow y k ∷ [])
    (patom 0 *' patom 1 *' (patom 2 *' patom 3)) (patom 0 *' patom 2 *' (patom 1 *' patom 3)) tt tt)

pub pow_ofℕ : (n k : ℕ) → pow (ofℕ n) k ≈ ofℕ (n ^ k)
unfolding pow
pow_ofℕ n zero = simp Nat.pow-zero (≈_refl _)
pow_ofℕ n (suc k) = rw (Nat.pow-succ' n k) (≈_trans (⊗_cong (≈_refl _) (pow_ofℕ n k)) (≈_sym (ofℕ-⊗ n (n ^ k))))

pub pow_two : (x : Ratio) → pow x 2 ≈ x ⊗ x
unfolding pow
pow_two x = ⊗_cong (≈_refl x) (⊗_one_right x)

pub pow_inv : (x : Ratio) (k : ℕ) → pow (inv x) k ≈ inv (pow x k)
unfolding pow
pow_inv x zero = rw (inv_ofℕ 1) (unfold ◌over◌ ofℕ in record { eq = refl })
pow_inv x (suc k) = ≈_trans (⊗_cong (≈_refl _) (pow_inv x k)) (≈_sym (inv-⊗ x (pow x k)))
