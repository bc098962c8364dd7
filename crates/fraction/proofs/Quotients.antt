-- More laws of the fractions of `specs/Fraction`: positive ones, quotients, a positive factor cancels, powers, powers of ten. The quotient is 0
-- where the divisor is not positive; otherwise it is what gives the dividend back.
use mathlib.Core.Path.{◌≡◌, refl, ap, subst}
use mathlib.Core.List.{[], ◌∷◌}
use mathlib.Core.Logic.{◌⊎◌, inl, inr, ⊎_elim}
use Prim.Native.Nat.{ℕ, zero, suc, ◌+◌, ◌^◌, ◌<◌}
use native.Mathlib.Nat.{zero-lt-suc, zero-add}
use native.Mathlib.Omega.{arith, plit}
use lib.Dec.{lt→ltb}
use lib.IntN.{ℤ, pos, negsuc, neg_ℤ, ◌+ℤ◌, +ℤ_invr}
use lib.Signed.{◌<ℤ◌}
use Rattle.fraction.specs.Fraction.{Fraction, ◌≤ᶠ◌, ◌≈ᶠ◌, whole, ratio, inverse, ten, ◌+ᶠ◌, ◌*ᶠ◌, ◌/ᶠ◌, ◌^ᶠ◌}
use Rattle.fraction.proofs.Integers.{natural, is_self, is_pos, is_times, is-≤}
use Rattle.fraction.proofs.Ratio.{Ratio, ofℕ, ◌⊗◌, ⊗_pos, zero-≼}
use Rattle.fraction.proofs.Inverse.{inv, inv_is, over-≈}
use Rattle.fraction.proofs.PowersOfTen.{ten_to, ten_pos, ten-+}
use Rattle.fraction.proofs.Signed.{signed, signed_whole, signed-⊗, signed_inv, signed_ten, signed_ratio, signed_quotient, signed-≼}
use Rattle.fraction.proofs.Signed.{signed-≈, signed_positive, nonnegative, nonnegative_none, signed_positive_natural, nonnegative_positive}
use Rattle.fraction.proofs.SignedCertificate.{var, lit, ◌⊞◌, ◌⊠◌, order, prove_signed, same_signed}
use Rattle.fraction.proofs.Laws.{≤ᶠ_refl, ≤ᶠ_trans, ≤ᶠ_antisym, ≈ᶠ_refl, ≈ᶠ_sym, ≈ᶠ_trans, ≈ᶠ-≤, ≈ᶠ-≥, *ᶠ_comm, *ᶠ_assoc}
use Rattle.fraction.proofs.Laws.{*ᶠ_one, *ᶠ_zero, *ᶠ_cong, *ᶠ_mono, *ᶠ_mono_left, *ᶠ_mono_right, *ᶠ_nonneg, whole-≤}

-- ---- positive fractions

abbrev pub Positive : Fraction → Type 0
Positive x = pos 0 <ℤ x.num

-- every fraction is positive or at or below 0, and not both
pub positive_or : (x : Fraction) → Positive x ⊎ (x ≤ᶠ whole 0)
unfolding whole
positive_or x = go x.num refl
  where
    below : natural x.num ≡ 0 → x ≤ᶠ whole 0
    below e = record { le = is-≤ (is_times (is_self x.num) (is_pos 1)) (is_times (is_pos 0) (is_pos x.den)) (omega arith) }

    go : (z : ℤ) → x.num ≡ z → Positive x ⊎ (x ≤ᶠ whole 0)
    go (pos zero) e = inr (below (ap natural e))
    go (pos (suc n)) e = inl (rw e (record { lt = lt→ltb 0 (suc n) (zero-lt-suc n) }))
    go (negsuc n) e = inr (below (ap natural e))

pub positive_not : (x : Fraction) → Positive x → ¬ (x ≤ᶠ whole 0)
positive_not x h l = let e = nonnegative_none x l in let p = nonnegative_positive x h in omega (arith, e, p)

-- what is at or above a positive fraction is positive
pub positive-≤ : {x y : Fraction} → x ≤ᶠ y → Positive x → Positive y
positive-≤ {x} {y} l h = ⊎_elim (λ p. p) (λ k. absurd (positive_not x h (≤ᶠ_trans l k))) (positive_or y)

-- what holds of the natural fractions with a positive numerator holds of every positive fraction
pub from_positive : (P : Fraction → Type 0) → ((r : Ratio) → 0 < r.num → P (signed r)) → (x : Fraction) → Positive x → P x
from_positive P f x h = subst P (signed_positive_natural x h) (f (nonnegative x) (nonnegative_positive x h))

pub signed_nonneg : (r : Ratio) → whole 0 ≤ᶠ signed r
signed_nonneg r = rw (← signed_whole 0) (signed-≼ (zero-≼ r))

pub positive_nonneg : (x : Fraction) → Positive x → whole 0 ≤ᶠ x
positive_nonneg x h = from_positive (λ t. whole 0 ≤ᶠ t) (λ r k. signed_nonneg r) x h

pub whole_positive : (n : ℕ) → 0 < n → Positive (whole n)
unfolding whole
whole_positive n h = record { lt = lt→ltb 0 n h }

pub +ᶠ_positive : (x y : Fraction) → Positive x → whole 0 ≤ᶠ y → Positive (x +ᶠ y)
+ᶠ_positive x y h k = positive-≤ (prove_signed (x ∷ y ∷ []) (order (plit 1) (lit 0) (var 1) ∷ []) (var 0) (var 0 ⊞ var 1) tt k) h

pub *ᶠ_positive : (x y : Fraction) → Positive x → Positive y → Positive (x *ᶠ y)
*ᶠ_positive x y h k = from_positive (λ t. Positive (t *ᶠ y)) (λ r p. from_positive (λ t. Positive (signed r *ᶠ t)) (λ s q. product r s p q) y k) x h
  where
    product : (r s : Ratio) → 0 < r.num → 0 < s.num → Positive (signed r *ᶠ signed s)
    product r s p q = rw (← signed-⊗ r s) (signed_positive (r ⊗ s) (⊗_pos r s p q))

-- ---- one over a fraction

pub inverse_is : (y : Fraction) → Positive y → y *ᶠ inverse y ≈ᶠ whole 1
inverse_is y h = from_positive (λ t. t *ᶠ inverse t ≈ᶠ whole 1) natural_is y h
  where
    natural_is : (r : Ratio) → 0 < r.num → signed r *ᶠ inverse (signed r) ≈ᶠ whole 1
    natural_is r k = rw (← signed_inv r, ← signed-⊗ r (inv r), ← signed_whole 1) (signed-≈ (inv_is r k))

pub inverse_none : (y : Fraction) → y ≤ᶠ whole 0 → inverse y ≡ whole 0
unfolding inverse ratio
inverse_none y h = go y.num (unfold nonnegative in nonnegative_none y h)
  where
    go : (z : ℤ) → natural z ≡ 0 → elim z as (λ _. Fraction) [ pos n ↦ ratio (pos y.den) n | negsuc _ ↦ whole 0 ] ≡ whole 0
    go (pos n) e = rw e refl
    go (negsuc n) e = refl

pub inverse_nonneg : (y : Fraction) → whole 0 ≤ᶠ inverse y
inverse_nonneg y = ⊎_elim (λ h. from_positive (λ t. whole 0 ≤ᶠ inverse t) (λ r k. rw (← signed_inv r) (signed_nonneg (inv r))) y h)
    (λ h. rw (inverse_none y h) (≤ᶠ_refl _)) (positive_or y)

-- ---- so a positive factor cancels

pub *ᶠ_cancel : {x y : Fraction} (z : Fraction) → Positive z → z *ᶠ x ≤ᶠ z *ᶠ y → x ≤ᶠ y
*ᶠ_cancel {x} {y} z h p = ≤ᶠ_trans (≈ᶠ-≥ (undo x)) (≤ᶠ_trans (*ᶠ_mono_right (inverse z) (inverse_nonneg z) p) (≈ᶠ-≤ (undo y)))
  where
    undo : (x : Fraction) → inverse z *ᶠ (z *ᶠ x) ≈ᶠ x
    undo x = ≈ᶠ_trans (same_signed (x ∷ z ∷ inverse z ∷ []) (var 2 ⊠ (var 1 ⊠ var 0)) (var 1 ⊠ var 2 ⊠ var 0) tt tt)
        (≈ᶠ_trans (*ᶠ_cong (inverse_is z h) (≈ᶠ_refl x)) (*ᶠ_one x))

-- ---- quotients

-- by a positive divisor: the quotient times the divisor is the dividend
pub quotient_is : (x y : Fraction) → Positive y → x /ᶠ y *ᶠ y ≈ᶠ x
unfolding ◌/ᶠ◌
quotient_is x y h = ≈ᶠ_trans (same_signed (x ∷ y ∷ inverse y ∷ []) (var 0 ⊠ var 2 ⊠ var 1) (var 1 ⊠ var 2 ⊠ var 0) tt tt)
    (≈ᶠ_trans (*ᶠ_cong (inverse_is y h) (≈ᶠ_refl x)) (*ᶠ_one x))

-- by any other it is 0
pub quotient_none : (x y : Fraction) → y ≤ᶠ whole 0 → x /ᶠ y ≈ᶠ whole 0
unfolding ◌/ᶠ◌
quotient_none x y h = rw (inverse_none y h) (≈ᶠ_trans (*ᶠ_comm x (whole 0)) (*ᶠ_zero x))

pub /ᶠ_mono : {x x' : Fraction} (y : Fraction) → x ≤ᶠ x' → x /ᶠ y ≤ᶠ x' /ᶠ y
unfolding ◌/ᶠ◌
/ᶠ_mono y p = *ᶠ_mono_left (inverse y) (inverse_nonneg y) p

pub /ᶠ_nonneg : {x : Fraction} (y : Fraction) → whole 0 ≤ᶠ x → whole 0 ≤ᶠ x /ᶠ y
unfolding ◌/ᶠ◌
/ᶠ_nonneg y h = *ᶠ_nonneg h (inverse_nonneg y)

-- a positive divisor moves to the other side of an order, as a factor, and back
module _ (x y z : Fraction) (h : Positive y) where
  pub /ᶠ-≤ : x ≤ᶠ z *ᶠ y → x /ᶠ y ≤ᶠ z
  /ᶠ-≤ p = *ᶠ_cancel y h (≤ᶠ_trans (≈ᶠ-≤ (≈ᶠ_trans (*ᶠ_comm y (x /ᶠ y)) (quotient_is x y h))) (≤ᶠ_trans p (≈ᶠ-≤ (*ᶠ_comm z y))))

  pub ≤-*ᶠ : x /ᶠ y ≤ᶠ z → x ≤ᶠ z *ᶠ y
  ≤-*ᶠ p = ≤ᶠ_trans (≈ᶠ-≥ (quotient_is x y h)) (*ᶠ_mono_left y (positive_nonneg y h) p)

  pub ≤-/ᶠ : z *ᶠ y ≤ᶠ x → z ≤ᶠ x /ᶠ y
  ≤-/ᶠ p = *ᶠ_cancel y h (≤ᶠ_trans (≈ᶠ-≤ (*ᶠ_comm y z)) (≤ᶠ_trans p (≈ᶠ-≥ (≈ᶠ_trans (*ᶠ_comm y (x /ᶠ y)) (quotient_is x y h)))))

  pub *ᶠ-≤ : z ≤ᶠ x /ᶠ y → z *ᶠ y ≤ᶠ x
  *ᶠ-≤ p = ≤ᶠ_trans (*ᶠ_mono_left y (positive_nonneg y h) p) (≈ᶠ-≤ (quotient_is x y h))

-- the larger divisor gives the smaller quotient
pub /ᶠ_anti : {y y' : Fraction} (x : Fraction) → whole 0 ≤ᶠ x → Positive y → y ≤ᶠ y' → x /ᶠ y' ≤ᶠ x /ᶠ y
/ᶠ_anti {y} {y'} x h k p = /ᶠ-≤ x y' (x /ᶠ y) (positive-≤ p k) (≤ᶠ_trans (≈ᶠ-≥ (quotient_is x y k)) (*ᶠ_mono_right (x /ᶠ y) (/ᶠ_nonneg y h) p))

/ᶠ_half : {x x' y y' : Fraction} → x ≈ᶠ x' → y ≈ᶠ y' → x /ᶠ y ≤ᶠ x' /ᶠ y'
/ᶠ_half {x} {x'} {y} {y'} p q = ⊎_elim some none (positive_or y)
  where
    some : Positive y → x /ᶠ y ≤ᶠ x' /ᶠ y'
    some h = ≤-/ᶠ x' y' (x /ᶠ y) (positive-≤ (≈ᶠ-≤ q) h) (≈ᶠ-≤ (≈ᶠ_trans (*ᶠ_cong (≈ᶠ_refl _) (≈ᶠ_sym q)) (≈ᶠ_trans (quotient_is x y h) p)))

    none : y ≤ᶠ whole 0 → x /ᶠ y ≤ᶠ x' /ᶠ y'
    none h = ≈ᶠ-≤ (≈ᶠ_trans (quotient_none x y h) (≈ᶠ_sym (quotient_none x' y' (≤ᶠ_trans (≈ᶠ-≥ q) h))))

pub /ᶠ_cong : {x x' y y' : Fraction} → x ≈ᶠ x' → y ≈ᶠ y' → x /ᶠ y ≈ᶠ x' /ᶠ y'
/ᶠ_cong p q = ≤ᶠ_antisym (/ᶠ_half p q) (/ᶠ_half (≈ᶠ_sym p) (≈ᶠ_sym q))

-- n / d of whole numbers
pub ratio_is : (m n : ℕ) → ratio (pos m) n ≈ᶠ whole m /ᶠ whole n
ratio_is m n = rw (← signed_ratio m n, ← signed_whole m, ← signed_whole n, ← signed_quotient (ofℕ m) (ofℕ n)) (signed-≈ (over-≈ m n))

-- ---- powers

pub ^ᶠ_nonneg : {x : Fraction} (k : ℕ) → whole 0 ≤ᶠ x → whole 0 ≤ᶠ x ^ᶠ k
unfolding ◌^ᶠ◌
^ᶠ_nonneg zero h = whole-≤ (omega arith)
^ᶠ_nonneg (suc k) h = *ᶠ_nonneg h (^ᶠ_nonneg k h)

pub ^ᶠ_positive : (x : Fraction) (k : ℕ) → Positive x → Positive (x ^ᶠ k)
unfolding ◌^ᶠ◌
^ᶠ_positive x zero h = whole_positive 1 (zero-lt-suc 0)
^ᶠ_positive x (suc k) h = *ᶠ_positive x (x ^ᶠ k) h (^ᶠ_positive x k h)

pub ^ᶠ_mono : {x y : Fraction} (k : ℕ) → whole 0 ≤ᶠ x → x ≤ᶠ y → x ^ᶠ k ≤ᶠ y ^ᶠ k
unfolding ◌^ᶠ◌
^ᶠ_mono zero h p = ≤ᶠ_refl _
^ᶠ_mono (suc k) h p = *ᶠ_mono h (^ᶠ_nonneg k (≤ᶠ_trans h p)) p (^ᶠ_mono k h p)

pub ^ᶠ_cong : {x y : Fraction} (k : ℕ) → x ≈ᶠ y → x ^ᶠ k ≈ᶠ y ^ᶠ k
unfolding ◌^ᶠ◌
^ᶠ_cong zero e = ≈ᶠ_refl _
^ᶠ_cong (suc k) e = *ᶠ_cong e (^ᶠ_cong k e)

pub ^ᶠ-+ : (x : Fraction) (m n : ℕ) → x ^ᶠ (m + n) ≈ᶠ x ^ᶠ m *ᶠ x ^ᶠ n
unfolding ◌^ᶠ◌
^ᶠ-+ x zero n = rw (zero-add n) (≈ᶠ_sym (*ᶠ_one _))
^ᶠ-+ x (suc m) n = let e : suc m + n ≡ suc (m + n) = omega arith in
    rw e (≈ᶠ_trans (*ᶠ_cong (≈ᶠ_refl x) (^ᶠ-+ x m n)) (≈ᶠ_sym (*ᶠ_assoc x (x ^ᶠ m) (x ^ᶠ n))))

pub ^ᶠ-*ᶠ : (x y : Fraction) (k : ℕ) → (x *ᶠ y) ^ᶠ k ≈ᶠ x ^ᶠ k *ᶠ y ^ᶠ k
unfolding ◌^ᶠ◌
^ᶠ-*ᶠ x y zero = ≈ᶠ_sym (*ᶠ_one _)
^ᶠ-*ᶠ x y (suc k) = ≈ᶠ_trans (*ᶠ_cong (≈ᶠ_refl (x *ᶠ y)) (^ᶠ-*ᶠ x y k))
    (same_signed (x ∷ y ∷ x ^ᶠ k ∷ y ^ᶠ k ∷ []) (var 0 ⊠ var 1 ⊠ (var 2 ⊠ var 3)) (var 0 ⊠ var 2 ⊠ (var 1 ⊠ var 3)) tt tt)

-- ---- powers of ten

pub ten_positive : (p : ℤ) → Positive (ten p)
ten_positive p = rw (← signed_ten p) (signed_positive (ten_to p) (ten_pos p))

pub ten_whole : (k : ℕ) → ten (pos k) ≡ whole (10 ^ k)
unfolding ten whole
ten_whole k = refl

pub ten-+ᶠ : (p q : ℤ) → ten (p +ℤ q) ≈ᶠ ten p *ᶠ ten q
ten-+ᶠ p q = rw (← signed_ten p, ← signed_ten q, ← signed_ten (p +ℤ q), ← signed-⊗ (ten_to p) (ten_to q)) (signed-≈ (ten-+ p q))

pub ten_neg : (p : ℤ) → ten p *ᶠ ten (neg_ℤ p) ≈ᶠ whole 1
ten_neg p = ≈ᶠ_trans (≈ᶠ_sym (ten-+ᶠ p (neg_ℤ p))) (rw (+ℤ_invr p, ten_whole 0) (≈ᶠ_refl _))
