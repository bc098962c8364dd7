-- The laws of the fractions of `specs/Fraction`, for readers and for the layers above: order, ring, monotone operations, what cancels.
-- Equality as fractions is `≈ᶠ`. Each law is one call of `SignedCertificate`. Quotients and powers are in `Quotients`.
use mathlib.Core.Path.{refl, sym, ap}
use mathlib.Core.List.{[], ◌∷◌}
use mathlib.Core.Logic.{◌↔◌}
use Prim.Native.Nat.{ℕ, ◌+◌, ◌*◌, ◌≤◌}
use native.Mathlib.Omega.{arith, plit}
use lib.Dec.{T, leb→le, le→leb}
use lib.IntN.{pos}
use lib.Signed.{≤ℤ_refl}
use Rattle.fraction.specs.Fraction.{Fraction, ◌≤ᶠ◌, ◌≈ᶠ◌, at_most, whole, ◌+ᶠ◌, ◌-ᶠ◌, ◌*ᶠ◌}
use Rattle.fraction.proofs.Certificate.{◌+'◌}
pub use Rattle.fraction.proofs.SignedCertificate.{≤ᶠ_antisym, ≤ᶠ_or}
use Rattle.fraction.proofs.SignedCertificate.{var, lit, ◌⊞◌, ◌⊟◌, ◌⊠◌, order, nonneg, up_of, down_of, prove_signed, same_signed}

-- ---- the order is a total preorder, and the test `at_most` decides it; `≤ᶠ_antisym`: both ways it is equality as fractions

pub ≤ᶠ_refl : (x : Fraction) → x ≤ᶠ x
≤ᶠ_refl x = prove_signed (x ∷ []) [] (var 0) (var 0) tt

pub ≤ᶠ_trans : {x y z : Fraction} → x ≤ᶠ y → y ≤ᶠ z → x ≤ᶠ z
≤ᶠ_trans {x} {y} {z} p q = prove_signed (x ∷ y ∷ z ∷ []) (order (plit 1) (var 0) (var 1) ∷ order (plit 1) (var 1) (var 2) ∷ []) (var 0) (var 2) tt p q

pub at_most_iff : (x y : Fraction) → T (at_most x y) ↔ x ≤ᶠ y
unfolding at_most
at_most_iff x y = (λ t. record { le = record { le = t } }, λ h. h.le.le)

-- ---- equality as fractions is an equivalence

pub ≈ᶠ_refl : (x : Fraction) → x ≈ᶠ x
≈ᶠ_refl x = record { eq = refl }

pub ≈ᶠ_sym : {x y : Fraction} → x ≈ᶠ y → y ≈ᶠ x
≈ᶠ_sym e = record { eq = sym e.eq }

pub ≈ᶠ-≤ : {x y : Fraction} → x ≈ᶠ y → x ≤ᶠ y
≈ᶠ-≤ e = record { le = rw e.eq (≤ℤ_refl _) }

pub ≈ᶠ-≥ : {x y : Fraction} → x ≈ᶠ y → y ≤ᶠ x
≈ᶠ-≥ e = ≈ᶠ-≤ (≈ᶠ_sym e)

pub ≈ᶠ_trans : {x y z : Fraction} → x ≈ᶠ y → y ≈ᶠ z → x ≈ᶠ z
≈ᶠ_trans p q = ≤ᶠ_antisym (≤ᶠ_trans (≈ᶠ-≤ p) (≈ᶠ-≤ q)) (≤ᶠ_trans (≈ᶠ-≥ q) (≈ᶠ-≥ p))

-- ---- sums, differences and products: the laws of a commutative ring

pub +ᶠ_comm : (x y : Fraction) → x +ᶠ y ≈ᶠ y +ᶠ x
+ᶠ_comm x y = same_signed (x ∷ y ∷ []) (var 0 ⊞ var 1) (var 1 ⊞ var 0) tt tt

pub +ᶠ_assoc : (x y z : Fraction) → x +ᶠ y +ᶠ z ≈ᶠ x +ᶠ (y +ᶠ z)
+ᶠ_assoc x y z = same_signed (x ∷ y ∷ z ∷ []) (var 0 ⊞ var 1 ⊞ var 2) (var 0 ⊞ (var 1 ⊞ var 2)) tt tt

pub +ᶠ_zero : (x : Fraction) → whole 0 +ᶠ x ≈ᶠ x
+ᶠ_zero x = same_signed (x ∷ []) (lit 0 ⊞ var 0) (var 0) tt tt

pub *ᶠ_comm : (x y : Fraction) → x *ᶠ y ≈ᶠ y *ᶠ x
*ᶠ_comm x y = same_signed (x ∷ y ∷ []) (var 0 ⊠ var 1) (var 1 ⊠ var 0) tt tt

pub *ᶠ_assoc : (x y z : Fraction) → x *ᶠ y *ᶠ z ≈ᶠ x *ᶠ (y *ᶠ z)
*ᶠ_assoc x y z = same_signed (x ∷ y ∷ z ∷ []) (var 0 ⊠ var 1 ⊠ var 2) (var 0 ⊠ (var 1 ⊠ var 2)) tt tt

pub *ᶠ_one : (x : Fraction) → whole 1 *ᶠ x ≈ᶠ x
*ᶠ_one x = same_signed (x ∷ []) (lit 1 ⊠ var 0) (var 0) tt tt

pub *ᶠ_zero : (x : Fraction) → whole 0 *ᶠ x ≈ᶠ whole 0
*ᶠ_zero x = same_signed (x ∷ []) (lit 0 ⊠ var 0) (lit 0) tt tt

pub *ᶠ-+ᶠ : (x y z : Fraction) → x *ᶠ (y +ᶠ z) ≈ᶠ x *ᶠ y +ᶠ x *ᶠ z
*ᶠ-+ᶠ x y z = same_signed (x ∷ y ∷ z ∷ []) (var 0 ⊠ (var 1 ⊞ var 2)) (var 0 ⊠ var 1 ⊞ var 0 ⊠ var 2) tt tt

pub *ᶠ--ᶠ : (x y z : Fraction) → x *ᶠ (y -ᶠ z) ≈ᶠ x *ᶠ y -ᶠ x *ᶠ z
*ᶠ--ᶠ x y z = same_signed (x ∷ y ∷ z ∷ []) (var 0 ⊠ (var 1 ⊟ var 2)) (var 0 ⊠ var 1 ⊟ var 0 ⊠ var 2) tt tt

-- the difference undoes the sum
pub -ᶠ_self : (x : Fraction) → x -ᶠ x ≈ᶠ whole 0
-ᶠ_self x = same_signed (x ∷ []) (var 0 ⊟ var 0) (lit 0) tt tt

pub -ᶠ_zero : (x : Fraction) → x -ᶠ whole 0 ≈ᶠ x
-ᶠ_zero x = same_signed (x ∷ []) (var 0 ⊟ lit 0) (var 0) tt tt

pub -ᶠ-+ᶠ : (x y : Fraction) → x -ᶠ y +ᶠ y ≈ᶠ x
-ᶠ-+ᶠ x y = same_signed (x ∷ y ∷ []) (var 0 ⊟ var 1 ⊞ var 1) (var 0) tt tt

pub +ᶠ--ᶠ : (x y : Fraction) → x +ᶠ y -ᶠ y ≈ᶠ x
+ᶠ--ᶠ x y = same_signed (x ∷ y ∷ []) (var 0 ⊞ var 1 ⊟ var 1) (var 0) tt tt

-- taking off two after one another is taking off their sum
pub -ᶠ--ᶠ : (x y z : Fraction) → x -ᶠ y -ᶠ z ≈ᶠ x -ᶠ (y +ᶠ z)
-ᶠ--ᶠ x y z = same_signed (x ∷ y ∷ z ∷ []) (var 0 ⊟ var 1 ⊟ var 2) (var 0 ⊟ (var 1 ⊞ var 2)) tt tt

-- ---- whole numbers

pub whole-+ : (m n : ℕ) → whole (m + n) ≈ᶠ whole m +ᶠ whole n
unfolding whole ◌+ᶠ◌
whole-+ m n = record { eq = ap pos (omega arith) }

pub whole-* : (m n : ℕ) → whole (m * n) ≈ᶠ whole m *ᶠ whole n
unfolding whole ◌*ᶠ◌
whole-* m n = record { eq = ap pos (omega arith) }

pub whole-≤ : {m n : ℕ} → m ≤ n → whole m ≤ᶠ whole n
unfolding whole
whole-≤ {m} {n} h = record { le = record { le = le→leb (m * 1) (n * 1) (omega arith) } }

pub ≤_whole : {m n : ℕ} → whole m ≤ᶠ whole n → m ≤ n
unfolding whole
≤_whole {m} {n} h = omega (arith, leb→le (m * 1) (n * 1) h.le.le)

-- ---- sums and differences are monotone, and products by a factor at or above 0

pub +ᶠ_mono : {x x' y y' : Fraction} → x ≤ᶠ x' → y ≤ᶠ y' → x +ᶠ y ≤ᶠ x' +ᶠ y'
+ᶠ_mono {x} {x'} {y} {y'} p q = prove_signed (x ∷ x' ∷ y ∷ y' ∷ []) (order (plit 1) (var 0) (var 1) ∷ order (plit 1) (var 2) (var 3) ∷ [])
    (var 0 ⊞ var 2) (var 1 ⊞ var 3) tt p q

pub -ᶠ_mono : {x x' y y' : Fraction} → x ≤ᶠ x' → y' ≤ᶠ y → x -ᶠ y ≤ᶠ x' -ᶠ y'
-ᶠ_mono {x} {x'} {y} {y'} p q = prove_signed (x ∷ x' ∷ y ∷ y' ∷ []) (order (plit 1) (var 0) (var 1) ∷ order (plit 1) (var 3) (var 2) ∷ [])
    (var 0 ⊟ var 2) (var 1 ⊟ var 3) tt p q

pub *ᶠ_mono_right : {x y : Fraction} (z : Fraction) → whole 0 ≤ᶠ z → x ≤ᶠ y → z *ᶠ x ≤ᶠ z *ᶠ y
*ᶠ_mono_right {x} {y} z h p = prove_signed (x ∷ y ∷ z ∷ []) (nonneg (down_of 0 +' up_of 1) 2 ∷ order (up_of 2) (var 0) (var 1) ∷ [])
    (var 2 ⊠ var 0) (var 2 ⊠ var 1) tt h p

pub *ᶠ_mono_left : {x y : Fraction} (z : Fraction) → whole 0 ≤ᶠ z → x ≤ᶠ y → x *ᶠ z ≤ᶠ y *ᶠ z
*ᶠ_mono_left {x} {y} z h p = prove_signed (x ∷ y ∷ z ∷ []) (nonneg (down_of 0 +' up_of 1) 2 ∷ order (up_of 2) (var 0) (var 1) ∷ [])
    (var 0 ⊠ var 2) (var 1 ⊠ var 2) tt h p

pub *ᶠ_mono : {x x' y y' : Fraction} → whole 0 ≤ᶠ x → whole 0 ≤ᶠ y' → x ≤ᶠ x' → y ≤ᶠ y' → x *ᶠ y ≤ᶠ x' *ᶠ y'
*ᶠ_mono {x} {x'} {y} {y'} h k p q = ≤ᶠ_trans (*ᶠ_mono_right x h q) (*ᶠ_mono_left y' k p)

-- what is at or above 0 stays so
pub +ᶠ_nonneg : {x y : Fraction} → whole 0 ≤ᶠ x → whole 0 ≤ᶠ y → whole 0 ≤ᶠ x +ᶠ y
+ᶠ_nonneg {x} {y} h k = prove_signed (x ∷ y ∷ []) (order (plit 1) (lit 0) (var 0) ∷ order (plit 1) (lit 0) (var 1) ∷ []) (lit 0) (var 0 ⊞ var 1) tt h k

pub *ᶠ_nonneg : {x y : Fraction} → whole 0 ≤ᶠ x → whole 0 ≤ᶠ y → whole 0 ≤ᶠ x *ᶠ y
*ᶠ_nonneg {x} {y} h k = prove_signed (x ∷ y ∷ []) (nonneg (up_of 1) 0 ∷ nonneg (up_of 0) 1 ∷ []) (lit 0) (var 0 ⊠ var 1) tt h k

-- a summand moves to the other side of an order
module _ (x y z : Fraction) where
  pub -ᶠ-≤ : x ≤ᶠ z +ᶠ y → x -ᶠ y ≤ᶠ z
  -ᶠ-≤ = prove_signed (x ∷ y ∷ z ∷ []) (order (plit 1) (var 0) (var 2 ⊞ var 1) ∷ []) (var 0 ⊟ var 1) (var 2) tt

  pub ≤-+ᶠ : x -ᶠ y ≤ᶠ z → x ≤ᶠ z +ᶠ y
  ≤-+ᶠ = prove_signed (x ∷ y ∷ z ∷ []) (order (plit 1) (var 0 ⊟ var 1) (var 2) ∷ []) (var 0) (var 2 ⊞ var 1) tt

  pub ≤--ᶠ : z +ᶠ y ≤ᶠ x → z ≤ᶠ x -ᶠ y
  ≤--ᶠ = prove_signed (x ∷ y ∷ z ∷ []) (order (plit 1) (var 2 ⊞ var 1) (var 0) ∷ []) (var 2) (var 0 ⊟ var 1) tt

  pub +ᶠ-≤ : z ≤ᶠ x -ᶠ y → z +ᶠ y ≤ᶠ x
  +ᶠ-≤ = prove_signed (x ∷ y ∷ z ∷ []) (order (plit 1) (var 2) (var 0 ⊟ var 1) ∷ []) (var 2 ⊞ var 1) (var 0) tt

-- ---- the operations respect equality as fractions

pub +ᶠ_cong : {x x' y y' : Fraction} → x ≈ᶠ x' → y ≈ᶠ y' → x +ᶠ y ≈ᶠ x' +ᶠ y'
+ᶠ_cong p q = ≤ᶠ_antisym (+ᶠ_mono (≈ᶠ-≤ p) (≈ᶠ-≤ q)) (+ᶠ_mono (≈ᶠ-≥ p) (≈ᶠ-≥ q))

pub -ᶠ_cong : {x x' y y' : Fraction} → x ≈ᶠ x' → y ≈ᶠ y' → x -ᶠ y ≈ᶠ x' -ᶠ y'
-ᶠ_cong p q = ≤ᶠ_antisym (-ᶠ_mono (≈ᶠ-≤ p) (≈ᶠ-≥ q)) (-ᶠ_mono (≈ᶠ-≥ p) (≈ᶠ-≤ q))

*ᶠ_half : {x x' y y' : Fraction} → x ≈ᶠ x' → y ≈ᶠ y' → x *ᶠ y ≤ᶠ x' *ᶠ y'
*ᶠ_half {x} {x'} {y} {y'} p q = prove_signed (x ∷ x' ∷ y ∷ y' ∷ [])
    (order (up_of 2) (var 0) (var 1) ∷ order (down_of 2) (var 1) (var 0) ∷ order (up_of 1) (var 2) (var 3) ∷ order (down_of 1) (var 3) (var 2) ∷ [])
    (var 0 ⊠ var 2) (var 1 ⊠ var 3) tt (≈ᶠ-≤ p) (≈ᶠ-≥ p) (≈ᶠ-≤ q) (≈ᶠ-≥ q)

pub *ᶠ_cong : {x x' y y' : Fraction} → x ≈ᶠ x' → y ≈ᶠ y' → x *ᶠ y ≈ᶠ x' *ᶠ y'
*ᶠ_cong p q = ≤ᶠ_antisym (*ᶠ_half p q) (*ᶠ_half (≈ᶠ_sym p) (≈ᶠ_sym q))

-- ---- a summand cancels (a positive factor too: `*ᶠ_cancel` of `Quotients`)

pub +ᶠ_cancel : {x y : Fraction} (z : Fraction) → x +ᶠ z ≤ᶠ y +ᶠ z → x ≤ᶠ y
+ᶠ_cancel {x} {y} z p = prove_signed (x ∷ y ∷ z ∷ []) (order (plit 1) (var 0 ⊞ var 2) (var 1 ⊞ var 2) ∷ []) (var 0) (var 1) tt p
