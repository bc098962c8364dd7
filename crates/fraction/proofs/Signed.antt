-- The bridge between the fractions of the statements, whose numerators are signed, and those of the proofs, whose numerators are natural.
-- `signed` takes the second to the first, and every operation agrees on what comes from there; `nonnegative` goes back. Assumes nothing.
use mathlib.Core.Path.{◌≡◌, refl, sym, ◌∙◌, ap}
use Prim.Native.Nat.{ℕ, zero, suc, ◌*◌, ◌≤◌, ◌<◌}
use native.Mathlib.Nat.{mul-pos}
use native.Mathlib.Omega.{arith}
use lib.Dec.{lt→ltb, leb, leb→le, le→leb}
use lib.IntN.{ℤ, pos, negsuc, neg_ℤ, ◌*ℤ◌}
use lib.Signed.{◌≤ℤ◌, ◌<ℤ◌}
use Rattle.fraction.specs.Fraction.{Fraction, ◌≤ᶠ◌, ◌≈ᶠ◌, at_most, whole, ratio, inverse, ten, ◌+ᶠ◌, ◌-ᶠ◌, ◌*ᶠ◌, ◌/ᶠ◌, ◌^ᶠ◌}
pub use Rattle.fraction.proofs.Integers.{natural, minus_is}
use Rattle.fraction.proofs.Integers.{natural_sub, Is, is_self, is_pos, is_minus, is_times, is-≤, ≤_is, not_negative, positive, <-≤}
use Rattle.fraction.proofs.Ratio.{Ratio, ◌≼◌, ◌≈◌, ofℕ, ◌⊕◌, ◌⊗◌, ◌⊖◌}
use Rattle.fraction.proofs.Inverse.{inv, ◌over◌}
use Rattle.fraction.proofs.Powers.{pow}
use Rattle.fraction.proofs.PowersOfTen.{ten_to}

unfoldable pub signed : Ratio → Fraction
signed x = record { num = pos x.num; den = x.den; den_pos = x.den_pos }

-- ---- the operations agree

pub signed_whole : (n : ℕ) → signed (ofℕ n) ≡ whole n
unfolding signed ofℕ whole
signed_whole n = refl

pub signed-⊕ : (x y : Ratio) → signed (x ⊕ y) ≡ signed x +ᶠ signed y
unfolding signed ◌⊕◌ ◌+ᶠ◌
signed-⊕ x y = refl

pub signed-⊗ : (x y : Ratio) → signed (x ⊗ y) ≡ signed x *ᶠ signed y
unfolding signed ◌⊗◌ ◌*ᶠ◌
signed-⊗ x y = refl

pub signed_ten : (e : ℤ) → signed (ten_to e) ≡ ten e
unfolding signed ten_to ten
signed_ten (pos k) = refl
signed_ten (negsuc k) = refl

pub signed_ratio : (m n : ℕ) → signed (m over n) ≡ ratio (pos m) n
unfolding signed ◌over◌ ofℕ whole ratio
signed_ratio m zero = refl
signed_ratio m (suc n) = refl

pub signed_inv : (y : Ratio) → signed (inv y) ≡ inverse (signed y)
unfolding signed inv inverse
signed_inv y = signed_ratio y.den y.num

-- the quotient is the product with one over the divisor
pub signed_quotient : (x y : Ratio) → signed (x ⊗ inv y) ≡ signed x /ᶠ signed y
unfolding ◌/ᶠ◌
signed_quotient x y = signed-⊗ x (inv y) ∙ ap (λ z. signed x *ᶠ z) (signed_inv y)

pub signed_pow : (x : Ratio) (k : ℕ) → signed (pow x k) ≡ signed x ^ᶠ k
unfolding pow ◌^ᶠ◌
signed_pow x zero = signed_whole 1
signed_pow x (suc k) = signed-⊗ x (pow x k) ∙ ap (λ z. signed x *ᶠ z) (signed_pow x k)

-- ---- the order, equality as fractions, and being positive agree

pub signed-≼ : {x y : Ratio} → x ≼ y → signed x ≤ᶠ signed y
unfolding signed
signed-≼ h = record { le = record { le = le→leb _ _ h.le } }

pub ≼_signed : {x y : Ratio} → signed x ≤ᶠ signed y → x ≼ y
unfolding signed
≼_signed h = record { le = leb→le _ _ h.le.le }

pub signed-≈ : {x y : Ratio} → x ≈ y → signed x ≈ᶠ signed y
unfolding signed
signed-≈ h = record { eq = ap pos h.eq }

pub at_most_signed : (x y : Ratio) → at_most (signed x) (signed y) ≡ leb (x.num * y.den) (y.num * x.den)
unfolding signed at_most
at_most_signed x y = refl

pub signed_positive : (x : Ratio) → 0 < x.num → pos 0 <ℤ (signed x).num
unfolding signed
signed_positive x h = record { lt = lt→ltb _ _ h }

-- ---- back: a fraction, or 0 where it is negative

unfoldable pub nonnegative : Fraction → Ratio
nonnegative x = record { num = natural x.num; den = x.den; den_pos = x.den_pos }

pub nonnegative_signed : (x : Ratio) → nonnegative (signed x) ≡ x
unfolding nonnegative signed
nonnegative_signed x = refl

-- where it is not negative nothing is lost
pub signed_natural : (x : Fraction) → pos 0 ≤ℤ x.num → signed (nonnegative x) ≡ x
unfolding nonnegative signed
signed_natural x h = λ i. record { num = sym (not_negative x.num h) i; den = x.den; den_pos = x.den_pos }

pub signed_positive_natural : (x : Fraction) → pos 0 <ℤ x.num → signed (nonnegative x) ≡ x
signed_positive_natural x h = signed_natural x (<-≤ x.num h)

pub signed_nonnegative : {x : Fraction} → whole 0 ≤ᶠ x → signed (nonnegative x) ≡ x
unfolding whole
signed_nonnegative {x} h = signed_natural x (is-≤ (is_pos 0) (is_self x.num)
    (omega (arith, ≤_is (is_times (is_pos 0) (is_pos x.den)) (is_times (is_self x.num) (is_pos 1)) h.le)))

pub nonnegative_positive : (x : Fraction) → pos 0 <ℤ x.num → 0 < (nonnegative x).num
unfolding nonnegative
nonnegative_positive x h = positive x.num h

-- the order goes along
pub nonnegative-≼ : {x y : Fraction} → x ≤ᶠ y → nonnegative x ≼ nonnegative y
unfolding nonnegative
nonnegative-≼ {x} {y} h = record { le = go x.num h.le }
  where
    go : (z : ℤ) → (z *ℤ pos y.den) ≤ℤ (y.num *ℤ pos x.den) → natural z * y.den ≤ natural y.num * x.den
    go (pos n) l = omega (arith, ≤_is (is_pos (n * y.den)) (is_times (is_self y.num) (is_pos x.den)) l)
    go (negsuc n) l = omega arith

-- what is not positive becomes 0
pub nonnegative_none : (x : Fraction) → x ≤ᶠ whole 0 → (nonnegative x).num ≡ 0
unfolding nonnegative whole
nonnegative_none x h = omega (arith, (nonnegative-≼ h).le)

-- ---- products and differences

natural_times : (a : ℕ) (z : ℤ) → natural (pos a *ℤ z) ≡ a * natural z
natural_times a (pos n) = refl
natural_times a (negsuc n) = negative (a * suc n) ∙ omega arith
  where
    negative : (k : ℕ) → natural (neg_ℤ (pos k)) ≡ 0
    negative zero = refl
    negative (suc k) = refl

pub nonnegative_times : (x : Ratio) (y : Fraction) → nonnegative (signed x *ᶠ y) ≡ x ⊗ nonnegative y
unfolding nonnegative signed ◌*ᶠ◌ ◌⊗◌
nonnegative_times x y = λ i. record {
  num = natural_times x.num y.num i;
  den = x.den * y.den;
  den_pos = mul-pos x.den_pos y.den_pos;
}

-- a difference, set to 0 where it is negative, is the difference of natural numerators
pub nonnegative_minus : (x y : Ratio) → nonnegative (signed x -ᶠ signed y) ≡ x ⊖ y
unfolding nonnegative signed ◌-ᶠ◌ ◌⊖◌
nonnegative_minus x y = λ i. record {
  num = (ap natural (minus_is (x.num * y.den) (y.num * x.den)) ∙ natural_sub (x.num * y.den) (y.num * x.den)) i;
  den = x.den * y.den;
  den_pos = mul-pos x.den_pos y.den_pos;
}

-- the numerator of a difference, as a difference of naturals
minus_num : (x y : Ratio) → Is (signed x -ᶠ signed y).num (x.num * y.den) (y.num * x.den)
unfolding signed ◌-ᶠ◌
minus_num x y = record { is = omega (arith, (is_minus (is_pos (x.num * y.den)) (is_pos (y.num * x.den))).is) }

-- where nothing is set to 0, the two differences are one
pub signed-⊖ : {x y : Ratio} → y ≼ x → signed (x ⊖ y) ≡ signed x -ᶠ signed y
signed-⊖ {x} {y} h = ap signed (sym (nonnegative_minus x y)) ∙ signed_natural (signed x -ᶠ signed y) (is-≤ (is_pos 0) (minus_num x y) (omega (arith, h.le)))
