-- Fractions that are not negative: numerator and denominator natural, the denominator positive, compared by multiplying crosswise.
-- Statements for readers speak of the signed fractions of `specs/Fraction`; proofs are done here, where `omega arith` can do the algebra, and
-- `Signed` carries the results over. Every operation is shut; other modules use the laws. `≈` is equality as fractions.
use mathlib.Core.Path.{◌≡◌, refl, sym, ◌∙◌, ap, ap₂}
use mathlib.Core.Logic.{◌⊎◌, inl, inr, ⊎_elim}
use Prim.Native.Nat.{ℕ, zero, suc, ◌+◌, ◌*◌, ◌-◌, ◌≤◌, ◌<◌, zero-le, suc-le-suc}
use native.Mathlib.Nat.{mul-pos, mul-le-mul_right, le_of_mul-le-mul_right, eq_of_mul-eq-mul_right, le_of_eq, le_refl, zero-lt-suc, le_antisymm, le_of_lt, mul-sub, eq-zero-or-pos}
use native.Mathlib.Omega.{arith}

infix 50 ◌≼◌ ◌≈◌
infixl 60 ◌⊕◌ ◌⊖◌
infixl 70 ◌⊗◌
pub record Ratio : Type 0 where
  pub num : ℕ
  pub den : ℕ
  pub den_pos : 0 < den

pub record ◌≼◌ (x y : Ratio) : Type 0 where
  pub le : x.num * y.den ≤ y.num * x.den

pub record ◌≈◌ (x y : Ratio) : Type 0 where
  pub eq : x.num * y.den ≡ y.num * x.den

-- a whole number
unfoldable pub ofℕ : ℕ → Ratio
ofℕ n = record { num = n; den = 1; den_pos = zero-lt-suc 0 }

unfoldable pub ◌⊕◌ : Ratio → Ratio → Ratio
x ⊕ y = record { num = x.num * y.den + y.num * x.den; den = x.den * y.den; den_pos = mul-pos x.den_pos y.den_pos }

unfoldable pub ◌⊗◌ : Ratio → Ratio → Ratio
x ⊗ y = record { num = x.num * y.num; den = x.den * y.den; den_pos = mul-pos x.den_pos y.den_pos }

-- the difference, or 0 where it would be negative
unfoldable pub ◌⊖◌ : Ratio → Ratio → Ratio
x ⊖ y = record { num = x.num * y.den - y.num * x.den; den = x.den * y.den; den_pos = mul-pos x.den_pos y.den_pos }

-- ---- the order is a total preorder, `≈` an equivalence, and `≼` both ways is `≈`

pub ≼_refl : (x : Ratio) → x ≼ x
≼_refl x = record { le = le_refl _ }

pub ≼_trans : {x y z : Ratio} → x ≼ y → y ≼ z → x ≼ z
≼_trans {x} {y} {z} p q = record { le = le_of_mul-le-mul_right {k = y.den} crosswise y.den_pos }
  where
    crosswise : x.num * z.den * y.den ≤ z.num * x.den * y.den
    crosswise = omega (arith, mul-le-mul_right z.den p.le, mul-le-mul_right x.den q.le)

-- of two fractions one is not above the other
pub ≼_or : (x y : Ratio) → (x ≼ y) ⊎ (y ≼ x)
≼_or x y = ⊎_elim (λ h. inl (record { le = h })) (λ h. inr (record { le = le_of_lt h })) (le_or_lt (x.num * y.den) (y.num * x.den))
  where
    le_or_lt : (a b : ℕ) → (a ≤ b) ⊎ (b < a)
    le_or_lt zero b = inl zero-le
    le_or_lt (suc a) zero = inr (zero-lt-suc a)
    le_or_lt (suc a) (suc b) = ⊎_elim (λ p. inl (suc-le-suc p)) (λ q. inr (suc-le-suc q)) (le_or_lt a b)

pub not-≼ : (x y : Ratio) → ¬ (x ≼ y) → y ≼ x
not-≼ x y h = ⊎_elim (λ p. absurd (h p)) (λ q. q) (≼_or x y)

pub ≈_refl : (x : Ratio) → x ≈ x
≈_refl x = record { eq = refl }

pub ≈_sym : {x y : Ratio} → x ≈ y → y ≈ x
≈_sym p = record { eq = sym p.eq }

pub ≈_trans : {x y z : Ratio} → x ≈ y → y ≈ z → x ≈ z
≈_trans {x} {y} {z} p q = record { eq = eq_of_mul-eq-mul_right y.den y.den_pos _ _ crosswise }
  where
    crosswise : x.num * z.den * y.den ≡ z.num * x.den * y.den
    crosswise = omega (arith, ap (λ t. t * z.den) p.eq, ap (λ t. t * x.den) q.eq)

pub ≈_le : {x y : Ratio} → x ≈ y → x ≼ y
≈_le p = record { le = le_of_eq p.eq }

pub ≈_ge : {x y : Ratio} → x ≈ y → y ≼ x
≈_ge p = record { le = le_of_eq (sym p.eq) }

pub ≼_antisym : {x y : Ratio} → x ≼ y → y ≼ x → x ≈ y
≼_antisym p q = record { eq = le_antisymm p.le q.le }

-- ---- sums and products respect both

pub ⊕_mono : {x x' y y' : Ratio} → x ≼ x' → y ≼ y' → x ⊕ y ≼ x' ⊕ y'
unfolding ◌⊕◌
⊕_mono {x} {x'} {y} {y'} p q = record {
  le = omega (arith, mul-le-mul_right (y.den * y'.den) p.le, mul-le-mul_right (x.den * x'.den) q.le);
}

pub ⊗_mono : {x x' y y' : Ratio} → x ≼ x' → y ≼ y' → x ⊗ y ≼ x' ⊗ y'
unfolding ◌⊗◌
⊗_mono {x} {x'} {y} {y'} p q = record {
  le = omega (arith, mul-le-mul_right (y.num * y'.den) p.le, mul-le-mul_right (x'.num * x.den) q.le);
}

pub ⊕_cong : {x x' y y' : Ratio} → x ≈ x' → y ≈ y' → x ⊕ y ≈ x' ⊕ y'
unfolding ◌⊕◌
⊕_cong {x} {x'} {y} {y'} p q = record {
  eq = omega (arith, ap (λ t. t * (y.den * y'.den)) p.eq, ap (λ t. t * (x.den * x'.den)) q.eq);
}

pub ⊗_cong : {x x' y y' : Ratio} → x ≈ x' → y ≈ y' → x ⊗ y ≈ x' ⊗ y'
unfolding ◌⊗◌
⊗_cong {x} {x'} {y} {y'} p q = record {
  eq = omega (arith, ap (λ t. t * (y.num * y'.den)) p.eq, ap (λ t. t * (x'.num * x.den)) q.eq);
}

-- ---- the laws of a commutative semiring

pub ⊕_comm : (x y : Ratio) → x ⊕ y ≈ y ⊕ x
unfolding ◌⊕◌
⊕_comm x y = record { eq = omega arith }

pub ⊕_assoc : (x y z : Ratio) → (x ⊕ y) ⊕ z ≈ x ⊕ (y ⊕ z)
unfolding ◌⊕◌
⊕_assoc x y z = record { eq = omega arith }

pub ⊕_zero : (x : Ratio) → ofℕ 0 ⊕ x ≈ x
unfolding ◌⊕◌ ofℕ
⊕_zero x = record { eq = omega arith }

pub ⊗_comm : (x y : Ratio) → x ⊗ y ≈ y ⊗ x
unfolding ◌⊗◌
⊗_comm x y = record { eq = omega arith }

pub ⊗_assoc : (x y z : Ratio) → (x ⊗ y) ⊗ z ≈ x ⊗ (y ⊗ z)
unfolding ◌⊗◌
⊗_assoc x y z = record { eq = omega arith }

pub ⊗_one : (x : Ratio) → ofℕ 1 ⊗ x ≈ x
unfolding ◌⊗◌ ofℕ
⊗_one x = record { eq = omega arith }

pub ⊗_one_right : (x : Ratio) → x ⊗ ofℕ 1 ≈ x
unfolding ◌⊗◌ ofℕ
⊗_one_right x = record { eq = omega arith }

pub ⊗_zero : (x : Ratio) → ofℕ 0 ⊗ x ≈ ofℕ 0
unfolding ◌⊗◌ ofℕ
⊗_zero x = record { eq = omega arith }

pub ⊗-⊕ : (x y z : Ratio) → x ⊗ (y ⊕ z) ≈ x ⊗ y ⊕ x ⊗ z
unfolding ◌⊕◌ ◌⊗◌
⊗-⊕ x y z = record { eq = omega arith }

-- ---- what cancels

-- a summand
pub ⊕_cancel : {x y : Ratio} (z : Ratio) → x ⊕ z ≼ y ⊕ z → x ≼ y
unfolding ◌⊕◌
⊕_cancel {x} {y} z p = record {
  le = le_of_mul-le-mul_right {k = z.den * z.den} (omega (arith, p.le)) (mul-pos z.den_pos z.den_pos);
}

-- a positive factor
pub ⊗_cancel : {x y : Ratio} (z : Ratio) → 0 < z.num → z ⊗ x ≼ z ⊗ y → x ≼ y
unfolding ◌⊗◌
⊗_cancel {x} {y} z h p = record {
  le = le_of_mul-le-mul_right {k = z.num * z.den} (omega (arith, p.le)) (mul-pos h z.den_pos);
}

-- ---- whole numbers

pub ofℕ-⊕ : (m n : ℕ) → ofℕ (m + n) ≈ ofℕ m ⊕ ofℕ n
unfolding ◌⊕◌ ofℕ
ofℕ-⊕ m n = record { eq = omega arith }

pub ofℕ-⊗ : (m n : ℕ) → ofℕ (m * n) ≈ ofℕ m ⊗ ofℕ n
unfolding ◌⊗◌ ofℕ
ofℕ-⊗ m n = record { eq = omega arith }

pub ofℕ-≼ : {m n : ℕ} → m ≤ n → ofℕ m ≼ ofℕ n
unfolding ofℕ
ofℕ-≼ h = record { le = omega arith }

pub ofℕ-≤ : {m n : ℕ} → ofℕ m ≼ ofℕ n → m ≤ n
unfolding ofℕ
ofℕ-≤ h = omega (arith, h.le)

pub zero-≼ : (x : Ratio) → ofℕ 0 ≼ x
unfolding ofℕ
zero-≼ x = record { le = omega arith }

-- ---- positive fractions

pub ofℕ_pos : {n : ℕ} → 0 < n → 0 < (ofℕ n).num
unfolding ofℕ
ofℕ_pos h = h

pub pos_ofℕ : {n : ℕ} → 0 < (ofℕ n).num → 0 < n
unfolding ofℕ
pos_ofℕ h = h

pub ⊗_pos : (x y : Ratio) → 0 < x.num → 0 < y.num → 0 < (x ⊗ y).num
unfolding ◌⊗◌
⊗_pos x y h k = mul-pos h k

-- what is at or above a positive fraction is positive
pub pos-≼ : {x y : Ratio} → x ≼ y → 0 < x.num → 0 < y.num
pos-≼ {x} {y} p h = go y.num p.le (mul-pos h y.den_pos)
  where
    go : (n : ℕ) → x.num * y.den ≤ n * x.den → 0 < x.num * y.den → 0 < n
    go zero l k = omega arith
    go (suc n) l k = zero-lt-suc n

-- the factors of a positive product are positive
pub pos_left : (x y : Ratio) → 0 < (x ⊗ y).num → 0 < x.num
unfolding ◌⊗◌
pos_left x y h = go x.num h
  where
    go : (n : ℕ) → 0 < n * y.num → 0 < n
    go zero k = omega arith
    go (suc n) k = zero-lt-suc n

pub pos_right : (x y : Ratio) → 0 < (x ⊗ y).num → 0 < y.num
pos_right x y h = pos_left y x (pos-≼ (≈_le (⊗_comm x y)) h)

-- a fraction with numerator 0 is 0
pub num_zero : (x : Ratio) → x.num ≡ 0 → x ≈ ofℕ 0
unfolding ofℕ
num_zero x e = record { eq = rw e (omega arith) }

pub zero_below : {x : Ratio} (y : Ratio) → x.num ≡ 0 → x ≼ y
zero_below y z = record { le = rw z (omega arith) }

pub zero_num : {x : Ratio} → x ≈ ofℕ 0 → x.num ≡ 0
unfolding ofℕ
zero_num e = omega (arith, e.eq)

-- every fraction is 0 or positive
pub zero_or_pos : (x : Ratio) → (x.num ≡ 0) ⊎ (0 < x.num)
zero_or_pos x = eq-zero-or-pos x.num

-- ---- what makes a fraction larger

pub ≼-⊕ : (x y : Ratio) → x ≼ x ⊕ y
unfolding ◌⊕◌
≼-⊕ x y = record { le = omega arith }

pub ≼-⊗ : (x : Ratio) {y : Ratio} → ofℕ 1 ≼ y → x ≼ x ⊗ y
≼-⊗ x h = ≼_trans (≈_ge (⊗_one_right x)) (⊗_mono (≼_refl x) h)

-- ---- differences

-- `x ⊖ y` is the least fraction that, y added, reaches x: it reaches x, ..
pub ⊖_le : (x y : Ratio) → x ≼ (x ⊖ y) ⊕ y
unfolding ◌⊕◌ ◌⊖◌
⊖_le x y = record { le = go x.num x.den y.num y.den }
  where
    go : (a b c d : ℕ) → a * (b * d * d) ≤ ((a * d - c * b) * d + c * (b * d)) * b
    go a b c d = let k : (a * d) * (b * d) ≤ (a * d - c * b + c * b) * (b * d) = mul-le-mul_right (b * d) (omega arith) in omega arith

-- .. and stays below every other that does
pub ⊖_adj : (x y z : Ratio) → x ≼ z ⊕ y → x ⊖ y ≼ z
unfolding ◌⊕◌ ◌⊖◌
⊖_adj x y z h = record {
  le = ⊎_elim (λ u. small x.num x.den y.num y.den z.num z.den u.le)
      (λ u. large x.num x.den y.num y.den z.num z.den u.le h.le) (≼_or x y);
}
  where
    small : (a b c d e f : ℕ) → a * d ≤ c * b → (a * d - c * b) * f ≤ e * (b * d)
    small a b c d e f u = let z : a * d - c * b ≡ 0 = omega arith in rw z (omega arith)

    large : (a b c d e f : ℕ) → c * b ≤ a * d → a * (f * d) ≤ (e * d + c * f) * b → (a * d - c * b) * f ≤ e * (b * d)
    large a b c d e f u p = let s : a * d - c * b + c * b ≡ a * d = omega arith in omega (arith, ap (λ t. t * f) s)

pub ⊖_mono : {x x' y y' : Ratio} → x ≼ x' → y' ≼ y → x ⊖ y ≼ x' ⊖ y'
⊖_mono {x} {x'} {y} {y'} p q = ⊖_adj x y (x' ⊖ y') (≼_trans p (≼_trans (⊖_le x' y') (⊕_mono (≼_refl _) q)))

pub ⊖_cong : {x x' y y' : Ratio} → x ≈ x' → y ≈ y' → x ⊖ y ≈ x' ⊖ y'
⊖_cong p q = ≼_antisym (⊖_mono (≈_le p) (≈_ge q)) (⊖_mono (≈_ge p) (≈_le q))

pub ⊖_cap : (x y : Ratio) → x ⊖ y ≼ x
⊖_cap x y = ⊖_adj x y x (≼-⊕ x y)

-- a difference that is not positive is 0, so below everything
pub ⊖_none : (x y z : Ratio) → x ≼ y → x ⊖ y ≼ z
⊖_none x y z h = ⊖_adj x y z (≼_trans h (≼_trans (≼-⊕ y z) (≈_le (⊕_comm y z))))

pub ⊖_nothing : {x y : Ratio} → x ≼ y → (x ⊖ y).num ≡ 0
unfolding ◌⊖◌
⊖_nothing h = omega (arith, h.le)

pub ⊖_zero : (x y : Ratio) → y.num ≡ 0 → x ⊖ y ≈ x
unfolding ◌⊖◌
⊖_zero x y z = record { eq = rw z (go x.num x.den y.den) }
  where
    go : (a b d : ℕ) → (a * d - 0 * b) * b ≡ a * (b * d)
    go a b d = let e : a * d - 0 * b ≡ a * d = omega arith in rw e (omega arith)

-- of two multiples of one number
pub ⊖_multiples : (m s : ℕ) (y : Ratio) → (ofℕ m ⊗ y) ⊖ (ofℕ s ⊗ y) ≈ ofℕ (m - s) ⊗ y
unfolding ◌⊗◌ ◌⊖◌ ofℕ
⊖_multiples m s y = record { eq = go y.num y.den }
  where
    go : (n d : ℕ) → (m * n * (1 * d) - s * n * (1 * d)) * (1 * d) ≡ (m - s) * n * (1 * d * (1 * d))
    go n d =
        let k : m * n * (1 * d) - s * n * (1 * d) ≡ n * (1 * d) * (m - s) = ap₂ ◌-◌ (order m) (order s) ∙ sym (mul-sub (n * (1 * d)) m s) in
        rw k (omega arith)
      where
        order : (c : ℕ) → c * n * (1 * d) ≡ n * (1 * d) * c
        order c = omega arith

-- where y is not above x, y added gives x back
pub ⊖_back : {x y : Ratio} → y ≼ x → (x ⊖ y) ⊕ y ≈ x
unfolding ◌⊕◌ ◌⊖◌
⊖_back {x} {y} h = ≼_antisym (record { le = go x.num x.den y.num y.den h.le }) (⊖_le x y)
  where
    go : (a b c d : ℕ) → c * b ≤ a * d → ((a * d - c * b) * d + c * (b * d)) * b ≤ a * (b * d * d)
    go a b c d u = let s : a * d - c * b + c * b ≡ a * d = omega arith in omega (arith, ap (λ t. t * (b * d)) s)
