-- Quotients of natural fractions: `m over n`, and one over a fraction. Dividing by 0 gives 0, as in `specs/Fraction`; a law asks for a positive
-- divisor only where it would fail without one.
use mathlib.Core.Path.{◌≡◌, refl, ap}
use mathlib.Core.List.{[], ◌∷◌}
use mathlib.Core.Logic.{⊎_elim}
use Prim.Native.Nat.{ℕ, zero, suc, ◌<◌}
use native.Mathlib.Nat.{zero-lt-suc, lt_irrefl}
use native.Mathlib.Omega.{arith, patom, plit}
use Rattle.fraction.proofs.Ratio.{Ratio, ◌≼◌, ◌≈◌, ofℕ, ◌⊗◌, ≼_antisym, ≈_refl, ≈_sym, ≈_trans, ≈_le, ≈_ge, ⊗_cong}
use Rattle.fraction.proofs.Ratio.{⊗_comm, ⊗_one, ⊗_zero, ⊗_cancel, ⊗_pos, num_zero, zero_num, zero_or_pos, pos-≼}
use Rattle.fraction.proofs.Certificate.{◌*'◌, prove, same_value, hyp}

infix 75 ◌over◌
-- the fraction m / n, or 0 where n is 0
unfoldable pub ◌over◌ : ℕ → ℕ → Ratio
m over zero = ofℕ 0
m over suc n = record { num = m; den = suc n; den_pos = zero-lt-suc n }

-- one over a fraction, or 0 where it is 0
unfoldable pub inv : Ratio → Ratio
inv y = y.den over y.num

-- ---- what they are

pub over_is : (m n : ℕ) → 0 < n → ofℕ n ⊗ (m over n) ≈ ofℕ m
unfolding ◌over◌ ofℕ ◌⊗◌
over_is m zero h = absurd (lt_irrefl 0 h)
over_is m (suc n) h = record { eq = omega arith }

pub over_pos : (m n : ℕ) → 0 < m → 0 < n → 0 < (m over n).num
unfolding ◌over◌
over_pos m zero h k = absurd (lt_irrefl 0 k)
over_pos m (suc n) h k = h

pub inv_is : (y : Ratio) → 0 < y.num → y ⊗ inv y ≈ ofℕ 1
unfolding inv ◌over◌ ofℕ ◌⊗◌
inv_is y h = go y.num refl h
  where
    go : (k : ℕ) → y.num ≡ k → 0 < k → y ⊗ (y.den over k) ≈ ofℕ 1
    go zero e p = absurd (lt_irrefl 0 p)
    go (suc k) e p = record { eq = rw e (omega arith) }

pub inv_none : (y : Ratio) → y.num ≡ 0 → inv y ≡ ofℕ 0
unfolding inv ◌over◌
inv_none y e = ap (λ n. y.den over n) e

pub inv_pos : (y : Ratio) → 0 < y.num → 0 < (inv y).num
unfolding inv
inv_pos y h = over_pos y.den y.num y.den_pos h

-- one over a whole number
pub inv_ofℕ : (n : ℕ) → inv (ofℕ n) ≡ 1 over n
unfolding inv ofℕ
inv_ofℕ n = refl

-- ---- one over a fraction is the only one that gives 1 with it; hence the laws of quotients

pub inv_unique : (y z : Ratio) → 0 < y.num → y ⊗ z ≈ ofℕ 1 → z ≈ inv y
inv_unique y z h e = ≼_antisym (⊗_cancel y h (≈_le same)) (⊗_cancel y h (≈_ge same))
  where
    same : y ⊗ z ≈ y ⊗ inv y
    same = ≈_trans e (≈_sym (inv_is y h))

pub inv_cong : {x y : Ratio} → x ≈ y → inv x ≈ inv y
inv_cong {x} {y} e = ⊎_elim none some (zero_or_pos x)
  where
    none : x.num ≡ 0 → inv x ≈ inv y
    none h = rw (inv_none x h, inv_none y (zero_num (≈_trans (≈_sym e) (num_zero x h)))) (≈_refl _)

    some : 0 < x.num → inv x ≈ inv y
    some h = inv_unique y (inv x) (pos-≼ (≈_le e) h) (≈_trans (⊗_cong (≈_sym e) (≈_refl _)) (inv_is x h))

pub inv-⊗ : (x y : Ratio) → inv (x ⊗ y) ≈ inv x ⊗ inv y
inv-⊗ x y = ⊎_elim none_x (λ h. ⊎_elim none_y (some h) (zero_or_pos y)) (zero_or_pos x)
  where
    none_x : x.num ≡ 0 → inv (x ⊗ y) ≈ inv x ⊗ inv y
    none_x h = rw (inv_none x h, inv_none (x ⊗ y) (zero_num none)) (≈_sym (⊗_zero _))
      where
        none : x ⊗ y ≈ ofℕ 0
        none = ≈_trans (⊗_cong (num_zero x h) (≈_refl y)) (⊗_zero y)

    none_y : y.num ≡ 0 → inv (x ⊗ y) ≈ inv x ⊗ inv y
    none_y h = rw (inv_none y h, inv_none (x ⊗ y) (zero_num none)) (≈_sym (≈_trans (⊗_comm _ _) (⊗_zero _)))
      where
        none : x ⊗ y ≈ ofℕ 0
        none = ≈_trans (⊗_comm x y) (≈_trans (⊗_cong (num_zero y h) (≈_refl x)) (⊗_zero x))

    some : 0 < x.num → 0 < y.num → inv (x ⊗ y) ≈ inv x ⊗ inv y
    some h k = ≈_sym (inv_unique (x ⊗ y) (inv x ⊗ inv y) (⊗_pos x y h k)
        (≈_trans (same_value (x ∷ y ∷ inv x ∷ inv y ∷ []) (patom 0 *' patom 1 *' (patom 2 *' patom 3)) (patom 0 *' patom 2 *' (patom 1 *' patom 3)) tt tt)
        (≈_trans (⊗_cong (inv_is x h) (inv_is y k)) (⊗_one (ofℕ 1)))))

pub inv_inv : (x : Ratio) → inv (inv x) ≈ x
inv_inv x = ⊎_elim none some (zero_or_pos x)
  where
    none : x.num ≡ 0 → inv (inv x) ≈ x
    none h = rw (inv_none x h, inv_none (ofℕ 0) (unfold ofℕ in refl)) (≈_sym (num_zero x h))

    some : 0 < x.num → inv (inv x) ≈ x
    some h = ≈_sym (inv_unique (inv x) x (inv_pos x h) (≈_trans (⊗_comm _ _) (inv_is x h)))

-- m / n is m times one over n
pub over-≈ : (m n : ℕ) → m over n ≈ ofℕ m ⊗ inv (ofℕ n)
unfolding ◌over◌ ofℕ ◌⊗◌ inv
over-≈ m zero = record { eq = omega arith }
over-≈ m (suc n) = record { eq = omega arith }

-- the larger divisor gives the smaller quotient
pub inv-≼ : {x y : Ratio} → x ≼ y → 0 < x.num → inv y ≼ inv x
inv-≼ {x} {y} p h = ⊗_cancel x h (prove (x ∷ y ∷ inv x ∷ inv y ∷ [])
    (hyp (patom 3) (patom 0) (patom 1) ∷ hyp (plit 1) (patom 1 *' patom 3) (plit 1) ∷ hyp (plit 1) (plit 1) (patom 0 *' patom 2) ∷ [])
    (patom 0 *' patom 3) (patom 0 *' patom 2) tt p (≈_le (inv_is y (pos-≼ p h))) (≈_ge (inv_is x h)))
