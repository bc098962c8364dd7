-- The error of roundings up, as a factor. `Within F x̂ x`: x̂ is x, or above it by at most the factor F. `grow L n` is ((L + 2) / (L + 1))^n,
-- what n roundings up cost at one part in L + 1 each. Factors multiply over products and quotients and do not grow over sums.
use mathlib.Core.Path.{◌≡◌, refl, ◌∙◌, ap}
use mathlib.Core.List.{[], ◌∷◌}
use Prim.Native.Nat.{ℕ, zero, suc, ◌+◌, ◌*◌, ◌-◌, ◌^◌, ◌≤◌, ◌<◌}
use native.Mathlib.Nat.{one-le-pow, pow-suc, pow-zero, pow-succ', pow-le-pow_left, mul-le-mul_left, mul-le-mul_right, zero-lt-suc}
use native.Mathlib.Omega.{arith, patom, plit}
use lib.Pow.{pow-add}
use lib.Dec.{lit≤, lit<}
use Rattle.fraction.proofs.Ratio.{Ratio, ◌≼◌, ◌≈◌, ofℕ, ◌⊕◌, ◌⊗◌, ≼_refl, ≼_trans, ≈_le, ≈_ge, ⊕_mono, ⊗_mono, ⊗_assoc, ⊗_one_right, ⊗_cancel, ≼-⊗}
use Rattle.fraction.proofs.Certificate.{◌+'◌, ◌*'◌, prove, same_value, hyp}
use Rattle.fraction.proofs.Inverse.{inv, inv_is, inv-≼}

pub record Within (F x̂ x : Ratio) : Type 0 where
  pub low : x ≼ x̂
  pub high : x̂ ≼ x ⊗ F

-- ---- the factor of n roundings

unfoldable pub grow : ℕ → ℕ → Ratio
grow L n = record { num = (suc L + 1) ^ n; den = suc L ^ n; den_pos = one-le-pow n (suc L) (zero-lt-suc L) }

pub grow-+ : (L m n : ℕ) → grow L (m + n) ≈ grow L m ⊗ grow L n
unfolding grow ◌⊗◌
grow-+ L m n = record { eq = rw (pow-add (suc L + 1) m n, pow-add (suc L) m n) refl }

pub grow_zero : (L : ℕ) → grow L 0 ≈ ofℕ 1
unfolding grow ofℕ
grow_zero L = record { eq = simp pow-zero }

pub one-≼_grow : (L n : ℕ) → ofℕ 1 ≼ grow L n
unfolding grow ofℕ
one-≼_grow L n = record { le = omega (arith, pow-le-pow_left {n = suc L} {m = suc L + 1} (omega arith) n) }

pub grow-≤ : (L m n : ℕ) → m ≤ n → grow L m ≼ grow L n
grow-≤ L m n h = let e : m + (n - m) ≡ n = omega arith in ≼_trans (≼-⊗ (grow L m) (one-≼_grow L (n - m))) (rw e at (≈_ge (grow-+ L m (n - m))))

-- ---- errors through the operations

pub within_refl : (x : Ratio) → Within (ofℕ 1) x x
within_refl x = record { low = ≼_refl x; high = ≈_ge (⊗_one_right x) }

-- a larger factor
pub within-≼ : {F G x̂ x : Ratio} → F ≼ G → Within F x̂ x → Within G x̂ x
within-≼ h p = record { low = p.low; high = ≼_trans p.high (⊗_mono (≼_refl _) h) }

-- equal values
pub within-≈ : {F y x y' x' : Ratio} → y ≈ y' → x ≈ x' → Within F y x → Within F y' x'
within-≈ d e p = record {
  low = ≼_trans (≈_ge e) (≼_trans p.low (≈_le d));
  high = ≼_trans (≈_ge d) (≼_trans p.high (⊗_mono (≈_le e) (≼_refl _)));
}

pub within_trans : {F G x ŷ y : Ratio} → Within F x ŷ → Within G ŷ y → Within (G ⊗ F) x y
within_trans {F} {G} {y = y} p q = record {
  low = ≼_trans q.low p.low;
  high = ≼_trans p.high (≼_trans (⊗_mono q.high (≼_refl F)) (≈_le (⊗_assoc y G F)));
}

pub within-⊗ : {F G x̂ x ŷ y : Ratio} → Within F x̂ x → Within G ŷ y → Within (F ⊗ G) (x̂ ⊗ ŷ) (x ⊗ y)
within-⊗ {F} {G} {x = x} {y = y} p q = record { low = ⊗_mono p.low q.low; high = ≼_trans (⊗_mono p.high q.high) (≈_le reorder) }
  where
    reorder : (x ⊗ F) ⊗ (y ⊗ G) ≈ (x ⊗ y) ⊗ (F ⊗ G)
    reorder = same_value (x ∷ F ∷ y ∷ G ∷ []) (patom 0 *' patom 1 *' (patom 2 *' patom 3)) (patom 0 *' patom 2 *' (patom 1 *' patom 3)) tt tt

pub within-⊕ : {F x̂ x ŷ y : Ratio} → Within F x̂ x → Within F ŷ y → Within F (x̂ ⊕ ŷ) (x ⊕ y)
within-⊕ {F} {x = x} {y = y} p q = record { low = ⊕_mono p.low q.low; high = ≼_trans (⊕_mono p.high q.high) (≈_le factor) }
  where
    factor : x ⊗ F ⊕ y ⊗ F ≈ (x ⊕ y) ⊗ F
    factor = same_value (x ∷ F ∷ y ∷ []) (patom 0 *' patom 1 +' patom 2 *' patom 1) ((patom 0 +' patom 2) *' patom 1) tt tt

-- a divisor that errs downward makes a quotient err upward: by the same factor
pub within_inv : {G ŷ y : Ratio} → 0 < ŷ.num → 0 < y.num → Within G y ŷ → Within G (inv ŷ) (inv y)
within_inv {G} {ŷ} {y} h k p = record {
  low = inv-≼ p.low h;
  high = ⊗_cancel y k (prove (ŷ ∷ y ∷ inv ŷ ∷ inv y ∷ G ∷ [])
      (hyp (patom 2) (patom 1) (patom 0 *' patom 4) ∷ hyp (patom 4) (patom 0 *' patom 2) (plit 1) ∷ hyp (patom 4) (plit 1) (patom 1 *' patom 3) ∷ [])
      (patom 1 *' patom 2) (patom 1 *' (patom 3 *' patom 4)) tt p.high (≈_le (inv_is ŷ h)) (≈_ge (inv_is y k)));
}

-- ---- a rounding: r is at or above x̂, by at most one part in L + 1

pow_one : (n : ℕ) → n ^ 1 ≡ n
pow_one n = pow-suc n 0 ∙ simp pow-zero (omega arith)

part : (x : Ratio) (L : ℕ) → ofℕ (suc L + 1) ⊗ x ≼ ofℕ (suc L) ⊗ (x ⊗ grow L 1)
unfolding ofℕ ◌⊗◌ grow
part x L = record { le = rw (pow_one (suc L + 1), pow_one (suc L)) (omega arith) }

pub within_round : {x r : Ratio} (L : ℕ) → x ≼ r → ofℕ (suc L) ⊗ r ≼ ofℕ (suc L + 1) ⊗ x → Within (grow L 1) r x
within_round {x} L l h = record { low = l; high = ⊗_cancel (ofℕ (suc L)) (unfold ofℕ in zero-lt-suc L) (≼_trans h (part x L)) }

-- ---- how much n roundings cost

-- Bernoulli's inequality: (1 + 1 / L)^n is at most L / (L - n)
bernoulli : (L n : ℕ) → n ≤ L → (L + 1) ^ n * (L - n) ≤ L ^ n * L
bernoulli L zero h = simp pow-zero (omega arith)
bernoulli L (suc n) h =
    let ih : (L + 1) ^ n * (L - n) ≤ L ^ n * L = bernoulli L n (omega arith) in
    let s : (L + 1) * (L - suc n) ≤ (L - n) * L = one (L - suc n) (L - n) (omega arith) (omega arith) in
    rw (pow-succ' (L + 1) n, pow-succ' L n) (omega (arith, mul-le-mul_left ((L + 1) ^ n) s, mul-le-mul_right L ih))
  where
    one : (a b : ℕ) → b ≡ a + 1 → b ≤ L → (L + 1) * a ≤ b * L
    one a b e k = rw e (omega arith)

pub grow_bound : (L n k : ℕ) → k + n ≡ suc L → ofℕ k ⊗ grow L n ≼ ofℕ (suc L)
unfolding ofℕ ◌⊗◌ grow
grow_bound L n k e = record { le = let d : suc L - n ≡ k = omega arith in omega (arith, rw d at (bernoulli (suc L) n (omega arith))) }

-- one part in 100,000,000: what rounding to nine digits loses at most
unfoldable pub ε : Ratio
ε = record { num = 1; den = 100000000; den_pos = zero-lt-suc 99999999 }

pub ε_is : ofℕ 100000000 ⊗ ε ≈ ofℕ 1
unfolding ofℕ ◌⊗◌ ε
ε_is = record { eq = refl }

-- n roundings to nine digits cost at most n + 1 such parts, for n up to 9,998
pub grow_linear : (n : ℕ) → n ≤ 9998 → grow 99999998 n ≼ ofℕ 1 ⊕ ofℕ (n + 1) ⊗ ε
grow_linear n h = ⊗_cancel (ofℕ (99999999 - n)) (unfold ofℕ in omega arith) (≼_trans (grow_bound 99999998 n (99999999 - n) (omega arith)) (last n h))
  where
    last : (n : ℕ) → n ≤ 9998 → ofℕ 99999999 ≼ ofℕ (99999999 - n) ⊗ (ofℕ 1 ⊕ ofℕ (n + 1) ⊗ ε)
    last n h = unfold ofℕ ◌⊗◌ ◌⊕◌ ε in record {
      le = let s : (99999999 - n) + n ≡ 99999999 = omega arith in omega (arith, ap (λ t. t * n) s, mul-le-mul_right n h);
    }

-- 500 roundings to nine digits and 1,000,002 to eighteen cost, together, at most one part in 100,000
pub enough : ofℕ 100000 ⊗ (grow 99999998 500 ⊗ grow 99999999999999999 1000002) ≼ ofℕ 100001
enough = ⊗_cancel (ofℕ 99999499 ⊗ ofℕ 99999999998999998) (unfold ofℕ ◌⊗◌ in lit< tt)
    (prove (ofℕ 99999499 ∷ ofℕ 99999999998999998 ∷ grow 99999998 500 ∷ grow 99999999999999999 1000002 ∷ [])
    (hyp (plit 100000 *' (patom 1 *' patom 3)) (patom 0 *' patom 2) (plit 99999999)
    ∷ hyp (plit 9999999900000) (patom 1 *' patom 3) (plit 100000000000000000)
    ∷ hyp (plit 1) (plit 999999990000000000000000000000) (patom 0 *' patom 1 *' plit 100001)
    ∷ [])
    (patom 0 *' patom 1 *' (plit 100000 *' (patom 2 *' patom 3))) (patom 0 *' patom 1 *' plit 100001) tt
    (grow_bound 99999998 500 99999499 refl) (grow_bound 99999999999999999 1000002 99999999998999998 refl)
    (unfold ofℕ ◌⊗◌ in record { le = lit≤ tt }))
