-- One law for every operation, over the direction and the width: the digits of a quotient at a power, and whether something was left over,
-- settle the rounding. Assumes nothing.
use mathlib.Core.Path.{◌≡◌, refl, sym, ◌∙◌, ap₂}
use mathlib.Core.List.{[], ◌∷◌}
use mathlib.Core.Bool.{Bool, true, false, not}
use Prim.Native.Nat.{ℕ, suc, ◌+◌, ◌*◌, ◌/◌, ◌^◌, ◌≤◌, ◌<◌}
use native.Mathlib.Nat.{le_trans, div-mul-le_self, le-div_iff_mul-le, div-lt_iff_lt-mul, lt-div-mul-add, pow-succ', le_of_lt, lt_irrefl, mul-pos, zero-lt-suc, le_antisymm, mul-le-mul_right}
use native.Mathlib.Omega.{arith, by_contra, patom}
use lib.Dec.{eqb, ltb}
use lib.IntN.{ℤ, pos, ◌+ℤ◌}
use borrow.Author.Tests.{eqb-true, eqb-false, ltb-true, ltb-false}
use Rattle.fraction.proofs.Ratio.{Ratio, ◌≼◌, ◌≈◌, ofℕ, ◌⊗◌, ≼_refl, ≼_trans, ≈_refl, ≈_sym, ≈_trans, ≈_le, ≈_ge, ⊗_mono, ⊗_cong, ⊗_comm, ⊗_assoc, ⊗_cancel, ofℕ-⊗}
use Rattle.fraction.proofs.Certificate.{◌*'◌, same_value}
use Rattle.fraction.proofs.PowersOfTen.{ten_to, ten-+, ten_nat}
use Rattle.fraction.proofs.Signed.{signed}
use Rattle.figure.specs.declared.Figure.{Figure}
use Rattle.figure.specs.declared.Direction.{Direction}
use Rattle.figure.specs.declared.Direction.TheVariants.{Down as downward, Up as upward}
use Rattle.figure.specs.Rounding.{figure, up, down}
use Rattle.figure.specs.Internal.Steps.{rounded, part, shorter, carry, directed, trimmed}
use Rattle.figure.proofs.Scale.{multiple-≤, multiple-≼}
use Rattle.figure.proofs.Value.{low_end}
use Rattle.figure.proofs.Up as Up
use Rattle.figure.proofs.Down as Down
use Rattle.figure.proofs.Parts.{shorter_part, carry_short}

-- x is n / t times 10^e
pub record Over (x : Ratio) (n t : ℕ) (e : ℤ) : Type 0 where
  pub is : x ⊗ ofℕ t ≈ ofℕ n ⊗ ten_to e

-- the same with k zeros more below, and the power so much higher
pub over_lift : {x : Ratio} {n t : ℕ} {e : ℤ} (k : ℕ) → Over x n t e → Over x n (t * 10 ^ k) (e +ℤ pos k)
over_lift {x} {n} {t} {e} k o = record {
  is =
      ≈_trans (⊗_cong (≈_refl x) (ofℕ-⊗ t (10 ^ k))) (≈_trans (≈_sym (⊗_assoc x (ofℕ t) (ofℕ (10 ^ k)))) (≈_trans (⊗_cong o.is (≈_refl _))
      (≈_trans (⊗_assoc (ofℕ n) (ten_to e) (ofℕ (10 ^ k))) (⊗_cong (≈_refl _) (≈_sym (≈_trans (ten-+ e (pos k)) (⊗_cong (≈_refl _) (ten_nat k))))))));
}

-- ---- multiples of 10^e against x, as multiples of t against n

module _ {x : Ratio} {n t : ℕ} {e : ℤ} (ht : 0 < t) (o : Over x n t e) where
  scaled : (c : ℕ) → ofℕ t ⊗ (ofℕ c ⊗ ten_to e) ≈ ofℕ (c * t) ⊗ ten_to e
  scaled c = ≈_trans (same_value (ofℕ t ∷ ofℕ c ∷ ten_to e ∷ []) (patom 0 *' (patom 1 *' patom 2)) (patom 1 *' patom 0 *' patom 2) tt tt)
      (⊗_cong (≈_sym (ofℕ-⊗ c t)) (≈_refl _))

  times_t : ofℕ t ⊗ x ≈ ofℕ n ⊗ ten_to e
  times_t = ≈_trans (⊗_comm _ _) o.is

  some_t : 0 < (ofℕ t).num
  unfolding ofℕ
  some_t = ht

  pub below : (c : ℕ) → c * t ≤ n → ofℕ c ⊗ ten_to e ≼ x
  below c h = ⊗_cancel (ofℕ t) some_t (≼_trans (≈_le (scaled c)) (≼_trans (multiple-≼ e h) (≈_ge times_t)))

  pub from_below : (c : ℕ) → ofℕ c ⊗ ten_to e ≼ x → c * t ≤ n
  from_below c h = multiple-≤ (c * t) n e (≼_trans (≈_ge (scaled c)) (≼_trans (⊗_mono (≼_refl _) h) (≈_le times_t)))

  pub above : (c : ℕ) → n ≤ c * t → x ≼ ofℕ c ⊗ ten_to e
  above c h = ⊗_cancel (ofℕ t) some_t (≼_trans (≈_le times_t) (≼_trans (multiple-≼ e h) (≈_ge (scaled c))))

  pub from_above : (c : ℕ) → x ≼ ofℕ c ⊗ ten_to e → n ≤ c * t
  from_above c h = multiple-≤ n (c * t) e (≼_trans (≈_ge times_t) (≼_trans (⊗_mono (≼_refl _) h) (≈_le (scaled c))))

-- ---- the law

carry_is : (w d : ℕ) (e : ℤ) → carry (suc w) d e ≡ Up.carried w d e
unfolding carry
carry_is w d e = ap₂ {C = Figure} (λ L l. elim (eqb d L) as (λ _. Figure) [ true ↦ figure l (e +ℤ pos 1) | false ↦ figure d e ]) (pow-succ' 10 w) (low_end w)

module _ (w : ℕ) {x : Ratio} {n t : ℕ} {e : ℤ} (ht : 0 < t) (o : Over x n t e) (low : 10 ^ w * t ≤ n) (high : n < 10 * 10 ^ w * t) where
  big : 10 ^ w ≤ n / t
  big = (le-div_iff_mul-le ht).1 low

  small : n / t < 10 * 10 ^ w
  small = (div-lt_iff_lt-mul ht).1 high

  going_down : figure (n / t) e ≡ down (suc w) (signed x)
  going_down = Down.round_down w x (n / t) e big small (below ht o (n / t) (div-mul-le_self n t)) (λ c h. (le-div_iff_mul-le ht).1 (from_below ht o c h))

  low_reach : ofℕ (10 ^ w) ⊗ ten_to e ≼ x
  low_reach = below ht o (10 ^ w) low

  up_more : (n / t * t ≡ n → ⊥) → carry (suc w) (n / t + 1) e ≡ up (suc w) (signed x)
  up_more z = carry_is w (n / t + 1) e ∙ Up.round_up w x (n / t + 1) e low_reach (above ht o (n / t + 1) (omega (arith, lt-div-mul-add {a = n} ht)))
      (λ c h. by_contra (n / t + 1) c (λ l. z (le_antisymm (div-mul-le_self n t) (le_trans (from_above ht o c h) (mul-le-mul_right t (le_pred l))))))
      (omega (arith, small))
    where
      le_pred : {c : ℕ} → c < n / t + 1 → c ≤ n / t
      le_pred l = omega arith

  up_exact : n / t * t ≡ n → figure (n / t) e ≡ up (suc w) (signed x)
  up_exact z =
      sym (carry_short (suc w) (n / t) e (λ p. lt_irrefl (n / t) (omega (arith, small, p, pow-succ' 10 w)))) ∙ carry_is w (n / t) e
      ∙ Up.round_up w x (n / t) e low_reach (above ht o (n / t) (omega (arith, z)))
      (λ c h. le_of_mul (le_trans (div-mul-le_self n t) (from_above ht o c h))) (le_of_lt small)
    where
      le_of_mul : {c : ℕ} → n / t * t ≤ c * t → n / t ≤ c
      le_of_mul h = native.Mathlib.Nat.le_of_mul-le-mul_right h ht

  pub rounded_part : (to : Direction) → directed to (suc w) (part n t) e ≡ rounded to (suc w) (signed x)
  unfolding directed part
  rounded_part downward = going_down
  rounded_part upward = go (eqb (n / t * t) n) (eqb-true (n / t * t) n) (eqb-false (n / t * t) n)
    where
      go : (b : Bool) → (b ≡ true → n / t * t ≡ n) → (b ≡ false → n / t * t ≡ n → ⊥)
          → elim (not b) as (λ _. Figure) [ true ↦ carry (suc w) (n / t + 1) e | false ↦ figure (n / t) e ] ≡ up (suc w) (signed x)
      go true p q = up_exact (p refl)
      go false p q = up_more (q refl)

-- where there may be one digit more than the width has, one more division finds the rounding
pub rounded_trimmed : (w : ℕ) {x : Ratio} {n t : ℕ} {e : ℤ} → 0 < t → Over x n t e → 10 ^ w * t ≤ n → n < 10 * (10 * 10 ^ w * t) → (to : Direction)
    → trimmed to (suc w) (part n t) e ≡ rounded to (suc w) (signed x)
unfolding trimmed part
rounded_trimmed w {x} {n} {t} {e} ht o low high to = go (ltb whole (10 ^ suc w)) (ltb-true whole (10 ^ suc w)) (ltb-false whole (10 ^ suc w))
  where
    whole : ℕ
    whole = n / t

    fits : whole < 10 ^ suc w → n < 10 * 10 ^ w * t
    fits h = (div-lt_iff_lt-mul ht).0 (rw (pow-succ' 10 w) at h)

    long : 10 ^ suc w ≤ whole → 10 ^ w * (t * 10) ≤ n
    long h = let k : 10 * 10 ^ w * t ≤ n = (le-div_iff_mul-le ht).0 (rw (pow-succ' 10 w) at h) in omega (arith, k)

    go : (b : Bool) → (b ≡ true → whole < 10 ^ suc w) → (b ≡ false → 10 ^ suc w ≤ whole)
        → elim b as (λ _. Figure) [ true ↦ directed to (suc w) (part n t) e | false ↦ directed to (suc w) (shorter (part n t) 10) (e +ℤ pos 1) ]
        ≡ rounded to (suc w) (signed x)
    go true p q = rounded_part w ht o low (fits (p refl)) to
    go false p q = rw (shorter_part n t 10 ht (zero-lt-suc 9))
        (rounded_part w (mul-pos ht (zero-lt-suc 9)) (over_lift 1 o) (long (q refl)) (omega (arith, high)) to)
