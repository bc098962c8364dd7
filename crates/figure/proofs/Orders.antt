-- The order of two figures: of two with different powers, the one with the higher power is the larger. Assumes nothing.
use mathlib.Core.Path.{◌≡◌, refl, sym, ◌∙◌, ap, ap₂}
use mathlib.Core.Bool.{Bool, true, false, cond, true≢false}
use Prim.Native.Nat.{ℕ, suc, ◌+◌, ◌-◌, ◌*◌, ◌^◌, ◌<◌}
use native.Mathlib.Nat.{le_refl, le_of_lt, not-le_of_lt, lt_of_not-le, pow-succ', pos_of_ne-zero}
use native.Mathlib.Omega.{arith}
use lib.Dec.{ltb, leb}
use lib.IntN.{ℤ, pos, negsuc, ◌+ℤ◌}
use lib.Signed.{le_z}
use borrow.Author.Tests.{le-leb, lt-leb}
use lib.Signed.{◌<ℤ◌, clash_ℤ}
use Rattle.std.proofs.Common.{Ordering, Less, Equal, Greater}
use Rattle.std.specs.Ordering.{MatchOrdering, is_some_and, is_le, int_cmp, nat_cmp, partial_ordering_then}
use Rattle.std.specs.Cmp.{int_ranks, ranks}
use Rattle.std.specs.Prelude.{Some}
use Rattle.fraction.proofs.Ratio.{◌≼◌, ofℕ, ◌⊗◌, ≼_trans, zero_below}
use Rattle.fraction.proofs.PowersOfTen.{ten_to}
use Rattle.fraction.proofs.Signed.{at_most_signed}
use Rattle.fraction.specs.Fraction.{at_most}
use Rattle.figure.specs.declared.Figure.{Figure}
use Rattle.figure.specs.Rounding.{IsFigure}
use Rattle.figure.specs.Operations.{at_or_below}
use Rattle.figure.proofs.Scale.{not_zero, multiple_pos, multiple-≤, multiple-≼, higher-≼, Powers, same_power, lower, higher, powers}
use Rattle.figure.proofs.Value.{val, value_is}
use Rattle.figure.proofs.Figures.{digits_high, digits_low, zero_num}

-- ---- powers

le_self : (p : ℤ) → le_z p p ≡ true
le_self (pos a) = le-leb a a (le_refl a)
le_self (negsuc a) = le-leb a a (le_refl a)

le_raised : (p : ℤ) (k : ℕ) → le_z p (p +ℤ pos k) ≡ true
le_raised (pos a) k = le-leb a (a + k) (omega arith)
le_raised (negsuc a) k = go (ltb k (suc a))
  where
    go : (t : Bool) → le_z (negsuc a) (cond t (negsuc (suc a - suc k)) (pos (k - suc a))) ≡ true
    go true = le-leb (suc a - suc k) a (omega arith)
    go false = refl

-- a test of the order that failed, and one that held at different powers
pub above_strictly : (p q : ℤ) → le_z q p ≡ false → (k : ℕ) × (q ≡ p +ℤ pos (suc k))
above_strictly p q h = go (powers p q)
  where
    go : Powers p q → (k : ℕ) × (q ≡ p +ℤ pos (suc k))
    go (same_power r) = absurd (true≢false (sym (le_self q) ∙ ap (le_z q) (sym r) ∙ h))
    go (lower k r) = (k, r)
    go (higher k r) = absurd (true≢false (sym (le_raised q (suc k)) ∙ ap (le_z q) (sym r) ∙ h))

strictly_above : {p q : ℤ} → p <ℤ q → (k : ℕ) × (q ≡ p +ℤ pos (suc k))
strictly_above {p} {q} h = go (le_z q p) refl
  where
    go : (t : Bool) → le_z q p ≡ t → (k : ℕ) × (q ≡ p +ℤ pos (suc k))
    go true e = clash_ℤ h (record { le = rw e tt })
    go false e = above_strictly p q e

-- ---- figures of w + 1 digits, b with the higher power

module _ (w : ℕ) (a b : Figure) (ia : IsFigure (suc w) a) (ib : IsFigure (suc w) b) (nb : b.digits ≡ 0 → ⊥) (k : ℕ)
    (r : b.power ≡ a.power +ℤ pos (suc k)) where
  tenfold : ofℕ (10 * 10 ^ w) ⊗ ten_to a.power ≼ val b
  tenfold = rw r (higher-≼ (10 ^ w) b.digits a.power k (digits_low ib nb))

  small : a.digits < 10 * 10 ^ w
  small = rw (pow-succ' 10 w) at (digits_high ia)

  pub lower_value : val a ≼ val b
  lower_value = ≼_trans (multiple-≼ a.power (le_of_lt small)) tenfold

  pub higher_value : ¬ (val b ≼ val a)
  higher_value h = not-le_of_lt small (multiple-≤ (10 * 10 ^ w) a.digits a.power (≼_trans tenfold h))

-- ---- at or below

at_or_below_is : (a b : Figure) → at_or_below a b ≡ leb ((val a).num * (val b).den) ((val b).num * (val a).den)
unfolding at_or_below
at_or_below_is a b = ap₂ at_most (value_is a) (value_is b) ∙ at_most_signed (val a) (val b)

pub found_below : (a b : Figure) → val a ≼ val b → true ≡ at_or_below a b
found_below a b h = sym (at_or_below_is a b ∙ le-leb _ _ h.le)

pub found_above : (a b : Figure) → ¬ (val a ≼ val b) → false ≡ at_or_below a b
found_above a b n = sym (at_or_below_is a b ∙ lt-leb _ _ (lt_of_not-le (λ h. n (record { le = h }))))

module _ (a b : Figure) where
  pub first_zero : a.digits ≡ 0 → true ≡ at_or_below a b
  first_zero z = found_below a b (zero_below (val b) (zero_num a z))

  pub second_zero : (a.digits ≡ 0 → ⊥) → b.digits ≡ 0 → false ≡ at_or_below a b
  second_zero n z = found_above a b (λ h. not_zero (val a) b.power (multiple_pos a.digits a.power (pos_of_ne-zero n)) (rw z at h))

  -- two that are not zero: by their powers, and at one power by their digits
  pub two_whole : IsFigure 9 a → IsFigure 9 b → (a.digits ≡ 0 → ⊥) → (b.digits ≡ 0 → ⊥)
      → is_some_and is_le (partial_ordering_then (Some (int_cmp a.power b.power)) (Some (nat_cmp a.digits b.digits))) ≡ at_or_below a b
  two_whole ia ib na nb = go (int_cmp a.power b.power) (int_ranks a.power b.power) (nat_cmp a.digits b.digits) (ranks a.digits b.digits)
    where
      go : (p : Ordering) → MatchOrdering p (a.power <ℤ b.power) (a.power ≡ b.power) (b.power <ℤ a.power)
          → (d : Ordering) → MatchOrdering d (a.digits < b.digits) (a.digits ≡ b.digits) (b.digits < a.digits)
          → is_some_and is_le (partial_ordering_then (Some p) (Some d)) ≡ at_or_below a b
      go Less h d m = let (k, r) = strictly_above h in found_below a b (lower_value 8 a b ia ib nb k r)
      go Greater h d m = let (k, r) = strictly_above h in found_above a b (higher_value 8 b a ib ia na k r)
      go Equal e Less m = found_below a b (rw e (multiple-≼ b.power (le_of_lt m)))
      go Equal e Equal m = found_below a b (rw (e, m) (multiple-≼ b.power (le_refl b.digits)))
      go Equal e Greater m = found_above a b (λ h. not-le_of_lt m (multiple-≤ a.digits b.digits b.power (rw e at h)))
