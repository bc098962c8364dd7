-- Powers as 32-bit numbers: a sum or a difference of two that are not large is stored and read back unchanged. `mag z` is n for n and for
-- -(n + 1). Assumes nothing.
use mathlib.Core.Path.{◌≡◌, ◌∙◌, ap, ap₂}
use mathlib.Core.Bool.{Bool, true, false, not, cond, true≢false}
use Prim.Native.Nat.{ℕ, zero, suc, suc-le-suc, ◌+◌, ◌-◌, ◌≤◌}
use native.Mathlib.Nat.{le_trans, le_of_lt}
use native.Mathlib.Omega.{arith}
use lib.Arith.{le→nltb}
use lib.Dec.{T, ltb, leb→le, le→leb, lit≤}
use lib.IntN.{ℤ, pos, negsuc, neg_ℤ, nat_abs, sub_ℕ, ◌+ℤ◌, ◌-ℤ◌}
use lib.Signed.{mag, le_z, non_neg, ◌≤ℤ◌, pos-nat_abs}
use mir.Facts.{to_z-of_z, Fits-nat_abs}
use mir.Syntax.{w32, w64}
use mir.Val.{SFits, Fits, to_z, of_z}
use borrow.Author.Rules.{sfits_of}
use borrow.Author.Tests.{leb-false}

-- ---- how large a sum and a difference can be

mag_sub : (a b : ℕ) → mag (sub_ℕ a b) ≤ a + b
mag_sub a b = go (ltb a b)
  where
    go : (t : Bool) → mag (cond t (negsuc (b - suc a)) (pos (a - b))) ≤ a + b
    go true = omega arith
    go false = omega arith

pub mag_sum : (p q : ℤ) → mag (p +ℤ q) ≤ mag p + mag q + 1
mag_sum (pos a) (pos b) = omega arith
mag_sum (pos a) (negsuc b) = omega (arith, mag_sub a (suc b))
mag_sum (negsuc a) (pos b) = omega (arith, mag_sub b (suc a))
mag_sum (negsuc a) (negsuc b) = omega arith

pub mag_negative : (q : ℤ) → mag (neg_ℤ q) ≤ mag q + 1
mag_negative (pos zero) = omega arith
mag_negative (pos (suc n)) = omega arith
mag_negative (negsuc n) = omega arith

pub mag_difference : (p q : ℤ) → mag (p -ℤ q) ≤ mag p + mag q + 2
mag_difference p q = omega (arith, mag_sum p (neg_ℤ q), mag_negative q)

-- ---- stored in 32 bits and read back

abbrev pub stored : ℤ → ℤ
stored z = to_z w32 (of_z w32 z)

pub small : (z : ℤ) → mag z ≤ 2000000002 → SFits w32 z
small z h = sfits_of (le_trans (suc-le-suc h) (lit≤ tt))

pub kept : (z : ℤ) → mag z ≤ 2000000002 → stored z ≡ z
kept z h = to_z-of_z (small z h)

-- an operation whose result is not much larger than its operands
abbrev pub Near : (ℤ → ℤ → ℤ) → Type 0
Near op = (p q : ℤ) → mag (op p q) ≤ mag p + mag q + 2

pub sum_near : Near ◌+ℤ◌
sum_near p q = omega (arith, mag_sum p q)

module _ (op : ℤ → ℤ → ℤ) (near : Near op) (p q : ℤ) (hp : mag p ≤ 1000000000) (hq : mag q ≤ 1000000000) where
  as_read : op (stored p) (stored q) ≡ op p q
  as_read = ap₂ op (kept p (omega arith)) (kept q (omega arith))

  pub both_small : mag (op p q) ≤ 2000000002
  both_small = omega (arith, near p q)

  pub both_fit : SFits w32 (op (stored p) (stored q))
  both_fit = rw as_read (small (op p q) both_small)

  pub both_kept : stored (op (stored p) (stored q)) ≡ op p q
  both_kept = ap stored as_read ∙ kept (op p q) both_small

pub read_sum : (p q : ℤ) {s : ℤ} → mag p ≤ 1000000000 → mag q ≤ 1000000000 → s ≡ stored p +ℤ stored q → s ≡ p +ℤ q
read_sum p q h k e = e ∙ as_read ◌+ℤ◌ sum_near p q h k

pub read_difference : (p q : ℤ) {s : ℤ} → mag p ≤ 1000000000 → mag q ≤ 1000000000 → s ≡ stored p -ℤ stored q → s ≡ p -ℤ q
read_difference p q h k e = e ∙ as_read ◌-ℤ◌ mag_difference p q h k

-- ---- a difference that is not negative

not_below : (t : Bool) (x y : ℕ) → T (not t) → T (non_neg (cond t (negsuc x) (pos y)))
not_below true x y h = absurd h
not_below false x y h = tt

pub difference_nonneg : (a b : ℤ) → T (le_z b a) → T (non_neg (a -ℤ b))
difference_nonneg (pos a) (pos zero) h = tt
difference_nonneg (pos a) (pos (suc b)) h = not_below (ltb a (suc b)) (suc b - suc a) (a - suc b) (le→nltb a (suc b) (leb→le (suc b) a h))
difference_nonneg (pos a) (negsuc b) h = tt
difference_nonneg (negsuc a) (pos b) h = absurd h
difference_nonneg (negsuc a) (negsuc b) h =
    not_below (ltb (suc b) (suc a)) (suc a - suc (suc b)) (suc b - suc a) (le→nltb (suc b) (suc a) (suc-le-suc (leb→le a b h)))

module _ {p q : ℤ} (h : q ≤ℤ p) where
  -- how far p stands above q, as a whole number
  pub gap_pos : pos (nat_abs (p -ℤ q)) ≡ p -ℤ q
  gap_pos = pos-nat_abs (p -ℤ q) (difference_nonneg p q h.le)

  module _ (hp : mag p ≤ 1000000000) (hq : mag q ≤ 1000000000) where
    difference_kept : stored (stored p -ℤ stored q) ≡ p -ℤ q
    difference_kept = both_kept ◌-ℤ◌ mag_difference p q hp hq

    pub gap_fits : T (non_neg (stored (stored p -ℤ stored q))) × Fits w64 (nat_abs (stored (stored p -ℤ stored q)))
    gap_fits = rw difference_kept (difference_nonneg p q h.le, Fits-nat_abs tt (small (p -ℤ q) (omega (arith, mag_difference p q))))

    pub gap_is : pos (nat_abs (stored (stored p -ℤ stored q))) ≡ p -ℤ q
    gap_is = pos-nat_abs _ gap_fits.0 ∙ difference_kept

-- ---- a test of the order of two powers

pub turned : (p q : ℤ) → le_z q p ≡ false → T (le_z p q)
turned (pos a) (pos b) h = le→leb a b (le_of_lt (leb-false b a h))
turned (pos a) (negsuc b) h = absurd (true≢false h)
turned (negsuc a) (pos b) h = tt
turned (negsuc a) (negsuc b) h = le→leb b a (le_of_lt (leb-false a b h))

module _ (p q : ℤ) (hp : mag p ≤ 1000000000) (hq : mag q ≤ 1000000000) where
  pub read_test : le_z (stored q) (stored p) ≡ le_z q p
  read_test = ap₂ le_z (kept q (omega arith)) (kept p (omega arith))
