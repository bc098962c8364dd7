-- Figures that err upward, by a factor. Assumes nothing.
use Prim.Native.Nat.{ℕ, suc, ◌+◌, ◌^◌, ◌≤◌, ◌<◌, max}
use native.Mathlib.Nat.{zero-lt-suc}
use native.Mathlib.Omega.{arith}
use lib.IntN.{pos}
use Rattle.fraction.proofs.Ratio.{Ratio, ◌≈◌, ofℕ, ◌⊕◌, ◌⊗◌, ≈_refl, ≈_sym, ⊗_cong, ofℕ_pos}
use Rattle.fraction.proofs.Inverse.{inv}
use Rattle.fraction.proofs.PowersOfTen.{ten_to, ten_nat}
use Rattle.fraction.proofs.Within.{Within, within-≈, within_inv}
use Rattle.fraction.proofs.Signed.{signed}
use Rattle.figure.specs.declared.Figure.{Figure}
use Rattle.figure.specs.Rounding.{up}
use Rattle.figure.specs.Operations.{times_up, plus_up, divided_up, times_ten, of_whole}
use Rattle.figure.proofs.Value.{val}
use Rattle.figure.proofs.Operations.{value_times, value_plus, value_divided}
use Rattle.figure.proofs.Exact.{natural_of_whole, natural_times_ten}
use Rattle.accuracy.proofs.Roundings.{ρ, rounded_up, roundings_none, roundings-≤, roundings_trans, roundings-⊗, roundings_scale, roundings-⊕}
use Rattle.accuracy.proofs.Under.{Under, under_exact, under_pos}

-- the figure f is x, or above it by at most n roundings; a record, so that n, f and x can be inferred
pub record Near (n : ℕ) (f : Figure) (x : Ratio) : Type 0 where
  pub within : Within (ρ n) (val f) x

pub near_exact : {f : Figure} {x : Ratio} → val f ≈ x → Near 0 f x
near_exact {f} e = record { within = within-≈ (≈_refl _) e (roundings_none (val f)) }

pub near-≤ : {m : ℕ} (n : ℕ) {f : Figure} {x : Ratio} → m ≤ n → Near m f x → Near n f x
near-≤ {m} n h p = record { within = roundings-≤ m n h p.within }

pub near-≈ : {n : ℕ} {f : Figure} {x y : Ratio} → x ≈ y → Near n f x → Near n f y
near-≈ e p = record { within = within-≈ (≈_refl _) e p.within }

-- one rounding more
pub near_up : (n : ℕ) {x̂ x : Ratio} → Within (ρ n) x̂ x → Near (n + 1) (up 9 (signed x̂)) x
near_up n {x̂} p = record { within = roundings_trans n 1 (rounded_up x̂) p }

-- a number rounded up
pub up_near : (x : Ratio) → Near 1 (up 9 (signed x)) x
up_near x = record { within = rounded_up x }

pub near_times : {m n : ℕ} {a b : Figure} {x y : Ratio} → Near m a x → Near n b y → Near (m + n + 1) (times_up a b) (x ⊗ y)
unfolding times_up
near_times {m} {n} {a} {b} p q = rw (value_times a b) (near_up (m + n) (roundings-⊗ m n p.within q.within))

pub near_plus : {m n : ℕ} {a b : Figure} {x y : Ratio} → Near m a x → Near n b y → Near (max m n + 1) (plus_up a b) (x ⊕ y)
unfolding plus_up
near_plus {m} {n} {a} {b} p q = rw (value_plus a b) (near_up (max m n) (roundings-⊕ m n p.within q.within))

-- ---- quotients: the divisor errs downward

pub near_divided : {m n : ℕ} {a b : Figure} {x y : Ratio} → 0 < y.num → Near m a x → Under n b y → Near (m + n + 1) (divided_up a b) (x ⊗ inv y)
unfolding divided_up
near_divided {m} {n} {a} {b} h p q = rw (value_divided a b) (near_up (m + n) (roundings-⊗ m n p.within (within_inv (under_pos h q) h q.within)))

-- by a whole number of at most nine digits
pub near_by_whole : {n : ℕ} {a : Figure} {x : Ratio} (k : ℕ) → suc k < 10 ^ 9 → Near n a x
    → Near (n + 1) (divided_up a (of_whole (suc k))) (x ⊗ inv (ofℕ (suc k)))
near_by_whole {n} k h p = near-≤ (n + 1) (omega arith) (near_divided (ofℕ_pos (zero-lt-suc k)) p (under_exact (natural_of_whole (suc k) h)))

-- ---- what is exact

-- times a power of ten
pub near_ten : {n : ℕ} {a : Figure} {x : Ratio} (k : ℕ) → Near n a x → Near n (times_ten a (pos k)) (x ⊗ ofℕ (10 ^ k))
near_ten {n} {a} {x} k p = record {
  within = within-≈ (≈_sym (natural_times_ten a (pos k))) (⊗_cong (≈_refl x) (ten_nat k)) (roundings_scale n (ten_to (pos k)) p.within);
}

-- a whole number of at most nine digits
pub near_whole : (k : ℕ) → k < 10 ^ 9 → Near 0 (of_whole k) (ofℕ k)
near_whole k h = near_exact (natural_of_whole k h)

-- ---- running sums: each member of a list adds a term that is near, or nothing

-- a term that errs no more than the sum so far
pub near_add : {n k : ℕ} {f g : Figure} {x y : Ratio} → n ≤ k → Near k f x → Near n g y → Near (k + 1) (plus_up f g) (x ⊕ y)
near_add {k = k} h p q = near-≤ (k + 1) (omega arith) (near_plus p q)

pub near_keep : {k : ℕ} {f : Figure} {x : Ratio} → Near k f x → Near (k + 1) f x
near_keep {k} p = near-≤ (k + 1) (omega arith) p
