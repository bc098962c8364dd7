-- Figures that err downward, by a factor. Assumes nothing.
use Prim.Native.Nat.{ℕ, ◌+◌, ◌≤◌, ◌<◌, max}
use native.Mathlib.Omega.{arith}
use Rattle.fraction.proofs.Ratio.{Ratio, ◌≈◌, ofℕ, ◌⊕◌, ◌⊗◌, ≈_refl, pos_left, pos-≼}
use Rattle.fraction.proofs.Within.{Within, within-≈}
use Rattle.fraction.proofs.Signed.{signed, signed_whole}
use Rattle.figure.specs.declared.Figure.{Figure}
use Rattle.figure.specs.Rounding.{down}
use Rattle.figure.specs.Operations.{times_down, plus_down, of_whole}
use Rattle.figure.proofs.Value.{val}
use Rattle.figure.proofs.Operations.{value_times, value_plus}
use Rattle.accuracy.proofs.Roundings.{ρ, rounded_down, roundings_none, roundings-≤, roundings_trans, roundings-⊗, roundings-⊕}

-- the figure f is x, or below it by at most n roundings; a record, so that n, f and x can be inferred
pub record Under (n : ℕ) (f : Figure) (x : Ratio) : Type 0 where
  pub within : Within (ρ n) x (val f)

pub under_exact : {f : Figure} {x : Ratio} → val f ≈ x → Under 0 f x
under_exact {f} e = record { within = within-≈ e (≈_refl _) (roundings_none (val f)) }

pub under-≤ : {m : ℕ} (n : ℕ) {f : Figure} {x : Ratio} → m ≤ n → Under m f x → Under n f x
under-≤ {m} n h p = record { within = roundings-≤ m n h p.within }

-- what is below a positive number by roundings is positive too
pub under_pos : {n : ℕ} {f : Figure} {x : Ratio} → 0 < x.num → Under n f x → 0 < (val f).num
under_pos {n} {f} h p = pos_left (val f) (ρ n) (pos-≼ p.within.high h)

-- one rounding more
pub under_down : (n : ℕ) {x̂ x : Ratio} → Within (ρ n) x x̂ → Under (n + 1) (down 9 (signed x̂)) x
under_down n {x̂} p = under-≤ (n + 1) (omega arith) (record { within = roundings_trans 1 n p (rounded_down x̂) })

-- a number rounded down
pub down_under : (x : Ratio) → Under 1 (down 9 (signed x)) x
down_under x = record { within = rounded_down x }

pub under_times : {m n : ℕ} {a b : Figure} {x y : Ratio} → Under m a x → Under n b y → Under (m + n + 1) (times_down a b) (x ⊗ y)
unfolding times_down
under_times {m} {n} {a} {b} p q = rw (value_times a b) (under_down (m + n) (roundings-⊗ m n p.within q.within))

pub under_plus : {m n : ℕ} {a b : Figure} {x y : Ratio} → Under m a x → Under n b y → Under (max m n + 1) (plus_down a b) (x ⊕ y)
unfolding plus_down
under_plus {m} {n} {a} {b} p q = rw (value_plus a b) (under_down (max m n) (roundings-⊕ m n p.within q.within))

-- a whole number, of however many digits
pub under_whole : (k : ℕ) → Under 1 (of_whole k) (ofℕ k)
unfolding of_whole
under_whole k = rw (← signed_whole k) (down_under (ofℕ k))

-- ---- running sums: each member of a list adds a term that is under, or nothing

pub under_add : {n k : ℕ} {f g : Figure} {x y : Ratio} → n ≤ k → Under k f x → Under n g y → Under (k + 1) (plus_down f g) (x ⊕ y)
under_add {k = k} h p q = under-≤ (k + 1) (omega arith) (under_plus p q)

pub under_keep : {k : ℕ} {f : Figure} {x : Ratio} → Under k f x → Under (k + 1) f x
under_keep {k} p = under-≤ (k + 1) (omega arith) p
