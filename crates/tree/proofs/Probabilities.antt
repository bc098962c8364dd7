-- Refusal 10 in fractions. The definitions test in whole numbers of 10^-12 whether a state's probabilities sum to exactly 1; this is so exactly
-- if the sum of the fractions q over its fast exits equals 1. Assumes nothing.
use Prim.Native.Nat.{ℕ, zero, suc, ◌+◌, ◌-◌, ◌*◌, ◌^◌, ◌≤◌}
use mathlib.Core.Path.{◌≡◌, ap}
use mathlib.Core.List.{List, [], ◌∷◌, Memᴰ}
use mathlib.Core.Logic.{◌↔◌}
use native.Mathlib.Nat.{add_assoc, le_antisymm}
use native.Mathlib.Omega.{arith}
use lib.Dec.{lit<}
use lib.IntN.{pos}
use lib.Pow.{pow-add}
use Rattle.fraction.specs.Fraction.{Fraction, ◌≈ᶠ◌, whole, ratio, ◌+ᶠ◌, ◌*ᶠ◌}
use Rattle.fraction.proofs.Laws.{≤ᶠ_antisym, ≈ᶠ_refl, ≈ᶠ_sym, ≈ᶠ_trans, ≈ᶠ-≤, ≈ᶠ-≥, *ᶠ_comm, *ᶠ_one, *ᶠ_zero, *ᶠ-+ᶠ, +ᶠ_cong, *ᶠ_cong, whole-+, ≤_whole}
use Rattle.fraction.proofs.Quotients.{Positive, whole_positive, *ᶠ_cancel}
use Rattle.word.specs.declared.Quantity.{Quantity}
use Rattle.word.specs.Model.{Manner, slow, fast, Transition, Model, exits, probability_units, probability_sum}
use Rattle.word.specs.Internal.Lists.{Each}
use Rattle.model.specs.Internal.Valid.{ValidManner, Valid}
use Rattle.word.proofs.Members.{each_member, each_of_members}
use Rattle.model.proofs.ReadValid.{read_valid}
use Rattle.tree.specs.States.{sum_over}
use Rattle.tree.specs.Lower.{exact}
use Rattle.tree.specs.Faithful.{add_exact_probability, exact_probability_sum, FineProbability, ProbabilitySum, ProbabilitiesSumToOne}
use Rattle.tree.proofs.Positive.{exits_valid}

abbrev FineProbabilities : List Transition → Type 0
FineProbabilities ts = Each (λ t. FineProbability t.manner) ts

-- ---- in whole numbers of 10^-12

abbrev trillion : ℕ
trillion = 1000000000000

-- x is n times 10^-12
record Units (x : Fraction) (n : ℕ) : Type 0 where
  units : whole trillion *ᶠ x ≈ᶠ whole n

ratio_units : (c d k : ℕ) → d * k ≡ trillion → Units (ratio (pos c) d) (c * k)
unfolding ratio whole ◌*ᶠ◌
ratio_units c zero k e = absurd (omega arith)
ratio_units c (suc d) k e = record { units = record { eq = ap pos (omega (arith, ap (λ z. c * z) e)) } }

exact_units : (q : Quantity) → q.scale ≤ 12 → Units (exact q) (q.coefficient * 10 ^ (12 - q.scale))
unfolding exact
exact_units q h = ratio_units q.coefficient (10 ^ q.scale) (10 ^ (12 - q.scale)) powers
  where
    powers : 10 ^ q.scale * 10 ^ (12 - q.scale) ≡ trillion
    powers = let e : q.scale + (12 - q.scale) ≡ 12 = omega arith in rw (← pow-add 10 q.scale (12 - q.scale), e)

units_plus : {x y : Fraction} {m n : ℕ} → Units x m → Units y n → Units (x +ᶠ y) (m + n)
units_plus {x} {y} {m} {n} p q =
    record { units = ≈ᶠ_trans (*ᶠ-+ᶠ (whole trillion) x y) (≈ᶠ_trans (+ᶠ_cong p.units q.units) (≈ᶠ_sym (whole-+ m n))) }

sum_units : {a : Fraction} {n : ℕ} (ts : List Transition) → FineProbabilities ts → Units a n
    → Units (sum_over add_exact_probability a ts) (n + probability_sum ts)
unfolding sum_over Each probability_sum
sum_units {n = n} [] w h = let e : n + 0 ≡ n = omega arith in rw e h
sum_units {a} {n} (t ∷ ts) w h = rw (← add_assoc) (sum_units {a = add_exact_probability a t.manner} {n = n + probability_units t.manner} ts w.1 (added t.manner w.0))
  where
    added : (x : Manner) → FineProbability x → Units (add_exact_probability a x) (n + probability_units x)
    added (slow r) v = let e : n + 0 ≡ n = omega arith in rw e h
    added (fast m d q) v = units_plus h (exact_units q v)

-- ---- the law

-- the sum of the fractions, in whole numbers of 10^-12
probabilities_units : (ts : List Transition) → FineProbabilities ts → Units (exact_probability_sum ts) (probability_sum ts)
unfolding exact_probability_sum
probabilities_units ts w = let e : 0 + probability_sum ts ≡ probability_sum ts = omega arith in rw e at (sum_units ts w nothing)
  where
    nothing : Units (whole 0) 0
    nothing = record { units = ≈ᶠ_trans (*ᶠ_comm (whole trillion) (whole 0)) (*ᶠ_zero (whole trillion)) }

-- 1 is a trillion of these units, and no other number is
units_one : {x : Fraction} {n : ℕ} → Units x n → (n ≡ trillion) ↔ (x ≈ᶠ whole 1)
units_one {x} {n} h =
    (λ e. equal (≈ᶠ_trans h.units (rw e one)), λ e. count (≈ᶠ_trans (≈ᶠ_sym h.units) (≈ᶠ_trans (*ᶠ_cong (≈ᶠ_refl _) e) (≈ᶠ_sym one))))
  where
    one : whole trillion ≈ᶠ whole trillion *ᶠ whole 1
    one = ≈ᶠ_trans (≈ᶠ_sym (*ᶠ_one (whole trillion))) (*ᶠ_comm (whole 1) (whole trillion))

    positive : Positive (whole trillion)
    positive = whole_positive trillion (lit< tt)

    equal : whole trillion *ᶠ x ≈ᶠ whole trillion *ᶠ whole 1 → x ≈ᶠ whole 1
    equal e = ≤ᶠ_antisym (*ᶠ_cancel (whole trillion) positive (≈ᶠ-≤ e)) (*ᶠ_cancel (whole trillion) positive (≈ᶠ-≥ e))

    count : whole n ≈ᶠ whole trillion → n ≡ trillion
    count e = le_antisymm (≤_whole (≈ᶠ-≤ e)) (≤_whole (≈ᶠ-≥ e))

-- "their probabilities don't sum to exactly 1": the sum in whole numbers of 10^-12 is 10^12 exactly if that of the fractions is 1
pub probability_sum_iff : ProbabilitySum
probability_sum_iff ts w = units_one (probabilities_units ts (each_of_members (λ t. FineProbability t.manner) ts w))

-- ---- an accepted model

module _ {m : Model} (valid : Valid m) (s : ℕ) where
  fine : (t : Transition) → Memᴰ t (exits m.net s) → FineProbability t.manner
  fine t k = go t.manner (each_member (λ t. ValidManner t.manner) k (exits_valid valid s))
    where
      go : (x : Manner) → ValidManner x → FineProbability x
      go (slow r) w = tt
      go (fast m d q) w = unfold ValidManner in w.1.1.scale

-- a state with fast exits: their probabilities sum to exactly 1
pub probabilities_sum_to_one : ProbabilitiesSumToOne
probabilities_sum_to_one ws budget m e s h =
    let valid = read_valid ws budget m e in
    (probability_sum_iff (exits m.net s) (fine valid s)).0 (valid.even s h)
