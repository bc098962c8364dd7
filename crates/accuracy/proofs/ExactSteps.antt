-- The product over a path's steps in two forms: closed, as document 01 writes it, with t^k / k! for the k class 1 steps; and step by step, where
-- the j-th class 1 step brings t / j. They are equal. Both forms take any time t and any factors of the class 2 and 3 steps, so that the upper
-- and the lower are instances. Assumes nothing.
use mathlib.Core.Path.{◌≡◌, refl}
use mathlib.Core.List.{[], ◌∷◌, ◌++◌}
use Prim.Native.Nat.{ℕ, suc, ◌+◌}
use native.Mathlib.Omega.{arith, patom, plit}
use Rattle.fraction.specs.Fraction.{Fraction}
use Rattle.fraction.proofs.Ratio.{Ratio, ◌≈◌, ofℕ, ◌⊗◌, ≈_refl, ≈_sym, ≈_trans, ⊗_cong, ⊗_one, ofℕ-⊗}
use Rattle.fraction.proofs.Certificate.{◌*'◌, same_value}
use Rattle.fraction.proofs.Inverse.{inv, inv_cong, inv-⊗, ◌over◌}
use Rattle.fraction.proofs.Powers.{pow}
use Rattle.word.specs.Model.{Manner, Transition, Net}
use Rattle.tree.specs.Paths.{Path, Class, class1, class2, class3, class, class1_count, counts_1}
use Rattle.accuracy.specs.Bounds.{factorial, product, power_over_factorial, class1_rate, class1_rates}
use Rattle.accuracy.proofs.Natural.{◌is◌, is-≈, is_whole, is_product, is_quotient, is_power}
use Rattle.accuracy.proofs.ExactStates.{shareᴺ, share_is}

-- ---- t^k / k!

unfoldable pub over_factorialᴺ : Ratio → ℕ → Ratio
over_factorialᴺ t k = pow t k ⊗ inv (ofℕ (factorial k))

pub over_factorial_is : {x : Fraction} {t : Ratio} (k : ℕ) → x is t → power_over_factorial x k is over_factorialᴺ t k
unfolding power_over_factorial over_factorialᴺ
over_factorial_is k h = is_quotient (is_power k h) (is_whole (factorial k))

-- one more class 1 step brings t / (k + 1)
over_factorial_suc : (t : Ratio) (k : ℕ) → over_factorialᴺ t (suc k) ≈ over_factorialᴺ t k ⊗ t ⊗ inv (ofℕ (suc k))
unfolding over_factorialᴺ pow factorial
over_factorial_suc t k =
    ≈_trans (⊗_cong (≈_refl _) (≈_trans (inv_cong (ofℕ-⊗ (suc k) (factorial k))) (inv-⊗ (ofℕ (suc k)) (ofℕ (factorial k)))))
    (same_value (t ∷ pow t k ∷ inv (ofℕ (suc k)) ∷ inv (ofℕ (factorial k)) ∷ [])
    (patom 0 *' patom 1 *' (patom 2 *' patom 3)) (patom 1 *' patom 3 *' patom 0 *' patom 2) tt tt)

over_factorial_zero : (t : Ratio) → over_factorialᴺ t 0 ≈ ofℕ 1
unfolding over_factorialᴺ pow factorial ◌over◌ ofℕ ◌⊗◌ inv
over_factorial_zero t = record { eq = refl }

-- ---- the class 1 rates

abbrev pub rateᴺ : Class → Manner → Ratio
rateᴺ class1 x = shareᴺ x
rateᴺ class2 x = ofℕ 1
rateᴺ class3 x = ofℕ 1

unfoldable pub ratesᴺ : Net → Path → Ratio
ratesᴺ net [] = ofℕ 1
ratesᴺ net (x ∷ p) = rateᴺ (class net x) x.manner ⊗ ratesᴺ net p

pub rates_is : (net : Net) (p : Path) → product (class1_rates net p) is ratesᴺ net p
unfolding product class1_rates ratesᴺ
rates_is net [] = is_whole 1
rates_is net (x ∷ p) = go (class net x) (rates_is net p)
  where
    go : (c : Class) → product (class1_rates net p) is ratesᴺ net p
        → product (class1_rate c x.manner ++ class1_rates net p) is rateᴺ c x.manner ⊗ ratesᴺ net p
    go class1 h = is_product (share_is x.manner) h
    go class2 h = is-≈ (≈_sym (⊗_one _)) h
    go class3 h = is-≈ (≈_sym (⊗_one _)) h

-- ---- the factors of the class 2 and 3 steps; f gives each step's

abbrev pub beside_class1 : Class → Ratio → Ratio
beside_class1 class1 r = ofℕ 1
beside_class1 class2 r = r
beside_class1 class3 r = r

unfoldable pub factorsᴺ : Net → (Class → Transition → Ratio) → Path → Ratio
factorsᴺ net f [] = ofℕ 1
factorsᴺ net f (x ∷ p) = beside_class1 (class net x) (f (class net x) x) ⊗ factorsᴺ net f p

-- ---- the two forms

unfoldable pub closedᴺ : Net → Ratio → (Class → Transition → Ratio) → Path → Ratio
closedᴺ net t f p = ratesᴺ net p ⊗ over_factorialᴺ t (class1_count net p) ⊗ factorsᴺ net f p

-- one more step; k is the number of class 1 steps, this one included
abbrev pub stepᴺ : Ratio → (Class → Transition → Ratio) → Class → ℕ → Transition → Ratio → Ratio
stepᴺ t f class1 k x u = u ⊗ shareᴺ x.manner ⊗ t ⊗ inv (ofℕ k)
stepᴺ t f class2 k x u = u ⊗ f class2 x
stepᴺ t f class3 k x u = u ⊗ f class3 x

unfoldable pub steppedᴺ : Net → Ratio → (Class → Transition → Ratio) → Path → Ratio
steppedᴺ net t f [] = ofℕ 1
steppedᴺ net t f (x ∷ p) = stepᴺ t f (class net x) (class1_count net (x ∷ p)) x (steppedᴺ net t f p)

step_cong : (t : Ratio) (f : Class → Transition → Ratio) (c : Class) (k : ℕ) (x : Transition) {u v : Ratio} → u ≈ v
    → stepᴺ t f c k x u ≈ stepᴺ t f c k x v
step_cong t f class1 k x e = ⊗_cong (⊗_cong (⊗_cong e (≈_refl _)) (≈_refl _)) (≈_refl _)
step_cong t f class2 k x e = ⊗_cong e (≈_refl _)
step_cong t f class3 k x e = ⊗_cong e (≈_refl _)

-- the closed form with one more step
beside : (t y : Ratio) (k : ℕ) (r w : Ratio) → ofℕ 1 ⊗ r ⊗ over_factorialᴺ t (0 + k) ⊗ (y ⊗ w) ≈ r ⊗ over_factorialᴺ t k ⊗ w ⊗ y
beside t y k r w = let e : 0 + k ≡ k = omega arith in
    rw e (same_value (y ∷ r ∷ over_factorialᴺ t k ∷ w ∷ [])
    (plit 1 *' patom 1 *' patom 2 *' (patom 0 *' patom 3)) (patom 1 *' patom 2 *' patom 3 *' patom 0) tt tt)

closed_step : (t : Ratio) (f : Class → Transition → Ratio) (c : Class) (x : Transition) (k : ℕ) (r w : Ratio)
    → rateᴺ c x.manner ⊗ r ⊗ over_factorialᴺ t (counts_1 c + k) ⊗ (beside_class1 c (f c x) ⊗ w)
    ≈ stepᴺ t f c (counts_1 c + k) x (r ⊗ over_factorialᴺ t k ⊗ w)
closed_step t f class1 x k r w = let e : 1 + k ≡ suc k = omega arith in
    rw e (≈_trans (⊗_cong (⊗_cong (≈_refl _) (over_factorial_suc t k)) (≈_refl _))
    (same_value (shareᴺ x.manner ∷ r ∷ over_factorialᴺ t k ∷ t ∷ inv (ofℕ (suc k)) ∷ w ∷ [])
    (patom 0 *' patom 1 *' (patom 2 *' patom 3 *' patom 4) *' (plit 1 *' patom 5))
    (patom 1 *' patom 2 *' patom 5 *' patom 0 *' patom 3 *' patom 4) tt tt))
closed_step t f class2 x k r w = beside t (f class2 x) k r w
closed_step t f class3 x k r w = beside t (f class3 x) k r w

pub closed_stepped : (net : Net) (t : Ratio) (f : Class → Transition → Ratio) (p : Path) → closedᴺ net t f p ≈ steppedᴺ net t f p
unfolding closedᴺ steppedᴺ ratesᴺ factorsᴺ class1_count
closed_stepped net t f [] =
    ≈_trans (⊗_cong (⊗_cong (≈_refl _) (over_factorial_zero t)) (≈_refl _))
    (same_value [] (plit 1 *' plit 1 *' plit 1) (plit 1) tt tt)
closed_stepped net t f (x ∷ p) =
    ≈_trans (closed_step t f (class net x) x (class1_count net p) (ratesᴺ net p) (factorsᴺ net f p))
    (step_cong t f (class net x) (counts_1 (class net x) + class1_count net p) x (closed_stepped net t f p))
