-- The exact values of quantities and states, with natural numerators: a name that ends in ᴺ is the value of the definition of that name.
-- Assumes nothing.
use mathlib.Core.Path.{sym}
use mathlib.Core.List.{List, [], ◌∷◌}
use Prim.Native.Nat.{ℕ, ◌^◌, ◌≤◌}
use native.Mathlib.Omega.{arith, patom, plit}
use Rattle.fraction.specs.Fraction.{Fraction, whole, ◌-ᶠ◌}
use Rattle.fraction.proofs.Ratio.{Ratio, ◌≼◌, ofℕ, ◌⊕◌, ◌⊗◌, ◌⊖◌, ≈_refl, ≈_le, ⊕_cong, ⊖_cap, ofℕ-≼, ofℕ_pos}
use Rattle.fraction.proofs.Certificate.{◌*'◌, prove, hyp}
use Rattle.fraction.proofs.Inverse.{inv, inv_is, ◌over◌}
use Rattle.fraction.proofs.Powers.{pow_two}
use Rattle.fraction.proofs.Signed.{signed_ratio, signed-⊖, signed_whole}
use Rattle.word.specs.declared.Quantity.{Quantity}
use Rattle.word.specs.Model.{Manner, slow, fast, Transition, Net, exits}
use Rattle.word.proofs.Members.{each_of_members}
use Rattle.tree.specs.States.{sum_over}
use Rattle.tree.specs.Lower.{exact, remaining_time}
use Rattle.accuracy.specs.States.{moment, add_exact_rate, add_exact_mean, add_exact_moment, exact_rate_sum, exact_mean, exact_moment_sum, exact_share}
use Rattle.accuracy.proofs.Folds.{fold_count}
use Rattle.accuracy.proofs.Natural.{◌is◌, is-≈, is_signed, is_whole, is_plus, is_product, is_quotient, is_power}

-- ---- a quantity, the second moment, a share

unfoldable pub exactᴺ : Quantity → Ratio
exactᴺ q = q.coefficient over (10 ^ q.scale)

pub exact_is : (q : Quantity) → exact q is exactᴺ q
unfolding exact exactᴺ
exact_is q = record { held = exactᴺ q; equal = sym (signed_ratio q.coefficient (10 ^ q.scale)); same = ≈_refl _ }

unfoldable pub momentᴺ : Quantity → Quantity → Ratio
momentᴺ m d = exactᴺ m ⊗ exactᴺ m ⊕ exactᴺ d ⊗ exactᴺ d

pub moment_is : (m d : Quantity) → moment m d is momentᴺ m d
unfolding moment momentᴺ
moment_is m d = is-≈ (⊕_cong (pow_two (exactᴺ m)) (pow_two (exactᴺ d))) (is_plus (is_power 2 (exact_is m)) (is_power 2 (exact_is d)))

abbrev pub shareᴺ : Manner → Ratio
shareᴺ (slow r) = exactᴺ r
shareᴺ (fast m d q) = exactᴺ q

pub share_is : (x : Manner) → exact_share x is shareᴺ x
share_is (slow r) = exact_is r
share_is (fast m d q) = exact_is q

-- ---- sums over exits

abbrev pub add_rateᴺ : Ratio → Manner → Ratio
add_rateᴺ a (slow r) = a ⊕ exactᴺ r
add_rateᴺ a (fast m d q) = a

abbrev pub add_meanᴺ : Ratio → Manner → Ratio
add_meanᴺ a (slow r) = a
add_meanᴺ a (fast m d q) = a ⊕ exactᴺ q ⊗ exactᴺ m

abbrev pub add_momentᴺ : Ratio → Manner → Ratio
add_momentᴺ a (slow r) = a
add_momentᴺ a (fast m d q) = a ⊕ exactᴺ q ⊗ momentᴺ m d

unfoldable pub rate_sumᴺ : Net → ℕ → Ratio
rate_sumᴺ net s = sum_over add_rateᴺ (ofℕ 0) (exits net s)

unfoldable pub meanᴺ : Net → ℕ → Ratio
meanᴺ net s = sum_over add_meanᴺ (ofℕ 0) (exits net s)

unfoldable pub moment_sumᴺ : Net → ℕ → Ratio
moment_sumᴺ net s = sum_over add_momentᴺ (ofℕ 0) (exits net s)

sum_is : (f : Fraction → Manner → Fraction) (g : Ratio → Manner → Ratio) → ((a : Fraction) (b : Ratio) (x : Manner) → a is b → f a x is g b x)
    → (ts : List Transition) → sum_over f (whole 0) ts is sum_over g (ofℕ 0) ts
unfolding sum_over
sum_is f g step ts = fold_count (λ _ a b. a is b) (λ _. Unit {0}) (λ a t. f a t.manner) (λ b t. g b t.manner) 0
    (λ _ a b t _ _ h. step a b t.manner h) 0 ts (each_of_members (λ _. Unit {0}) ts (λ _ _. tt)) (omega arith) (is_whole 0)

pub rate_sum_is : (net : Net) (s : ℕ) → exact_rate_sum net s is rate_sumᴺ net s
unfolding exact_rate_sum rate_sumᴺ
rate_sum_is net s = sum_is add_exact_rate add_rateᴺ step (exits net s)
  where
    step : (a : Fraction) (b : Ratio) (x : Manner) → a is b → add_exact_rate a x is add_rateᴺ b x
    step a b (slow r) h = is_plus h (exact_is r)
    step a b (fast m d q) h = h

pub mean_is : (net : Net) (s : ℕ) → exact_mean net s is meanᴺ net s
unfolding exact_mean meanᴺ
mean_is net s = sum_is add_exact_mean add_meanᴺ step (exits net s)
  where
    step : (a : Fraction) (b : Ratio) (x : Manner) → a is b → add_exact_mean a x is add_meanᴺ b x
    step a b (slow r) h = h
    step a b (fast m d q) h = is_plus h (is_product (exact_is q) (exact_is m))

pub moment_sum_is : (net : Net) (s : ℕ) → exact_moment_sum net s is moment_sumᴺ net s
unfolding exact_moment_sum moment_sumᴺ
moment_sum_is net s = sum_is add_exact_moment add_momentᴺ step (exits net s)
  where
    step : (a : Fraction) (b : Ratio) (x : Manner) → a is b → add_exact_moment a x is add_momentᴺ b x
    step a b (slow r) h = h
    step a b (fast m d q) h = is_plus h (is_product (exact_is q) (moment_is m d))

-- ---- the mission time, and what the grains leave of it

abbrev pub timeᴺ : Net → Ratio
timeᴺ net = exactᴺ net.time

unfoldable pub remaining_timeᴺ : Net → ℕ → Ratio
remaining_timeᴺ net n = timeᴺ net ⊗ (ofℕ 1000000 ⊖ ofℕ n) ⊗ inv (ofℕ 1000000)

pub remaining_time_is : (net : Net) (n : ℕ) → n ≤ 1000000 → remaining_time net n is remaining_timeᴺ net n
unfolding remaining_time remaining_timeᴺ
remaining_time_is net n h = is_quotient (is_product (exact_is net.time) left) (is_whole 1000000)
  where
    left : whole 1000000 -ᶠ whole n is ofℕ 1000000 ⊖ ofℕ n
    left = rw (signed-⊖ (ofℕ-≼ h), signed_whole 1000000, signed_whole n) at (is_signed (ofℕ 1000000 ⊖ ofℕ n))

pub remaining_time-≼ : (net : Net) (n : ℕ) → remaining_timeᴺ net n ≼ timeᴺ net
unfolding remaining_timeᴺ
remaining_time-≼ net n = prove (timeᴺ net ∷ (ofℕ 1000000 ⊖ ofℕ n) ∷ inv (ofℕ 1000000) ∷ [])
    (hyp (patom 0 *' patom 2) (patom 1) (plit 1000000) ∷ hyp (patom 0) (plit 1000000 *' patom 2) (plit 1) ∷ [])
    (patom 0 *' patom 1 *' patom 2) (patom 0) tt
    (⊖_cap (ofℕ 1000000) (ofℕ n)) (≈_le (inv_is (ofℕ 1000000) (ofℕ_pos (omega arith))))
