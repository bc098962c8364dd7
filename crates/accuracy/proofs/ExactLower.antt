-- The exact lower of a path whose steps have the grains that g gives, step by step and with a natural numerator. Differences are cut off at 0: a
-- factor that is zero or negative makes the product 0, as document 01 says of the lower. Assumes nothing.
use mathlib.Core.Bool.{Bool, true, false, not}
use mathlib.Core.List.{List, [], ◌∷◌, ◌++◌}
use Prim.Native.Nat.{ℕ, ◌+◌, ◌^◌, ◌<◌}
use native.Mathlib.Omega.{arith, patom}
use lib.Dec.{T, leb, nleb→lt}
use Rattle.fraction.specs.Fraction.{Fraction, whole, ◌+ᶠ◌, ◌-ᶠ◌, ◌*ᶠ◌, ◌/ᶠ◌}
use Rattle.fraction.proofs.Ratio.{Ratio, ◌≈◌, ofℕ, ◌⊕◌, ◌⊗◌, ◌⊖◌, ≈_refl, ≈_sym, ≈_trans, ⊕_cong, ⊗_cong, ⊗_assoc, ⊗_one, ⊕_comm, ⊕_zero, ⊖_cong}
use Rattle.fraction.proofs.Certificate.{◌*'◌, same_value}
use Rattle.fraction.proofs.Inverse.{inv, inv_cong, inv-⊗, inv_inv}
use Rattle.fraction.proofs.Powers.{pow, pow_two, pow-⊗, pow_inv, pow_ofℕ}
use Rattle.word.specs.declared.Quantity.{Quantity}
use Rattle.word.specs.Model.{Manner, slow, fast, Transition, Net, any}
use Rattle.tree.specs.Paths.{Path, Class, class1, class2, class3, class, class1_count}
use Rattle.tree.specs.Grains.{grain_sum}
use Rattle.accuracy.specs.States.{exact_rate_sum, exact_mean, exact_moment_sum}
use Rattle.accuracy.specs.Bounds.{product, class1_rates, power_over_factorial, grain_time, time_left, class2_exact_factor, class3_exact_factor}
use Rattle.accuracy.specs.Bounds.{lower_factor, lower_factors, class1_sum, exact_path_rate_sum, all_factors, not_positive, exact_lower_with}
use Rattle.accuracy.proofs.Natural.{◌is◌, is-≈, is_whole, is_plus, is_product, is_quotient, is_power, ◌clips_to◌, is_clip, clip-≈, clip_minus, clip_twice, clip_product, clipped, guarded_is}
use Rattle.accuracy.proofs.ExactStates.{exactᴺ, exact_is, momentᴺ, moment_is, shareᴺ, share_is, rate_sumᴺ, rate_sum_is, meanᴺ}
use Rattle.accuracy.proofs.ExactStates.{mean_is, moment_sumᴺ, moment_sum_is, timeᴺ, remaining_timeᴺ, remaining_time_is}
use Rattle.accuracy.proofs.ExactSteps.{ratesᴺ, rates_is, over_factorialᴺ, over_factorial_is, beside_class1, factorsᴺ, closedᴺ, steppedᴺ, closed_stepped}

-- ---- what is taken off, with the grains as document 01 rounds it: r = n × T / 1,000,000 divides as n × T does, times 1,000,000

unfoldable pub class2_lossᴺ : Net → ℕ → Quantity → Quantity → ℕ → Ratio
class2_lossᴺ net s m d n = rate_sumᴺ net s ⊗ exactᴺ m ⊕ momentᴺ m d ⊗ inv (ofℕ (n ^ 2) ⊗ (timeᴺ net ⊗ timeᴺ net)) ⊗ ofℕ (10 ^ 12)

unfoldable pub class3_lossᴺ : Net → ℕ → ℕ → Ratio
class3_lossᴺ net s n = rate_sumᴺ net s ⊗ moment_sumᴺ net s ⊗ inv (ofℕ 2) ⊕ moment_sumᴺ net s ⊗ inv (ofℕ n ⊗ timeᴺ net) ⊗ ofℕ (10 ^ 6)

grain_timeᴺ : Net → ℕ → Ratio
grain_timeᴺ net n = ofℕ n ⊗ timeᴺ net ⊗ inv (ofℕ 1000000)

grain_time_is : (net : Net) (n : ℕ) → grain_time net n is grain_timeᴺ net n
unfolding grain_time grain_timeᴺ
grain_time_is net n = is_quotient (is_product (is_whole n) (exact_is net.time)) (is_whole 1000000)

-- dividing by z / c is dividing by z and multiplying by c
inv_part : (z c : Ratio) → inv (z ⊗ inv c) ≈ inv z ⊗ c
inv_part z c = ≈_trans (inv-⊗ z (inv c)) (⊗_cong (≈_refl _) (inv_inv c))

by_time : (net : Net) (n : ℕ) (x : Ratio) → x ⊗ inv (grain_timeᴺ net n) ≈ x ⊗ inv (ofℕ n ⊗ timeᴺ net) ⊗ ofℕ (10 ^ 6)
unfolding grain_timeᴺ
by_time net n x = ≈_trans (⊗_cong (≈_refl x) (inv_part (ofℕ n ⊗ timeᴺ net) (ofℕ 1000000))) (≈_sym (⊗_assoc x _ _))

by_square : (net : Net) (n : ℕ) (x : Ratio)
    → x ⊗ inv (pow (grain_timeᴺ net n) 2) ≈ x ⊗ inv (ofℕ (n ^ 2) ⊗ (timeᴺ net ⊗ timeᴺ net)) ⊗ ofℕ (10 ^ 12)
unfolding grain_timeᴺ
by_square net n x = ≈_trans (⊗_cong (≈_refl x) inside) (≈_sym (⊗_assoc x _ _))
  where
    c : Ratio
    c = ofℕ 1000000

    squares : pow (ofℕ n ⊗ timeᴺ net) 2 ≈ ofℕ (n ^ 2) ⊗ (timeᴺ net ⊗ timeᴺ net)
    squares = ≈_trans (pow-⊗ (ofℕ n) (timeᴺ net) 2) (⊗_cong (pow_ofℕ n 2) (pow_two (timeᴺ net)))

    inside : inv (pow (ofℕ n ⊗ timeᴺ net ⊗ inv c) 2) ≈ inv (ofℕ (n ^ 2) ⊗ (timeᴺ net ⊗ timeᴺ net)) ⊗ ofℕ (10 ^ 12)
    inside = ≈_trans (inv_cong (≈_trans (pow-⊗ (ofℕ n ⊗ timeᴺ net) (inv c) 2) (⊗_cong squares (pow_inv c 2))))
        (≈_trans (inv_part (ofℕ (n ^ 2) ⊗ (timeᴺ net ⊗ timeᴺ net)) (pow c 2)) (⊗_cong (≈_refl _) (pow_ofℕ 1000000 2)))

-- ---- the factors of class 2 and 3 steps

unfoldable pub class2_valueᴺ : Net → ℕ → Manner → ℕ → Ratio
class2_valueᴺ net s (slow r) n = ofℕ 0
class2_valueᴺ net s (fast m d q) n = exactᴺ q ⊗ (ofℕ 1 ⊖ class2_lossᴺ net s m d n)

unfoldable pub class3_valueᴺ : Net → ℕ → Manner → ℕ → Ratio
class3_valueᴺ net s x n = shareᴺ x ⊗ (meanᴺ net s ⊖ class3_lossᴺ net s n)

class2_clips : (net : Net) (s : ℕ) (x : Manner) (n : ℕ)
    → class2_exact_factor (exact_rate_sum net s) (grain_time net n) x clips_to class2_valueᴺ net s x n
unfolding class2_exact_factor class2_valueᴺ class2_lossᴺ
class2_clips net s (slow r) n = is_clip (is_whole 0)
class2_clips net s (fast m d q) n = clip_product (exact_is q)
    (clip-≈ (⊖_cong (≈_refl _) (⊕_cong (≈_refl _) (by_square net n (momentᴺ m d))))
    (clip_twice (is_whole 1) (is_product (rate_sum_is net s) (exact_is m)) (is_quotient (moment_is m d) (is_power 2 (grain_time_is net n)))))

class3_clips : (net : Net) (s : ℕ) (x : Manner) (n : ℕ)
    → class3_exact_factor (exact_rate_sum net s) (exact_mean net s) (exact_moment_sum net s) (grain_time net n) x clips_to class3_valueᴺ net s x n
unfolding class3_exact_factor class3_valueᴺ class3_lossᴺ
class3_clips net s x n = clip_product (share_is x)
    (clip-≈ (⊖_cong (≈_refl _) (⊕_cong (≈_refl _) (by_time net n (moment_sumᴺ net s))))
    (clip_twice (mean_is net s) (is_quotient (is_product (rate_sum_is net s) (moment_sum_is net s)) (is_whole 2))
    (is_quotient (moment_sum_is net s) (grain_time_is net n))))

abbrev pub lower_valueᴺ : Net → (Transition → ℕ) → Class → Transition → Ratio
lower_valueᴺ net g class1 x = ofℕ 1
lower_valueᴺ net g class2 x = class2_valueᴺ net x.from x.manner (g x)
lower_valueᴺ net g class3 x = class3_valueᴺ net x.from x.manner (g x)

factors_clip : (net : Net) (g : Transition → ℕ) (p : Path) → clipped (lower_factors net g p) ≈ factorsᴺ net (lower_valueᴺ net g) p
unfolding clipped lower_factors factorsᴺ
factors_clip net g [] = ≈_refl _
factors_clip net g (x ∷ p) = go (class net x) (factors_clip net g p)
  where
    go : (c : Class) → clipped (lower_factors net g p) ≈ factorsᴺ net (lower_valueᴺ net g) p
        → clipped (lower_factor net c (g x) x ++ lower_factors net g p)
        ≈ beside_class1 c (lower_valueᴺ net g c x) ⊗ factorsᴺ net (lower_valueᴺ net g) p
    go class1 h = ≈_trans h (≈_sym (⊗_one _))
    go class2 h = ⊗_cong (class2_clips net x.from x.manner (g x)).clip h
    go class3 h = ⊗_cong (class3_clips net x.from x.manner (g x)).clip h

-- ---- A, and the last factor

abbrev pub add_ratesᴺ : Class → Ratio → Ratio → Ratio
add_ratesᴺ class1 a e = a ⊕ e
add_ratesᴺ class2 a e = a
add_ratesᴺ class3 a e = a

unfoldable pub path_rate_sumᴺ : Net → Path → Ratio
path_rate_sumᴺ net [] = ofℕ 0
path_rate_sumᴺ net (x ∷ p) = add_ratesᴺ (class net x) (path_rate_sumᴺ net p) (rate_sumᴺ net x.from)

path_rate_sum_is : (net : Net) (p : Path) → exact_path_rate_sum net p is path_rate_sumᴺ net p
unfolding exact_path_rate_sum path_rate_sumᴺ
path_rate_sum_is net [] = is_whole 0
path_rate_sum_is net (x ∷ p) = go (class net x) (path_rate_sum_is net p)
  where
    go : (c : Class) → exact_path_rate_sum net p is path_rate_sumᴺ net p
        → class1_sum net c x +ᶠ exact_path_rate_sum net p is add_ratesᴺ c (path_rate_sumᴺ net p) (rate_sumᴺ net x.from)
    go class1 h = is-≈ (⊕_comm _ _) (is_plus (rate_sum_is net x.from) h)
    go class2 h = is-≈ (⊕_zero _) (is_plus (is_whole 0) h)
    go class3 h = is-≈ (⊕_zero _) (is_plus (is_whole 0) h)

unfoldable pub last_valueᴺ : Net → Ratio → Path → Ratio
last_valueᴺ net t p = ofℕ 1 ⊖ t ⊗ path_rate_sumᴺ net p ⊗ inv (ofℕ (class1_count net p + 1))

-- ---- the lower

unfoldable pub lowerᴺ : Net → (Transition → ℕ) → Path → Ratio
lowerᴺ net g p =
    let t = remaining_timeᴺ net (grain_sum net g p) in
    elim (leb 1000000 (grain_sum net g p)) [ true ↦ ofℕ 0 | false ↦ steppedᴺ net t (lower_valueᴺ net g) p ⊗ last_valueᴺ net t p ]

all_clip : (net : Net) (g : Transition → ℕ) {x : Fraction} {t : Ratio} (p : Path) → x is t
    → clipped (all_factors net g x p) ≈ steppedᴺ net t (lower_valueᴺ net g) p ⊗ last_valueᴺ net t p
unfolding clipped all_factors last_valueᴺ
all_clip net g {x} {t} p h =
    ≈_trans (⊗_cong (is_clip first).clip (⊗_cong last.clip (factors_clip net g p)))
    (≈_trans (swap _ _ _) (⊗_cong (unfold closedᴺ in closed_stepped net t (lower_valueᴺ net g) p) (≈_refl _)))
  where
    swap : (a b c : Ratio) → a ⊗ (b ⊗ c) ≈ a ⊗ c ⊗ b
    swap a b c = same_value (a ∷ b ∷ c ∷ []) (patom 0 *' (patom 1 *' patom 2)) (patom 0 *' patom 2 *' patom 1) tt tt

    taken : Ratio
    taken = ofℕ 1 ⊖ t ⊗ path_rate_sumᴺ net p ⊗ inv (ofℕ (class1_count net p + 1))

    first : product (class1_rates net p) *ᶠ power_over_factorial x (class1_count net p) is ratesᴺ net p ⊗ over_factorialᴺ t (class1_count net p)
    first = is_product (rates_is net p) (over_factorial_is (class1_count net p) h)

    last : whole 1 -ᶠ x *ᶠ exact_path_rate_sum net p /ᶠ whole (class1_count net p + 1) clips_to taken
    last = clip_minus (is_whole 1) (is_quotient (is_product h (path_rate_sum_is net p)) (is_whole (class1_count net p + 1)))

pub exact_lower_is : (net : Net) (g : Transition → ℕ) (p : Path) → exact_lower_with net g p is lowerᴺ net g p
unfolding exact_lower_with lowerᴺ time_left
exact_lower_is net g p = go (leb 1000000 (grain_sum net g p)) (nleb→lt 1000000 (grain_sum net g p))
  where
    n : ℕ
    n = grain_sum net g p

    t : Ratio
    t = remaining_timeᴺ net n

    factors : List Fraction
    factors = all_factors net g (time_left net g p) p

    guarded : Fraction
    guarded = elim (any not_positive factors) [ true ↦ whole 0 | false ↦ product factors ]

    go : (b : Bool) → (T (not b) → n < 1000000)
        → (elim b as (λ _. Fraction) [ true ↦ whole 0 | false ↦ guarded ])
        is (elim b as (λ _. Ratio) [ true ↦ ofℕ 0 | false ↦ steppedᴺ net t (lower_valueᴺ net g) p ⊗ last_valueᴺ net t p ])
    go true h = is_whole 0
    go false h = is-≈ (all_clip net g p (remaining_time_is net n (omega (arith, h tt)))) (guarded_is factors)
