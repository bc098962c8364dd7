-- What the roundings leave alone: a number that w + 1 digits can hold. Assumes nothing.
use mathlib.Core.Path.{◌≡◌, refl, sym, ◌∙◌, ap}
use Prim.Native.Nat.{ℕ, zero, suc, ◌*◌, ◌-◌, ◌^◌, ◌≤◌, ◌<◌}
use native.Mathlib.Nat.{zero-lt-suc, pow-succ', mul-le-mul_right, mul-lt-mul_of_pos_right, le_of_mul-le-mul_left, le_of_suc-le-suc}
use native.Mathlib.Omega.{arith}
use lib.Pow.{pow-add}
use lib.IntN.{ℤ, pos, neg_ℤ, ◌+ℤ◌, ◌-ℤ◌}
use Rattle.fraction.proofs.Ratio.{Ratio, ◌≼◌, ◌≈◌, ofℕ, ◌⊗◌, ≼_refl, ≼_trans, ≼_antisym, ≈_refl, ≈_sym, ≈_trans, ≈_le, ≈_ge, ⊗_cong, ⊗_assoc, ⊗_zero, ofℕ_pos}
use Rattle.fraction.proofs.PowersOfTen.{ten_to, ten-+}
use Rattle.fraction.proofs.Inverse.{◌over◌, over-≈, inv_unique}
use Rattle.fraction.proofs.Signed.{signed, signed-≈, signed-⊗, signed_whole, signed_ten, signed_ratio}
use Rattle.figure.specs.declared.Figure.{Figure}
use Rattle.figure.specs.Rounding.{figure, none, IsFigure, is_zero, digit_count, up, down}
use Rattle.figure.specs.Operations.{times_ten, of_whole, of_quantity}
use Rattle.figure.specs.Faithful.{PowerOfTenExact, WholeExact, QuantityExact}
use Rattle.figure.proofs.Scale.{pow_pos, exponent-<, ten_units, ten_shift, power_inverse}
use Rattle.figure.proofs.Digits.{digits_above, digits_below}
use Rattle.figure.proofs.Value.{val, value_is, val-≼, below_val, above_val, below_value, above_value, figure_of}
use Rattle.figure.proofs.Up.{natural_up}
use Rattle.figure.proofs.Down.{natural_down}

-- x is the value of a figure of w + 1 digits
pub record Exact (w : ℕ) (x : Ratio) : Type 0 where
  pub holder : Figure
  pub is_figure : IsFigure (suc w) holder
  pub same : val holder ≈ x

pub exact-≈ : {w : ℕ} {x y : Ratio} → x ≈ y → Exact w x → Exact w y
exact-≈ e h = record { holder = h.holder; is_figure = h.is_figure; same = ≈_trans h.same e }

-- ---- rounding up stays below it, rounding down above it, and itself it does not move

pub up_below : {w : ℕ} {x y : Ratio} → Exact w y → x ≼ y → val (up (suc w) (signed x)) ≼ y
up_below {w} {x} {y} h p = ≼_trans (val-≼ _ _ ((natural_up w x).least h.holder h.is_figure (below_value _ (≼_trans p (≈_ge h.same)))))
    (≈_le h.same)

pub down_above : {w : ℕ} {x y : Ratio} → Exact w y → y ≼ x → y ≼ val (down (suc w) (signed x))
down_above {w} {x} {y} h p = ≼_trans (≈_ge h.same)
    (val-≼ _ _ ((natural_down w x).greatest h.holder h.is_figure (above_value _ (≼_trans (≈_le h.same) p))))

pub exact_up : {w : ℕ} {x : Ratio} → Exact w x → val (up (suc w) (signed x)) ≈ x
exact_up {w} {x} h = ≼_antisym (up_below h (≼_refl x)) (below_val _ (natural_up w x).not_below)

pub exact_down : {w : ℕ} {x : Ratio} → Exact w x → val (down (suc w) (signed x)) ≈ x
exact_down {w} {x} h = ≼_antisym (above_val _ (natural_down w x).not_above) (down_above h (≼_refl x))

-- ---- a number of at most w + 1 digits, times a power of ten

module _ (w c : ℕ) (e : ℤ) (small : c < 10 ^ suc w) where
  -- the zeros that fill it up
  zeros : ℕ
  zeros = suc w - digit_count c

  module _ (pos-c : 0 < c) where
    few : digit_count c ≤ suc w
    few = le_of_suc-le-suc (exponent-< (digit_count c) (suc (suc w)) (omega (arith, digits_below c pos-c, pow-succ' 10 (suc w))))

    filled : 10 ^ digit_count c * 10 ^ zeros ≡ 10 * 10 ^ w
    unfolding zeros
    filled = sym (pow-add 10 (digit_count c) (suc w - digit_count c)) ∙ ap (λ t. 10 ^ t) (omega (arith, few)) ∙ pow-succ' 10 w

    padded : Exact w (ofℕ c ⊗ ten_to e)
    padded = record {
      holder = figure (c * 10 ^ zeros) (e -ℤ pos zeros);
      is_figure = figure_of w _
          (le_of_mul-le-mul_left (omega (arith, mul-le-mul_right (10 ^ zeros) (digits_below c pos-c), filled)) (zero-lt-suc 9))
          (omega (arith, mul-lt-mul_of_pos_right (digits_above c) (pow_pos zeros), filled));
      same = ten_shift c zeros e;
    }

  pub short_exact : Exact w (ofℕ c ⊗ ten_to e)
  short_exact = go c refl
    where
      go : (n : ℕ) → c ≡ n → Exact w (ofℕ c ⊗ ten_to e)
      go zero z = rw z (record { holder = none; is_figure = is_zero refl refl; same = ≈_trans (⊗_zero _) (≈_sym (⊗_zero _)) })
      go (suc n) z = padded (rw z (zero-lt-suc n))

pub whole_exact : (w n : ℕ) → n < 10 ^ suc w → Exact w (ofℕ n)
whole_exact w n h = exact-≈ (ten_units n) (short_exact w n (pos 0) h)

-- ---- c / 10^p is c times a power of ten

pub over_ten : (c p : ℕ) → c over (10 ^ p) ≈ ofℕ c ⊗ ten_to (neg_ℤ (pos p))
over_ten c p = ≈_trans (over-≈ c (10 ^ p))
    (⊗_cong (≈_refl _) (≈_sym (inv_unique (ofℕ (10 ^ p)) (ten_to (neg_ℤ (pos p))) (ofℕ_pos (pow_pos p)) (power_inverse p))))

-- ---- the operations that are exact

-- a whole number of at most nine digits
pub natural_of_whole : (n : ℕ) → n < 10 ^ 9 → val (of_whole n) ≈ ofℕ n
unfolding of_whole
natural_of_whole n h = rw (← signed_whole n) (exact_down (whole_exact 8 n h))

pub of_whole_exact : WholeExact
of_whole_exact n h = rw (value_is (of_whole n), ← signed_whole n) (signed-≈ (natural_of_whole n h))

-- a quantity
pub natural_of_quantity : (c p : ℕ) → c < 10 ^ 9 → val (of_quantity c p) ≈ c over (10 ^ p)
unfolding of_quantity
natural_of_quantity c p h =
    rw (← signed_ratio c (10 ^ p)) (exact_up (exact-≈ (≈_sym (over_ten c p)) (short_exact 8 c (neg_ℤ (pos p)) h)))

pub of_quantity_exact : QuantityExact
of_quantity_exact c p h = rw (value_is (of_quantity c p), ← signed_ratio c (10 ^ p)) (signed-≈ (natural_of_quantity c p h))

-- times a power of ten
pub natural_times_ten : (a : Figure) (p : ℤ) → val (times_ten a p) ≈ val a ⊗ ten_to p
unfolding times_ten
natural_times_ten a p = go a.digits refl
  where
    go : (d : ℕ) → a.digits ≡ d → val (elim d as (λ _. Figure) [ zero ↦ none | suc d ↦ figure (suc d) (a.power +ℤ p) ]) ≈ val a ⊗ ten_to p
    go zero z = rw z (≈_trans (⊗_zero _) (≈_sym (≈_trans (⊗_assoc _ _ _) (⊗_zero _))))
    go (suc d) z = rw z (≈_trans (⊗_cong (≈_refl _) (ten-+ a.power p)) (≈_sym (⊗_assoc _ _ _)))

pub times_ten_exact : PowerOfTenExact
times_ten_exact a p = rw (value_is (times_ten a p), value_is a, ← signed_ten p, ← signed-⊗ (val a) (ten_to p)) (signed-≈ (natural_times_ten a p))
