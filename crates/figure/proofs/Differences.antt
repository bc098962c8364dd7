-- The code's difference of two figures is the rounding that is meant. Assumes nothing.
use mathlib.Core.Path.{◌≡◌, refl, sym, ◌∙◌, ap, ap₂}
use mathlib.Core.Bool.{Bool, true, false}
use Prim.Native.Nat.{ℕ, zero, suc, ◌+◌, ◌-◌, ◌*◌, ◌^◌, ◌≤◌, ◌<◌}
use native.Mathlib.Nat.{lt_of_lt_of_le, mul-le-mul_right, zero-lt-suc, lt_irrefl, le_of_lt, pow-le-pow_right, pow-suc}
use native.Mathlib.Numerals.{add-one}
use native.Mathlib.Omega.{arith}
use lib.Dec.{eqb, lit≤}
use lib.IntN.{ℤ, pos, ◌+ℤ◌, ◌-ℤ◌, +ℤ_assoc, +ℤ_comm, -ℤ-+ℤ_cancel, +ℤ-neg_ℤ_cancel}
use lib.Signed.{le_z, mag}
use borrow.Author.Tests.{eq-eqb, ne_eqb, eqb-true, eqb-false}
use Rattle.fraction.specs.Fraction.{◌-ᶠ◌}
use Rattle.fraction.proofs.Ratio.{◌≼◌, ◌≈◌, ofℕ, ◌⊗◌, ◌⊖◌, ≼_trans, ≈_refl, ≈_sym, ≈_trans, ≈_le, ⊖_cong, ⊖_nothing, ⊖_zero, ⊖_multiples}
use Rattle.fraction.proofs.PowersOfTen.{ten_to}
use Rattle.fraction.proofs.Signed.{signed}
use Rattle.figure.specs.declared.Figure.{Figure}
use Rattle.figure.specs.declared.Direction.{Direction}
use Rattle.figure.specs.declared.Direction.TheVariants.{Down, Up}
use Rattle.figure.specs.Rounding.{figure, none, value, IsFigure}
use Rattle.figure.specs.Operands.{Operand, Sized}
use Rattle.figure.specs.Internal.Steps.{rounded, Ordered, part, directed, just_below}
use Rattle.figure.proofs.Scale.{pow_pos, multiple-≼, ten_shift}
use Rattle.figure.proofs.Value.{val, value_is}
use Rattle.figure.proofs.Operations.{up_minus, down_minus}
use Rattle.figure.proofs.Stored.{stored, kept, mag_difference, read_difference, read_test}
use Rattle.figure.proofs.Parts.{parts, some_left, at_part}
use Rattle.figure.proofs.PartsRounded.{Over, rounded_part}
use Rattle.figure.proofs.Figures.{digits_high, digits_low, zero_is_none, zero_num, room, rounded_own, rounded_zero, rounded_same, over_tens}
use Rattle.figure.proofs.Orders.{above_strictly, lower_value}

rounded_minus : (to : Direction) (K : ℕ) (a b : Figure) → rounded to K (value a -ᶠ value b) ≡ rounded to K (signed (val a ⊖ val b))
rounded_minus Up K a b = up_minus K a b
rounded_minus Down K a b = down_minus K a b

-- ---- the exact difference

module _ (to : Direction) (a b : Figure) where
  pub no_difference : val a ≼ val b → none ≡ rounded to 9 (value a -ᶠ value b)
  no_difference h = sym (rounded_minus to 9 a b ∙ rounded_zero to 9 _ (⊖_nothing h))

  pub nothing_taken : b.digits ≡ 0 → IsFigure 9 a → a ≡ rounded to 9 (value a -ᶠ value b)
  nothing_taken z i = sym (rounded_minus to 9 a b ∙ rounded_same to 8 (⊖_zero (val a) (val b) (zero_num b z))
      ∙ ap (rounded to 9) (sym (value_is a)) ∙ rounded_own to 8 a i)

  pub taken_from_nothing : a.digits ≡ 0 → IsFigure 9 a → a ≡ rounded to 9 (value a -ᶠ value b)
  taken_from_nothing z i = zero_is_none (lit≤ tt) i z ∙ no_difference (record { le = rw (zero_num a z) (omega arith) })

  pub higher_taken : Operand 9 a → Operand 9 b → (b.digits ≡ 0 → ⊥) → le_z (stored b.power) (stored a.power) ≡ false
      → none ≡ rounded to 9 (value a -ᶠ value b)
  higher_taken oa ob nb h = let (k, r) = above_strictly a.power b.power
      (sym (read_test a.power b.power (room tt oa.near) (room tt ob.near)) ∙ h) in
      no_difference (lower_value 8 a b oa.is_figure ob.is_figure nb k r)

-- ---- the second's power not above the first's

module _ {a b : Figure} {g : ℕ} (o : Ordered 9 a b) (g-is : pos g ≡ a.power -ℤ b.power) where
  raised : b.power +ℤ pos g ≡ a.power
  raised = ap (λ z. b.power +ℤ z) g-is ∙ +ℤ_comm b.power (a.power -ℤ b.power) ∙ -ℤ-+ℤ_cancel a.power b.power

  lowered : a.power -ℤ pos g ≡ b.power
  lowered = ap (λ z. z -ℤ pos g) (sym raised) ∙ +ℤ-neg_ℤ_cancel b.power (pos g)

  first_is : val a ≈ ofℕ (a.digits * 10 ^ g) ⊗ ten_to b.power
  first_is = ≈_sym (rw lowered at (ten_shift a.digits g a.power))

  difference_is : val a ⊖ val b ≈ ofℕ (a.digits * 10 ^ g - b.digits) ⊗ ten_to b.power
  difference_is = ≈_trans (⊖_cong first_is (≈_refl _)) (⊖_multiples (a.digits * 10 ^ g) b.digits (ten_to b.power))

  -- near: the difference is a whole number of the second's units
  module _ {t : ℕ} (t-is : t ≡ 10 ^ g) where
    pub near_nothing : (to : Direction) → a.digits * t ≤ b.digits → none ≡ rounded to 9 (value a -ᶠ value b)
    near_nothing to h = no_difference to a b (≼_trans (≈_le first_is) (multiple-≼ b.power (rw t-is at h)))

    pub near_answer : (to : Direction) {r : Figure} → r ≡ rounded to 9 (value (figure (a.digits * t - b.digits) (stored b.power)))
        → r ≡ rounded to 9 (value a -ᶠ value b)
    near_answer to e =
        e ∙ ap₂ (λ n p. rounded to 9 (value (figure n p))) (ap (λ n. a.digits * n - b.digits) t-is) (kept b.power (omega (arith, o.second.near)))
        ∙ ap (rounded to 9) (value_is (figure (a.digits * 10 ^ g - b.digits) b.power)) ∙ sym (rounded_same to 8 difference_is)
        ∙ sym (rounded_minus to 9 a b)

  -- far: it is just below the first
  module _ (far : 9 < g) where
    over : (j : ℕ) → Over (val a ⊖ val b) (a.digits * 10 ^ g - b.digits) (10 ^ j) (b.power +ℤ pos j)
    over j = over_tens (a.digits * 10 ^ g - b.digits) j b.power difference_is

    below_unit : (j : ℕ) → 9 ≤ j → b.digits < 10 ^ j
    below_unit j h = lt_of_lt_of_le (digits_high o.second.is_figure) (pow-le-pow_right (zero-lt-suc 9) h)

    -- d units of size T, less something below a unit
    one_less : (d T s : ℕ) → 0 < d → 0 < s → s < T → part (d * T - s) T ≡ parts (d - 1) true
    one_less d T s hd hs h = at_part (d * T - s) T (d - 1) (T - s) (split d hd) (omega arith) ∙ ap (parts (d - 1)) (some_left {r = T - s} (omega arith))
      where
        split : (d : ℕ) → 0 < d → d * T - s ≡ (d - 1) * T + (T - s)
        split zero l = absurd (lt_irrefl 0 l)
        split (suc m) l = let e : suc m - 1 ≡ m = omega arith in rw e (omega arith)

    -- a first number of 100,000,000: its unit is ten times too large
    at_least : (to : Direction) → a.digits ≡ 10 ^ 8 → directed to 9 (parts 999999999 true) (a.power -ℤ pos 1) ≡ rounded to 9 (signed (val a ⊖ val b))
    at_least to z =
        ap₂ (directed to 9) (sym (ap (λ n. part n T) n_is ∙ one_less (10 ^ 9) T b.digits (lit≤ tt) o.second_some unit)) (sym power)
        ∙ rounded_part 8 (pow_pos (g - 1)) (over (g - 1)) (rw n_is (omega (arith, unit)))
        (rw n_is (omega (arith, unit, o.second_some, pow_pos (g - 1)))) to
      where
        T : ℕ
        T = 10 ^ (g - 1)

        unit : b.digits < T
        unit = below_unit (g - 1) (omega arith)

        one_more : (m : ℕ) → 9 < m → m ≡ (m - 1) + 1
        one_more m h = omega arith

        tenfold : 10 ^ g ≡ T * 10
        tenfold = ap (λ m. 10 ^ m) (one_more g far ∙ add-one (g - 1)) ∙ pow-suc 10 (g - 1)

        n_is : a.digits * 10 ^ g - b.digits ≡ 10 ^ 9 * T - b.digits
        n_is = ap (λ m. m - b.digits) (ap₂ ◌*◌ z tenfold ∙ regroup T)
          where
            regroup : (m : ℕ) → 10 ^ 8 * (m * 10) ≡ 10 ^ 9 * m
            regroup m = omega arith

        power : b.power +ℤ pos (g - 1) ≡ a.power -ℤ pos 1
        power = sym (ap (λ y. y -ℤ pos 1) (sym raised ∙ ap (λ m. b.power +ℤ pos m) (one_more g far) ∙ sym (+ℤ_assoc b.power (pos (g - 1)) (pos 1)))
            ∙ +ℤ-neg_ℤ_cancel (b.power +ℤ pos (g - 1)) (pos 1))

    above_least : (to : Direction) → (a.digits ≡ 10 ^ 8 → ⊥)
        → directed to 9 (parts (a.digits - 1) true) a.power ≡ rounded to 9 (signed (val a ⊖ val b))
    above_least to n =
        ap₂ (directed to 9) (sym (one_less a.digits (10 ^ g) b.digits o.first_some o.second_some unit)) (sym raised)
        ∙ rounded_part 8 (pow_pos g) (over g) (low (10 ^ g) unit) (high (10 ^ g) (pow_pos g)) to
      where
        unit : b.digits < 10 ^ g
        unit = below_unit g (le_of_lt far)

        more : 10 ^ 8 + 1 ≤ a.digits
        more = omega (arith, n, digits_low o.first.is_figure (λ z. lt_irrefl 0 (rw z at o.first_some)))

        low : (T : ℕ) → b.digits < T → 10 ^ 8 * T ≤ a.digits * T - b.digits
        low T h = omega (arith, mul-le-mul_right T more)

        high : (T : ℕ) → 0 < T → a.digits * T - b.digits < 10 * 10 ^ 8 * T
        high T h = omega (arith, mul-le-mul_right T (digits_high o.first.is_figure))

    pub far_answer : (to : Direction) {r : Figure} → r ≡ just_below to a → r ≡ rounded to 9 (value a -ᶠ value b)
    unfolding just_below
    far_answer to e = e ∙ go (eqb a.digits (10 ^ 8)) (eqb-true a.digits (10 ^ 8)) (eqb-false a.digits (10 ^ 8)) ∙ sym (rounded_minus to 9 a b)
      where
        go : (t : Bool) → (t ≡ true → a.digits ≡ 10 ^ 8) → (t ≡ false → a.digits ≡ 10 ^ 8 → ⊥)
            → elim t as (λ _. Figure) [
              | true ↦ directed to 9 (parts 999999999 true) (a.power -ℤ pos 1)
              | false ↦ directed to 9 (parts (a.digits - 1) true) a.power
            ]
            ≡ rounded to 9 (signed (val a ⊖ val b))
        go true p q = at_least to (p refl)
        go false p q = above_least to (q refl)

-- ---- the code just below a figure

module _ (to : Direction) {a : Figure} (s : Sized 9 200000 a) where
  -- its power, one lower, as the code stores it twice
  one_lower : stored (stored (stored a.power -ℤ pos 1)) ≡ a.power -ℤ pos 1
  one_lower = ap stored (once refl) ∙ kept (a.power -ℤ pos 1) (omega (arith, near))
    where
      near : mag (a.power -ℤ pos 1) ≤ 300000
      near = omega (arith, mag_difference a.power (pos 1), s.near)

      once : {u : ℤ} → u ≡ stored a.power -ℤ pos 1 → stored u ≡ a.power -ℤ pos 1
      once e = ap stored (read_difference a.power (pos 1) (room tt s.near) (lit≤ tt) e) ∙ kept (a.power -ℤ pos 1) (omega (arith, near))

  module _ {q : ℕ × ℤ} {r : Figure} (e : r ≡ directed to 9 (parts q.0 true) (stored q.1)) where
    pub below_least : a.digits ≡ 10 ^ 8 → q ≡ (999999999, stored (stored a.power -ℤ pos 1)) → r ≡ just_below to a
    unfolding just_below
    below_least z f = e ∙ ap (λ p. directed to 9 (parts p.0 true) (stored p.1)) f ∙ ap (directed to 9 (parts 999999999 true)) one_lower
        ∙ sym (rw (eq-eqb a.digits (10 ^ 8) z, just_below))

    pub below_more : (a.digits ≡ 10 ^ 8 → ⊥) → q ≡ (a.digits - 1, stored a.power) → r ≡ just_below to a
    unfolding just_below
    below_more n f = e ∙ ap (λ p. directed to 9 (parts p.0 true) (stored p.1)) f ∙ ap (directed to 9 (parts (a.digits - 1) true)) power
        ∙ sym (rw (ne_eqb a.digits (10 ^ 8) n, just_below))
      where
        power : stored (stored a.power) ≡ a.power
        power = ap stored (kept a.power (omega (arith, s.near))) ∙ kept a.power (omega (arith, s.near))
