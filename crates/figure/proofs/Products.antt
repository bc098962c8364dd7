-- The code's product of two figures is the rounding that is meant. Assumes nothing.
use mathlib.Core.Path.{◌≡◌, refl, sym, ◌∙◌, ap, ap₂}
use mathlib.Core.List.{[], ◌∷◌}
use mathlib.Core.Bool.{Bool, true, false}
use Prim.Native.Nat.{ℕ, suc, suc-le-suc, ◌+◌, ◌*◌, ◌^◌, ◌≤◌, ◌<◌}
use native.Mathlib.Nat.{le_trans, mul-le-mul, mul-pos, zero-mul, mul-zero, lt_of_not-le, lt_irrefl, pow-succ'}
use native.Mathlib.Decide.{dec_le}
use native.Mathlib.Omega.{arith, patom}
use lib.Dec.{ltb, leb, lit≤}
use lib.IntN.{ℤ, pos, ◌+ℤ◌}
use lib.Signed.{mag}
use mir.Syntax.{w32}
use mir.Val.{SFits, bool_byte}
use borrow.Author.Tests.{ltb-true, ltb-false, lt-ltb, le-ltb, le-leb, lt-leb}
use Rattle.fraction.specs.Fraction.{◌*ᶠ◌}
use Rattle.fraction.proofs.Ratio.{◌≈◌, ofℕ, ◌⊗◌, ≈_sym, ≈_trans, ⊗_cong, ofℕ-⊗}
use Rattle.fraction.proofs.Certificate.{◌*'◌, same_value}
use Rattle.fraction.proofs.PowersOfTen.{ten_to, ten-+}
use Rattle.figure.specs.declared.Figure.{Figure}
use Rattle.figure.specs.declared.Direction.{Direction}
use Rattle.figure.specs.declared.Direction.TheVariants.{Down}
use Rattle.figure.specs.declared.division.Part.{Part}
use Rattle.figure.specs.declared.product.Scaled.{Scaled}
use Rattle.figure.specs.Rounding.{none, value, IsFigure, digit_count}
use Rattle.figure.specs.Operations.{times_down}
use Rattle.figure.specs.Operands.{Operand}
use Rattle.figure.specs.Products.{product_divisor, eighteenth, Factors, SeventeenOrEighteen, divided_once, OneDivision}
use Rattle.figure.specs.Internal.Steps.{rounded, part, directed, scaling}
use Rattle.figure.proofs.Scale.{pow_pos, exponent-<}
use Rattle.figure.proofs.Digits.{digits_above, digits_below}
use Rattle.figure.proofs.Value.{val}
use Rattle.figure.proofs.Operations.{value_times}
use Rattle.figure.proofs.Stored.{stored, kept, mag_sum, read_sum, both_fit, sum_near as sum_small}
use Rattle.figure.proofs.Parts.{part_below}
use Rattle.figure.proofs.PartsRounded.{rounded_part}
use Rattle.figure.proofs.Figures.{digits_high, digits_low, room, rounded_zero, over_tens}

-- ---- the scaling

-- at most one digit more than 17
pub eighteenth_high : (p : ℕ) → eighteenth p ≤ 1
unfolding eighteenth
eighteenth_high p = go (ltb p (10 ^ 17))
  where
    go : (b : Bool) → elim b as (λ _. ℕ) [ true ↦ 0 | false ↦ 1 ] ≤ 1
    go true = lit≤ tt
    go false = lit≤ tt

-- the comparison as the code has it
pub eighteenth_is : (p : ℕ) → bool_byte (leb 100000000000000000 p) ≡ eighteenth p
unfolding eighteenth
eighteenth_is p = go (dec_le (10 ^ 17) p)
  where
    as_number : Bool → ℕ
    as_number b = elim b as (λ _. ℕ) [ true ↦ 0 | false ↦ 1 ]

    go : Dec (10 ^ 17 ≤ p) → bool_byte (leb 100000000000000000 p) ≡ as_number (ltb p (10 ^ 17))
    go (yes h) = ap bool_byte (le-leb 100000000000000000 p h) ∙ sym (ap as_number (le-ltb p (10 ^ 17) h))
    go (no h) = ap bool_byte (lt-leb 100000000000000000 p (lt_of_not-le h)) ∙ sym (ap as_number (lt-ltb p (10 ^ 17) (lt_of_not-le h)))

pub divisor_is : (p : ℕ) → 100000000 + 900000000 * eighteenth p ≡ product_divisor p
unfolding eighteenth product_divisor
divisor_is p = go (ltb p (10 ^ 17))
  where
    go : (b : Bool) → 100000000 + 900000000 * elim b as (λ _. ℕ) [ true ↦ 0 | false ↦ 1 ] ≡ elim b as (λ _. ℕ) [ true ↦ 100000000 | false ↦ 1000000000 ]
    go true = refl
    go false = refl

pub divisor_some : (p : ℕ) → 0 < product_divisor p
divisor_some p = rw (← divisor_is p) (omega arith)

-- what the code has: one division, by the divisor that was worked out
pub scaling_is : (p : ℕ) {d k : ℕ} {q : Part} {z : ℤ} → d ≡ product_divisor p → q ≡ part p d → k ≡ eighteenth p → z ≡ pos (8 + k)
    → record { part = q; dropped = stored z } ≡ scaling p
unfolding scaling
scaling_is p {z = z} d-is q-is k-is z-is =
    let near : mag z ≤ 9 = rw (z-is, k-is) (omega (arith, eighteenth_high p)) in
    λ i. record { part = (q-is ∙ ap (part p) d-is) i; dropped = (kept z (omega (arith, near)) ∙ z-is ∙ ap (λ (k : ℕ). pos (8 + k)) k-is) i }

-- all that the product asks of it: nine digits of p, k more dropped
record Nine (p : ℕ) (s : Scaled) : Type 0 where
  pub k : ℕ
  pub few : k ≤ 9
  pub dropped_is : s.dropped ≡ pos k
  pub part_is : s.part ≡ part p (10 ^ k)
  pub low : 10 ^ 8 * 10 ^ k ≤ p
  pub high : p < 10 * 10 ^ 8 * 10 ^ k

scaling_nine : (p : ℕ) → 10 ^ 16 ≤ p → p < 10 ^ 18 → Nine p (scaling p)
unfolding scaling eighteenth product_divisor
scaling_nine p l h = go (ltb p (10 ^ 17)) (ltb-true p (10 ^ 17)) (ltb-false p (10 ^ 17))
  where
    at : Bool → Scaled
    at b = record {
      part = part p (elim b as (λ _. ℕ) [ true ↦ 100000000 | false ↦ 1000000000 ]);
      dropped = pos (8 + elim b as (λ _. ℕ) [ true ↦ 0 | false ↦ 1 ]);
    }

    go : (b : Bool) → (b ≡ true → p < 10 ^ 17) → (b ≡ false → 10 ^ 17 ≤ p) → Nine p (at b)
    go true f g = record { k = 8; few = lit≤ tt; dropped_is = refl; part_is = refl; low = l; high = f refl }
    go false f g = record { k = 9; few = lit≤ tt; dropped_is = refl; part_is = refl; low = g refl; high = h }

-- ---- the product

product_is : (a b : Figure) → val a ⊗ val b ≈ ofℕ (a.digits * b.digits) ⊗ ten_to (a.power +ℤ b.power)
product_is a b =
    ≈_trans (same_value (ofℕ a.digits ∷ ten_to a.power ∷ ofℕ b.digits ∷ ten_to b.power ∷ [])
    (patom 0 *' patom 1 *' (patom 2 *' patom 3)) (patom 0 *' patom 2 *' (patom 1 *' patom 3)) tt tt)
    (⊗_cong (≈_sym (ofℕ-⊗ a.digits b.digits)) (≈_sym (ten-+ a.power b.power)))

module _ {a b : Figure} (fa : IsFigure 9 a) (fb : IsFigure 9 b) where
  product_small : a.digits * b.digits < 10 ^ 18
  product_small = le_trans (suc-le-suc (mul-le-mul {n₂ = 999999999} {m₂ = 999999999}
      (omega (arith, digits_high fa)) (omega (arith, digits_high fb)))) (lit≤ tt)

  module _ (n : a.digits * b.digits ≡ 0 → ⊥) where
    product_large : 10 ^ 16 ≤ a.digits * b.digits
    product_large = mul-le-mul {n₁ = 100000000} {m₁ = 100000000}
        (digits_low fa (λ z. n (rw z (zero-mul _)))) (digits_low fb (λ z. n (rw z (mul-zero _))))

    product_nine : Nine (a.digits * b.digits) (scaling (a.digits * b.digits))
    product_nine = scaling_nine (a.digits * b.digits) product_large product_small

    -- the part by the one division, rounded, is the product rounded
    product_rounded : (to : Direction)
        → directed to 9 (scaling (a.digits * b.digits)).part (a.power +ℤ b.power +ℤ (scaling (a.digits * b.digits)).dropped)
        ≡ rounded to 9 (value a *ᶠ value b)
    product_rounded to = let nine = product_nine in
        ap₂ (directed to 9) nine.part_is (ap (λ (z : ℤ). a.power +ℤ b.power +ℤ z) nine.dropped_is)
        ∙ rounded_part 8 (pow_pos nine.k) (over_tens (a.digits * b.digits) nine.k (a.power +ℤ b.power) (product_is a b)) nine.low
        nine.high to
        ∙ ap (rounded to 9) (sym (value_times a b))

-- ---- as the code has it

module _ {a b : Figure} (oa : Operand 9 a) (ob : Operand 9 b) where
  pub product_zero : (to : Direction) → a.digits * b.digits ≡ 0 → none ≡ rounded to 9 (value a *ᶠ value b)
  product_zero to z = sym (ap (rounded to 9) (value_times a b) ∙ rounded_zero to 9 _ nothing)
    where
      nothing : (val a ⊗ val b).num ≡ 0
      nothing = unfold ◌⊗◌ ofℕ in omega (arith, ap (λ n. n * ((ten_to a.power).num * (ten_to b.power).num)) z)

  -- the digits and the powers on the way
  module _ {z : Scaled} {s : ℤ} (n : a.digits * b.digits ≡ 0 → ⊥) (z-is : z ≡ scaling (a.digits * b.digits))
      (s-is : s ≡ stored a.power +ℤ stored b.power) where
    nine : Nine (a.digits * b.digits) z
    nine = rw z-is (product_nine oa.is_figure ob.is_figure n)

    sum_is : s ≡ a.power +ℤ b.power
    sum_is = read_sum a.power b.power (room tt oa.near) (room tt ob.near) s-is

    sum_near : mag s ≤ 200001
    sum_near = rw sum_is (omega (arith, mag_sum a.power b.power, oa.near, ob.near))

    dropped_near : mag z.dropped ≤ 9
    dropped_near = rw nine.dropped_is nine.few

    pub product_fits_power : SFits w32 (stored s +ℤ stored z.dropped)
    product_fits_power = both_fit ◌+ℤ◌ sum_small s z.dropped (omega (arith, sum_near)) (omega (arith, dropped_near))

    pub product_below : z.part.whole < 10 ^ 9
    product_below = part_below (a.digits * b.digits) (10 ^ nine.k) (10 ^ 9) nine.part_is (pow_pos nine.k) nine.high

    module _ {u : ℤ} (u-is : u ≡ stored s +ℤ stored z.dropped) where
      total_is : u ≡ s +ℤ z.dropped
      total_is = read_sum s z.dropped (omega (arith, sum_near)) (omega (arith, dropped_near)) u-is

      total_near : mag u ≤ 300000
      total_near = rw total_is (omega (arith, mag_sum s z.dropped, sum_near, dropped_near))

      pub product_power : mag (stored u) ≤ 1000000
      product_power = rw (kept u (omega (arith, total_near))) (omega (arith, total_near))

      pub product_answer : (to : Direction) {r : Figure} → r ≡ directed to 9 z.part (stored u) → r ≡ rounded to 9 (value a *ᶠ value b)
      product_answer to e =
          e ∙ ap₂ (directed to 9) (ap (λ (z : Scaled). z.part) z-is)
          (kept u (omega (arith, total_near)) ∙ total_is ∙ ap₂ ◌+ℤ◌ sum_is (ap (λ (z : Scaled). z.dropped) z-is))
          ∙ product_rounded oa.is_figure ob.is_figure n to

-- ---- the laws of document 02, Item 5

module _ {a b : Figure} (f : Factors a b) where
  some_product : a.digits * b.digits ≡ 0 → ⊥
  some_product z = lt_irrefl 0 (omega (arith, z, mul-pos f.first_some f.second_some))

  product_count : digit_count (a.digits * b.digits) ≡ 17 + eighteenth (a.digits * b.digits)
  unfolding eighteenth
  product_count = go (ltb p (10 ^ 17)) (ltb-true p (10 ^ 17)) (ltb-false p (10 ^ 17))
    where
      p : ℕ
      p = a.digits * b.digits

      count : ℕ
      count = digit_count p

      low : 10 ^ 16 ≤ p
      low = product_large f.first f.second some_product

      high : p < 10 ^ 18
      high = product_small f.first f.second

      above : (k : ℕ) → 10 ^ k ≤ p → k < count
      above k h = exponent-< k count (le_trans (suc-le-suc h) (digits_above p))

      below : (k : ℕ) → p < 10 ^ k → count < suc k
      below k h = exponent-< count (suc k) (rw (pow-succ' 10 k) (omega (arith, digits_below p (omega (arith, low)), h)))

      go : (c : Bool) → (c ≡ true → p < 10 ^ 17) → (c ≡ false → 10 ^ 17 ≤ p) → count ≡ 17 + elim c as (λ _. ℕ) [ true ↦ 0 | false ↦ 1 ]
      go true u v = omega (arith, above 16 low, below 17 (u refl))
      go false u v = omega (arith, above 17 (v refl), below 18 high)

pub seventeen_or_eighteen : SeventeenOrEighteen
seventeen_or_eighteen a b f = product_count f

pub one_division : OneDivision
unfolding times_down divided_once scaling part directed
one_division a b f = sym (product_rounded f.first f.second (some_product f) Down)
