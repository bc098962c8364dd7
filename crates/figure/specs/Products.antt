-- Document 02, Item 5, "Picking the divisor without a branch": what a product of two figures is divided by, and what that rests on. Assumes nothing:
-- these are definitions and statements.
use Rattle.std.specs.Prelude.{true, false, ◌≡◌, ℕ, ◌+◌, ◌*◌, ◌/◌, ◌^◌, ◌<◌, ltb, pos, ◌+ℤ◌}
use Rattle.figure.specs.declared.Figure.{Figure}
use Rattle.figure.specs.Rounding.{figure, IsFigure, digit_count}
use Rattle.figure.specs.Operations.{times_down}

-- "100,000,000 for a product below 10^17, otherwise 1,000,000,000"
unfoldable pub product_divisor : ℕ → ℕ
product_divisor p = elim (ltb p (10 ^ 17)) [ true ↦ 100000000 | false ↦ 1000000000 ]

-- the comparison as a number: 0 for a product below 10^17, otherwise 1
unfoldable pub eighteenth : ℕ → ℕ
eighteenth p = elim (ltb p (10 ^ 17)) [ true ↦ 0 | false ↦ 1 ]

-- "two figures that aren't zero"
pub record Factors (a b : Figure) : Type 0 where
  pub first : IsFigure 9 a
  pub second : IsFigure 9 b
  pub first_some : 0 < a.digits
  pub second_some : 0 < b.digits

-- "A product of two figures that aren't zero has 17 or 18 digits"
abbrev pub SeventeenOrEighteen : Type 0
SeventeenOrEighteen = (a b : Figure) → Factors a b → digit_count (a.digits * b.digits) ≡ 17 + eighteenth (a.digits * b.digits)

-- "let there be one division": its quotient has the digits of the product rounded down, and as many zeros as the divisor has stand in the power
unfoldable pub divided_once : Figure → Figure → Figure
divided_once a b = figure (a.digits * b.digits / product_divisor (a.digits * b.digits)) (a.power +ℤ b.power +ℤ pos (8 + eighteenth (a.digits * b.digits)))

abbrev pub OneDivision : Type 0
OneDivision = (a b : Figure) → Factors a b → times_down a b ≡ divided_once a b
