-- The steps that the crate's private functions take, as their contracts name them. No public contract cites this page. Assumes nothing: these
-- are definitions.
use Rattle.std.specs.Prelude.{true, false, not, ◌||◌, ℕ, zero, suc, ◌+◌, ◌-◌, ◌*◌, ◌/◌, ◌^◌, ◌≤◌, ◌<◌, ltb, eqb, ℤ, pos, nat_abs, ◌+ℤ◌, ◌-ℤ◌, ◌≤ℤ◌}
use Rattle.std.specs.Int.Signed.{mag, le_z}
use Rattle.fraction.specs.Fraction.{Fraction}
use Rattle.figure.specs.declared.Figure.{Figure}
use Rattle.figure.specs.declared.Direction.{Direction}
use Rattle.figure.specs.declared.Direction.TheVariants.{Down, Up}
use Rattle.figure.specs.declared.division.Part.{Part}
use Rattle.figure.specs.declared.division.Width.{Width}
use Rattle.figure.specs.declared.division.Width.TheVariants.{Nine, Eighteen}
use Rattle.figure.specs.declared.product.Scaled.{Scaled}
use Rattle.figure.specs.Rounding.{figure, none, up, down}
use Rattle.figure.specs.Operands.{Sized}
use Rattle.figure.specs.Products.{product_divisor, eighteenth}

-- the two roundings as one, over the direction
abbrev pub rounded : Direction → ℕ → Fraction → Figure
rounded Up K x = up K x
rounded Down K x = down K x

-- the digits that a rounding leaves
abbrev pub digits_of : Width → ℕ
digits_of Nine = 9
digits_of Eighteen = 18

-- a number of digits that the code works with
pub record Digits (K : ℕ) : Type 0 where
  pub some : 0 < K
  pub most : K ≤ 18

-- the quotient of two whole numbers, and whether something was left over
unfoldable pub part : ℕ → ℕ → Part
part n d = record { whole = n / d; rest = not (eqb (n / d * d) n) }

-- a quotient divided once more: what was left before counts too
unfoldable pub shorter : Part → ℕ → Part
shorter p d = record { whole = p.whole / d; rest = p.rest || (part p.whole d).rest }

-- d times 10^e, where d may be 10^K
unfoldable pub carry : ℕ → ℕ → ℤ → Figure
carry K d e = elim (eqb d (10 ^ K)) [ true ↦ figure (10 ^ (K - 1)) (e +ℤ pos 1) | false ↦ figure d e ]

-- the digits of a part at the power e: one more where the direction is up and something was left over
unfoldable pub directed : Direction → ℕ → Part → ℤ → Figure
directed to K p e = elim to [ Up ↦ elim p.rest [ true ↦ carry K (p.whole + 1) e | false ↦ figure p.whole e ] | Down ↦ figure p.whole e ]

-- the same for a part that may have one digit too many
unfoldable pub trimmed : Direction → ℕ → Part → ℤ → Figure
trimmed to K p e = elim (ltb p.whole (10 ^ K)) [ true ↦ directed to K p e | false ↦ directed to K (shorter p 10) (e +ℤ pos 1) ]

-- how far the power of a stands above that of b
abbrev pub gap_of : Figure → Figure → ℕ
gap_of a b = nat_abs (a.power -ℤ b.power)

-- two figures of K digits, neither of them zero, the first with the higher power or the same
pub record Ordered (K : ℕ) (a b : Figure) : Type 0 where
  pub first : Sized K 200000 a
  pub second : Sized K 200000 b
  pub first_some : 0 < a.digits
  pub second_some : 0 < b.digits
  pub order : b.power ≤ℤ a.power

-- two numbers of up to eighteen digits in that order
pub record Alignable (a b : Figure) : Type 0 where
  pub first_high : a.digits < 10 ^ 18
  pub second_high : b.digits < 10 ^ 18
  pub first_near : mag a.power ≤ 200000
  pub second_near : mag b.power ≤ 200000
  pub order : b.power ≤ℤ a.power

-- two figures, the one with the higher power first
unfoldable pub in_order : Figure → Figure → Figure × Figure
in_order a b = elim (le_z b.power a.power) [ true ↦ (a, b) | false ↦ (b, a) ]

-- the sum of a and b in units of a's power, where b's power is not above it
unfoldable pub aligned_sum : Figure → Figure → Part
aligned_sum a b = part (a.digits * 10 ^ gap_of a b + b.digits) (10 ^ gap_of a b)

-- the first nine digits of a product of two figures that are not zero, and how many more it has: one division (document 02, Item 5)
unfoldable pub scaling : ℕ → Scaled
scaling p = record { part = part p (product_divisor p); dropped = pos (8 + eighteenth p) }

-- a whole number of nine digits
pub record NineDigits (n : ℕ) : Type 0 where
  pub least : 10 ^ 8 ≤ n
  pub most : n < 10 ^ 9

-- a with k zeros, over b, has nine digits
pub record Padding (a b k : ℕ) : Type 0 where
  pub few : k ≤ 9
  pub low : 10 ^ 8 * b ≤ a * 10 ^ k
  pub high : a * 10 ^ k < 10 ^ 9 * b

-- a figure of nine digits less something above zero and below a tenth of its last digit
unfoldable pub just_below : Direction → Figure → Figure
just_below to a = elim (eqb a.digits (10 ^ 8)) [
  | true ↦ directed to 9 (record { whole = 999999999; rest = true }) (a.power -ℤ pos 1)
  | false ↦ directed to 9 (record { whole = a.digits - 1; rest = true }) a.power
]

-- a figure of nine digits, with eighteen
unfoldable pub widening : Figure → Figure
widening a = elim a.digits [ zero ↦ none | suc d ↦ figure (suc d * 10 ^ 9) (a.power -ℤ pos 9) ]
