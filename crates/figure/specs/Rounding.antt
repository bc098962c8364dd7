-- Document 01, "Figures and their rounding": what a figure is, its value, and the two roundings. The number of digits, K, is a parameter: 9 for
-- a figure and 18 for a running total ("Totals keep eighteen digits"). Assumes nothing: these are definitions.
use Rattle.std.specs.Prelude.{true, false, ◌≡◌, ℕ, zero, suc, ◌+◌, ◌-◌, ◌*◌, ◌/◌, ◌^◌, ◌≤◌, ◌<◌, ltb, ℤ, pos, negsuc}
use Rattle.std.proofs.Math.IntN.{suc_ℤ, sub_ℕ}
use Rattle.fraction.specs.Fraction.{Fraction, ◌≤ᶠ◌, whole, ten, ◌*ᶠ◌}
use Rattle.figure.specs.declared.Figure.{Figure}

abbrev pub figure : ℕ → ℤ → Figure
figure d p = record { digits = d; power = p }

-- "A figure is zero (held with power 0) .."
abbrev pub none : Figure
none = figure 0 (pos 0)

-- the number that a figure stands for
unfoldable pub value : Figure → Fraction
value f = whole f.digits *ᶠ ten f.power

-- ".. or a whole number from 100,000,000 to 999,999,999 times a power of ten that may be negative"
pub data IsFigure (K : ℕ) (f : Figure) : Type 0 where
  is_zero : f.digits ≡ 0 → f.power ≡ pos 0 → IsFigure K f
  is_whole : 10 ^ (K - 1) ≤ f.digits → f.digits < 10 ^ K → IsFigure K f

-- "Up(x) is the least figure not below x"
pub record IsUp (K : ℕ) (x : Fraction) (f : Figure) : Type 0 where
  pub is_figure : IsFigure K f
  pub not_below : x ≤ᶠ value f
  pub least : (g : Figure) → IsFigure K g → x ≤ᶠ value g → value f ≤ᶠ value g

-- "down(x) the greatest not above"
pub record IsDown (K : ℕ) (x : Fraction) (f : Figure) : Type 0 where
  pub is_figure : IsFigure K f
  pub not_above : value f ≤ᶠ x
  pub greatest : (g : Figure) → IsFigure K g → value g ≤ᶠ x → value g ≤ᶠ value f

-- ---- the two, computed: that `up` and `down` below are these, and the only ones, for x at or above 0 is `UpIsUp`, `DownIsDown`, `UpUnique` and
-- `DownUnique` (crates/figure/specs/Faithful.antt)

-- the number of decimal digits: the least j from `j` on with n below 10^j; `fuel` bounds the search
unfoldable pub digits_from : ℕ → ℕ → ℕ → ℕ
digits_from zero j n = j
digits_from (suc fuel) j n = elim (ltb n (10 ^ j)) [ true ↦ j | false ↦ digits_from fuel (suc j) n ]

unfoldable pub digit_count : ℕ → ℕ
digit_count n = digits_from n 0 n

-- the numerator, 0 for a negative one
abbrev pub above_zero : ℤ → ℕ
above_zero (pos n) = n
above_zero (negsuc n) = 0

-- x over 10^e as a quotient of whole numbers, for x at or above 0
unfoldable pub dividend : Fraction → ℤ → ℕ
dividend x e = above_zero x.num * (ten e).den

unfoldable pub divisor : Fraction → ℤ → ℕ
divisor x e = x.den * above_zero (ten e).num

-- how many whole times 10^e goes into x, and how many times reach it
unfoldable pub floor : Fraction → ℤ → ℕ
floor x e = dividend x e / divisor x e

unfoldable pub ceiling : Fraction → ℤ → ℕ
ceiling x e = (dividend x e + (divisor x e - 1)) / divisor x e

-- A power e with 10^(K - 1) ≤ x / 10^e < 10^(K + 1), for x above 0: a quotient of a number of a digits by one of b digits lies between
-- 10^(a - b - 1) and 10^(a - b + 1).
unfoldable pub lowest_power : ℕ → Fraction → ℤ
lowest_power K x = sub_ℕ (digit_count (above_zero x.num)) (digit_count x.den + K)

-- the multiple of 10^e, 10^(e + 1), .. that reaches x, at the first of these powers where it has K digits; the last of them needs no test
unfoldable pub up_from : ℕ → ℕ → Fraction → ℤ → Figure
up_from K zero x e = figure (10 ^ (K - 1)) e
up_from K (suc n) x e = elim (ltb (ceiling x e) (10 ^ K)) [ true ↦ figure (ceiling x e) e | false ↦ up_from K n x (suc_ℤ e) ]

-- the multiple of 10^(e + 1) that stays at or below x, or of 10^e where that one has too few digits
unfoldable pub down_from : ℕ → Fraction → ℤ → Figure
down_from K x e = elim (ltb (floor x (suc_ℤ e)) (10 ^ (K - 1))) [ true ↦ figure (floor x e) e | false ↦ figure (floor x (suc_ℤ e)) (suc_ℤ e) ]

-- Up(x), to K digits. For x below 0 it is 0 ("A difference that isn't positive is 0").
unfoldable pub up : ℕ → Fraction → Figure
up K x = elim (above_zero x.num) [ zero ↦ none | suc _ ↦ up_from K 2 x (lowest_power K x) ]

-- Down(x), to K digits. For x below 0 there is no figure not above x, and this is 0 ("A difference that isn't positive is 0").
unfoldable pub down : ℕ → Fraction → Figure
down K x = elim (above_zero x.num) [ zero ↦ none | suc _ ↦ down_from K x (lowest_power K x) ]
