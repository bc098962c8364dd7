-- Document 01, "Figures and their rounding": "Each operation rounds once; operations by 2, k, k + 1, n², n and powers of ten are no exception,
-- save that a power of ten is exact." Each operation on figures is a rounding of the exact result. Assumes nothing: these are definitions.
use Rattle.std.specs.Prelude.{Bool, ℕ, zero, suc, ◌^◌, ℤ, pos, ◌+ℤ◌}
use Rattle.fraction.specs.Fraction.{whole, ratio, at_most, ◌+ᶠ◌, ◌-ᶠ◌, ◌*ᶠ◌, ◌/ᶠ◌}
use Rattle.figure.specs.declared.Figure.{Figure}
use Rattle.figure.specs.declared.Direction.{Direction}
use Rattle.figure.specs.declared.Direction.TheVariants.{Down, Up}
use Rattle.figure.specs.Rounding.{figure, none, value, up, down}

-- ---- nine digits

unfoldable pub times_up : Figure → Figure → Figure
times_up a b = up 9 (value a *ᶠ value b)

unfoldable pub times_down : Figure → Figure → Figure
times_down a b = down 9 (value a *ᶠ value b)

unfoldable pub plus_up : Figure → Figure → Figure
plus_up a b = up 9 (value a +ᶠ value b)

unfoldable pub plus_down : Figure → Figure → Figure
plus_down a b = down 9 (value a +ᶠ value b)

-- "A difference that isn't positive is 0."
unfoldable pub minus_up : Figure → Figure → Figure
minus_up a b = up 9 (value a -ᶠ value b)

unfoldable pub minus_down : Figure → Figure → Figure
minus_down a b = down 9 (value a -ᶠ value b)

unfoldable pub divided_up : Figure → Figure → Figure
divided_up a b = up 9 (value a /ᶠ value b)

unfoldable pub divided_down : Figure → Figure → Figure
divided_down a b = down 9 (value a /ᶠ value b)

-- times ten to the power p: exact, and zero keeps its power 0
unfoldable pub times_ten : Figure → ℤ → Figure
times_ten a p = elim a.digits [ zero ↦ none | suc d ↦ figure (suc d) (a.power +ℤ p) ]

-- a whole number, rounded down; up to nine digits this is exact
unfoldable pub of_whole : ℕ → Figure
of_whole n = down 9 (whole n)

-- c / 10^p, a quantity of the word table; it has at most six digits, so this is exact
unfoldable pub of_quantity : ℕ → ℕ → Figure
of_quantity c p = up 9 (ratio (pos c) (10 ^ p))

-- "at or below"
unfoldable pub at_or_below : Figure → Figure → Bool
at_or_below a b = at_most (value a) (value b)

-- ---- totals: "Totals keep eighteen digits, rounding outward at each addition"

unfoldable pub total_up : Figure → Figure → Figure
total_up t a = up 18 (value t +ᶠ value a)

unfoldable pub total_down : Figure → Figure → Figure
total_down t a = down 18 (value t +ᶠ value a)

-- "The lower total, the cut total and the sum of both uppers go to nine digits last, outward."
unfoldable pub to_nine_up : Figure → Figure
to_nine_up t = up 9 (value t)

unfoldable pub to_nine_down : Figure → Figure
to_nine_down t = down 9 (value t)

unfoldable pub sum_to_nine_up : Figure → Figure → Figure
sum_to_nine_up t s = up 9 (value t +ᶠ value s)

unfoldable pub sum_to_nine_down : Figure → Figure → Figure
sum_to_nine_down t s = down 9 (value t +ᶠ value s)

-- ---- each operation by the direction in which it rounds

abbrev pub times : Direction → Figure → Figure → Figure
times Up a b = times_up a b
times Down a b = times_down a b

abbrev pub plus : Direction → Figure → Figure → Figure
plus Up a b = plus_up a b
plus Down a b = plus_down a b

abbrev pub minus : Direction → Figure → Figure → Figure
minus Up a b = minus_up a b
minus Down a b = minus_down a b

abbrev pub divided : Direction → Figure → Figure → Figure
divided Up a b = divided_up a b
divided Down a b = divided_down a b

abbrev pub total : Direction → Figure → Figure → Figure
total Up t a = total_up t a
total Down t a = total_down t a

abbrev pub to_nine : Direction → Figure → Figure
to_nine Up t = to_nine_up t
to_nine Down t = to_nine_down t

abbrev pub sum_to_nine : Direction → Figure → Figure → Figure
sum_to_nine Up t s = sum_to_nine_up t s
sum_to_nine Down t s = sum_to_nine_down t s
