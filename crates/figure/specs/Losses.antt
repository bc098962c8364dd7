-- Document 02, Item 2: "Each rounding operation shall tell if it lost anything." Whether something is lost does not depend on the direction. Assumes
-- nothing: these are definitions.
use Rattle.std.specs.Prelude.{ℕ, ◌^◌, Bool, ◌||◌, pos}
use Rattle.fraction.specs.Fraction.{Fraction, whole, ratio, at_most, ◌+ᶠ◌, ◌-ᶠ◌, ◌*ᶠ◌, ◌/ᶠ◌}
use Rattle.figure.specs.declared.Figure.{Figure}
use Rattle.figure.specs.declared.Rounded.{Rounded}
use Rattle.figure.specs.Rounding.{value, up}

-- Rounding x to K digits, up or down, loses nothing: x is a figure of K digits, so that up(x) is x; or it isn't positive ("setting a difference to 0
-- loses nothing"). That this is so of both directions is `UpKeeps` to `DownKept` (crates/figure/specs/Faithful.antt).
unfoldable pub keeps : ℕ → Fraction → Bool
keeps K x = at_most x (whole 0) || at_most (value (up K x)) x

-- what an operation that tells hands back: the figure, and whether nothing was lost
abbrev pub told : Figure → Bool → Rounded
told f k = record { figure = f; kept = k }

-- ---- each operation, whichever way it rounds

unfoldable pub times_keeps : Figure → Figure → Bool
times_keeps a b = keeps 9 (value a *ᶠ value b)

unfoldable pub plus_keeps : Figure → Figure → Bool
plus_keeps a b = keeps 9 (value a +ᶠ value b)

unfoldable pub minus_keeps : Figure → Figure → Bool
minus_keeps a b = keeps 9 (value a -ᶠ value b)

unfoldable pub divided_keeps : Figure → Figure → Bool
divided_keeps a b = keeps 9 (value a /ᶠ value b)

unfoldable pub whole_keeps : ℕ → Bool
whole_keeps n = keeps 9 (whole n)

unfoldable pub quantity_keeps : ℕ → ℕ → Bool
quantity_keeps c p = keeps 9 (ratio (pos c) (10 ^ p))

-- totals of eighteen digits, and their last rounding to nine

unfoldable pub total_keeps : Figure → Figure → Bool
total_keeps t a = keeps 18 (value t +ᶠ value a)

unfoldable pub to_nine_keeps : Figure → Bool
to_nine_keeps t = keeps 9 (value t)

unfoldable pub sum_to_nine_keeps : Figure → Figure → Bool
sum_to_nine_keeps t s = keeps 9 (value t +ᶠ value s)
