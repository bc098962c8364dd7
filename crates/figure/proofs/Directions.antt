-- Each operation, by its direction, is the rounding in that direction of the exact result. Assumes nothing.
use mathlib.Core.Path.{◌≡◌, refl}
use Rattle.fraction.specs.Fraction.{◌+ᶠ◌, ◌-ᶠ◌, ◌*ᶠ◌, ◌/ᶠ◌}
use Rattle.figure.specs.declared.Figure.{Figure}
use Rattle.figure.specs.declared.Direction.{Direction}
use Rattle.figure.specs.declared.Direction.TheVariants.{Down, Up}
use Rattle.figure.specs.Rounding.{value}
use Rattle.figure.specs.Operations as ops
use Rattle.figure.specs.Operations.{times_up, times_down, plus_up, plus_down, minus_up, minus_down, divided_up, divided_down, total_up, total_down, to_nine_up, to_nine_down, sum_to_nine_up, sum_to_nine_down}
use Rattle.figure.specs.Internal.Steps.{rounded}

pub times_rounded : (to : Direction) (a b : Figure) → ops.times to a b ≡ rounded to 9 (value a *ᶠ value b)
unfolding times_up times_down
times_rounded Up a b = refl
times_rounded Down a b = refl

pub plus_rounded : (to : Direction) (a b : Figure) → ops.plus to a b ≡ rounded to 9 (value a +ᶠ value b)
unfolding plus_up plus_down
plus_rounded Up a b = refl
plus_rounded Down a b = refl

pub minus_rounded : (to : Direction) (a b : Figure) → ops.minus to a b ≡ rounded to 9 (value a -ᶠ value b)
unfolding minus_up minus_down
minus_rounded Up a b = refl
minus_rounded Down a b = refl

pub divided_rounded : (to : Direction) (a b : Figure) → ops.divided to a b ≡ rounded to 9 (value a /ᶠ value b)
unfolding divided_up divided_down
divided_rounded Up a b = refl
divided_rounded Down a b = refl

pub total_rounded : (to : Direction) (t a : Figure) → ops.total to t a ≡ rounded to 18 (value t +ᶠ value a)
unfolding total_up total_down
total_rounded Up t a = refl
total_rounded Down t a = refl

pub to_nine_rounded : (to : Direction) (t : Figure) → ops.to_nine to t ≡ rounded to 9 (value t)
unfolding to_nine_up to_nine_down
to_nine_rounded Up t = refl
to_nine_rounded Down t = refl

pub sum_to_nine_rounded : (to : Direction) (t s : Figure) → ops.sum_to_nine to t s ≡ rounded to 9 (value t +ᶠ value s)
unfolding sum_to_nine_up sum_to_nine_down
sum_to_nine_rounded Up t s = refl
sum_to_nine_rounded Down t s = refl
