-- The definitions agree with the products that were worked out by other hands: by computing them. Assumes nothing.
use mathlib.Core.Path.{refl}
use Rattle.fraction.specs.Fraction.{whole, ten, at_most, ◌*ᶠ◌}
use Rattle.figure.specs.Rounding.{value, digits_from, digit_count, dividend, divisor, floor, ceiling, lowest_power, up_from, down_from, up, down}
use Rattle.figure.specs.Operations.{times_up, times_down}
use Rattle.figure.specs.Losses.{keeps, times_keeps}
use Rattle.figure.specs.Products.{product_divisor, eighteenth, divided_once}
use Rattle.figure.specs.ProductsPinned.{product_cases, ProductCasesAgree}

pub product_cases_agree : ProductCasesAgree
unfolding ProductCasesAgree product_cases product_divisor eighteenth divided_once times_up times_down times_keeps keeps
    whole ten at_most ◌*ᶠ◌ value digits_from digit_count dividend divisor floor ceiling lowest_power up_from down_from up down
product_cases_agree = (refl, refl)
