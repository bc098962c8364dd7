-- The definitions agree with the pairs whose answers were worked out: by computing them. Assumes nothing.
use mathlib.Core.Path.{refl}
use Rattle.fraction.specs.Fraction.{whole, ten, ratio, at_most, ◌+ᶠ◌, ◌-ᶠ◌, ◌*ᶠ◌}
use Rattle.figure.specs.Rounding.{value, digits_from, digit_count, dividend, divisor, floor, ceiling, lowest_power, up_from, down_from, up, down}
use Rattle.figure.specs.Operations.{times_up, times_down, plus_up, plus_down, minus_up, minus_down, of_whole, at_or_below}
use Rattle.figure.specs.Tested.{figure_test}
use Rattle.tree.specs.Marked.{all}
use Rattle.orprob.specs.Pairs.{power_inside, is_pair, first_wrong}
use Rattle.orprob.specs.Combination.{at_most_one, with_upper, with_lower, upper_or, lower_or, answer, complements, exact_or, exact_lower_or, exact_upper_or}
use Rattle.orprob.specs.Pinned.{or_cases, OrCasesAgree, exact_ors, ExactOrsAgree}

pub or_cases_agree : OrCasesAgree
unfolding OrCasesAgree or_cases all answer first_wrong is_pair power_inside figure_test lower_or upper_or with_lower with_upper at_most_one
    whole ten at_most ◌+ᶠ◌ ◌-ᶠ◌ ◌*ᶠ◌
    value digits_from digit_count dividend divisor floor ceiling lowest_power up_from down_from up down
    times_up times_down plus_up plus_down minus_up minus_down of_whole at_or_below
or_cases_agree = refl

pub exact_ors_agree : ExactOrsAgree
unfolding ExactOrsAgree exact_ors all exact_lower_or exact_upper_or exact_or complements at_most_one
    whole ten ratio at_most ◌+ᶠ◌ ◌-ᶠ◌ ◌*ᶠ◌
    value digits_from digit_count dividend divisor floor lowest_power down_from down of_whole at_or_below
exact_ors_agree = refl
