-- All definitions that the exact sums are computed by, opened by one name, as `computing` is. Assumes nothing.
use Rattle.fraction.specs.Fraction.{◌^ᶠ◌}
use Rattle.tree.proofs.Computing.{computing}
use Rattle.accuracy.specs.States.{moment, exact_rate_sum, exact_mean, exact_moment_sum}
use Rattle.accuracy.specs.Bounds.{factorial, product, power_over_factorial, class1_rates, upper_factors, exact_upper, grain_time, time_left}
use Rattle.accuracy.specs.Bounds.{class2_exact_factor, class3_exact_factor, lower_factors, exact_path_rate_sum, all_factors}
use Rattle.accuracy.specs.Bounds.{exact_lower_with, exact_lower}
use Rattle.accuracy.specs.Rule.{sum_of, exact_upper_sum, exact_lower_sum, death_upper_sum, cut_upper_sum}

unfoldable pub computing_exact : Type 0
unfolding computing ◌^ᶠ◌
    sum_of exact_upper_sum exact_lower_sum death_upper_sum cut_upper_sum
    moment exact_rate_sum exact_mean exact_moment_sum
    factorial product power_over_factorial class1_rates upper_factors exact_upper grain_time time_left
    class2_exact_factor class3_exact_factor lower_factors exact_path_rate_sum all_factors exact_lower_with exact_lower
computing_exact = Unit {0}
