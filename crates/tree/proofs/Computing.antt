-- All definitions that an answer is computed by, opened by one name: a proof by computing says `unfolding computing`. Assumes nothing.
use mathlib.Core.List.{flat_map}
use Rattle.fraction.specs.Fraction.{whole, ratio, inverse, ten, at_most, ◌+ᶠ◌, ◌-ᶠ◌, ◌*ᶠ◌, ◌/ᶠ◌}
use Rattle.figure.specs.Rounding.{value, digits_from, digit_count, dividend, divisor, floor, ceiling, lowest_power, up_from, down_from, up, down}
use Rattle.figure.specs.Operations.{times_up, times_down, plus_up, plus_down, minus_down, divided_up, divided_down, times_ten, of_whole, of_quantity}
use Rattle.figure.specs.Operations.{at_or_below, total_up, total_down, to_nine_up, to_nine_down, sum_to_nine_up}
use Rattle.figure.specs.Losses.{keeps, times_keeps, plus_keeps, minus_keeps, divided_keeps, whole_keeps, total_keeps, to_nine_keeps, sum_to_nine_keeps}
use Rattle.word.specs.Model.{only, any, is_named, exits_in, has_fast, probability_sum}
use Rattle.word.specs.Answer.{then}
use Rattle.model.specs.Reading.{last_of, unless, next_transition, next_named, next, at_words_end, read_from, lowest, first_of, read}
use Rattle.tree.specs.Paths.{last_state, entries, class, class1_count}
use Rattle.tree.specs.States.{time_squared, second_moment, sum_over, rate_sum, mean_up, mean_down, moment_sum}
use Rattle.tree.specs.Upper.{upper_step, upper}
use Rattle.tree.specs.Grains.{halve, reaches, least, class2_goal, class3_goal, class2_grains, class3_grains, grains_by, grains, grain_sum}
use Rattle.tree.specs.Lower.{exact, class2_loss, class3_loss, class2_factor, class3_factor}
use Rattle.tree.specs.Lower.{lower_step, lower_product, path_rate_sum, remaining_time, last_factor, lower_with, lower}
use Rattle.tree.specs.Tree.{outcome, visits, tree, paths}
use Rattle.tree.specs.Report.{upper_total, lower_total, report_of, report_on, walked, answer}
use Rattle.tree.specs.Marks.{time_squared_kept, second_moment_kept, sum_kept, rate_sum_kept, mean_up_kept, mean_down_kept, moment_sum_kept}
use Rattle.tree.specs.Marks.{class2_goal_kept, class3_goal_kept, grains_kept, all_grains_kept}
use Rattle.tree.specs.Marks.{class2_loss_kept, class2_factor_kept, class3_loss_kept, class3_factor_kept}
use Rattle.tree.specs.Marks.{lower_product_kept, path_rates_kept, last_factor_kept, lower_kept_with, lower_kept, upper_kept}
use Rattle.tree.specs.Marks.{total_kept, marks_of, marks_on, marks_with}

unfoldable pub computing : Type 0
unfolding answer walked report_on report_of upper_total lower_total
    read first_of lowest read_from at_words_end next next_named next_transition unless last_of then
    only any is_named exits_in has_fast probability_sum
    whole ratio inverse ten at_most ◌+ᶠ◌ ◌-ᶠ◌ ◌*ᶠ◌ ◌/ᶠ◌
    value digits_from digit_count dividend divisor floor ceiling lowest_power up_from down_from up down
    times_up times_down plus_up plus_down minus_down divided_up divided_down times_ten of_whole of_quantity
    at_or_below total_up total_down to_nine_up to_nine_down sum_to_nine_up
    last_state entries class class1_count
    time_squared second_moment sum_over rate_sum mean_up mean_down moment_sum
    upper_step upper
    halve reaches least class2_goal class3_goal class2_grains class3_grains grains_by grains grain_sum
    exact class2_loss class3_loss class2_factor class3_factor
    lower_step lower_product path_rate_sum remaining_time last_factor lower_with lower
    outcome visits tree paths flat_map
    keeps times_keeps plus_keeps minus_keeps divided_keeps whole_keeps total_keeps to_nine_keeps sum_to_nine_keeps
    time_squared_kept second_moment_kept sum_kept rate_sum_kept mean_up_kept mean_down_kept moment_sum_kept
    class2_goal_kept class3_goal_kept grains_kept all_grains_kept class2_loss_kept class2_factor_kept class3_loss_kept class3_factor_kept
    lower_product_kept path_rates_kept last_factor_kept lower_kept_with lower_kept upper_kept
    total_kept marks_of marks_on marks_with
computing = Unit {0}
