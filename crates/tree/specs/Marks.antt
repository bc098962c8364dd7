-- Document 02, Item 2, "Say when nothing was rounded": beside each figure's definition, whether nothing was lost by any operation that the figure rests on;
-- and the report's two digits. Assumes nothing: these are definitions.
use Rattle.std.specs.Prelude.{ℕ, ◌+◌, ◌^◌, Bool, true, false, ◌&&◌, List, [], ◌∷◌, leb, pos}
use Rattle.figure.specs.declared.Figure.{Figure}
use Rattle.figure.specs.Rounding.{none, up, down}
use Rattle.figure.specs.Operations.{times_up, times_down, minus_down, divided_up, times_ten, of_whole, total_up, total_down}
use Rattle.figure.specs.Losses.{keeps, times_keeps, plus_keeps, minus_keeps, divided_keeps, whole_keeps, total_keeps, to_nine_keeps, sum_to_nine_keeps}
use Rattle.word.specs.declared.Quantity.{Quantity}
use Rattle.word.specs.Model.{Manner, slow, fast, Transition, Net, Model, exits}
use Rattle.word.specs.Answer.{Answer}
use Rattle.model.specs.Reading.{read}
use Rattle.tree.specs.Paths.{Path, Class, class1, class2, class3, class, class1_count}
use Rattle.tree.specs.States.{figure_of, mission_time, time_squared, second_moment, add_rate, add_mean_up, add_mean_down, add_moment}
use Rattle.tree.specs.States.{rate_sum, mean_up, mean_down, moment_sum}
use Rattle.tree.specs.Upper.{share, upper}
use Rattle.tree.specs.Grains.{grains, grain_sum}
use Rattle.tree.specs.Lower.{class2_loss, class3_loss, class2_factor, class3_factor, lower_product, path_rate_sum, remaining_time, last_factor, lower}
use Rattle.tree.specs.Tree.{Visit, tree, deaths, cuts}
use Rattle.tree.specs.Report.{Report, upper_total, lower_total}

-- ---- what a state and a transition rest on: "every stated operation". Making a quantity of the table, 2, k, k + 1 or n a figure loses nothing
-- (`QuantityKept` and `WholeKept`, crates/figure/specs/Faithful.antt), a power of ten is exact, and the search for grains rounds nothing.

unfoldable pub time_squared_kept : Net → Bool
time_squared_kept net = times_keeps (mission_time net) (mission_time net)

unfoldable pub second_moment_kept : Quantity → Quantity → Bool
second_moment_kept m d =
    times_keeps (figure_of m) (figure_of m)
    && (times_keeps (figure_of d) (figure_of d)
    && plus_keeps (times_up (figure_of m) (figure_of m)) (times_up (figure_of d) (figure_of d)))

-- a sum over exits: what each adds to the sum so far, and whether that loses nothing
unfoldable pub sum_kept : (Figure → Manner → Figure) → (Figure → Manner → Bool) → Figure → List Transition → Bool
sum_kept add kept a [] = true
sum_kept add kept a (t ∷ ts) = kept a t.manner && sum_kept add kept (add a t.manner) ts

abbrev pub rate_kept_by : Figure → Manner → Bool
rate_kept_by a (slow r) = plus_keeps a (figure_of r)
rate_kept_by a (fast m d q) = true

abbrev pub mean_up_kept_by : Figure → Manner → Bool
mean_up_kept_by a (slow r) = true
mean_up_kept_by a (fast m d q) = times_keeps (figure_of q) (figure_of m) && plus_keeps a (times_up (figure_of q) (figure_of m))

abbrev pub mean_down_kept_by : Figure → Manner → Bool
mean_down_kept_by a (slow r) = true
mean_down_kept_by a (fast m d q) = times_keeps (figure_of q) (figure_of m) && plus_keeps a (times_down (figure_of q) (figure_of m))

abbrev pub moment_kept_by : Figure → Manner → Bool
moment_kept_by a (slow r) = true
moment_kept_by a (fast m d q) =
    second_moment_kept m d && (times_keeps (figure_of q) (second_moment m d) && plus_keeps a (times_up (figure_of q) (second_moment m d)))

-- E, h, h' and H
unfoldable pub rate_sum_kept : Net → ℕ → Bool
rate_sum_kept net s = sum_kept add_rate rate_kept_by none (exits net s)

unfoldable pub mean_up_kept : Net → ℕ → Bool
mean_up_kept net s = sum_kept add_mean_up mean_up_kept_by none (exits net s)

unfoldable pub mean_down_kept : Net → ℕ → Bool
mean_down_kept net s = sum_kept add_mean_down mean_down_kept_by none (exits net s)

unfoldable pub moment_sum_kept : Net → ℕ → Bool
moment_sum_kept net s = sum_kept add_moment moment_kept_by none (exits net s)

-- ---- grains: what g rests on

unfoldable pub class2_goal_kept : Net → Quantity → Quantity → Bool
class2_goal_kept net m d =
    second_moment_kept m d
    && (time_squared_kept net
    && (times_keeps (of_whole 2) (second_moment m d) && divided_keeps (times_up (of_whole 2) (second_moment m d)) (time_squared net)))

unfoldable pub class3_goal_kept : Net → ℕ → Bool
class3_goal_kept net s =
    moment_sum_kept net s
    && (mean_down_kept net s
    && (times_keeps (mean_down net s) (mission_time net) && divided_keeps (moment_sum net s) (times_down (mean_down net s) (mission_time net))))

abbrev pub class2_grains_kept : Net → Manner → Bool
class2_grains_kept net (slow r) = true
class2_grains_kept net (fast m d q) = class2_goal_kept net m d

abbrev pub grains_kept_by : Net → Class → Transition → Bool
grains_kept_by net class1 t = true
grains_kept_by net class2 t = class2_grains_kept net t.manner
grains_kept_by net class3 t = class3_goal_kept net t.from

-- those of a step on a path, as `grains`; a class 1 step has none
unfoldable pub grains_kept : Net → Path → Transition → Bool
grains_kept net p t = grains_kept_by net (class net t) t

unfoldable pub all_grains_kept : (Transition → Bool) → Path → Bool
all_grains_kept kept [] = true
all_grains_kept kept (t ∷ p) = kept t && all_grains_kept kept p

-- ---- the factors of a lower

-- class 2's y: "counted even after a factor of 0"
unfoldable pub class2_loss_kept : Net → ℕ → Quantity → Quantity → ℕ → Bool
class2_loss_kept net s m d n =
    let square = times_down (of_whole (n ^ 2)) (time_squared net) in
    let rest = times_ten (divided_up (second_moment m d) square) (pos 12) in
    rate_sum_kept net s
    && (times_keeps (rate_sum net s) (figure_of m)
    && (second_moment_kept m d
    && (time_squared_kept net
    && (whole_keeps (n ^ 2)
    && (times_keeps (of_whole (n ^ 2)) (time_squared net)
    && (divided_keeps (second_moment m d) square && plus_keeps (times_up (rate_sum net s) (figure_of m)) rest))))))

-- down(q × down(1 − y))
unfoldable pub class2_factor_kept : Net → ℕ → Manner → ℕ → Bool
class2_factor_kept net s (slow r) n = true
class2_factor_kept net s (fast m d q) n =
    let y = class2_loss net s m d n in
    class2_loss_kept net s m d n && (minus_keeps (of_whole 1) y && times_keeps (figure_of q) (minus_down (of_whole 1) y))

-- class 3's y
unfoldable pub class3_loss_kept : Net → ℕ → ℕ → Bool
class3_loss_kept net s n =
    let product = times_up (rate_sum net s) (moment_sum net s) in
    let time = times_down (of_whole n) (mission_time net) in
    let rest = times_ten (divided_up (moment_sum net s) time) (pos 6) in
    rate_sum_kept net s
    && (moment_sum_kept net s
    && (times_keeps (rate_sum net s) (moment_sum net s)
    && (divided_keeps product (of_whole 2)
    && (times_keeps (of_whole n) (mission_time net)
    && (divided_keeps (moment_sum net s) time && plus_keeps (divided_up product (of_whole 2)) rest)))))

-- down(rate × down(h' − y))
unfoldable pub class3_factor_kept : Net → ℕ → Manner → ℕ → Bool
class3_factor_kept net s x n =
    let y = class3_loss net s n in
    class3_loss_kept net s n
    && (mean_down_kept net s && (minus_keeps (mean_down net s) y && times_keeps (share x) (minus_down (mean_down net s) y)))

-- ---- the lower of a death path; t is down(t)

abbrev pub lower_step_kept : Net → Figure → Class → ℕ → ℕ → Transition → Figure → Bool
lower_step_kept net t class1 k n x l =
    times_keeps l (share x.manner)
    && (times_keeps (times_down l (share x.manner)) t && divided_keeps (times_down (times_down l (share x.manner)) t) (of_whole k))
lower_step_kept net t class2 k n x l =
    class2_factor_kept net x.from x.manner n && times_keeps l (class2_factor net x.from x.manner n)
lower_step_kept net t class3 k n x l =
    class3_factor_kept net x.from x.manner n && times_keeps l (class3_factor net x.from x.manner n)

unfoldable pub lower_product_kept : Net → (Transition → ℕ) → Figure → Path → Bool
lower_product_kept net g t [] = true
lower_product_kept net g t (x ∷ p) =
    lower_step_kept net t (class net x) (class1_count net (x ∷ p)) (g x) x (lower_product net g t p) && lower_product_kept net g t p

-- A
abbrev pub rates_kept_by : Net → Class → ℕ → Figure → Bool
rates_kept_by net class1 s a = rate_sum_kept net s && plus_keeps a (rate_sum net s)
rates_kept_by net class2 s a = true
rates_kept_by net class3 s a = true

unfoldable pub path_rates_kept : Net → Path → Bool
path_rates_kept net [] = true
path_rates_kept net (x ∷ p) = rates_kept_by net (class net x) x.from (path_rate_sum net p) && path_rates_kept net p

-- down(1 − b): up(t) counts on every path, also where A is 0
unfoldable pub last_factor_kept : Net → ℕ → Path → Bool
last_factor_kept net n p =
    let a = times_up (up 9 (remaining_time net n)) (path_rate_sum net p) in
    let b = divided_up a (of_whole (class1_count net p + 1)) in
    keeps 9 (remaining_time net n)
    && (path_rates_kept net p
    && (times_keeps (up 9 (remaining_time net n)) (path_rate_sum net p)
    && (divided_keeps a (of_whole (class1_count net p + 1)) && minus_keeps (of_whole 1) b)))

-- "a lower rests on every stated operation of its death paths but those for U alone, grains .. included, counted even after a factor of 0 ..; where
-- N' is 1,000,000 or more, only that path's grains count"
unfoldable pub lower_kept_with : Net → (Transition → ℕ) → (Transition → Bool) → Path → Bool
lower_kept_with net g kept p =
    let n = grain_sum net g p in
    let t = down 9 (remaining_time net n) in
    all_grains_kept kept p
    && elim (leb 1000000 n) [
      | true ↦ true
      | false ↦ lower_product_kept net g t p && (last_factor_kept net n p && times_keeps (lower_product net g t p) (last_factor net n p))
    ]

unfoldable pub lower_kept : Net → Path → Bool
lower_kept net p = lower_kept_with net (grains net p) (grains_kept net p) p

-- ---- U

abbrev pub upper_step_kept : Net → Class → ℕ → Transition → Figure → Bool
upper_step_kept net class1 k t u =
    times_keeps u (share t.manner)
    && (times_keeps (times_up u (share t.manner)) (mission_time net)
    && divided_keeps (times_up (times_up u (share t.manner)) (mission_time net)) (of_whole k))
upper_step_kept net class2 k t u = times_keeps u (share t.manner)
upper_step_kept net class3 k t u =
    mean_up_kept net t.from && (times_keeps u (share t.manner) && times_keeps (times_up u (share t.manner)) (mean_up net t.from))

unfoldable pub upper_kept : Net → Path → Bool
upper_kept net [] = true
upper_kept net (t ∷ p) = upper_step_kept net (class net t) (class1_count net (t ∷ p)) t (upper net p) && upper_kept net p

-- ---- totals, and the two digits

-- "grains and totals included": each path, and each addition from the total so far on
unfoldable pub total_kept : (Figure → Figure → Figure) → (Path → Figure) → (Path → Bool) → Figure → List Path → Bool
total_kept add f kept a [] = true
total_kept add f kept a (p ∷ ps) = kept p && (total_keeps a (f p) && total_kept add f kept (add a (f p)) ps)

abbrev pub lower_total_kept : Net → List Path → Bool
lower_total_kept net ps = total_kept total_down (lower net) (lower_kept net) none ps

abbrev pub upper_total_kept : Net → List Path → Bool
upper_total_kept net ps = total_kept total_up (upper net) (upper_kept net) none ps

-- "The report gains, after steps, a line `exact` followed by two digits, lower then upper": 1 is true
pub record Marks : Type 0 where
  pub lower : Bool
  pub upper : Bool

-- what a path brings to them
abbrev pub path_marks : Net → Path → Marks
path_marks net p = record { lower = lower_kept net p; upper = upper_kept net p }

-- "1 if no operation that the figure rests on lost anything and 0 otherwise": of any list of death paths and any list of cut paths
unfoldable pub marks_of : Net → List Path → List Path → Marks
marks_of net ds cs = record {
  lower = lower_total_kept net ds && to_nine_keeps (lower_total net ds);
  upper = upper_total_kept net ds && (upper_total_kept net cs && sum_to_nine_keeps (upper_total net ds) (upper_total net cs));
}

unfoldable pub marks_on : Net → List Visit → Marks
marks_on net vs = marks_of net (deaths vs) (cuts vs)

-- "(in a refusal both are 0)"
abbrev pub no_marks : Marks
no_marks = record { lower = false; upper = false }

abbrev pub marks_by : Answer Model → Answer Report → Marks
marks_by (Answer.refused number place) a = no_marks
marks_by (Answer.granted m) (Answer.refused number place) = no_marks
marks_by (Answer.granted m) (Answer.granted r) = marks_on m.net (tree m.net m.limits)

-- the marks of an answer to a list of words and a budget
unfoldable pub marks_with : List ℕ → ℕ → Answer Report → Marks
marks_with ws budget a = marks_by (read ws budget) a
