-- The marks of a path, as the code works them out. Assumes nothing: these are definitions.
use Rattle.std.specs.Prelude.{ℕ, ◌+◌, Bool, ◌&&◌}
use Rattle.figure.specs.declared.Figure.{Figure}
use Rattle.figure.specs.Operations.{times_up, minus_down, divided_up, of_whole}
use Rattle.figure.specs.Losses.{times_keeps, minus_keeps, divided_keeps}
use Rattle.tree.specs.Paths.{Class, class1, class2, class3}

-- the mark of U's next step, by its class, its number n among class 1 steps, its share, h with its mark, and T
unfoldable pub upper_by_kept : Class → Figure → Figure → Figure → Figure → Bool → Figure → Bool
upper_by_kept class1 n u share mean k time =
    times_keeps u share && (times_keeps (times_up u share) time && divided_keeps (times_up (times_up u share) time) n)
upper_by_kept class2 n u share mean k time = times_keeps u share
upper_by_kept class3 n u share mean k time = k && (times_keeps u share && times_keeps (times_up u share) mean)

-- down(1 − b), b = up(up(up(t) × A) / (k + 1)), of up(t), A and k
unfoldable pub last_of : Figure → Figure → ℕ → Figure
last_of above rates k = minus_down (of_whole 1) (divided_up (times_up above rates) (of_whole (k + 1)))

-- and its mark, by those of up(t) and of A
unfoldable pub last_of_kept : Figure → Bool → Figure → Bool → ℕ → Bool
last_of_kept above above_kept rates rates_kept k =
    let a = times_up above rates in
    let b = divided_up a (of_whole (k + 1)) in
    above_kept && (rates_kept && (times_keeps above rates && (divided_keeps a (of_whole (k + 1)) && minus_keeps (of_whole 1) b)))
