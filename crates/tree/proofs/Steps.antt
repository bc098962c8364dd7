-- What one more step does to each value of a path: the definitions' own equations, by name. Assumes nothing.
use Prim.Native.Nat.{ℕ, ◌+◌, ◌≤◌, ◌<◌}
use mathlib.Core.Path.{◌≡◌, refl, ap, ◌∙◌}
use mathlib.Core.List.{[], ◌∷◌}
use native.Mathlib.Omega.{arith}
use borrow.Author.Tests.{eq-eqb, ne_eqb, le-leb, lt-leb}
use Rattle.figure.specs.declared.Figure.{Figure}
use Rattle.figure.specs.Rounding.{none, down}
use Rattle.figure.specs.Operations.{times_down, of_whole}
use Rattle.word.specs.Model.{Transition, Net, one_if}
use Rattle.tree.specs.Paths.{Path, last_state, entries, class, counts_1, class1_count}
use Rattle.tree.specs.States.{rate_sum}
use Rattle.tree.specs.Upper.{upper_step, upper}
use Rattle.tree.specs.Grains.{grains, grains_in, grain_sum}
use Rattle.tree.specs.Lower.{lower_step, lower_product, add_rates, path_rate_sum, remaining_time, last_factor, lower_with, lower}

-- ---- the path of no transition

module _ (net : Net) where
  pub last_state_start : last_state net [] ≡ net.start
  unfolding last_state
  last_state_start = refl

  pub class1_count_start : class1_count net [] ≡ 0
  unfolding class1_count
  class1_count_start = refl

  pub upper_start : upper net [] ≡ of_whole 1
  unfolding upper
  upper_start = refl

  pub grain_sum_start : (g : Transition → ℕ) → grain_sum net g [] ≡ 0
  unfolding grain_sum
  grain_sum_start g = refl

  pub lower_product_start : (g : Transition → ℕ) (t : Figure) → lower_product net g t [] ≡ of_whole 1
  unfolding lower_product
  lower_product_start g t = refl

  pub path_rate_sum_start : path_rate_sum net [] ≡ none
  unfolding path_rate_sum
  path_rate_sum_start = refl

  pub entries_start : entries net net.start [] ≡ 1
  unfolding entries
  entries_start = ap one_if (eq-eqb net.start net.start refl)

  pub entries_not_start : (s : ℕ) → (net.start ≡ s → ⊥) → entries net s [] ≡ 0
  unfolding entries
  entries_not_start s h = ap one_if (ne_eqb net.start s h)

-- ---- one more step

module _ (net : Net) (x : Transition) (p : Path) where
  pub last_state_more : last_state net (x ∷ p) ≡ x.to
  unfolding last_state
  last_state_more = refl

  pub class1_count_more : class1_count net (x ∷ p) ≡ counts_1 (class net x) + class1_count net p
  unfolding class1_count
  class1_count_more = refl

  pub upper_more : upper net (x ∷ p) ≡ upper_step net (class net x) (class1_count net (x ∷ p)) x (upper net p)
  unfolding upper
  upper_more = refl

  pub grain_sum_more : (g : Transition → ℕ) → grain_sum net g (x ∷ p) ≡ grains_in (class net x) (g x) + grain_sum net g p
  unfolding grain_sum
  grain_sum_more g = refl

  pub lower_product_more : (g : Transition → ℕ) (t : Figure)
      → lower_product net g t (x ∷ p) ≡ lower_step net t (class net x) (class1_count net (x ∷ p)) (g x) x (lower_product net g t p)
  unfolding lower_product
  lower_product_more g t = refl

  pub path_rate_sum_more : path_rate_sum net (x ∷ p) ≡ add_rates (class net x) (path_rate_sum net p) (rate_sum net x.from)
  unfolding path_rate_sum
  path_rate_sum_more = refl

  pub entries_here : entries net x.to (x ∷ p) ≡ entries net x.to p + 1
  unfolding entries
  entries_here = ap (λ b. one_if b + entries net x.to p) (eq-eqb x.to x.to refl) ∙ omega arith

  pub entries_other : (s : ℕ) → (x.to ≡ s → ⊥) → entries net s (x ∷ p) ≡ entries net s p
  unfolding entries
  entries_other s h = ap (λ b. one_if b + entries net s p) (ne_eqb x.to s h) ∙ omega arith

-- ---- the lower of a death path

-- in edition 1 a step's grains are the same on every path
pub grains_any : (net : Net) (p q : Path) → grains net p ≡ grains net q
unfolding grains
grains_any net p q = refl

pub lower_grains : (net : Net) (p : Path) → lower net p ≡ lower_with net (grains net p) p
unfolding lower
lower_grains net p = refl

-- "If N' is 1,000,000 or more the lower is 0."
pub lower_full : (net : Net) (g : Transition → ℕ) (p : Path) → 1000000 ≤ grain_sum net g p → lower_with net g p ≡ none
unfolding lower_with
lower_full net g p h = rw (le-leb 1000000 (grain_sum net g p) h, lower_with)

pub lower_else : (net : Net) (g : Transition → ℕ) (p : Path) → grain_sum net g p < 1000000
    → lower_with net g p
    ≡ times_down (lower_product net g (down 9 (remaining_time net (grain_sum net g p))) p) (last_factor net (grain_sum net g p) p)
unfolding lower_with
lower_else net g p h = rw (lt-leb 1000000 (grain_sum net g p) h, lower_with)
