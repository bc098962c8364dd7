-- The mark of a path's lower, by those of its grains, of the product and of the last factor. Assumes nothing.
use Prim.Native.Nat.{ℕ, ◌≤◌, ◌<◌}
use mathlib.Core.Path.{◌≡◌, refl, sym, ap, ap₂, ◌∙◌}
use mathlib.Core.Bool.{Bool, true, false, ◌&&◌}
use mathlib.Core.List.{List, [], ◌∷◌}
use native.Mathlib.Nat.{le_of_lt}
use lib.Dec.{leb, lit≤}
use borrow.Author.Tests.{le-leb, lt-leb}
use Rattle.figure.specs.declared.Figure.{Figure}
use Rattle.figure.specs.declared.Rounded.{Rounded}
use Rattle.figure.specs.Rounding.{down}
use Rattle.figure.specs.Operations.{times_down}
use Rattle.figure.specs.Losses.{told, times_keeps}
use Rattle.figure.specs.Operands.{Sized}
use Rattle.figure.proofs.Sized.{sized-≤}
use Rattle.word.specs.Model.{Net, Model}
use Rattle.model.specs.Internal.Valid.{Valid}
use Rattle.tree.specs.Paths.{Path, class1_count}
use Rattle.tree.specs.Grains.{grain_sum}
use Rattle.tree.specs.Lower.{lower_product, path_rate_sum, remaining_time, last_factor}
use Rattle.tree.specs.Marks.{grains_kept, all_grains_kept, lower_product_kept, path_rates_kept, last_factor_kept, lower_kept_with, lower_kept}
use Rattle.tree.proofs.Steps.{grains_any}
use Rattle.tree.proofs.Ranges.{time_down_sized, last_sized}
use Rattle.path.specs.declared.deaths.Stem.{Stem}
use Rattle.path.specs.Internal.Paths.{path_of, Known, own_grains}
use Rattle.path.specs.Internal.Marks.{last_of, last_of_kept}
use Rattle.path.specs.Internal.Deaths.{last_by, StemParts}
use Rattle.path.proofs.PathSums.{rates_fine, product_fine}
use Rattle.path.proofs.MarkFacts.{grains_kept_path}
use Rattle.path.proofs.Regrouped.{all_more}

-- ---- by N'

all_grains_path : (net : Net) (p q : Path) → all_grains_kept (grains_kept net p) q ≡ all_grains_kept (grains_kept net []) q
unfolding all_grains_kept
all_grains_path net p [] = refl
all_grains_path net p (x ∷ q) = ap₂ (λ e f. e && f) (grains_kept_path net p x) (all_grains_path net p q)

module _ (net : Net) (p : Path) where
  -- N' of the path, and down(t)
  abbrev used : ℕ
  used = grain_sum net (own_grains net) p

  abbrev rest : Figure
  rest = down 9 (remaining_time net used)

  abbrev grains_all : Bool
  grains_all = all_grains_kept (grains_kept net []) p

  lower_kept_own : lower_kept net p ≡ lower_kept_with net (own_grains net) (grains_kept net p) p
  unfolding lower_kept
  lower_kept_own = ap (λ g. lower_kept_with net g (grains_kept net p) p) (grains_any net p [])

  lower_kept_by : (b : Bool) → leb 1000000 used ≡ b
      → lower_kept net p
      ≡ (grains_all && elim b [
        | true ↦ true
        | false ↦
            lower_product_kept net (own_grains net) rest p
            && (last_factor_kept net used p && times_keeps (lower_product net (own_grains net) rest p) (last_factor net used p))
      ])
  unfolding lower_kept_with
  lower_kept_by b e = lower_kept_own ∙ rw (all_grains_path net p p, e)

  pub lower_kept_full : 1000000 ≤ used → grains_all ≡ lower_kept net p
  lower_kept_full h = sym (lower_kept_by true (le-leb 1000000 used h) ∙ all_more grains_all)

  pub lower_kept_else : used < 1000000
      → lower_kept net p
      ≡ (grains_all
      && (lower_product_kept net (own_grains net) rest p
      && (last_factor_kept net used p && times_keeps (lower_product net (own_grains net) rest p) (last_factor net used p))))
  lower_kept_else h = lower_kept_by false (lt-leb 1000000 used h)

-- ---- as the code has it

-- of figures that tell
abbrev pub Telling : Rounded → Figure → Bool → Type 0
Telling x f k = x ≡ told f k

module _ (net : Net) (p : Path) {n k : ℕ} (n_is : n ≡ grain_sum net (own_grains net) p) (k-is : k ≡ class1_count net p) {kept : Bool}
    (kept_is : kept ≡ all_grains_kept (grains_kept net []) p) where
  pub lower_filled : 1000000 ≤ n → kept ≡ lower_kept net p
  lower_filled h = kept_is ∙ lower_kept_full net p (rw n_is at h)

  module _ {c : Stem Rounded} (parts : StemParts Telling net p n (path_rate_sum net p) (path_rates_kept net p) k c) {whole : Rounded}
      (whole_is : whole ≡ told (times_down c.product.figure c.last.figure)
      (c.product.kept && (c.last.kept && times_keeps c.product.figure c.last.figure))) where
    lower_left : lower_kept net p ≡ (kept && whole.kept)
    unfolding last_by last_of last_of_kept last_factor last_factor_kept
    lower_left =
        lower_kept_else net p (rw n_is at parts.inside)
        ∙ rw (kept_is, whole_is, parts.product_is, parts.last_is, n_is, k-is)

    pub lower_true : kept ≡ true → whole.kept ≡ lower_kept net p
    lower_true e = sym (rw e at lower_left)

    pub lower_false : kept ≡ false → false ≡ lower_kept net p
    lower_false e = sym (rw e at lower_left)

-- and its figures are in range
module _ {m : Model} (valid : Valid m) {l : List ℕ} (known : Known m.net l) {n k : ℕ} where
  pub product_part_fine : {c : Stem Rounded} → StemParts Telling m.net (path_of m.net l) n (path_rate_sum m.net (path_of m.net l))
      (path_rates_kept m.net (path_of m.net l)) k c → Sized 9 100000 c.product.figure
  product_part_fine parts = rw parts.product_is (sized-≤ (lit≤ tt) (product_fine valid known (time_down_sized valid n (le_of_lt parts.inside))))

  pub last_part_fine : {c : Stem Rounded} → k ≤ 24 → StemParts Telling m.net (path_of m.net l) n (path_rate_sum m.net (path_of m.net l))
      (path_rates_kept m.net (path_of m.net l)) k c → Sized 9 100000 c.last.figure
  unfolding last_by last_of
  last_part_fine few parts =
      rw parts.last_is (sized-≤ (lit≤ tt) (last_sized valid n k (le_of_lt parts.inside) few (sized-≤ (lit≤ tt) (rates_fine valid known))))
