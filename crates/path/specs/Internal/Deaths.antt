-- The lower of a death path in two parts: its stem, which the deaths share that leave one state by one class, and what each adds. Assumes nothing:
-- these are definitions.
use Rattle.std.specs.Prelude.{ℕ, ◌+◌, ◌<◌, ◌≤◌, ◌≡◌, Bool, true, false, List, length, leb, Option, None, Some, IfSome, MatchOption}
use Rattle.figure.specs.declared.Figure.{Figure}
use Rattle.figure.specs.Rounding.{none, up, down}
use Rattle.figure.specs.Operands.{Sized}
use Rattle.figure.specs.Operations.{times_down, divided_down}
use Rattle.figure.specs.Losses.{keeps}
use Rattle.word.specs.Model.{Transition, Net, exits, has_fast}
use Rattle.model.specs.Index.{transition}
use Rattle.tree.specs.Paths.{Path, Class, class1, class3, class, counts_1, class1_count}
use Rattle.tree.specs.States.{rate_sum}
use Rattle.tree.specs.Grains.{class3_grains, grains_in, grain_sum}
use Rattle.tree.specs.Lower.{lower_product, add_rates, path_rate_sum, remaining_time}
use Rattle.tree.specs.Marks.{lower_product_kept}
use Rattle.tables.specs.Internal.Classes.{class_for, is_class1}
use Rattle.path.specs.declared.exits.Tip.{Tip}
use Rattle.path.specs.declared.exits.Exit.{Exit}
use Rattle.path.specs.declared.deaths.Stem.{Stem}
use Rattle.path.specs.declared.deaths.Cache.{Cache}
use Rattle.path.specs.Internal.Lent.{Lent, net_in}
use Rattle.path.specs.Internal.Marks.{last_of, last_of_kept}
use Rattle.path.specs.Internal.Paths.{path_of, own_grains, step_class}

-- A last step: the exit of the tip's state, after the path that ends at the tip.
pub record LastStep (l : Lent) (path : List ℕ) (tip : Tip) (exit : Exit) : Type 0 where
  pub room : length path < 24
  pub ones_are : tip.ones ≡ class1_count (net_in l) (path_of (net_in l) path)
  pub index : exit.index < length (net_in l).table
  pub class_is : class_for exit.class ≡ step_class (net_in l) exit.index
  pub leaves : tip.state ≡ (transition (net_in l) exit.index).from

-- ---- the stem

-- down(1 − b), b = up(up(up(t) × A) / (k + 1)), of n grains, A and k
unfoldable pub last_by : Net → ℕ → Figure → ℕ → Figure
last_by net n a k = last_of (up 9 (remaining_time net n)) a k

-- the stem of the deaths whose path is p up to the last step, with n grains in all, A and k; there is none where these grains fill the mission time
unfoldable pub stem_at : Net → Path → ℕ → Figure → ℕ → Option (Stem Figure)
stem_at net p n a k =
    elim (leb 1000000 n) [
      | true ↦ None
      | false ↦ Some (record {
        time = down 9 (remaining_time net n);
        product = lower_product net (own_grains net) (down 9 (remaining_time net n)) p;
        last = last_by net n a k;
      })
    ]

-- The same as the code works it out, also for figures that tell: `Is x f k` says that x is the figure f, and that its mark, if it tells, is k; b is that
-- of A. That of down(t) is that of up(t), which the last factor has.
pub record StemParts {T : Type 0} (Is : T → Figure → Bool → Type 0) (net : Net) (p : Path) (n : ℕ) (a : Figure) (b : Bool) (k : ℕ) (c : Stem T) : Type 0 where
  pub inside : n < 1000000
  pub time_is : c.time ≡ down 9 (remaining_time net n)
  pub product_is :
      Is c.product (lower_product net (own_grains net) (down 9 (remaining_time net n)) p) (lower_product_kept net (own_grains net) (down 9 (remaining_time net n)) p)
  pub last_is : Is c.last (last_by net n a k) (last_of_kept (up 9 (remaining_time net n)) (keeps 9 (remaining_time net n)) a b k)

abbrev pub StemIs : {T : Type 0} → (T → Figure → Bool → Type 0) → Net → Path → ℕ → Figure → Bool → ℕ → Option (Stem T) → Type 0
StemIs Is net p n a b k c = MatchOption c (1000000 ≤ n) (StemParts Is net p n a b k)

-- the same by the class of the last step, its own grains g and the state s that it leaves
abbrev pub stem_by : Net → Path → Class → ℕ → ℕ → Option (Stem Figure)
stem_by net p x g s = stem_at net p (grains_in x g + grain_sum net (own_grains net) p) (add_rates x (path_rate_sum net p) (rate_sum net s)) (counts_1 x + class1_count net p)

-- that of the last step t from the state s
abbrev pub stem_of : Net → Path → Transition → ℕ → Option (Stem Figure)
stem_of net p t s = stem_by net p (class net t) (own_grains net t) s

-- that of an exit of the tip's state, after the path that ends at the tip
abbrev pub stem_for : Net → List ℕ → Tip → Exit → Option (Stem Figure)
stem_for net path tip exit = stem_of net (path_of net path) (transition net exit.index) tip.state

-- the figures of a stem, where there is one, are in range
pub record StemSized (c : Stem Figure) : Type 0 where
  pub time : Sized 9 100 c.time
  pub product : Sized 9 30000 c.product
  pub last : Sized 9 2000 c.last

abbrev pub AnyStemSized : Option (Stem Figure) → Type 0
AnyStemSized c = IfSome c StemSized

-- ---- the cache

-- the class of a slow exit of a state, and its grains
unfoldable pub slow_class : Net → ℕ → Class
slow_class net s = elim (has_fast (exits net s)) [ true ↦ class3 | false ↦ class1 ]

unfoldable pub slow_grains : Net → ℕ → ℕ
slow_grains net s = elim (has_fast (exits net s)) [ true ↦ class3_grains net s | false ↦ 0 ]

-- where something is known, it is the stem of the deaths that leave s by a slow exit after the path p
pub record Cached (net : Net) (p : Path) (s : ℕ) (c : Cache) : Type 0 where
  pub stem_is : (k : Option (Stem Figure)) → c.slow ≡ Some k → k ≡ stem_by net p (slow_class net s) (slow_grains net s) s
  pub sized : (k : Option (Stem Figure)) → c.slow ≡ Some k → AnyStemSized k

-- ---- one death

-- the lower of a death path: by its last step's class, with that step's share and factor; n is its number among class 1 steps if it is one
unfoldable pub death_lower : Option (Stem Figure) → Class → Figure → Figure → Figure → Figure
death_lower None x s f n = none
death_lower (Some c) x s f n =
    elim (is_class1 x) [
      | true ↦ times_down (divided_down (times_down (times_down c.product s) c.time) n) c.last
      | false ↦ times_down (times_down c.product f) c.last
    ]
