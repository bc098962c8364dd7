-- The lower of a death path from its stem, which it shares with others, and what is its own. Assumes nothing.
use Prim.Native.Nat.{ℕ, ◌+◌, ◌-◌, ◌≤◌, ◌<◌}
use mathlib.Core.Path.{◌≡◌, refl, sym, ap, ◌∙◌}
use mathlib.Core.Bool.{Bool, true, false}
use mathlib.Core.List.{List, [], ◌∷◌}
use native.Mathlib.Nat.{le_of_lt, le_trans}
use native.Mathlib.Omega.{arith}
use lib.Dec.{lit≤, leb}
use lib.IntN.{negsuc}
use lib.ListN.{length}
use borrow.Author.Tests.{le-leb, lt-leb, leb-true, leb-false}
use Rattle.std.specs.Prelude.{Option, None, Some}
use Rattle.figure.specs.declared.Figure.{Figure}
use Rattle.figure.specs.Rounding.{none, up, down}
use Rattle.figure.specs.Operands.{Sized}
use Rattle.figure.specs.Operations.{times_up, times_down, divided_down, times_ten, of_whole}
use Rattle.figure.specs.Losses.{keeps, times_keeps}
use Rattle.figure.proofs.Sized.{sized-≤}
use Rattle.word.specs.Internal.Lists.{Each}
use Rattle.word.specs.Model.{Transition, Net, Model}
use Rattle.model.specs.Index.{transition}
use Rattle.model.specs.Internal.Valid.{Valid}
use Rattle.tree.specs.Paths.{Path, Class, class1, class, counts_1, class1_count}
use Rattle.tree.specs.States.{mission_time}
use Rattle.tree.specs.Upper.{share}
use Rattle.tree.specs.Grains.{grain_sum}
use Rattle.tree.specs.Lower.{lower_product, path_rate_sum, remaining_time, last_factor, lower_with, lower}
use Rattle.tree.proofs.Steps.{class1_count_more, grains_any, lower_grains, lower_full, lower_else}
use Rattle.tree.proofs.RemainingTime.{remaining_time_down, remaining_time_up, remaining_time_keeps}
use Rattle.tree.proofs.Ranges.{class1_count-≤, path_rate_sum_sized, count_sized, mission_time_sized, time_down_sized, time_up_sized, last_sized, lower_sized}
use Rattle.tables.specs.Internal.Classes.{class_for, is_class1}
use Rattle.tables.specs.Internal.Tables.{step_factor}
use Rattle.tables.proofs.Classes.{step_valid, one_true, one_false}
use Rattle.path.specs.declared.exits.Tip.{Tip}
use Rattle.path.specs.declared.exits.Exit.{Exit}
use Rattle.path.specs.declared.deaths.Stem.{Stem}
use Rattle.path.specs.Internal.Lent.{Lent, Filled, model_in, net_in}
use Rattle.path.specs.Internal.Marks.{last_of}
use Rattle.path.specs.Internal.Paths.{path_of, Known, own_grains}
use Rattle.path.specs.Internal.Deaths.{LastStep, StemSized, AnyStemSized, StemIs, last_by, stem_at, stem_of, stem_for, death_lower}
use Rattle.path.proofs.ExitTips.{divisor}
use Rattle.path.proofs.PathSteps.{share_fine, factor_fine}
use Rattle.path.proofs.PathSums.{path_length, path_valid, product_fine, product_one, product_other}
use Rattle.path.specs.declared.lower.Spent.{Spent}
use Rattle.path.specs.Internal.Spent.{SpentIs}
use Rattle.path.proofs.PathSums.{Alone}

-- ---- the cases of the lower

pub sized_some : {o : Option (Stem Figure)} {c : Stem Figure} → o ≡ Some c → AnyStemSized o → StemSized c
sized_some e h = rw e at h

module _ {o : Option (Stem Figure)} (x : Class) (s f n : Figure) where
  pub lower_none : o ≡ None → death_lower o x s f n ≡ none
  unfolding death_lower
  lower_none e = rw (e, death_lower)

  module _ {c : Stem Figure} (some : o ≡ Some c) where
    pub lower_one : is_class1 x ≡ true → death_lower o x s f n ≡ times_down (divided_down (times_down (times_down c.product s) c.time) n) c.last
    unfolding death_lower
    lower_one h = rw (some, h, death_lower)

    pub lower_other : is_class1 x ≡ false → death_lower o x s f n ≡ times_down (times_down c.product f) c.last
    unfolding death_lower
    lower_other h = rw (some, h, death_lower)

-- ---- the stem, as it is worked out

-- a stem by its parts, while N' leaves some of the mission time
abbrev pub parts : Net → Path → ℕ → Figure → ℕ → Stem Figure
parts net p n a k = record {
  time = down 9 (remaining_time net n);
  product = lower_product net (own_grains net) (down 9 (remaining_time net n)) p;
  last = last_by net n a k;
}

module _ (net : Net) (p : Path) (n : ℕ) (a : Figure) (k : ℕ) where
  stem_filled : leb 1000000 n ≡ true → stem_at net p n a k ≡ None
  unfolding stem_at
  stem_filled e = rw (e, stem_at)

  stem_parts : leb 1000000 n ≡ false → stem_at net p n a k ≡ Some (parts net p n a k)
  unfolding stem_at
  stem_parts e = rw (e, stem_at)

same_parts : {a b : Stem Figure} → a.time ≡ b.time → a.product ≡ b.product → a.last ≡ b.last → a ≡ b
same_parts e f g = λ i. record { time = e i; product = f i; last = g i }

-- as the code works it out on figures alone
pub stem_is_at : (net : Net) (p : Path) (n : ℕ) (a : Figure) (b : Bool) (k : ℕ) (c : Option (Stem Figure))
    → StemIs Alone net p n a b k c → c ≡ stem_at net p n a k
stem_is_at net p n a b k None h = sym (stem_filled net p n a k (le-leb 1000000 n h))
stem_is_at net p n a b k (Some c) h =
    ap Some (same_parts {b = parts net p n a k} h.time_is h.product_is h.last_is) ∙ sym (stem_parts net p n a k (lt-leb 1000000 n h.inside))

-- what is left of the mission time, by operations on figures
module _ {m : Model} (valid : Valid m) {n : ℕ} (inside : n < 1000000) {time rest : Figure} (time_is : time ≡ mission_time m.net)
    (rest_is : rest ≡ of_whole (1000000 - n)) where
  pub time_fine : Sized 9 40 time
  time_fine = rw time_is (mission_time_sized valid)

  pub rest_fine : Sized 9 20 rest
  rest_fine = rw rest_is (count_sized _ (le_trans {m = 1000000} (omega arith) (lit≤ tt)))

  pub down_is : times_ten (times_down time rest) (negsuc 5) ≡ down 9 (remaining_time m.net n)
  down_is = rw (time_is, rest_is) (sym (remaining_time_down valid n (le_of_lt inside)))

  pub up_is : times_ten (times_up time rest) (negsuc 5) ≡ up 9 (remaining_time m.net n)
  up_is = rw (time_is, rest_is) (sym (remaining_time_up valid n (le_of_lt inside)))

  pub keeps_is : times_keeps time rest ≡ keeps 9 (remaining_time m.net n)
  keeps_is = rw (time_is, rest_is) (sym (remaining_time_keeps valid n (le_of_lt inside)))

  pub down_fine : Sized 9 100 (down 9 (remaining_time m.net n))
  down_fine = time_down_sized valid n (le_of_lt inside)

  pub up_fine : Sized 9 100 (up 9 (remaining_time m.net n))
  up_fine = time_up_sized valid n (le_of_lt inside)

module _ {m : Model} (valid : Valid m) where
  pub stem_sized : {l : List ℕ} (n : ℕ) (a : Figure) (k : ℕ) {c : Option (Stem Figure)} → Known m.net l → Sized 9 1000 a → k ≤ 24
      → c ≡ stem_at m.net (path_of m.net l) n a k → AnyStemSized c
  unfolding last_by last_of
  stem_sized {l} n a k {c} known size few s = go (leb 1000000 n) refl
    where
      go : (b : Bool) → leb 1000000 n ≡ b → AnyStemSized c
      go true e = rw (s, stem_filled m.net (path_of m.net l) n a k e) tt
      go false e =
          let inside : n < 1000000 = leb-false 1000000 n e in
          let h = time_down_sized valid n (le_of_lt inside) in
          rw (s, stem_parts m.net (path_of m.net l) n a k e) (record {
            time = h;
            product = product_fine valid known h;
            last = sized-≤ (lit≤ tt) (last_sized valid n k (le_of_lt inside) few size);
          })

-- ---- by the last step t after the path p

last_same : (net : Net) (n : ℕ) (q : Path) → last_by net n (path_rate_sum net q) (class1_count net q) ≡ last_factor net n q
unfolding last_by last_of last_factor
last_same net n q = refl

-- N', A and k of the path with its last step
abbrev stem_on : Net → Transition → Path → Option (Stem Figure)
stem_on net t p = stem_at net p (grain_sum net (own_grains net) (t ∷ p)) (path_rate_sum net (t ∷ p)) (class1_count net (t ∷ p))

module _ (net : Net) (t : Transition) (p : Path) where
  by_step : stem_on net t p ≡ stem_of net p t t.from
  unfolding grain_sum path_rate_sum class1_count
  by_step = refl

  pub stem_by_step : {c : Option (Stem Figure)} {n : ℕ} {a : Figure} {k : ℕ} → n ≡ grain_sum net (own_grains net) (t ∷ p) → a ≡ path_rate_sum net (t ∷ p)
      → k ≡ class1_count net (t ∷ p) → c ≡ stem_at net p n a k → c ≡ stem_of net p t t.from
  stem_by_step e f g s = (rw (e, f, g) at s) ∙ by_step

  -- the lower of the path with its last step; k counts if that is of class 1
  death_is : {k : ℕ} → (class net t ≡ class1 → k ≡ class1_count net (t ∷ p))
      → death_lower (stem_of net p t t.from) (class net t) (share t.manner) (step_factor net (class net t) t) (of_whole k) ≡ lower net (t ∷ p)
  unfolding death_lower
  death_is {k} count = rw (sym by_step) (go (leb 1000000 N) refl)
    where
      N : ℕ
      N = grain_sum net (own_grains net) (t ∷ p)

      time : Figure
      time = down 9 (remaining_time net N)

      whole : Stem Figure
      whole = parts net p N (path_rate_sum net (t ∷ p)) (class1_count net (t ∷ p))

      own : lower net (t ∷ p) ≡ lower_with net (own_grains net) (t ∷ p)
      own = lower_grains net (t ∷ p) ∙ ap (λ (g : Transition → ℕ). lower_with net g (t ∷ p)) (grains_any net (t ∷ p) [])

      by_class : (b : Bool) → is_class1 (class net t) ≡ b
          → death_lower (Some whole) (class net t) (share t.manner) (step_factor net (class net t) t) (of_whole k)
          ≡ times_down (lower_product net (own_grains net) time (t ∷ p)) whole.last
      by_class true h =
          let first = one_true _ h in
          lower_one {o = Some whole} _ _ _ _ refl h ∙ ap (λ (f : Figure). times_down f whole.last) (rw (product_one net time t p first, count first))
      by_class false h =
          lower_other {o = Some whole} _ _ _ _ refl h ∙ ap (λ (f : Figure). times_down f whole.last) (sym (product_other net time t p (one_false _ h)))

      go : (b : Bool) → leb 1000000 N ≡ b
          → death_lower (stem_on net t p) (class net t) (share t.manner) (step_factor net (class net t) t) (of_whole k) ≡ lower net (t ∷ p)
      go true e =
          rw (stem_filled net p N (path_rate_sum net (t ∷ p)) (class1_count net (t ∷ p)) e)
          (sym (own ∙ lower_full net (own_grains net) (t ∷ p) (leb-true 1000000 N e)))
      go false e =
          rw (stem_parts net p N (path_rate_sum net (t ∷ p)) (class1_count net (t ∷ p)) e)
          (by_class (is_class1 (class net t)) refl
          ∙ ap (times_down (lower_product net (own_grains net) time (t ∷ p))) (last_same net N (t ∷ p))
          ∙ sym (own ∙ lower_else net (own_grains net) (t ∷ p) (leb-false 1000000 N e)))

-- ---- the last step, as the code has it

module _ {l : Lent} (filled : Filled l) {path : List ℕ} {tip : Tip} {exit : Exit} (last : LastStep l path tip exit) where
  abbrev net : Net
  net = net_in l

  abbrev before : Path
  before = path_of net path

  abbrev step : Transition
  step = transition net exit.index

  last_valid : Valid (model_in l)
  last_valid = filled.indexes.valid

  pub ones_high : tip.ones < 24
  ones_high = omega (arith, last.ones_are, class1_count-≤ net before, path_length net path, last.room)

  pub before_short : length before < 24
  before_short = omega (arith, path_length net path, last.room)

  -- N', A and k with the last step, and its stem

  module _ {s : Spent Figure} (spent : SpentIs Alone net (step ∷ before) s) where
    pub with_sized : Sized 9 1000 s.rates
    with_sized = rw spent.rates (sized-≤ (omega (arith, before_short)) (path_rate_sum_sized last_valid (step ∷ before)))

    pub with_few : s.ones ≤ 24
    with_few = omega (arith, spent.ones, class1_count-≤ net (step ∷ before), before_short)

    pub with_stem : {c : Option (Stem Figure)} → c ≡ stem_at net before s.grains s.rates s.ones → c ≡ stem_for net path tip exit
    with_stem e = rw last.leaves (stem_by_step net step before spent.grains spent.rates spent.ones e)

  -- what the lower is worked out of: a stem, the share, the factor and the number among class 1 steps
  pub operands : (c : Option (Stem Figure)) {r f n : Figure} → AnyStemSized c → r ≡ share step.manner → f ≡ step_factor net (class net step) step
      → n ≡ of_whole (tip.ones + 1) → AnyStemSized c × Sized 9 2000 r × Sized 9 2000 f × Sized 9 2000 n × (0 < n.digits)
  operands c stem r-is f-is n_is =
      let d = divisor _ (omega arith) (omega (arith, ones_high)) n_is in
      (stem, rw r-is (sized-≤ (lit≤ tt) (share_fine filled last.index)), rw f-is (sized-≤ (lit≤ tt) (factor_fine filled last.index)), d.0, d.1)

  -- the lower that the code works out for the path with its last step

  pub death_at : {c : Option (Stem Figure)} {r f g n : Figure} → c ≡ stem_for net path tip exit → f ≡ share step.manner → g ≡ step_factor net (class net step) step
      → n ≡ of_whole (tip.ones + 1) → r ≡ death_lower c (class_for exit.class) f g n → r ≡ lower net (step ∷ before)
  death_at stem f-is g-is n_is r-is =
      rw (r-is, stem, last.leaves, f-is, g-is, n_is, last.class_is) (death_is net step before
      (λ first. omega (arith, last.ones_are, ap counts_1 first, class1_count_more net step before)))

  pub last_lower : Known net path → {f : Figure} → f ≡ lower net (step ∷ before) → Sized 9 35000 f
  unfolding Each
  last_lower known e =
      rw e (sized-≤ (lit≤ tt) (lower_sized last_valid (step ∷ before) (omega (arith, before_short))
      ((step_valid last_valid last.index).manner, path_valid last_valid path known)))
