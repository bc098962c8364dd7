-- What is worked out along a path that a slice holds: N', A, k and the product of the factors, one step after the other, with the marks, and their
-- ranges. Assumes nothing.
use Prim.Native.Nat.{ℕ, zero, suc, ◌+◌, ◌*◌, ◌<◌, ◌≤◌}
use mathlib.Core.Path.{◌≡◌, refl, sym, ap, ◌∙◌}
use mathlib.Core.Bool.{Bool, true, false, ◌&&◌}
use mathlib.Core.List.{List, [], ◌∷◌, ◌++◌}
use native.Mathlib.Omega.{arith}
use lib.Dec.{lit≤}
use lib.ListN.{length, get_or}
use Rattle.std.proofs.Common.{All, map, reverse, take}
use Rattle.std.proofs.lemmas.List.{map-append, reverse-append, length-reverse, length-map, length-take, length-append}
use Rattle.std.proofs.lemmas.List.Elements.{All-take, All-append}
use Rattle.std.proofs.lemmas.Grind.{take_at_read}
use Rattle.figure.specs.declared.Figure.{Figure}
use Rattle.figure.specs.Rounding.{none}
use Rattle.figure.specs.Operands.{Sized}
use Rattle.figure.specs.Operations.{times_down, plus_up, divided_down, of_whole}
use Rattle.figure.specs.Losses.{times_keeps, plus_keeps, divided_keeps}
use Rattle.figure.proofs.Sized.{sized-≤}
use Rattle.word.specs.Model.{Transition, Net, Model}
use Rattle.model.specs.Index.{transition}
use Rattle.word.specs.Internal.Lists.{Each}
use Rattle.model.specs.Internal.Valid.{ValidManner, Valid}
use Rattle.tree.specs.Paths.{Path, Class, class1, class2, class3, class, counts_1, class1_count}
use Rattle.tree.specs.States.{rate_sum}
use Rattle.tree.specs.Upper.{share, upper}
use Rattle.tree.specs.Grains.{grains_in, grain_sum}
use Rattle.tree.specs.Lower.{lower_step, lower_product, add_rates, path_rate_sum}
use Rattle.tree.specs.Marks.{rate_sum_kept, rates_kept_by, path_rates_kept, lower_step_kept, lower_product_kept}
use Rattle.tree.proofs.Least.{GrainsOf, grains_of_class, grains_high}
use Rattle.tree.proofs.Positive.{ValidSteps}
use Rattle.tree.proofs.Ranges.{none_sized, class2_factor_sized, class3_factor_sized, class1_count-≤, lower_product_sized, path_rate_sum_sized, any_upper_sized}
use Rattle.tree.proofs.Steps.{class1_count_start, class1_count_more, grain_sum_start, grain_sum_more, lower_product_start, lower_product_more, path_rate_sum_start, path_rate_sum_more}
use Rattle.tables.specs.Internal.Classes.{is_class1}
use Rattle.tables.specs.Internal.Tables.{step_factor, step_factor_kept}
use Rattle.tables.proofs.Classes.{step_valid, one_true, one_false, counts_none}
use Rattle.path.proofs.Regrouped.{swapped, three}
use Rattle.path.specs.declared.lower.Spent.{Spent}
use Rattle.path.specs.Internal.Spent.{SpentIs}
use Rattle.path.specs.Internal.Paths.{path_of, Known, own_grains}

-- ---- the path of a slice

pub path_none : (net : Net) → path_of net [] ≡ []
unfolding path_of
path_none net = refl

-- a step more at the end of the slice
pub path_longer : (net : Net) (l : List ℕ) (j : ℕ) → path_of net (l ++ j ∷ []) ≡ transition net j ∷ path_of net l
unfolding path_of
path_longer net l j = ap reverse (map-append (transition net) l (j ∷ [])) ∙ reverse-append (map (transition net) l) (transition net j ∷ [])

pub path_more : (net : Net) (l : List ℕ) (i : ℕ) {j : ℕ} → i < length l → j ≡ get_or l i 0
    → path_of net (take (i + 1) l) ≡ transition net j ∷ path_of net (take i l)
path_more net l i low e = rw (e, (take_at_read l i 0 low).1) (path_longer net (take i l) (get_or l i 0))

pub path_length : (net : Net) (l : List ℕ) → length (path_of net l) ≡ length l
unfolding path_of
path_length net l = length-reverse (map (transition net) l) ∙ length-map l (transition net)

pub known_take : {net : Net} {l : List ℕ} (i : ℕ) → Known net l → Known net (take i l)
known_take {net} {l} i k = record { short = omega (arith, length-take i l, k.short); inside = All-take (λ (j : ℕ). j < length net.table) i l k.inside }

known_rest : {net : Net} {l : List ℕ} {j : ℕ} → Known net (j ∷ l) → Known net l
known_rest k = record { short = omega (arith, k.short); inside = λ i d h. k.inside (suc i) d (omega arith) }

pub known_more : {net : Net} {l : List ℕ} {j : ℕ} → length l < 24 → j < length net.table → Known net l → Known net (l ++ j ∷ [])
known_more {net} {l} {j} room low k = record {
  short = rw (length-append l (j ∷ [])) (omega arith);
  inside = All-append (λ (i : ℕ). i < length net.table) l (j ∷ []) k.inside one;
}
  where
    one : All (λ (i : ℕ). i < length net.table) (j ∷ [])
    one zero d h = low
    one (suc i) d h = absurd (omega arith)

-- the entry at i, as the code reads it
pub entry_inside : {net : Net} {l : List ℕ} {i j : ℕ} → Known net l → i < length l → j ≡ get_or l i 0 → j < length net.table
entry_inside {i = i} k low e = rw e (k.inside i 0 low)

-- of a valid model its steps are valid
each_append : {A : Type 0} (Q : A → Type 0) (xs ys : List A) → Each Q xs → Each Q ys → Each Q (xs ++ ys)
unfolding Each
each_append Q [] ys h k = k
each_append Q (x ∷ xs) ys h k = (h.0, each_append Q xs ys h.1 k)

pub path_valid : {m : Model} (valid : Valid m) (l : List ℕ) → Known m.net l → ValidSteps (path_of m.net l)
unfolding path_of Each
path_valid valid [] k = tt
path_valid {m} valid (j ∷ l) k =
    rw (reverse-append (transition m.net j ∷ []) (map (transition m.net) l))
    (each_append (λ (t : Transition). ValidManner t.manner) (path_of m.net l) (transition m.net j ∷ []) (path_valid valid l (known_rest k)) ((step_valid valid (k.inside 0 0 (omega arith))).manner, tt))

-- ---- no step

module _ (net : Net) where
  pub grains_none : grain_sum net (own_grains net) (path_of net []) ≡ 0
  grains_none = rw (path_none net) (grain_sum_start net (own_grains net))

  pub rates_none : path_rate_sum net (path_of net []) ≡ none
  rates_none = rw (path_none net) (path_rate_sum_start net)

  pub rates_kept_none : path_rates_kept net (path_of net []) ≡ true
  unfolding path_rates_kept
  rates_kept_none = rw (path_none net)

  pub ones_none : class1_count net (path_of net []) ≡ 0
  ones_none = rw (path_none net) (class1_count_start net)

  pub product_none : (t : Figure) → lower_product net (own_grains net) t (path_of net []) ≡ of_whole 1
  product_none t = rw (path_none net) (lower_product_start net (own_grains net) t)

  pub product_kept_none : (t : Figure) → lower_product_kept net (own_grains net) t (path_of net []) ≡ true
  unfolding lower_product_kept
  product_kept_none t = rw (path_none net)

-- ---- one step more: N', A and k, by the step's class

module _ (net : Net) (x : Transition) (p : Path) where
  -- a class 1 step has no grains, adds E of the state that it leaves, and counts
  module _ (c : class net x ≡ class1) where
    pub grains_one : grain_sum net (own_grains net) (x ∷ p) ≡ grain_sum net (own_grains net) p
    grains_one = omega (arith, ap (λ (k : Class). grains_in k (own_grains net x)) c, grain_sum_more net x p (own_grains net))

    pub rates_one : path_rate_sum net (x ∷ p) ≡ plus_up (path_rate_sum net p) (rate_sum net x.from)
    rates_one = path_rate_sum_more net x p ∙ ap (λ (k : Class). add_rates k (path_rate_sum net p) (rate_sum net x.from)) c

    pub rates_kept_one : path_rates_kept net (x ∷ p)
        ≡ (path_rates_kept net p && (rate_sum_kept net x.from && plus_keeps (path_rate_sum net p) (rate_sum net x.from)))
    unfolding path_rates_kept
    rates_kept_one = ap (λ (k : Class). rates_kept_by net k x.from (path_rate_sum net p) && path_rates_kept net p) c ∙ swapped _ (path_rates_kept net p)

    pub ones_one : class1_count net (x ∷ p) ≡ class1_count net p + 1
    ones_one = omega (arith, ap counts_1 c, class1_count_more net x p)

  -- any other has its grains
  module _ (c : class net x ≡ class1 → ⊥) where
    pub grains_other : grain_sum net (own_grains net) (x ∷ p) ≡ grain_sum net (own_grains net) p + own_grains net x
    grains_other = omega (arith, go (class net x) (own_grains net x) c, grain_sum_more net x p (own_grains net))
      where
        go : (k : Class) (g : ℕ) → (k ≡ class1 → ⊥) → grains_in k g ≡ g
        go class1 g h = absurd (h refl)
        go class2 g h = refl
        go class3 g h = refl

    pub rates_other : path_rate_sum net (x ∷ p) ≡ path_rate_sum net p
    rates_other = path_rate_sum_more net x p ∙ go (class net x) c
      where
        go : (k : Class) → (k ≡ class1 → ⊥) → add_rates k (path_rate_sum net p) (rate_sum net x.from) ≡ path_rate_sum net p
        go class1 h = absurd (h refl)
        go class2 h = refl
        go class3 h = refl

    pub rates_kept_other : path_rates_kept net (x ∷ p) ≡ path_rates_kept net p
    unfolding path_rates_kept
    rates_kept_other = go (class net x) c
      where
        go : (k : Class) → (k ≡ class1 → ⊥) → (rates_kept_by net k x.from (path_rate_sum net p) && path_rates_kept net p) ≡ path_rates_kept net p
        go class1 h = absurd (h refl)
        go class2 h = refl
        go class3 h = refl

    pub ones_other : class1_count net (x ∷ p) ≡ class1_count net p
    ones_other = omega (arith, counts_none (class net x) c, class1_count_more net x p)

-- at most 1,000,000 grains a step
pub grain_sum_high : (net : Net) (p : Path) → grain_sum net (own_grains net) p ≤ 1000000 * length p
unfolding grain_sum
grain_sum_high net [] = omega arith
grain_sum_high net (x ∷ p) = go (class net x) (own_grains net x) (grains_high net [] x) (grain_sum_high net p)
  where
    go : (k : Class) (g : ℕ) → g ≤ 1000000 → grain_sum net (own_grains net) p ≤ 1000000 * length p
        → grains_in k g + grain_sum net (own_grains net) p ≤ 1000000 * suc (length p)
    go class1 g h r = omega arith
    go class2 g h r = omega arith
    go class3 g h r = omega arith

-- ---- one step more: the product of the factors and its mark, t being down(t)

module _ (net : Net) (t : Figure) (x : Transition) (p : Path) where
  abbrev below : Figure
  below = lower_product net (own_grains net) t p

  -- a class 1 step: by its rate, by t, then divided by its number
  module _ (c : class net x ≡ class1) where
    pub product_one : lower_product net (own_grains net) t (x ∷ p)
        ≡ divided_down (times_down (times_down below (share x.manner)) t) (of_whole (class1_count net (x ∷ p)))
    unfolding lower_step
    product_one =
        lower_product_more net x p (own_grains net) t
        ∙ ap (λ (k : Class). lower_step net t k (class1_count net (x ∷ p)) (own_grains net x) x below) c

    pub product_kept_one : lower_product_kept net (own_grains net) t (x ∷ p)
        ≡ (((lower_product_kept net (own_grains net) t p && times_keeps below (share x.manner))
        && times_keeps (times_down below (share x.manner)) t)
        && divided_keeps (times_down (times_down below (share x.manner)) t) (of_whole (class1_count net (x ∷ p))))
    unfolding lower_product_kept
    product_kept_one =
        ap (λ (k : Class). lower_step_kept net t k (class1_count net (x ∷ p)) (own_grains net x) x below && lower_product_kept net (own_grains net) t p) c
        ∙ swapped _ (lower_product_kept net (own_grains net) t p)
        ∙ sym (three (lower_product_kept net (own_grains net) t p) _ _ _)

  -- any other: by its factor
  module _ (c : class net x ≡ class1 → ⊥) where
    pub product_other : lower_product net (own_grains net) t (x ∷ p) ≡ times_down below (step_factor net (class net x) x)
    unfolding lower_step step_factor
    product_other = lower_product_more net x p (own_grains net) t ∙ go (class net x) c
      where
        go : (k : Class) → (k ≡ class1 → ⊥)
            → lower_step net t k (class1_count net (x ∷ p)) (own_grains net x) x below ≡ times_down below (step_factor net k x)
        go class1 h = absurd (h refl)
        go class2 h = refl
        go class3 h = refl

    pub product_kept_other : lower_product_kept net (own_grains net) t (x ∷ p)
        ≡ (lower_product_kept net (own_grains net) t p
        && (step_factor_kept net (class net x) x && times_keeps below (step_factor net (class net x) x)))
    unfolding lower_product_kept step_factor step_factor_kept
    product_kept_other = go (class net x) c ∙ swapped _ (lower_product_kept net (own_grains net) t p)
      where
        go : (k : Class) → (k ≡ class1 → ⊥)
            → (lower_step_kept net t k (class1_count net (x ∷ p)) (own_grains net x) x below && lower_product_kept net (own_grains net) t p)
            ≡ ((step_factor_kept net k x && times_keeps below (step_factor net k x)) && lower_product_kept net (own_grains net) t p)
        go class1 h = absurd (h refl)
        go class2 h = refl
        go class3 h = refl

-- ---- the same, as a loop over the path has it: `Is x f k` says that x is the figure f, and that its mark, if it tells, is k

-- the class of a step, by the code's test
pub found_one : {a x : Class} {b : Bool} → a ≡ x → b ≡ is_class1 a → b ≡ true → x ≡ class1
found_one {x = x} e test on = one_true x (sym (ap is_class1 e) ∙ sym test ∙ on)

pub found_other : {a x : Class} {b : Bool} → a ≡ x → b ≡ is_class1 a → b ≡ false → x ≡ class1 → ⊥
found_other {x = x} e test off = one_false x (sym (ap is_class1 e) ∙ sym test ∙ off)

pub record ProductSoFar {T : Type 0} (Is : T → Figure → Bool → Type 0) (net : Net) (t : Figure) (p : Path) (k : ℕ) (f : T) : Type 0 where
  pub ones_are : k ≡ class1_count net p
  pub product_is : Is f (lower_product net (own_grains net) t p) (lower_product_kept net (own_grains net) t p)

-- of figures that tell nothing
abbrev pub Alone : Figure → Figure → Bool → Type 0
Alone x f _ = x ≡ f

pub spent_alone : {net : Net} {p : Path} {s : Spent Figure} → s.grains ≡ grain_sum net (own_grains net) p → s.rates ≡ path_rate_sum net p
    → s.ones ≡ class1_count net p → SpentIs Alone net p s
spent_alone e f g = record { grains = e; rates = f; ones = g }

module _ {T : Type 0} (Is : T → Figure → Bool → Type 0) (net : Net) where
  pub spent_start : {z : Figure} {a : T} → z ≡ none → Is a z true → SpentIs Is net (path_of net []) (record { grains = 0; rates = a; ones = 0 })
  spent_start e h = record { grains = sym (grains_none net); rates = rw (rates_none net, rates_kept_none net, ← e) h; ones = sym (ones_none net) }

  pub product_start : (t : Figure) {o : Figure} {f : T} → o ≡ of_whole 1 → Is f o true → ProductSoFar Is net t (path_of net []) 0 f
  product_start t e h = record { ones_are = sym (ones_none net); product_is = rw (product_none net t, product_kept_none net t, ← e) h }

  module _ (x : Transition) (p : Path) {s : Spent T} (so_far : SpentIs Is net p s) where
    pub spent_one : {b : T} → class net x ≡ class1
        → Is b
        (plus_up (path_rate_sum net p) (rate_sum net x.from))
        (path_rates_kept net p && (rate_sum_kept net x.from && plus_keeps (path_rate_sum net p) (rate_sum net x.from)))
        → SpentIs Is net (x ∷ p) (record { grains = s.grains; rates = b; ones = s.ones + 1 })
    spent_one c h = record {
      grains = so_far.grains ∙ sym (grains_one net x p c);
      rates = rw (rates_one net x p c, rates_kept_one net x p c) h;
      ones = omega (arith, so_far.ones, ones_one net x p c);
    }

    pub spent_other : {g : ℕ} → (class net x ≡ class1 → ⊥) → g ≡ own_grains net x
        → SpentIs Is net (x ∷ p) (record { grains = s.grains + g; rates = s.rates; ones = s.ones })
    spent_other c e = record {
      grains = omega (arith, so_far.grains, e, grains_other net x p c);
      rates = rw (rates_other net x p c, rates_kept_other net x p c) so_far.rates;
      ones = so_far.ones ∙ sym (ones_other net x p c);
    }

  module _ (t : Figure) (x : Transition) (p : Path) {k : ℕ} {f : T} (so_far : ProductSoFar Is net t p k f) where
    pub product_more_one : {o : Figure} {b : T} → class net x ≡ class1 → o ≡ of_whole (k + 1)
        → Is b
        (divided_down (times_down (times_down (below net t x p) (share x.manner)) t) o)
        (((lower_product_kept net (own_grains net) t p && times_keeps (below net t x p) (share x.manner))
        && times_keeps (times_down (below net t x p) (share x.manner)) t)
        && divided_keeps (times_down (times_down (below net t x p) (share x.manner)) t) o)
        → ProductSoFar Is net t (x ∷ p) (k + 1) b
    product_more_one {o} c e h =
        let count : k + 1 ≡ class1_count net (x ∷ p) = omega (arith, so_far.ones_are, ones_one net x p c) in
        let whole : o ≡ of_whole (class1_count net (x ∷ p)) = e ∙ ap of_whole count in
        record { ones_are = count; product_is = rw (product_one net t x p c, product_kept_one net t x p c, ← whole) h }

    pub product_more_other : {b : T} → (class net x ≡ class1 → ⊥)
        → Is b
        (times_down (below net t x p) (step_factor net (class net x) x))
        (lower_product_kept net (own_grains net) t p && (step_factor_kept net (class net x) x && times_keeps (below net t x p) (step_factor net (class net x) x)))
        → ProductSoFar Is net t (x ∷ p) k b
    product_more_other c h = record {
      ones_are = so_far.ones_are ∙ sym (ones_other net x p c);
      product_is = rw (product_other net t x p c, product_kept_other net t x p c) h;
    }

-- ---- ranges, in a valid model

pub step_factor_sized : {m : Model} (valid : Valid m) (t : Transition) → ValidManner t.manner → Sized 9 1200 (step_factor m.net (class m.net t) t)
unfolding step_factor
step_factor_sized {m} valid t w = go (class m.net t) (grains_of_class m.net [] t)
  where
    go : (c : Class) → GrainsOf c (own_grains m.net t) → Sized 9 1200 (step_factor m.net c t)
    go class1 r = none_sized 1200
    go class2 r = class2_factor_sized valid t.from t.manner w r.0 r.1
    go class3 r = class3_factor_sized valid t.from t.manner w r.0 r.1

module _ {m : Model} (valid : Valid m) {l : List ℕ} (known : Known m.net l) where
  short : length (path_of m.net l) ≤ 24
  short = omega (arith, path_length m.net l, known.short)

  pub upper_fine : Sized 9 20000 (upper m.net (path_of m.net l))
  upper_fine = sized-≤ (lit≤ tt) (any_upper_sized valid (path_of m.net l) short (path_valid valid l known))

  pub rates_fine : Sized 9 980 (path_rate_sum m.net (path_of m.net l))
  rates_fine = sized-≤ (omega (arith, short)) (path_rate_sum_sized valid (path_of m.net l))

  pub product_fine : {t : Figure} → Sized 9 100 t → Sized 9 30000 (lower_product m.net (own_grains m.net) t (path_of m.net l))
  product_fine h = sized-≤ (omega (arith, short))
      (lower_product_sized valid (own_grains m.net) (path_of m.net l) (grains_of_class m.net []) short (path_valid valid l known) h)

module _ {net : Net} {l : List ℕ} (known : Known net l) where
  pub grains_fit : grain_sum net (own_grains net) (path_of net l) ≤ 24000000
  grains_fit = omega (arith, grain_sum_high net (path_of net l), path_length net l, known.short)

  -- before the entry at i, at most 23 class 1 steps
  pub ones_room : {i k : ℕ} → i < length l → k ≡ class1_count net (path_of net (take i l)) → k < 24
  ones_room {i} low e =
      omega (arith, e, class1_count-≤ net (path_of net (take i l)), path_length net (take i l), length-take i l, known.short)

  pub ones_few : {k : ℕ} → k ≡ class1_count net (path_of net l) → k ≤ 24
  ones_few e = omega (arith, e, class1_count-≤ net (path_of net l), path_length net l, known.short)
