-- The order of the tree's visits, "in table order, depth first", and that no path stands twice. Assumes nothing.
use Prim.Native.Nat.{ℕ, zero, suc}
use mathlib.Core.Path.{◌≡◌, refl, sym, ap, ◌∙◌}
use mathlib.Core.Bool.{Bool, true, false}
use mathlib.Core.List.{List, [], ◌∷◌, ◌++◌, Memᴰ}
use native.Mathlib.Omega.{arith}
use lib.ListN.{length, length-append}
use lib.Seq.{append_snoc}
use Rattle.word.specs.Model.{Transition, Net, Limits, is_fast, only, leaves, exits_in, exits}
use Rattle.word.specs.Internal.Lists.{Each}
use Rattle.model.specs.Internal.Valid.{SameTransition, Distinct}
use Rattle.word.proofs.Members.{each_monotone, each_member, only_pass, only_fail, each_only}
use Rattle.model.proofs.ReadValid.{read_valid}
use Rattle.tree.specs.Paths.{Path, last_state}
use Rattle.tree.specs.Tree.{outcome, is_continued, Visit, visits, tree}
use Rattle.tree.specs.Faithful.{Earlier, GoesOn, Before, goes_on, parts, TreeInOrder, NoPathTwice}
use Rattle.tree.proofs.Lists.{each_where, InOrder, in_order_where, in_order_flatMap, in_order_lookup, earlier_in_order, same_end}
use Rattle.tree.proofs.Visits.{visit, visits_from, visits_more, each_from, each_beyond, each_at_limit}

longer : (t : Transition) (p : Path) {q : Path} → GoesOn (t ∷ p) q → GoesOn p q
longer t p g = record {
  more = g.more ++ (t ∷ []);
  some = omega (arith, length-append g.more (t ∷ []));
  is = g.is ∙ sym (append_snoc g.more t p);
}

module _ (net : Net) (limits : Limits) where
  -- every visit beyond a path goes on from it
  beyond_goes_on : (n : ℕ) (p : Path) → Each (λ v. GoesOn p v.path) (visits net limits n p)
  beyond_goes_on zero p = each_at_limit net limits (λ v. GoesOn p v.path) p
  beyond_goes_on (suc n) p = each_beyond net limits (λ v. GoesOn p v.path) n p (λ t k. here t (beyond_goes_on n (t ∷ p)))
    where
      here : (t : Transition) → Each (λ v. GoesOn (t ∷ p) v.path) (visits net limits n (t ∷ p))
          → Each (λ v. GoesOn p v.path) (visits_from net limits n (t ∷ p))
      here t below =
          each_from net limits (λ v. GoesOn p v.path) n (t ∷ p) (record { more = t ∷ []; some = omega arith; is = refl })
          (λ e. each_monotone (λ v. GoesOn (t ∷ p) v.path) (λ v. GoesOn p v.path) (λ v. longer t p) (visits net limits n (t ∷ p)) below)

  -- every visit from a path on is of a path that begins with it
  abbrev Begins : Path → Visit → Type 0
  Begins p v = (r : Path) × (v.path ≡ r ++ p)

  from_begins : (n : ℕ) (p : Path) → Each (Begins p) (visits_from net limits n p)
  from_begins n p =
      each_from net limits (Begins p) n p ([], refl)
      (λ e. each_monotone (λ v. GoesOn p v.path) (Begins p) (λ v g. (g.more, g.is)) (visits net limits n p) (beyond_goes_on n p))

  abbrev earlier_visit : Visit → Visit → Type 0
  earlier_visit v w = Before net v.path w.path

  from_in_order : (n : ℕ) (p : Path) → InOrder earlier_visit (visits net limits n p) → InOrder earlier_visit (visits_from net limits n p)
  unfolding visits_from InOrder
  from_in_order n p below = (
    each_where (earlier_visit (visit net limits p)) (is_continued (outcome net limits p)) (visits net limits n p)
        (λ e. each_monotone (λ v. GoesOn p v.path) (earlier_visit (visit net limits p)) (λ v. goes_on) (visits net limits n p) (beyond_goes_on n p)),
    in_order_where earlier_visit (is_continued (outcome net limits p)) (visits net limits n p) below,
  )

  -- what goes through an earlier exit comes before what goes through a later one
  exits_in_order : (n : ℕ) (p : Path) (t u : Transition) → Earlier (exits net (last_state net p)) t u
      → Each (λ v. Each (earlier_visit v) (visits_from net limits n (u ∷ p))) (visits_from net limits n (t ∷ p))
  exits_in_order n p t u h =
      each_monotone (Begins (t ∷ p)) (λ v. Each (earlier_visit v) (visits_from net limits n (u ∷ p)))
      (λ v x. each_monotone (Begins (u ∷ p)) (earlier_visit v) (λ w y. parts p x.0 y.0 t u h x.1 y.1)
      (visits_from net limits n (u ∷ p)) (from_begins n (u ∷ p)))
      (visits_from net limits n (t ∷ p)) (from_begins n (t ∷ p))

  visits_in_order : (n : ℕ) (p : Path) → InOrder earlier_visit (visits net limits n p)
  visits_in_order zero p = unfold visits InOrder in tt
  visits_in_order (suc n) p =
      let ts = exits net (last_state net p) in
      rw (visits_more net limits n p)
      (in_order_flatMap (Earlier ts) earlier_visit (λ t. visits_from net limits n (t ∷ p)) (λ t. from_in_order n (t ∷ p) (visits_in_order n (t ∷ p)))
      (exits_in_order n p) ts (earlier_in_order ts))

-- the law of the order
pub tree_in_order : TreeInOrder
unfolding tree
tree_in_order net limits d i j h k =
    in_order_lookup (λ v w. Before net v.path w.path) (tree net limits) d (visits_in_order net limits limits.step_limit []) i j h k

-- ---- no path stands twice, since a state's exits are distinct

distinct_only : (test : Transition → Bool) (ts : List Transition) → Distinct ts → Distinct (only test ts)
distinct_only test [] h = unfold only in h
distinct_only test (t ∷ ts) h = go (test t) refl (unfold Distinct in h) (distinct_only test ts)
  where
    go : (b : Bool) → test t ≡ b → Each (λ u. SameTransition t u → ⊥) ts × Distinct ts → (Distinct ts → Distinct (only test ts))
        → Distinct (only test (t ∷ ts))
    go true e k below = rw (only_pass test t ts e) (unfold Distinct in (each_only test (λ u. SameTransition t u → ⊥) ts k.0, below k.1))
    go false e k below = rw (only_fail test t ts e) (below k.1)

-- two exits of one state, one earlier than the other, differ
earlier_differs : (front : List Transition) {t u : Transition} {back : List Transition} → Distinct (front ++ t ∷ back) → Memᴰ u back → t ≡ u → ⊥
unfolding Distinct
earlier_differs [] {t} d k e =
    each_member (λ x. SameTransition t x → ⊥) k d.0
    (record { kind = ap (λ x. is_fast x.manner) e; from = ap (λ x. x.from) e; to = ap (λ x. x.to) e })
earlier_differs (x ∷ front) d k e = earlier_differs front d.1 k e

before_differs : (net : Net) → ((s : ℕ) → Distinct (exits net s)) → {p q : Path} → Before net p q → p ≡ q → ⊥
before_differs net d {p} (goes_on g) e = absurd (omega (arith, ap length (e ∙ g.is), length-append g.more p, g.some))
before_differs net d (parts b r s t u h i j) e =
    earlier_differs h.front (rw h.split at (d (last_state net b))) h.later (same_end r s t u b (sym i ∙ e ∙ j))

-- the law: two places of the tree's list hold two paths
pub no_path_twice : NoPathTwice
unfolding exits_in
no_path_twice ws budget m e d i j h k = before_differs m.net exits_distinct (tree_in_order m.net m.limits d i j h k)
  where
    exits_distinct : (s : ℕ) → Distinct (exits m.net s)
    exits_distinct s = distinct_only (leaves s) m.net.table (read_valid ws budget m e).distinct
