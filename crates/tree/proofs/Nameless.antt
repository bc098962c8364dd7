-- The tree of a net without its names: the same paths, with a death for each cut in a named state. Assumes nothing.
use Prim.Native.Nat.{ℕ, zero, suc, ◌+◌}
use mathlib.Core.Path.{◌≡◌, refl, sym, ap, ◌∙◌}
use mathlib.Core.Bool.{Bool, true, false, false≢true}
use mathlib.Core.List.{List, [], ◌∷◌, map, flat_map}
use lib.ListN.{length}
use lib.Dec.{ltb, eqb}
use Rattle.figure.specs.declared.Figure.{Figure}
use Rattle.figure.specs.Operations.{at_or_below}
use Rattle.word.specs.Model.{Transition, Net, Limits, one_if, is_empty, is_named, any, exits}
use Rattle.tree.specs.Paths.{Path, last_state, entries, Class, class1, class2, class3, class, counts_1, class1_count}
use Rattle.tree.specs.States.{figure_of, mean_up}
use Rattle.tree.specs.Upper.{upper_step, upper}
use Rattle.tree.specs.Tree.{Outcome, generators_state, death, entered_too_often, step_limit, low_level, continued, outcome, is_continued}
use Rattle.tree.specs.Tree.{visits, tree}
use Rattle.tree.specs.NamedFaithful.{nameless, nameless_outcome, nameless_visit}
use Rattle.tree.specs.Internal.Outcomes.{decided}
use Rattle.tree.proofs.Outcomes.{outcome_decided}
use Rattle.tree.proofs.Lists.{where_true, flatMap_same, map_flatMap}
use Rattle.tree.proofs.Visits.{visit, visits_from, visits_more}

-- ---- what does not look at the names

module _ (net : Net) where
  nameless_last : (p : Path) → last_state (nameless net) p ≡ last_state net p
  unfolding last_state
  nameless_last [] = refl
  nameless_last (t ∷ p) = refl

  nameless_entries : (s : ℕ) (p : Path) → entries (nameless net) s p ≡ entries net s p
  unfolding entries
  nameless_entries s [] = refl
  nameless_entries s (t ∷ p) = ap (λ n. one_if (eqb t.to s) + n) (nameless_entries s p)

  pub nameless_count : (p : Path) → class1_count (nameless net) p ≡ class1_count net p
  unfolding class1_count class
  nameless_count [] = refl
  nameless_count (t ∷ p) = ap (λ n. counts_1 (class net t) + n) (nameless_count p)

  nameless_step : (c : Class) (k : ℕ) (t : Transition) (u : Figure) → upper_step (nameless net) c k t u ≡ upper_step net c k t u
  unfolding upper_step mean_up
  nameless_step class1 k t u = refl
  nameless_step class2 k t u = refl
  nameless_step class3 k t u = refl

  nameless_upper : (p : Path) → upper (nameless net) p ≡ upper net p
  unfolding upper class
  nameless_upper [] = refl
  nameless_upper (t ∷ p) =
      nameless_step (class net t) (class1_count (nameless net) (t ∷ p)) t (upper (nameless net) p)
      ∙ (λ i. upper_step net (class net t) (nameless_count (t ∷ p) i) t (nameless_upper p i))

-- ---- what becomes of a path

-- a named state has no exits
decided_nameless : (n a b c d : Bool) → (n ≡ true → a ≡ true) → decided false a b c d ≡ nameless_outcome (decided n a b c d)
unfolding decided
decided_nameless true true b c d h = refl
decided_nameless true false b c d h = absurd (false≢true (h refl))
decided_nameless false true b c d h = refl
decided_nameless false false true c d h = refl
decided_nameless false false false true d h = refl
decided_nameless false false false false true h = refl
decided_nameless false false false false false h = refl

nameless_continued : (o : Outcome) → is_continued (nameless_outcome o) ≡ is_continued o
nameless_continued generators_state = refl
nameless_continued death = refl
nameless_continued entered_too_often = refl
nameless_continued step_limit = refl
nameless_continued low_level = refl
nameless_continued continued = refl

map_where : {A B : Type 0} (f : A → B) (b : Bool) (xs : List A) → map f (where_true b xs) ≡ where_true b (map f xs)
map_where f true xs = refl
map_where f false xs = refl

module _ (net : Net) (limits : Limits) (ends : (s : ℕ) → is_named net s ≡ true → is_empty (exits net s) ≡ true) where
  nameless_decides : (p : Path) → outcome (nameless net) limits p ≡ nameless_outcome (outcome net limits p)
  unfolding is_named any
  nameless_decides p =
      let s : ℕ = last_state net p in
      let same_entries : entries (nameless net) (last_state (nameless net) p) p ≡ entries net s p =
      nameless_entries net _ p ∙ ap (λ r. entries net r p) (nameless_last net p) in
      outcome_decided (nameless net) limits p
      ∙ (λ i. decided false (is_empty (exits net (nameless_last net p i))) (ltb limits.entry_limit (same_entries i)) (eqb (length p) limits.step_limit)
      (at_or_below (nameless_upper net p i) (figure_of limits.prune)))
      ∙ decided_nameless (is_named net s) (is_empty (exits net s)) (ltb limits.entry_limit (entries net s p)) (eqb (length p) limits.step_limit)
      (at_or_below (upper net p) (figure_of limits.prune)) (ends s)
      ∙ ap nameless_outcome (sym (outcome_decided net limits p))

  -- ---- the tree

  nameless_none : (p : Path) → visits (nameless net) limits zero p ≡ map nameless_visit (visits net limits zero p)
  unfolding visits
  nameless_none p = refl

  -- from a path on, by the visits beyond it
  nameless_from : (n : ℕ) (p : Path) → visits (nameless net) limits n p ≡ map nameless_visit (visits net limits n p)
      → visits_from (nameless net) limits n p ≡ map nameless_visit (visits_from net limits n p)
  unfolding visits_from
  nameless_from n p below =
      (λ i. record { path = p; outcome = nameless_decides p i } ∷ where_true (is_continued (nameless_decides p i)) (below i))
      ∙ ap (λ b. nameless_visit (visit net limits p) ∷ where_true b (map nameless_visit (visits net limits n p))) (nameless_continued (outcome net limits p))
      ∙ ap (λ vs. nameless_visit (visit net limits p) ∷ vs) (sym (map_where nameless_visit (is_continued (outcome net limits p)) (visits net limits n p)))

  nameless_visits : (n : ℕ) (p : Path) → visits (nameless net) limits n p ≡ map nameless_visit (visits net limits n p)
  nameless_visits zero p = nameless_none p
  nameless_visits (suc n) p =
      visits_more (nameless net) limits n p
      ∙ ap (λ s. flat_map (λ t. visits_from (nameless net) limits n (t ∷ p)) (exits net s)) (nameless_last net p)
      ∙ flatMap_same (λ t. visits_from (nameless net) limits n (t ∷ p)) (λ t. map nameless_visit (visits_from net limits n (t ∷ p)))
      (exits net (last_state net p)) (λ t k. nameless_from n (t ∷ p) (nameless_visits n (t ∷ p)))
      ∙ sym (map_flatMap nameless_visit (λ t. visits_from net limits n (t ∷ p)) (exits net (last_state net p)))
      ∙ ap (map nameless_visit) (sym (visits_more net limits n p))

  pub nameless_tree : tree (nameless net) limits ≡ map nameless_visit (tree net limits)
  unfolding tree
  nameless_tree = nameless_visits limits.step_limit []
