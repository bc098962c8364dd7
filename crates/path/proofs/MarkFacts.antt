-- The marks of grains: a step's is the same on every path, and a path's are those of the steps that a slice holds. Assumes nothing.
use Prim.Native.Nat.{ℕ}
use mathlib.Core.Path.{◌≡◌, refl, sym, ap, ◌∙◌}
use mathlib.Core.Bool.{Bool, true, false, true≢false, ◌&&◌}
use mathlib.Core.List.{List, [], ◌∷◌, ◌++◌}
use Rattle.std.proofs.Common.{◌↔◌, All, IsTrue, map, reverse}
use Rattle.std.specs.List.{list_all}
use Rattle.std.proofs.lemmas.List.{reverse-append}
use Rattle.std.proofs.lemmas.List.Sums.{AllPass-from_list_all, list_all-from_AllPass}
use Rattle.word.specs.Model.{Transition, Net}
use Rattle.model.specs.Index.{transition}
use Rattle.tree.specs.Paths.{Path}
use Rattle.tree.specs.Marks.{grains_kept, all_grains_kept}
use Rattle.path.specs.Internal.Paths.{path_of}
use Rattle.path.proofs.Regrouped.{swapped, all_more}

pub grains_kept_path : (net : Net) (p : Path) (t : Transition) → grains_kept net p t ≡ grains_kept net [] t
unfolding grains_kept
grains_kept_path net p t = refl

-- a mark of each step, along the path and along the slice
all_append : (kept : Transition → Bool) (p q : Path) → all_grains_kept kept (p ++ q) ≡ (all_grains_kept kept p && all_grains_kept kept q)
unfolding all_grains_kept
all_append kept [] q = refl
all_append kept (t ∷ p) q = rw (all_append kept p q) (sym (joined (kept t) (all_grains_kept kept p) (all_grains_kept kept q)))
  where
    joined : (a b c : Bool) → ((a && b) && c) ≡ (a && (b && c))
    joined true b c = refl
    joined false b c = refl

pub all_listed : (p : ℕ → Bool) (l : List ℕ) (r : Bool) → (IsTrue r ↔ All (λ j. p j ≡ true) l) → r ≡ list_all p l
all_listed p l r each = go r (list_all p l) refl each
  where
    go : (r q : Bool) → list_all p l ≡ q → (IsTrue r ↔ All (λ j. p j ≡ true) l) → r ≡ list_all p l
    go true q e h = sym (list_all-from_AllPass p l (h.0 refl))
    go false true e h = absurd (true≢false (sym (h.1 (AllPass-from_list_all p l e))))
    go false false e h = sym e

pub all_grains_listed : (net : Net) (l : List ℕ)
    → list_all (λ j. grains_kept net [] (transition net j)) l ≡ all_grains_kept (grains_kept net []) (path_of net l)
unfolding path_of all_grains_kept
all_grains_listed net [] = refl
all_grains_listed net (j ∷ l) =
    ap (λ b. grains_kept net [] (transition net j) && b) (all_grains_listed net l)
    ∙ swapped (grains_kept net [] (transition net j)) (all_grains_kept (grains_kept net []) (path_of net l))
    ∙ sym (rw (
      reverse-append (transition net j ∷ []) (map (transition net) l),
      all_append (grains_kept net []) (reverse (map (transition net) l)) (transition net j ∷ []),
    )
    (ap (λ b. all_grains_kept (grains_kept net []) (reverse (map (transition net) l)) && b) (all_more (grains_kept net [] (transition net j)))))
