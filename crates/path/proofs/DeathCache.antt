-- The slow exits of a state have one class and the same grains, so the stem of the deaths by one of them serves the deaths by the others after the
-- same path. Assumes nothing.
use Prim.Native.Nat.{ℕ}
use mathlib.Core.Path.{◌≡◌, refl, sym, ap, ◌∙◌}
use mathlib.Core.Bool.{Bool, true, false, true≢false}
use mathlib.Core.List.{List, []}
use Rattle.std.specs.Prelude.{Option, Some}
use Rattle.figure.specs.declared.Figure.{Figure}
use Rattle.word.specs.Model.{Manner, slow, fast, Transition, Net, exits, has_fast}
use Rattle.tree.specs.Paths.{Path, Class, class1, class3, class_of, class}
use Rattle.tree.specs.Grains.{class3_grains, grains_by, grains}
use Rattle.model.specs.Index.{transition}
use Rattle.tables.specs.Internal.Classes.{class_for, is_slow}
use Rattle.path.specs.declared.exits.Tip.{Tip}
use Rattle.path.specs.declared.exits.Exit.{Exit}
use Rattle.path.specs.declared.deaths.Stem.{Stem}
use Rattle.path.specs.Internal.Lent.{Lent, net_in}
use Rattle.path.specs.Internal.Paths.{path_of}
use Rattle.path.specs.Internal.Deaths.{LastStep, AnyStemSized, Cached, stem_by, stem_of, stem_for, slow_class, slow_grains}

module _ (net : Net) (t : Transition) (slow_step : is_slow (class net t) ≡ true) where
  slow_class_is : class net t ≡ slow_class net t.from
  unfolding class slow_class
  slow_class_is = go (has_fast (exits net t.from)) t.manner slow_step
    where
      go : (b : Bool) (x : Manner) → is_slow (class_of b x) ≡ true → class_of b x ≡ elim b as (λ _. Class) [ true ↦ class3 | false ↦ class1 ]
      go true (slow r) h = refl
      go false (slow r) h = refl
      go true (fast m d q) h = absurd (true≢false (sym h))
      go false (fast m d q) h = absurd (true≢false (sym h))

  slow_grains_is : grains net [] t ≡ slow_grains net t.from
  unfolding grains grains_by class slow_grains
  slow_grains_is = go (has_fast (exits net t.from)) t.manner slow_step
    where
      go : (b : Bool) (x : Manner) → is_slow (class_of b x) ≡ true
          → grains_by net (class_of b x) t ≡ elim b as (λ _. ℕ) [ true ↦ class3_grains net t.from | false ↦ 0 ]
      go true (slow r) h = refl
      go false (slow r) h = refl
      go true (fast m d q) h = absurd (true≢false (sym h))
      go false (fast m d q) h = absurd (true≢false (sym h))

  -- one stem serves all slow exits of a state
  pub slow_stem : (p : Path) {s : ℕ} → s ≡ t.from → stem_of net p t s ≡ stem_by net p (slow_class net s) (slow_grains net s) s
  slow_stem p leaves = rw (slow_class_is, slow_grains_is, ← leaves)

-- what is kept, once a slow exit's stem was worked out
pub cached_some : {net : Net} {p : Path} {s : ℕ} {c : Option (Stem Figure)} → c ≡ stem_by net p (slow_class net s) (slow_grains net s) s → AnyStemSized c
    → Cached net p s (record { slow = Some c })
cached_some {c = c} is size = record {
  stem_is = λ (k : Option (Stem Figure)) (e : Some c ≡ Some k). let same : c ≡ k = cc in sym same ∙ is;
  sized = λ (k : Option (Stem Figure)) (e : Some c ≡ Some k). let same : c ≡ k = cc in rw same at size;
}

module _ {l : Lent} {path : List ℕ} {tip : Tip} {exit : Exit} (last : LastStep l path tip exit) where
  -- an exit that the code finds slow has the stem of all slow exits of its state
  pub slow_stem_for : {b : Bool} → b ≡ is_slow (class_for exit.class) → b ≡ true
      → stem_for (net_in l) path tip exit
      ≡ stem_by (net_in l) (path_of (net_in l) path) (slow_class (net_in l) tip.state) (slow_grains (net_in l) tip.state) tip.state
  slow_stem_for test on =
      slow_stem (net_in l) (transition (net_in l) exit.index) (sym (ap is_slow last.class_is) ∙ sym test ∙ on) (path_of (net_in l) path) last.leaves
