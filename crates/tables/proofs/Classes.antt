-- A transition as the code reads it: its index and its word's place are inside, and its class follows from its word and h of the state that it
-- leaves. Assumes nothing.
use Prim.Native.Nat.{ℕ, zero, suc, ◌<◌}
use mathlib.Core.Path.{◌≡◌, refl, sym, ap, ◌∙◌}
use mathlib.Core.Bool.{Bool, true, false, true≢false}
use mathlib.Core.Logic.{◌↔◌}
use mathlib.Core.List.{List}
use native.Mathlib.Omega.{arith}
use lib.ListN.{length}
use lib.Dec.{eqb}
use Rattle.figure.specs.declared.Figure.{Figure}
use Rattle.word.specs.Model.{Manner, slow, fast, Model, is_fast}
use Rattle.word.specs.Words.{kind, from_field}
use Rattle.model.specs.declared.index.Index.{Index}
use Rattle.model.specs.Index.{Stands, place_of, no_transition, transition}
use Rattle.model.specs.Internal.Valid.{ValidTransition, Valid}
use Rattle.word.proofs.Members.{each_lookup}
use Rattle.model.proofs.Slots.{word, stands_from, stands_fast, stands_inside}
use Rattle.tree.specs.Paths.{Class, class1, class2, class3, class_of, class, counts_1}
use Rattle.tree.specs.States.{mean_up}
use Rattle.tree.proofs.Positive.{mean_up_zero_iff}
use Rattle.tables.specs.Internal.Described.{Indexes, net_of}
use Rattle.tables.specs.Internal.Classes.{class_by, is_class1}

-- ---- the class by whether the transition is fast and by the digits of h

-- h is 0 exactly if the state has no fast exits
by_is : (b : Bool) (d : ℕ) (some : Bool) (x : Manner) → is_fast x ≡ b → ((d ≡ 0) ↔ (some ≡ false)) → class_by b d ≡ class_of some x
by_is false zero true (slow r) e h = absurd (true≢false (h.0 refl))
by_is false zero false (slow r) e h = refl
by_is false (suc d) true (slow r) e h = refl
by_is false (suc d) false (slow r) e h = absurd (omega (arith, h.1 refl))
by_is true d some (slow r) e h = absurd (true≢false (sym e))
by_is false d some (fast m v q) e h = absurd (true≢false e)
by_is true d true (fast m v q) e h = refl
by_is true d false (fast m v q) e h = refl

pub one_true : (c : Class) → is_class1 c ≡ true → c ≡ class1
one_true class1 e = refl
one_true class2 e = absurd (true≢false (sym e))
one_true class3 e = absurd (true≢false (sym e))

pub one_false : (c : Class) → is_class1 c ≡ false → c ≡ class1 → ⊥
one_false c e h = true≢false (sym (ap is_class1 h) ∙ e)

pub counts_none : (c : Class) → (c ≡ class1 → ⊥) → counts_1 c ≡ 0
counts_none class1 h = absurd (h refl)
counts_none class2 h = refl
counts_none class3 h = refl

-- ---- a transition by its index

module _ {m : Model} (valid : Valid m) {j : ℕ} (inside : j < length m.net.table) where
  pub step_valid : ValidTransition m.states (transition m.net j)
  step_valid = each_lookup (ValidTransition m.states) m.net.table j no_transition valid.table inside

  pub index_small : j < 4000
  index_small = omega (arith, valid.few)

  pub origin_small : (transition m.net j).from < 1001
  origin_small = omega (arith, step_valid.from_high, valid.states_high)

module _ {ws : List ℕ} {index : Index} (h : Indexes ws index) {j : ℕ} (inside : j < length (net_of ws).table) where
  stands : Stands ws (place_of index j) (transition (net_of ws) j)
  stands = h.indexed.places_are j inside

  pub place_inside : place_of index j < length ws
  place_inside = omega (arith, stands_inside stands)

  -- of its word as the code has read it
  module _ {w : ℕ} (w-is : w ≡ word ws index j) where
    pub state_read : {s : ℕ} → s ≡ from_field w → s ≡ (transition (net_of ws) j).from
    state_read s-is = s-is ∙ ap from_field w-is ∙ stands_from stands

    -- h is that of the state that it leaves
    pub class_read : {b : Bool} {m : Figure} {c : Class} → b ≡ eqb (kind w) 7 → m ≡ mean_up (net_of ws) (transition (net_of ws) j).from
        → c ≡ class_by b m.digits → c ≡ class (net_of ws) (transition (net_of ws) j)
    unfolding class
    class_read b-is m-is c-is =
        rw (b-is, w-is, m-is) at c-is
        ∙ by_is _ _ _ (transition (net_of ws) j).manner (stands_fast stands) (mean_up_zero_iff h.valid (transition (net_of ws) j).from)
