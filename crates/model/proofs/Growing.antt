-- A model while its words are read: what holds of it as long as its named states and its table grow, and that each word that is let through keeps it
-- so. The code's reading stands on the same facts. Assumes nothing.
use Prim.Native.Nat.{ℕ, ◌≤◌, ◌<◌}
use mathlib.Core.Path.{◌≡◌, sym, ◌∙◌}
use mathlib.Core.Bool.{Bool, true, false, true≢false}
use mathlib.Core.List.{List, [], ◌∷◌, ◌++◌}
use native.Mathlib.Omega.{arith}
use native.Mathlib.Decide.{ℕ_discrete}
use lib.ListN.{length, length-append}
use lib.Dec.{ltb, leb}
use borrow.Author.Tests.{ltb-false, leb-false, eqb-false, eq-eqb}
use Rattle.word.specs.declared.Quantity.{Quantity}
use Rattle.word.specs.Model.{Manner, Transition, Model, is_fast, any, exits_in, exits}
use Rattle.word.specs.Words.{states_field, start_field, step_limit_field, entry_limit_field, from_field, to_field, scale_field}
use Rattle.word.specs.Words.{coefficient_field, quantity}
use Rattle.word.specs.Faults.{Fault, outside, head_faults, quantity_faults, caps_faults, same_transition, transition_faults}
use Rattle.word.specs.Internal.Lists.{Each}
use Rattle.model.specs.Reading.{empty_model, with_named, with_transition}
use Rattle.model.specs.Internal.Valid.{InRange, ValidManner, ValidTransition, SameTransition, Distinct}
use Rattle.word.proofs.Members.{neither, each_monotone, each_append, each_one, any_none}
use Rattle.word.proofs.Exits.{exits_more, exits_same, exits_fewer}
use Rattle.word.proofs.Tests.{inside}
use Rattle.word.proofs.SameWord.{same_test_self}

-- ---- what holds of a model whose table grows

-- the head's fields are in range
pub record Head (states start : ℕ) : Type 0 where
  pub states_low : 1 ≤ states
  pub states_high : states ≤ 1000
  pub start_low : 1 ≤ start
  pub start_high : start ≤ states

-- a model whose table still grows: all of `Valid` but what is tested after the end word
pub record Growing (m : Model) : Type 0 where
  pub head : Head m.states m.net.start
  pub time : InRange 1 20 m.net.time
  pub prune : InRange 0 20 m.limits.prune
  pub steps_low : 1 ≤ m.limits.step_limit
  pub steps_high : m.limits.step_limit ≤ 24
  pub entries_low : 1 ≤ m.limits.entry_limit
  pub entries_high : m.limits.entry_limit ≤ 24
  pub table : Each (ValidTransition m.states) m.net.table
  pub few : length m.net.table ≤ 4000
  pub few_exits : (s : ℕ) → length (exits m.net s) ≤ 16
  pub distinct : Distinct m.net.table

-- a transition's word was let through: one more transition from a to b, fast or not, may stand behind the table
pub record Admitted (fast? : Bool) (m : Model) (a b : ℕ) : Type 0 where
  pub from_low : 1 ≤ a
  pub from_high : a ≤ m.states
  pub to_low : 1 ≤ b
  pub to_high : b ≤ m.states
  pub moves : a ≡ b → ⊥
  pub new : any (same_transition fast? a b) m.net.table ≡ false
  pub few_exits : length (exits_in m.net.table a) < 16
  pub few : length m.net.table < 4000

-- ---- one state more that is named

pub name_grows : (m : Model) (s : ℕ) → Growing m → Growing (with_named m s)
name_grows m s g = record {
  head = g.head;
  time = g.time;
  prune = g.prune;
  steps_low = g.steps_low;
  steps_high = g.steps_high;
  entries_low = g.entries_low;
  entries_high = g.entries_high;
  table = g.table;
  few = g.few;
  few_exits = g.few_exits;
  distinct = g.distinct;
}

-- ---- one transition more

-- a transition that the test for the same kind, from and to tells from t is another than t
differ : (fast? : Bool) (t u : Transition) → is_fast t.manner ≡ fast? → same_transition fast? t.from t.to u ≡ false
    → SameTransition u t → ⊥
differ fast? t u e test same =
    let holds : same_transition fast? t.from t.to u ≡ true =
    rw (same.kind, e, same_test_self fast?, eq-eqb u.from t.from same.from, eq-eqb u.to t.to same.to) in
    true≢false (sym holds ∙ test)

distinct_append : (t : Transition) (ts : List Transition) → Distinct ts → Each (λ u. SameTransition u t → ⊥) ts → Distinct (ts ++ (t ∷ []))
unfolding Distinct Each
distinct_append t [] d h = (tt, tt)
distinct_append t (u ∷ us) d h =
    (each_append (λ v. SameTransition u v → ⊥) us (t ∷ []) d.0 (h.0, tt), distinct_append t us d.1 h.1)

pub one_exit_more : (table : List Transition) (t : Transition) → ((s : ℕ) → length (exits_in table s) ≤ 16)
    → length (exits_in table t.from) < 16 → (s : ℕ) → length (exits_in (table ++ (t ∷ [])) s) ≤ 16
one_exit_more table t few free s = go (ℕ_discrete t.from s)
  where
    go : Dec (t.from ≡ s) → length (exits_in (table ++ (t ∷ [])) s) ≤ 16
    go (yes e) = rw (exits_more table s t e, length-append, ← e) (omega arith)
    go (no n) = rw (exits_same table s t n) (few s)

pub grow : (fast? : Bool) (m : Model) (a b : ℕ) (x : Manner) → is_fast x ≡ fast? → ValidManner x → Growing m → Admitted fast? m a b
    → Growing (with_transition m a b x)
grow fast? m a b x e valid g admitted =
    let t : Transition = record { from = a; to = b; manner = x } in
    let others : Each (λ u. SameTransition u t → ⊥) m.net.table =
    each_monotone (λ u. same_transition fast? a b u ≡ false) (λ u. SameTransition u t → ⊥) (λ u. differ fast? t u e) m.net.table
    (any_none (same_transition fast? a b) m.net.table admitted.new) in
    let one : ValidTransition m.states t = record {
      from_low = admitted.from_low;
      from_high = admitted.from_high;
      to_low = admitted.to_low;
      to_high = admitted.to_high;
      moves = admitted.moves;
      manner = valid;
    } in
    record {
      head = g.head;
      time = g.time;
      prune = g.prune;
      steps_low = g.steps_low;
      steps_high = g.steps_high;
      entries_low = g.entries_low;
      entries_high = g.entries_high;
      table = each_append (ValidTransition m.states) m.net.table (t ∷ []) g.table (each_one (ValidTransition m.states) t one);
      few = rw length-append (omega (arith, admitted.few));
      few_exits = one_exit_more m.net.table t g.few_exits admitted.few_exits;
      distinct = distinct_append t m.net.table g.distinct others;
    }

-- ---- what a word that is let through says

abbrev pub NoFault : List Fault → Type 0
NoFault = Each (λ f. f.holds ≡ false)

pub quantity_range : (k most least w : ℕ) → NoFault (quantity_faults k most least w) → InRange least most (quantity w)
unfolding Each
quantity_range k most least w h =
    let (scale_in, coefficient-in) = neither (ltb most (scale_field w)) (outside least 999999 (coefficient_field w)) h.1.0 in
    let range = inside least 999999 (coefficient_field w) coefficient-in in
    record { low = range.0; high = range.1; scale = ltb-false most (scale_field w) scale_in }

pub head_in : (w : ℕ) → NoFault (head_faults w) → Head (states_field w) (start_field w)
unfolding Each
head_in w h =
    let states-in = inside 1 1000 (states_field w) h.1.1.0 in
    let start-in = inside 1 (states_field w) (start_field w) h.1.1.1.0 in
    record { states_low = states-in.0; states_high = states-in.1; start_low = start-in.0; start_high = start-in.1 }

pub empty_grows : (w n s : ℕ) (t p : Quantity) → NoFault (caps_faults w) → Head n s → InRange 1 20 t → InRange 0 20 p
    → Growing (empty_model n s t p (step_limit_field w) (entry_limit_field w))
unfolding Each Distinct
empty_grows w n s t p h head time prune =
    let steps_in = inside 1 24 (step_limit_field w) h.1.1.0 in
    let entries-in = inside 1 24 (entry_limit_field w) h.1.1.1.0 in
    record {
      head = head;
      time = time;
      prune = prune;
      steps_low = steps_in.0;
      steps_high = steps_in.1;
      entries_low = entries-in.0;
      entries_high = entries-in.1;
      table = tt;
      few = omega arith;
      few_exits = λ k. omega (arith, exits_fewer [] k);
      distinct = tt;
    }

pub admit : (fast? : Bool) (m : Model) (w : ℕ) → NoFault (transition_faults fast? m.states m.net.table w)
    → Admitted fast? m (from_field w) (to_field w)
unfolding Each
admit fast? m w h =
    let (from-test, to-test) = neither (outside 1 m.states (from_field w)) (outside 1 m.states (to_field w)) h.1.0 in
    let from_in = inside 1 m.states (from_field w) from-test in
    let to_in = inside 1 m.states (to_field w) to-test in
    let here : ℕ = length (exits_in m.net.table (from_field w)) in
    let (exits-test, table-test) = neither (leb 16 here) (leb 4000 (length m.net.table)) h.1.1.1.1.0 in
    record {
      from_low = from_in.0;
      from_high = from_in.1;
      to_low = to_in.0;
      to_high = to_in.1;
      moves = eqb-false (from_field w) (to_field w) h.1.1.0;
      new = h.1.1.1.0;
      few_exits = leb-false 16 here exits-test;
      few = leb-false 4000 (length m.net.table) table-test;
    }
