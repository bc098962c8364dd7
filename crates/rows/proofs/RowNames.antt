-- The states that have rows, as the code finds them, are the definition's. Assumes nothing.
use Prim.Native.Nat.{ℕ, zero, suc, ◌≤◌, ◌<◌}
use mathlib.Core.Path.{◌≡◌, refl, sym, ap, ap₂, ◌∙◌}
use mathlib.Core.Bool.{Bool, true, false, not, ◌&&◌, ◌||◌}
use mathlib.Core.List.{List, [], ◌∷◌, ◌++◌}
use native.Mathlib.Omega.{arith}
use native.Mathlib.Decide.{dec_le}
use lib.Dec.{eqb}
use lib.ListN.{length, get_or, set, take, replicate, length-set, length-append}
use lib.Seq.{get_or-set_same, get_or-set_other}
use Rattle.std.proofs.lemmas.List.{append-nil}
use borrow.Author.Tests.{eq-eqb, ne_eqb}
use Rattle.word.specs.Model.{Transition, Net, any, numbers_from, is_named, only, exits}
use Rattle.word.proofs.Members.{is_empty_length, only_append, numbers_last}
use Rattle.word.proofs.Tests.{flag_test}
use Rattle.word.specs.Words.{to_field}
use Rattle.model.specs.declared.index.Index.{Index}
use Rattle.model.specs.Index.{no_transition, transition}
use Rattle.model.proofs.Slots.{word, stands_to}
use Rattle.tables.proofs.Classes.{step_valid}
use Rattle.tree.specs.Rows.{has_row, row_states}
use Rattle.tables.specs.Internal.Described.{Indexes, described, net_of}
use Rattle.rows.specs.declared.table.RowTable.{RowTable}
use Rattle.rows.specs.Internal.Table.{named_states, NoTotals, Empty, RowAdded}
use Rattle.rows.specs.Internal.Names.{target_among, Targets, marked, listed, Named}

-- ---- targets

or_assoc : (a b c : Bool) → (a || b) || c ≡ a || (b || c)
or_assoc true b c = refl
or_assoc false b c = refl

or_false : (a : Bool) → a || false ≡ a
or_false true = refl
or_false false = refl

or_true : (a : Bool) → a || true ≡ true
or_true true = refl
or_true false = refl

module _ (s : ℕ) where
  -- the first transition apart
  among_first : (t : Transition) (ts : List Transition) (j : ℕ) → target_among (t ∷ ts) (suc j) s ≡ eqb t.to s || target_among ts j s
  unfolding target_among
  among_first t ts zero = sym (or_false (eqb t.to s))
  among_first t ts (suc j) =
      ap (λ b. b || eqb (get_or ts j no_transition).to s) (among_first t ts j)
      ∙ or_assoc (eqb t.to s) (target_among ts j s) (eqb (get_or ts j no_transition).to s)

  -- among all, it is the definition's test
  among_all : (ts : List Transition) → target_among ts (length ts) s ≡ any (λ t. eqb t.to s) ts
  unfolding target_among any
  among_all [] = refl
  among_all (t ∷ ts) = among_first t ts (length ts) ∙ ap (λ b. eqb t.to s || b) (among_all ts)

all_false : (n s : ℕ) → get_or (replicate n false) s false ≡ false
all_false zero s = refl
all_false (suc n) zero = refl
all_false (suc n) (suc s) = all_false n s

module _ (ts : List Transition) where
  pub targets_none : Targets ts 0 (replicate 1001 false)
  unfolding target_among
  targets_none = record { size = refl; marks = λ s h. all_false 1001 s }

  -- one transition more, whose target is d
  pub targets_more : {j : ℕ} {targets : List Bool} {d : ℕ} → d ≡ (get_or ts j no_transition).to → d ≤ 1000 → Targets ts j targets
      → Targets ts (suc j) (set targets d true)
  unfolding target_among
  targets_more {j} {targets} {d} is small h = record {
    size = length-set targets d true ∙ h.size;
    marks = λ s low. go s low (dec_le s d) (dec_le d s);
  }
    where
      marked_so : (s : ℕ) (b : Bool) → get_or (set targets d true) s false ≡ target_among ts j s || b → eqb d s ≡ b
          → get_or (set targets d true) s false ≡ target_among ts j s || eqb (get_or ts j no_transition).to s
      marked_so s b e t = e ∙ ap (λ x. target_among ts j s || x) (sym t ∙ ap (λ x. eqb x s) is)

      apart : (s : ℕ) → s ≤ 1000 → (d ≡ s → ⊥) → get_or (set targets d true) s false ≡ target_among ts j s || eqb (get_or ts j no_transition).to s
      apart s low n =
          marked_so s false
          (get_or-set_other targets d s true false (λ e. n (sym e)) ∙ h.marks s low ∙ sym (or_false (target_among ts j s)))
          (ne_eqb d s n)

      go : (s : ℕ) → s ≤ 1000 → Dec (s ≤ d) → Dec (d ≤ s) → get_or (set targets d true) s false ≡ target_among ts j s || eqb (get_or ts j no_transition).to s
      go s low (yes a) (yes b) =
          let same : d ≡ s = omega arith in
          marked_so s true
          (ap (λ x. get_or (set targets d true) x false) (sym same) ∙ get_or-set_same targets d true false (omega (arith, h.size))
          ∙ sym (or_true (target_among ts j s)))
          (eq-eqb d s same)
      go s low (yes a) (no b) = apart s low (λ e. b (omega (arith, e)))
      go s low (no a) b = apart s low (λ e. a (omega (arith, e)))

-- the target of transition j, as it is read from its word
module _ {ws : List ℕ} {index : Index} (indexes : Indexes ws index) {j w d : ℕ} (inside : j < length (net_of ws).table) (w-is : w ≡ word ws index j)
    (d-is : d ≡ to_field w) where
  pub target_is : d ≡ (transition (net_of ws) j).to
  target_is = d-is ∙ ap to_field w-is ∙ stands_to (indexes.indexed.places_are j inside)

  pub target_small : d ≤ 1000
  target_small = omega (arith, target_is, (step_valid indexes.valid inside).to_high, indexes.valid.states_high)

-- ---- the list

-- The table after the states from 1 to n were looked at: those with rows were written.
pub record Naming (index : Index) (targets : List Bool) (n : ℕ) (table : RowTable) : Type 0 where
  pub few : table.count ≤ n
  pub count_is : table.count ≡ length (named_states table)
  pub states_are : named_states table ≡ listed index targets n
  pub no_totals : NoTotals table

pub naming_none : {index : Index} {targets : List Bool} {table : RowTable} → Empty table → Naming index targets 0 table
unfolding listed
naming_none {table = table} h =
    record {
      few = omega (arith, h.no_rows);
      count_is = h.no_rows ∙ sym (ap (λ (k : ℕ). length (take k table.states)) h.no_rows);
      states_are = ap (λ (k : ℕ). take k table.states) h.no_rows;
      no_totals = h.no_totals;
    }

module _ {index : Index} {targets : List Bool} {n : ℕ} {before : RowTable} (h : Naming index targets n before) where
  -- state n + 1 is written
  pub naming_more : {after : RowTable} {s : ℕ} → s ≡ suc n → marked index targets s ≡ true → RowAdded s before after → Naming index targets s after
  unfolding listed
  naming_more {after} {s} is e added = record {
    few = omega (arith, is, added.count_is, h.few);
    count_is = omega (arith, added.count_is, h.count_is, ap length added.names_are, length-append (named_states before) (s ∷ []));
    states_are =
        added.names_are ∙ ap₂ (λ l (x : ℕ). l ++ (x ∷ [])) h.states_are is
        ∙ sym (ap (listed index targets) is
        ∙ ap (λ b. listed index targets n ++ elim b [ true ↦ suc n ∷ [] | false ↦ [] ]) (ap (marked index targets) (sym is) ∙ e));
    no_totals = added.totals_kept h.no_totals;
  }

  -- or it has no row
  pub naming_same : {s : ℕ} → s ≡ suc n → marked index targets s ≡ false → Naming index targets s before
  unfolding listed
  naming_same {s} is e = record {
    few = omega (arith, is, h.few);
    count_is = h.count_is;
    states_are =
        h.states_are ∙ sym (ap (listed index targets) is
        ∙ ap (λ b. listed index targets n ++ elim b [ true ↦ suc n ∷ [] | false ↦ [] ]) (ap (marked index targets) (sym is) ∙ e)
        ∙ append-nil (listed index targets n));
    no_totals = h.no_totals;
  }

-- ---- they are the definition's

module _ {ws : List ℕ} {index : Index} (indexes : Indexes ws index) {targets : List Bool}
    (all : Targets (net_of ws).table (length (net_of ws).table) targets) where
  abbrev net : Net
  net = net_of ws

  marked_is : (s : ℕ) → s ≤ 1000 → marked index targets s ≡ has_row net s
  unfolding has_row
  marked_is s low =
      ap₂ (λ a b. not a && b) (ap (λ k. eqb k 1) (indexes.indexed.named_are s low) ∙ flag_test (is_named net s))
      (ap₂ (λ a b. a && b)
      (ap (λ k. eqb k 0) (indexes.indexed.counts_are s low) ∙ sym (is_empty_length (exits net s)))
      (all.marks s low ∙ among_all s net.table))

  listed_is : (n : ℕ) → n ≤ 1000 → listed index targets n ≡ only (has_row net) (numbers_from n 1)
  unfolding listed only numbers_from
  listed_is zero h = refl
  listed_is (suc n) h =
      ap₂ (λ l b. l ++ elim b [ true ↦ suc n ∷ [] | false ↦ [] ]) (listed_is n (omega (arith, h))) (marked_is (suc n) h)
      ∙ sym (only_append (has_row net) (numbers_from n 1) (suc n ∷ []))
      ∙ ap (λ l. only (has_row net) l) (ap (λ (x : ℕ). numbers_from n 1 ++ (x ∷ [])) (omega arith) ∙ sym (numbers_last n 1))

  pub named : {table : RowTable} → Naming index targets (described ws).states table → Named (described ws) table
  unfolding row_states
  named {table} h = record {
    count_is = h.count_is ∙ ap length all_there;
    states_are = all_there;
    no_totals = h.no_totals;
  }
    where
      all_there : named_states table ≡ row_states (described ws)
      all_there = h.states_are ∙ listed_is (described ws).states indexes.valid.states_high
