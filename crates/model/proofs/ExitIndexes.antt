-- Laws of the indexes under which a state's exits stand in the table. Assumes nothing.
use Prim.Native.Nat.{ℕ, suc, ◌+◌, ◌≤◌, ◌<◌}
use mathlib.Core.Path.{◌≡◌, refl, sym, ap, ◌∙◌}
use mathlib.Core.Bool.{Bool, true, false}
use mathlib.Core.List.{List, [], ◌∷◌, ◌++◌, map, append-nil}
use native.Mathlib.Nat.{suc-add, add-suc, add-zero, zero-add}
use native.Mathlib.Omega.{arith}
use lib.ListN.{length, get_or, length-append}
use lib.Seq.{get_or_at, append_snoc}
use borrow.Author.Tests.{eq-eqb, ne_eqb}
use Rattle.word.specs.Model.{Transition, only, leaves, exits_in}
use Rattle.word.specs.Internal.Lists.{Each}
use Rattle.model.specs.Index.{exit_indexes, no_transition}
use Rattle.word.proofs.Members.{each_monotone, each_lookup, only_pass, only_fail, lookup_map}

index_pass : (t : Transition) (ts : List Transition) (i s : ℕ) → leaves s t ≡ true → exit_indexes (t ∷ ts) i s ≡ i ∷ exit_indexes ts (suc i) s
unfolding exit_indexes
index_pass t ts i s e = rw (e, exit_indexes)

index_fail : (t : Transition) (ts : List Transition) (i s : ℕ) → leaves s t ≡ false → exit_indexes (t ∷ ts) i s ≡ exit_indexes ts (suc i) s
unfolding exit_indexes
index_fail t ts i s e = rw (e, exit_indexes)

module _ (s : ℕ) where
  -- what holds of a table, the index at which it begins, the indexes of its exits from s and those exits, by adding transitions in front
  index_induct : (P : List Transition → ℕ → List ℕ → List Transition → Type 0) → ((i : ℕ) → P [] i [] [])
      → ((t : Transition) (ts : List Transition) (i : ℕ) (js : List ℕ) (us : List Transition)
      → leaves s t ≡ true → P ts (suc i) js us → P (t ∷ ts) i (i ∷ js) (t ∷ us))
      → ((t : Transition) (ts : List Transition) (i : ℕ) (js : List ℕ) (us : List Transition)
      → leaves s t ≡ false → P ts (suc i) js us → P (t ∷ ts) i js us)
      → (table : List Transition) (i : ℕ) → P table i (exit_indexes table i s) (exits_in table s)
  unfolding exit_indexes exits_in only
  index_induct P none pass fail [] i = none i
  index_induct P none pass fail (t ∷ ts) i = go (leaves s t) refl (index_induct P none pass fail ts (suc i))
    where
      go : (b : Bool) → leaves s t ≡ b → P ts (suc i) (exit_indexes ts (suc i) s) (exits_in ts s)
          → P (t ∷ ts) i (exit_indexes (t ∷ ts) i s) (exits_in (t ∷ ts) s)
      go true e h = rw (index_pass t ts i s e, only_pass (leaves s) t ts e) (pass t ts i (exit_indexes ts (suc i) s) (exits_in ts s) e h)
      go false e h = rw (index_fail t ts i s e, only_fail (leaves s) t ts e) (fail t ts i (exit_indexes ts (suc i) s) (exits_in ts s) e h)

  pub indexes_length : (table : List Transition) (i : ℕ) → length (exit_indexes table i s) ≡ length (exits_in table s)
  indexes_length = index_induct (λ ts i js us. length js ≡ length us) (λ i. refl) (λ t ts i js us e h. ap suc h) (λ t ts i js us e h. h)

  pub indexes_between : (table : List Transition) (i : ℕ) → Each (λ j. (i ≤ j) × (j < i + length table)) (exit_indexes table i s)
  unfolding Each
  indexes_between = index_induct (λ ts i js us. Each (λ j. (i ≤ j) × (j < i + length ts)) js) (λ i. tt)
      (λ t ts i js us e h. ((omega arith, omega arith), wider t ts i js h))
      (λ t ts i js us e h. wider t ts i js h)
    where
      wider : (t : Transition) (ts : List Transition) (i : ℕ) (js : List ℕ)
          → Each (λ j. (suc i ≤ j) × (j < suc i + length ts)) js → Each (λ j. (i ≤ j) × (j < i + length (t ∷ ts))) js
      wider t ts i js = each_monotone _ _ (λ j h. omega arith) js

  indexes_exits_behind : (table : List Transition) (i : ℕ) (front : List Transition) → length front ≡ i
      → map (λ j. get_or (front ++ table) j no_transition) (exit_indexes table i s) ≡ exits_in table s
  indexes_exits_behind = index_induct
      (λ ts i js us. (front : List Transition) → length front ≡ i → map (λ j. get_or (front ++ ts) j no_transition) js ≡ us)
      (λ i front e. refl)
      (λ t ts i js us e h front k. rw (get_or_at front t ts no_transition i k, behind t ts i js us h front k))
      (λ t ts i js us e h front k. behind t ts i js us h front k)
    where
      behind : (t : Transition) (ts : List Transition) (i : ℕ) (js : List ℕ) (us : List Transition)
          → ((front : List Transition) → length front ≡ suc i → map (λ j. get_or (front ++ ts) j no_transition) js ≡ us)
          → (front : List Transition) → length front ≡ i → map (λ j. get_or (front ++ t ∷ ts) j no_transition) js ≡ us
      behind t ts i js us h front k = rw append_snoc at (h (front ++ (t ∷ [])) (length-append front (t ∷ []) ∙ omega arith))

  pub indexes_append : (table rest : List Transition) (i : ℕ)
      → exit_indexes (table ++ rest) i s ≡ exit_indexes table i s ++ exit_indexes rest (i + length table) s
  indexes_append table rest = index_induct (λ ts i js us. exit_indexes (ts ++ rest) i s ≡ js ++ exit_indexes rest (i + length ts) s)
      (λ i. rw add-zero)
      (λ t ts i js us e h. index_pass t (ts ++ rest) i s e ∙ ap (λ (l : List ℕ). i ∷ l) (h ∙ rw (suc-add, add-suc)))
      (λ t ts i js us e h. index_fail t (ts ++ rest) i s e ∙ h ∙ rw (suc-add, add-suc)) table

module _ (table : List Transition) (s : ℕ) where
  pub indexes_exits : map (λ j. get_or table j no_transition) (exit_indexes table 0 s) ≡ exits_in table s
  indexes_exits = indexes_exits_behind s table 0 [] refl

  -- the i-th index is one of the table, and the transition there is the i-th exit
  pub index_below : (i : ℕ) → i < length (exits_in table s) → get_or (exit_indexes table 0 s) i 0 < length table
  index_below i h =
      let between : (0 ≤ get_or (exit_indexes table 0 s) i 0) × (get_or (exit_indexes table 0 s) i 0 < 0 + length table) =
      each_lookup _ (exit_indexes table 0 s) i 0 (indexes_between s table 0) (rw (indexes_length s table 0) h) in
      omega arith

  pub index_exit : (i : ℕ) → i < length (exits_in table s)
      → get_or (exits_in table s) i no_transition ≡ get_or table (get_or (exit_indexes table 0 s) i 0) no_transition
  index_exit i h =
      ap (λ (l : List Transition). get_or l i no_transition) (sym indexes_exits)
      ∙ lookup_map (λ j. get_or table j no_transition) (exit_indexes table 0 s) i 0 no_transition (rw (indexes_length s table 0) h)

  -- ---- the indexes with one more transition behind the table

  pub indexes_more : (t : Transition) → t.from ≡ s → exit_indexes (table ++ (t ∷ [])) 0 s ≡ exit_indexes table 0 s ++ (length table ∷ [])
  unfolding exit_indexes
  indexes_more t e =
      indexes_append s table (t ∷ []) 0
      ∙ ap (λ (l : List ℕ). exit_indexes table 0 s ++ l) (index_pass t [] (0 + length table) s (eq-eqb t.from s e) ∙ rw zero-add)

  pub indexes_same : (t : Transition) → (t.from ≡ s → ⊥) → exit_indexes (table ++ (t ∷ [])) 0 s ≡ exit_indexes table 0 s
  unfolding exit_indexes
  indexes_same t n =
      indexes_append s table (t ∷ []) 0
      ∙ ap (λ (l : List ℕ). exit_indexes table 0 s ++ l) (index_fail t [] (0 + length table) s (ne_eqb t.from s n))
      ∙ append-nil (exit_indexes table 0 s)
