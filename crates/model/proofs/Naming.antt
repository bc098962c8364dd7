-- Reading a word that names a state: the flags of the index are those of the named states, and the code's tests are the definition's. Behind the last
-- such word transitions are read. Assumes nothing.
use Prim.Native.Nat.{ℕ, suc, ◌+◌, ◌≤◌, ◌<◌}
use mathlib.Core.Path.{◌≡◌, refl, sym, ap, ◌∙◌}
use mathlib.Core.Bool.{Bool, true, false, ◌||◌}
use mathlib.Core.List.{List, [], ◌∷◌, ◌++◌}
use native.Mathlib.Numerals.{add-one}
use native.Mathlib.Omega.{arith}
use native.Mathlib.Decide.{dec_le, ℕ_discrete}
use lib.ListN.{length, get_or, drop, length-append, get_or-eq_default}
use lib.Dec.{eqb}
use borrow.Author.Tests.{eq-eqb, ne_eqb, leb-false}
use Rattle.word.specs.Model.{Model, any, one_if, is_named}
use Rattle.word.specs.Words.{kind, named_field}
use Rattle.word.specs.Faults.{Fault, named_faults}
use Rattle.word.specs.Answer.{refused, granted}
use Rattle.word.specs.Internal.Tests.{first_fault}
use Rattle.model.specs.declared.Accepted.{Accepted}
use Rattle.model.specs.declared.index.Index.{Index}
use Rattle.model.specs.Reading.{at_head, at_named, at_transition, last_of, with_named, Next, wrong, right, unless}
use Rattle.model.specs.Reading.{next_transition, next_named, next, at_words_end, read_from}
use Rattle.model.specs.Index.{named_flag, IsEmpty}
use Rattle.model.specs.Internal.Parts.{Begun, IsOpened, NamedUpTo, NamesOneMore}
use Rattle.word.proofs.Exits.{exits_fewer}
use Rattle.word.proofs.Tests.{inside}
use Rattle.word.proofs.FirstFault.{first_granted_tail}
use Rattle.model.proofs.Refusals.{next_state, next_behind}
use Rattle.model.proofs.IndexGrowth.{indexed_none}
use Rattle.model.proofs.Steps.{read_out, read_wrong, read_right, first_wrong, first_right}

-- ---- one state more in a list

last_more : (xs : List ℕ) (x : ℕ) → last_of (xs ++ (x ∷ [])) ≡ x
unfolding last_of
last_more [] x = refl
last_more (y ∷ []) x = refl
last_more (y ∷ z ∷ zs) x = last_more (z ∷ zs) x

module _ {A : Type 0} (test : A → Bool) where
  any_last : (xs : List A) (x : A) → test x ≡ true → any test (xs ++ (x ∷ [])) ≡ true
  unfolding any
  any_last [] x e = rw e
  any_last (y ∷ ys) x e = go (test y) (any_last ys x e)
    where
      go : (b : Bool) → any test (ys ++ (x ∷ [])) ≡ true → (b || any test (ys ++ (x ∷ []))) ≡ true
      go true h = refl
      go false h = h

  any_others : (xs : List A) (x : A) → test x ≡ false → any test (xs ++ (x ∷ [])) ≡ any test xs
  unfolding any
  any_others [] x e = rw e
  any_others (y ∷ ys) x e = ap (λ (b : Bool). test y || b) (any_others ys x e)

-- the flags, once one more is set
flags_more : (m : Model) (index new : Index) (s : ℕ) → NamesOneMore index new s
    → ((k : ℕ) → k ≤ 1000 → named_flag index k ≡ one_if (is_named m.net k))
    → (k : ℕ) → k ≤ 1000 → named_flag new k ≡ one_if (is_named (with_named m s).net k)
unfolding is_named
flags_more m index new s one flags k low = go (ℕ_discrete k s)
  where
    go : Dec (k ≡ s) → named_flag new k ≡ one_if (any (λ n. eqb n k) (m.net.named ++ (s ∷ [])))
    go (yes e) =
        ap (named_flag new) e
        ∙ one.flag_new
        ∙ ap one_if (sym (any_last (λ (n : ℕ). eqb n k) m.net.named s (eq-eqb s k (sym e))))
    go (no n) =
        one.flag_other k n
        ∙ flags k low
        ∙ ap one_if (sym (any_others (λ (n : ℕ). eqb n k) m.net.named s (ne_eqb s k (λ e. n (sym e)))))

-- ---- before the first turn

pub naming_begins : (a : Accepted) (ws : List ℕ) (index : Index) → IsOpened ws a → IsEmpty index → NamedUpTo a ws 4 0 0 index
unfolding is_named any last_of
naming_begins a ws index opened empty = record {
  model = opened.model;
  fields = opened.fields;
  empty = opened.empty;
  reads = opened.reads;
  inside = opened.inside;
  last_is = rw opened.none_named;
  count_is = rw opened.none_named;
  count_few = omega arith;
  states_high = opened.states_high;
  start_high = opened.start_high;
  no_exits = empty.no_exits;
  named_are = λ s small. empty.none_named s small ∙ rw opened.none_named;
}

-- ---- a turn: the word w stands at place i

module _ (a : Accepted) (ws : List ℕ) (i last count : ℕ) (index : Index) (so_far : NamedUpTo a ws i last count index)
    (w : ℕ) (word_is : w ≡ get_or ws i 0) where
  abbrev m : Model
  m = so_far.model

  module _ (twelve : kind w ≡ 12) where
    -- a word that is missing would have the kind 0
    pub word_there : i < length ws
    word_there = go (dec_le (suc i) (length ws))
      where
        go : Dec (i < length ws) → i < length ws
        go (yes h) = h
        go (no n) =
            let zero_word : w ≡ 0 = word_is ∙ get_or-eq_default ws 0 (omega arith) in
            let z : ◌≡◌ {A = ℕ} 0 12 = ap kind (sym zero_word) ∙ twelve in
            absurd (omega arith)

    abbrev faults : List Fault
    faults = named_faults m.states (last_of m.net.named) (length m.net.named) w

    next_is : next (at_named m) (get_or ws i 0) ≡ unless faults (at_named (with_named m (named_field w)))
    unfolding next
    next_is = ap (next_named m) (sym word_is) ∙ next_state m w twelve

    module _ (states : ℕ) (states_are : a.states ≡ states) where
      faults_are : first_fault (named_faults states last count w) i ≡ first_fault faults i
      faults_are =
          let same : states ≡ m.states = sym states_are ∙ ap (λ (x : Accepted). x.states) so_far.fields in
          λ k. first_fault (named_faults (same k) (so_far.last_is k) (so_far.count_is k) w) i

      pub name_stops : (n p : ℕ) → first_fault (named_faults states last count w) i ≡ refused n p → read_from at_head 0 ws ≡ refused n p
      name_stops n p e =
          let (wrongly, place) = first_wrong faults i n p (at_named (with_named m (named_field w))) (sym faults_are ∙ e) in
          so_far.reads ∙ read_wrong (at_named m) ws i word_there n (next_is ∙ wrongly) ∙ ap (refused n) (sym place)

      module _ (fine : first_fault (named_faults states last count w) i ≡ granted tt) where
        all_fine : first_fault faults i ≡ granted tt
        all_fine = sym faults_are ∙ fine

        pub state_small : named_field w ≤ 1000
        state_small =
            let (_, after_rest) = first_granted_tail _ _ i all_fine in
            let (state, _) = first_granted_tail _ _ i after_rest in
            omega (arith, inside 1 m.states (named_field w) state, so_far.states_high)

        names_few : count < 100
        names_few =
            let (_, after_rest) = first_granted_tail _ _ i fine in
            let (_, after_state) = first_granted_tail _ _ i after_rest in
            let (_, after-order) = first_granted_tail _ _ i after_state in
            let (room, _) = first_granted_tail _ _ i after-order in
            leb-false 100 count room

        pub name_passes : (new : Index) → NamesOneMore index new (named_field w) → NamedUpTo a ws (i + 1) (named_field w) (count + 1) new
        name_passes new one = record {
          model = with_named m (named_field w);
          fields = so_far.fields;
          empty = so_far.empty;
          reads = so_far.reads ∙ rw add-one (read_right (at_named m) ws i word_there _ (next_is ∙ first_right faults i _ all_fine));
          inside = omega (arith, word_there);
          last_is = sym (last_more m.net.named (named_field w));
          count_is = rw (length-append, so_far.count_is);
          count_few = omega (arith, names_few);
          states_high = so_far.states_high;
          start_high = so_far.start_high;
          no_exits = λ s small. one.counts s ∙ so_far.no_exits s small;
          named_are = flags_more m index new (named_field w) one so_far.named_are;
        }

  -- ---- behind the last turn

  module _ (other : kind w ≡ 12 → ⊥) where
    next_is_behind : next_named m (get_or ws i 0) ≡ next_transition m (get_or ws i 0)
    next_is_behind = next_behind m (get_or ws i 0) (λ e. other (ap kind word_is ∙ e))

    -- a transition or the end is called for
    reads_on : read_from (at_named m) i (drop i ws) ≡ read_from (at_transition m) i (drop i ws)
    unfolding next at_words_end
    reads_on = go (dec_le (suc i) (length ws)) (next_transition m (get_or ws i 0)) refl
      where
        go : Dec (i < length ws) → (x : Next) → next_transition m (get_or ws i 0) ≡ x
            → read_from (at_named m) i (drop i ws) ≡ read_from (at_transition m) i (drop i ws)
        go (yes h) (wrong n) e =
            read_wrong (at_named m) ws i h n (next_is_behind ∙ e) ∙ sym (read_wrong (at_transition m) ws i h n e)
        go (yes h) (right r) e =
            read_right (at_named m) ws i h r (next_is_behind ∙ e) ∙ sym (read_right (at_transition m) ws i h r e)
        go (no n) x e = read_out (at_named m) ws i (omega arith) ∙ sym (read_out (at_transition m) ws i (omega arith))

    none : length m.net.table ≡ 0
    none = ap length so_far.empty

    pub naming_ends : Begun a ws i 0 index
    naming_ends = record {
      model = m;
      fields = so_far.fields;
      far = record { reads = so_far.reads ∙ reads_on; inside = so_far.inside; number = none };
      states_high = so_far.states_high;
      start_high = so_far.start_high;
      few = omega (arith, none);
      few_exits = λ s. omega (arith, exits_fewer m.net.table s, none);
      transitions = λ j more. let no : ⊥ = omega (arith, more, none) in absurd no;
      indexed = indexed_none m ws index so_far.empty so_far.no_exits so_far.named_are;
    }
