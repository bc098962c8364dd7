-- The index of exits that reading fills into a lent value, the code's struct `Index`, and what its entries mean. The walk and its tables find a
-- state's exits by it. Assumes nothing: these are definitions.
use Rattle.std.specs.Prelude.{ℕ, suc, ◌+◌, ◌≤◌, ◌<◌, ◌≡◌, true, false, List, [], ◌∷◌, length, get_or, take, drop, replicate, eqb}
use Rattle.word.specs.Model.{Manner, slow, fast, Transition, Net, Model, one_if, is_named, leaves, exits}
use Rattle.word.specs.Words.{kind, from_field, to_field, quantity}
use Rattle.model.specs.declared.exits.StateExits.{StateExits}
use Rattle.model.specs.declared.index.Index.{Index}

-- The indexes, from i on, of a table's transitions that leave s, in table order. Transitions are counted from 0.
unfoldable pub exit_indexes : List Transition → ℕ → ℕ → List ℕ
exit_indexes [] i s = []
exit_indexes (t ∷ ts) i s = elim (leaves s t) [ true ↦ i ∷ exit_indexes ts (suc i) s | false ↦ exit_indexes ts (suc i) s ]

-- a transition from the part of the words that begins at its own word: kind 5 with its rate, or kind 7 with mean, deviation and probability
unfoldable pub transition_at : List ℕ → Transition
transition_at ws =
    record {
      from = from_field (get_or ws 0 0);
      to = to_field (get_or ws 0 0);
      manner =
          elim (eqb (kind (get_or ws 0 0)) 7) [
            | true ↦ fast (quantity (get_or ws 1 0)) (quantity (get_or ws 2 0)) (quantity (get_or ws 3 0))
            | false ↦ slow (quantity (get_or ws 1 0))
          ];
    }

-- how many words a transition takes
abbrev pub word_count : Manner → ℕ
word_count (slow r) = 2
word_count (fast m d q) = 4

-- the part of the words that begins at a place is a transition's, whole
pub record Stands (ws : List ℕ) (place : ℕ) (t : Transition) : Type 0 where
  pub inside : place + word_count t.manner ≤ length ws
  pub reads : transition_at (drop place ws) ≡ t

-- transition j of a table; past its end, one between states 0
abbrev pub no_transition : Transition
no_transition = record { from = 0; to = 0; manner = slow (quantity 0) }

abbrev pub transition : Net → ℕ → Transition
transition net j = get_or net.table j no_transition

-- ---- the index: for each state from 0 to 1,000 its exits and its flag, a place for each transition

-- the exits of the state s; past the last state, none
unfoldable pub no_exits : StateExits
no_exits = record { slots = replicate 16 0; count = 0; named = false }

abbrev pub exits_at : Index → ℕ → StateExits
exits_at index s = get_or index.states s no_exits

-- what slot i of the state s holds: the index of its exit i
abbrev pub slot : Index → ℕ → ℕ → ℕ
slot index s i = get_or (exits_at index s).slots i 0

-- the number of exits of the state s
abbrev pub exit_count : Index → ℕ → ℕ
exit_count index s = (exits_at index s).count

-- the indexes of its exits
abbrev pub exits_of : Index → ℕ → List ℕ
exits_of index s = take (exit_count index s) (exits_at index s).slots

-- the place of the word of transition j
abbrev pub place_of : Index → ℕ → ℕ
place_of index j = get_or index.places j 0

-- the flag of the state s: 1 if it is one of the generator's, else 0
abbrev pub named_flag : Index → ℕ → ℕ
named_flag index s = one_if (exits_at index s).named

-- no state has exits, and none is one of the generator's
pub record IsEmpty (index : Index) : Type 0 where
  pub no_exits : (s : ℕ) → s ≤ 1000 → exit_count index s ≡ 0
  pub none_named : (s : ℕ) → s ≤ 1000 → named_flag index s ≡ 0

-- The index of a model's words. What a slot past a state's number of exits holds, and the place of a transition past the table's end, is free.
pub record Indexed (m : Model) (ws : List ℕ) (index : Index) : Type 0 where
  pub counts_are : (s : ℕ) → s ≤ 1000 → exit_count index s ≡ length (exits m.net s)
  pub slots_are : (s i : ℕ) → s ≤ 1000 → i < length (exits m.net s) → slot index s i ≡ get_or (exit_indexes m.net.table 0 s) i 0
  pub places_are : (j : ℕ) → j < length m.net.table → Stands ws (place_of index j) (transition m.net j)
  pub named_are : (s : ℕ) → s ≤ 1000 → named_flag index s ≡ one_if (is_named m.net s)
