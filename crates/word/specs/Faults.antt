-- Document 01, "Why a model is turned away", and document 02, Item 3: what can be wrong with a word, or with a whole model. Each place of the table has
-- its conditions as a list in the documents' order, each with its refusal's number; the first that holds counts. Assumes nothing: these are definitions.
use Rattle.std.specs.Prelude.{ℕ, Bool, true, false, not, ◌&&◌, ◌||◌, List, [], ◌∷◌, length, leb, ltb, eqb}
use Rattle.word.specs.Model.{Transition, is_fast, any, exits_in}
use Rattle.word.specs.Words.{kind, edition_field, states_field, start_field, step_limit_field, entry_limit_field, caps_rest, transition_rest}
use Rattle.word.specs.Words.{named_field, named_rest, from_field, to_field, end_rest, scale_field, coefficient_field}

infix 15 ◌gives◌
-- a condition, and the number of the refusal that it leads to
pub record Fault : Type 0 where
  pub holds : Bool
  pub number : ℕ

abbrev pub ◌gives◌ : Bool → ℕ → Fault
◌gives◌ b n = record { holds = b; number = n }

abbrev pub outside : ℕ → ℕ → ℕ → Bool
outside least most n = ltb n least || ltb most n

abbrev pub differs : ℕ → ℕ → Bool
differs a b = not (eqb a b)

-- "3: a word is of another kind than its place calls for", "6: edition, N, start, .. out of range"
abbrev pub head_faults : ℕ → List Fault
head_faults w =
    (differs (kind w) 1 gives 3)
    ∷ (differs (edition_field w) 1 gives 6)
    ∷ (outside 1 1000 (states_field w) gives 6)
    ∷ (outside 1 (states_field w) (start_field w) gives 6)
    ∷ []

-- "5: scale or coefficient out of range": the scale is at most `most`, the coefficient from `least` to 999,999
abbrev pub quantity_faults : ℕ → ℕ → ℕ → ℕ → List Fault
quantity_faults k most least w =
    (differs (kind w) k gives 3)
    ∷ (ltb most (scale_field w) || outside least 999999 (coefficient_field w) gives 5)
    ∷ []

-- "4: a bit that must be zero is set"
abbrev pub caps_faults : ℕ → List Fault
caps_faults w =
    (differs (kind w) 4 gives 3)
    ∷ (differs (caps_rest w) 0 gives 4)
    ∷ (outside 1 24 (step_limit_field w) gives 6)
    ∷ (outside 1 24 (entry_limit_field w) gives 6)
    ∷ []

-- A kind 12 word: "15 when a named state isn't greater than the one named before it; it comes after 6 at that word", "A 101st such word is refused as
-- 9". `states` is N, `last` the state named before (0 if there is none), `count` how many were named.
abbrev pub named_faults : (states last count : ℕ) → ℕ → List Fault
named_faults states last count w =
    (differs (named_rest w) 0 gives 4)
    ∷ (outside 1 states (named_field w) gives 6)
    ∷ (leb (named_field w) last gives 15)
    ∷ (leb 100 count gives 9)
    ∷ []

abbrev pub same_test : Bool → Bool → Bool
same_test true b = b
same_test false b = not b

-- a transition of the same kind (fast or slow), from and to
abbrev pub same_transition : Bool → ℕ → ℕ → Transition → Bool
same_transition fast? a b t = same_test fast? (is_fast t.manner) && (eqb t.from a && eqb t.to b)

-- "7: from equals to", "8: the same kind, from and to stood earlier", "9: the 17th exit of a state, or the 4,001st transition"; `states` is N and
-- `table` has the transitions that stood earlier
abbrev pub transition_faults : Bool → ℕ → List Transition → ℕ → List Fault
transition_faults fast? states table w =
    (differs (transition_rest w) 0 gives 4)
    ∷ (outside 1 states (from_field w) || outside 1 states (to_field w) gives 6)
    ∷ (eqb (from_field w) (to_field w) gives 7)
    ∷ (any (same_transition fast? (from_field w) (to_field w)) table gives 8)
    ∷ (leb 16 (length (exits_in table (from_field w))) || leb 4000 (length table) gives 9)
    ∷ []

-- "Kind 15, end: other bits zero."
abbrev pub end_faults : ℕ → List Fault
end_faults w = (differs (end_rest w) 0 gives 4) ∷ []
