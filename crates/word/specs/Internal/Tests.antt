-- What the tests of one word promise, in the terms of Faults. Assumes nothing: these are definitions.
use Rattle.std.specs.Prelude.{ℕ, ◌<◌, ◌≡◌, true, false, ◌||◌, ◌⊎◌, List, [], ◌∷◌, length, get_or, eqb, Result, Ok, Err}
use Rattle.word.specs.declared.Refusal.{Refusal}
use Rattle.word.specs.declared.Refusal.TheVariants.{WrongKind}
use Rattle.word.specs.declared.kinds.Kind.{Kind}
use Rattle.word.specs.Kinds.{is_of}
use Rattle.word.specs.Words.{kind, from_field, to_field, transition_rest}
use Rattle.word.specs.Faults.{Fault, ◌gives◌, outside, differs}
use Rattle.word.specs.Answer.{Answer, refused, granted}
use Rattle.word.specs.Refusal.{number, place}

-- what a test says, as an answer
abbrev pub answer : Result (Unit {0}) Refusal → Answer (Unit {0})
answer (Ok x) = granted tt
answer (Err f) = refused (number f) (place f)

-- the first fault of the word at place i that holds
unfoldable pub first_fault : List Fault → ℕ → Answer (Unit {0})
first_fault [] i = granted tt
first_fault (f ∷ fs) i = elim f.holds [ true ↦ refused f.number i | false ↦ first_fault fs i ]

-- the same for the first word of the part that begins at place i; one that is missing is a fault too
unfoldable pub word_answer : (ℕ → List Fault) → ℕ → List ℕ → Answer (Unit {0})
word_answer faults i [] = refused 3 i
word_answer faults i (w ∷ ws) = first_fault (faults w) i

-- tests 4, 6 and 7 of a transition's word, which need no index
abbrev pub field_faults : ℕ → ℕ → List Fault
field_faults states w =
    (differs (transition_rest w) 0 gives 4)
    ∷ (outside 1 states (from_field w) || outside 1 states (to_field w) gives 6)
    ∷ (eqb (from_field w) (to_field w) gives 7)
    ∷ []

-- a word where a transition stands: of kind 5 or 7, with bits 27 to 24 zero
pub record TransitionWord (w : ℕ) : Type 0 where
  pub below : w < 4294967296
  pub kind_is : (kind w ≡ 5) ⊎ (kind w ≡ 7)
  pub rest : transition_rest w ≡ 0

-- the first word of the part that begins at place i, which is to be of a kind
abbrev pub FirstOfKind : Kind → ℕ → List ℕ → Result ℕ Refusal → Type 0
FirstOfKind kind i part (Ok w) = (get_or part 0 0 ≡ w) × ((0 < length part) × (is_of kind w ≡ true))
FirstOfKind kind i [] (Err f) = f ≡ WrongKind i
FirstOfKind kind i (w ∷ ws) (Err f) = (f ≡ WrongKind i) × (is_of kind w ≡ false)
