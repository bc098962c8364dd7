-- What the functions below the code's `read` promise one another, in the terms of Reading and Faults. No other crate sees these functions, and
-- `read`'s own promise, in Promise, names nothing of this file. Assumes nothing: these are definitions.
use Rattle.std.specs.Prelude.{ℕ, zero, suc, ◌+◌, ◌≤◌, ◌<◌, ◌≡◌, ◌≢◌, Bool, true, false, not, ◌&&◌, ◌||◌, ◌⊎◌, List, [], ◌∷◌, length, get_or, drop, leb, eqb}
use Rattle.std.specs.Prelude.{Option, Result, MatchOption, MatchResult}
use Rattle.word.specs.declared.Refusal.{Refusal}
use Rattle.word.specs.Model.{Transition, Model, any, one_if, is_named, exits, has_fast, probability_sum}
use Rattle.word.specs.Words.{kind, from_field}
use Rattle.word.specs.Faults.{Fault, ◌gives◌, differs, head_faults, quantity_faults, caps_faults}
use Rattle.word.specs.Answer.{Answer, refused, granted, then}
use Rattle.word.specs.Internal.Tests.{word_answer, TransitionWord}
use Rattle.word.specs.Refusal.{number, place}
use Rattle.model.specs.declared.Accepted.{Accepted}
use Rattle.model.specs.declared.index.Index.{Index}
use Rattle.model.specs.Reading.{at_head, at_named, at_transition, last_of, read_from, read}
use Rattle.model.specs.Reasons.{Called, NoneBelow, IsLowest}
use Rattle.model.specs.Index.{transition_at, slot, exit_count, place_of, named_flag, Indexed}
use Rattle.model.specs.Promise.{summary, Answers}

-- ---- tests of words

-- the first fault of one word after the other, from place i of the words on; a word that is missing is a fault too
unfoldable pub words_answer : List (ℕ → List Fault) → ℕ → List ℕ → Answer (Unit {0})
words_answer [] i ws = granted tt
words_answer (faults ∷ rest) i ws = then (word_answer faults i (drop i ws)) (λ _. words_answer rest (suc i) ws)

-- the first four words
abbrev pub opening_faults : List (ℕ → List Fault)
opening_faults = head_faults ∷ quantity_faults 2 20 1 ∷ quantity_faults 3 20 0 ∷ caps_faults ∷ []

-- the words that follow a transition's own: the rate; or mean, deviation and probability
abbrev pub body_faults : Bool → List (ℕ → List Fault)
body_faults false = quantity_faults 6 20 1 ∷ []
body_faults true = quantity_faults 8 20 1 ∷ quantity_faults 9 20 0 ∷ quantity_faults 10 12 1 ∷ []

-- ---- what the index leads to

-- f of the n numbers from i on
unfoldable pub along : {A : Type 0} → (ℕ → A) → ℕ → ℕ → List A
along f zero i = []
along f (suc n) i = f i ∷ along f n (suc i)

-- the place of the word that slot i of the state s leads to
abbrev pub slot_place : Index → ℕ → ℕ → ℕ
slot_place index s i = place_of index (slot index s i)

-- the words, and the transitions, that the exits of the state s lead to
abbrev pub slot_words : List ℕ → Index → ℕ → List ℕ
slot_words ws index s = along (λ i. get_or ws (slot_place index s i) 0) (exit_count index s) 0

abbrev pub slot_transitions : List ℕ → Index → ℕ → List Transition
slot_transitions ws index s = along (λ i. transition_at (drop (slot_place index s i) ws)) (exit_count index s) 0

-- The exits of the state s lead to transitions' words: each has an index below 4,000, and a fast transition has its three words behind it.
pub record Leads (ws : List ℕ) (index : Index) (s : ℕ) : Type 0 where
  pub few : exit_count index s ≤ 16
  pub low : (i : ℕ) → i < exit_count index s → slot index s i < 4000
  pub inside : (i : ℕ) → i < exit_count index s → slot_place index s i < length ws
  pub whole : (i : ℕ) → i < exit_count index s → kind (get_or ws (slot_place index s i) 0) ≡ 7 → slot_place index s i + 3 < length ws

-- tests 8 and 9 of the word w, by the index: with bits 27 to 24 zero, the same kind, from and to is the same word
abbrev pub room_faults : List ℕ → Index → ℕ → ℕ → List Fault
room_faults ws index known w =
    (any (eqb w) (slot_words ws index (from_field w)) gives 8)
    ∷ (leb 16 (exit_count index (from_field w)) || leb 4000 known gives 9)
    ∷ []

-- the fast ones of these exits have probabilities that do not sum to 1
abbrev pub sums_uneven : List Transition → Bool
sums_uneven ts = has_fast ts && differs (probability_sum ts) 1000000000000

-- the sum of the probabilities of the fast ones of these exits, none where none is fast
abbrev pub IsFastSum : List Transition → Option ℕ → Type 0
IsFastSum ts r = MatchOption r (has_fast ts ≡ false) (λ sum. (has_fast ts ≡ true) × (sum ≡ probability_sum ts))

-- whether the fast exits of the state s have such probabilities, by the index
abbrev pub uneven_by : List ℕ → Index → ℕ → Bool
uneven_by ws index s = sums_uneven (slot_transitions ws index s)

-- whether the state s is named and has exits, by the index
abbrev pub leads_on_by : Index → ℕ → Bool
leads_on_by index s = eqb (named_flag index s) 1 && not (eqb (exit_count index s) 0)

-- the lowest of the states from 1 to `states` that passes a test, none where none does
abbrev pub IsLowestOf : (ℕ → Bool) → ℕ → Option ℕ → Type 0
IsLowestOf test states r = MatchOption r (NoneBelow test (suc states)) (IsLowest test states)

-- the index with one exit more of the state s: the transition j, whose word stands at place i
pub record Entered (old new : Index) (s j i : ℕ) : Type 0 where
  pub slot_new : slot new s (exit_count old s) ≡ j
  pub slot_before : (n : ℕ) → n ≢ exit_count old s → slot new s n ≡ slot old s n
  pub slot_other : (r n : ℕ) → r ≢ s → slot new r n ≡ slot old r n
  pub count_new : exit_count new s ≡ exit_count old s + 1
  pub count_other : (r : ℕ) → r ≢ s → exit_count new r ≡ exit_count old r
  pub place_new : place_of new j ≡ i
  pub place_other : (k : ℕ) → k ≢ j → place_of new k ≡ place_of old k
  pub flags : (r : ℕ) → named_flag new r ≡ named_flag old r

-- the index with one state more that is one of the generator's
pub record NamesOneMore (old new : Index) (s : ℕ) : Type 0 where
  pub counts : (r : ℕ) → exit_count new r ≡ exit_count old r
  pub flag_new : named_flag new s ≡ 1
  pub flag_other : (r : ℕ) → r ≢ s → named_flag new r ≡ named_flag old r

-- ---- the reading so far

-- A model has been read of which `a` has the first four words and the index its exits; `still` says how far.
pub record Filled (a : Accepted) (ws : List ℕ) (index : Index) (still : Model → Type 0) : Type 0 where
  pub model : Model
  pub fields : a ≡ summary model
  pub far : still model
  pub states_high : model.states ≤ 1000
  pub start_high : model.net.start ≤ model.states
  pub few : length model.net.table ≤ 4000
  pub few_exits : (s : ℕ) → length (exits model.net s) ≤ 16
  pub transitions : (j : ℕ) → j < length model.net.table → TransitionWord (get_or ws (place_of index j) 0)
  pub indexed : Indexed model ws index

-- the words up to place i have been read, with this many transitions
pub record UpTo (ws : List ℕ) (i known : ℕ) (m : Model) : Type 0 where
  pub reads : read_from at_head 0 ws ≡ read_from (at_transition m) i (drop i ws)
  pub inside : i ≤ length ws
  pub number : length m.net.table ≡ known

abbrev pub Begun : Accepted → List ℕ → ℕ → ℕ → Index → Type 0
Begun a ws i known index = Filled a ws index (UpTo ws i known)

-- all words have been read
abbrev pub Ended : Accepted → List ℕ → Index → Type 0
Ended a ws index = Filled a ws index (λ m. read_from at_head 0 ws ≡ granted m)

-- the words are refused
abbrev pub Stopped : List ℕ → Refusal → Type 0
Stopped ws f = read_from at_head 0 ws ≡ refused (number f) (place f)

-- What one turn of the loop over the transitions says, from place i on: the place of the next, none behind the end, or a refusal.
abbrev pub Stepped : Accepted → List ℕ → ℕ → ℕ → Index → Result (Option ℕ) Refusal → Type 0
Stepped a ws i known index r =
    MatchResult r (λ behind. MatchOption behind (Ended a ws index) (λ j. (i < j) × Begun a ws j (known + 1) index)) (Stopped ws)

-- the word at place i is of kind 5 or 7
pub record AtTransition (a : Accepted) (ws : List ℕ) (i known : ℕ) (index : Index) : Type 0 where
  pub begun : Begun a ws i known index
  pub kind_is : (kind (get_or ws i 0) ≡ 5) ⊎ (kind (get_or ws i 0) ≡ 7)

-- how many words the transition takes whose own word is w
abbrev pub words_taken : ℕ → ℕ
words_taken w = elim (eqb (kind w) 7) [ true ↦ 4 | false ↦ 2 ]

-- What all tests of that transition say: how it goes on, once it stands in the index.
pub record Passes (a : Accepted) (ws : List ℕ) (i known : ℕ) (index : Index) : Type 0 where
  pub state : from_field (get_or ws i 0) ≤ 1000
  pub exits_few : exit_count index (from_field (get_or ws i 0)) < 16
  pub few : known < 4000
  pub next : (new : Index) → Entered index new (from_field (get_or ws i 0)) known i
      → Begun a ws (i + words_taken (get_or ws i 0)) (known + 1) new

abbrev pub Tested : Accepted → List ℕ → ℕ → ℕ → Index → Result (Unit {0}) Refusal → Type 0
Tested a ws i known index r = MatchResult r (λ _. Passes a ws i known index) (Stopped ws)

-- What the end's word at place i says, whatever model has been read.
abbrev pub EndsAs : List ℕ → ℕ → Result (Unit {0}) Refusal → Type 0
EndsAs ws i r =
    (m : Model) → kind (get_or ws i 0) ≡ 15
    → MatchResult r (λ _. read_from (at_transition m) i (drop i ws) ≡ granted m)
    (λ f. read_from (at_transition m) i (drop i ws) ≡ refused (number f) (place f))

-- What the loop over the transitions says.
abbrev pub Listed : Accepted → List ℕ → Index → Result (Unit {0}) Refusal → Type 0
Listed a ws index r = MatchResult r (λ _. Ended a ws index) (Stopped ws)

-- What the first four words say.
pub record IsOpened (ws : List ℕ) (a : Accepted) : Type 0 where
  pub model : Model
  pub fields : a ≡ summary model
  pub none_named : model.net.named ≡ []
  pub empty : model.net.table ≡ []
  pub reads : read_from at_head 0 ws ≡ read_from (at_named model) 4 (drop 4 ws)
  pub inside : 4 ≤ length ws
  pub states_high : model.states ≤ 1000
  pub start_high : model.net.start ≤ model.states

abbrev pub OpensAs : List ℕ → Result Accepted Refusal → Type 0
OpensAs ws r = MatchResult r (IsOpened ws) (Stopped ws)

-- The words up to place i have been read: the first four, and behind them words that name states, `count` of them, the last of them `last` (0 if there
-- is none). The index has these states' flags and nothing else.
pub record NamedUpTo (a : Accepted) (ws : List ℕ) (i last count : ℕ) (index : Index) : Type 0 where
  pub model : Model
  pub fields : a ≡ summary model
  pub empty : model.net.table ≡ []
  pub reads : read_from at_head 0 ws ≡ read_from (at_named model) i (drop i ws)
  pub inside : i ≤ length ws
  pub last_is : last ≡ last_of model.net.named
  pub count_is : count ≡ length model.net.named
  pub count_few : count ≤ 100
  pub states_high : model.states ≤ 1000
  pub start_high : model.net.start ≤ model.states
  pub no_exits : (s : ℕ) → s ≤ 1000 → exit_count index s ≡ 0
  pub named_are : (s : ℕ) → s ≤ 1000 → named_flag index s ≡ one_if (is_named model.net s)

-- What the loop over the words that name states says: the transitions begin at place i.
abbrev pub NamedAs : Accepted → List ℕ → Index → Result ℕ Refusal → Type 0
NamedAs a ws index r = MatchResult r (λ i. Begun a ws i 0 index) (Stopped ws)

-- What the caller's two tests say, 1 and 2.
abbrev pub CalledAs : List ℕ → ℕ → Result (Unit {0}) Refusal → Type 0
CalledAs ws budget r = MatchResult r (λ _. Called ws budget) (λ f. read ws budget ≡ refused (number f) (place f))

-- What the tests after the end say, once the caller's two tests are passed.
abbrev pub Concluded : List ℕ → Index → Result Accepted Refusal → Type 0
Concluded ws index r = (budget : ℕ) → Called ws budget → Answers ws budget index r
