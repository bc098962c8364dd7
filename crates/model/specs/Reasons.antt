-- Document 01, "Why a model is turned away": "Order: 1, 2; then words from the left, and at one word 3, 4, 5, 6, 7, 8, 9; after the end 10, 11; then
-- the walk, 13. Each number is returned when its condition is the first to hold, and in no other event." Document 02, Item 3: 15 "comes after 6 at that
-- word", 16 "comes after 10". The conditions of refusals 1 to 11, 15 and 16, each with those before it passed, and that words are refused exactly so.
-- At one word the conditions and their order are the lists of crates/word/specs/Faults.antt, of which `next` takes the first that holds. Assumes
-- nothing: these are definitions.
use Rattle.std.specs.Prelude.{ℕ, suc, ◌≤◌, ◌<◌, ◌≡◌, Bool, true, false, ◌⊎◌, List, ◌∷◌, length, get_or}
use Rattle.word.specs.Model.{Model, is_empty, exits}
use Rattle.word.specs.Faults.{outside}
use Rattle.word.specs.Answer.{refused, granted}
use Rattle.model.specs.Reading.{Reader, at_head, after_end, wrong, right, next, read_from, uneven, leads_on, most_words, read}

-- the caller's two tests, 1 and 2, are passed
pub record Called (ws : List ℕ) (budget : ℕ) : Type 0 where
  pub words_few : length ws ≤ most_words
  pub budget_low : 1 ≤ budget
  pub budget_high : budget ≤ 1000000

-- "words from the left": of some words, read from r on, the first n are right, and the reader is then s
pub data Passes : Reader → List ℕ → ℕ → Reader → Type 0 where
  none : {r : Reader} {ws : List ℕ} → Passes r ws 0 r
  one : {r q s : Reader} {w : ℕ} {ws : List ℕ} {n : ℕ} → next r w ≡ right q → Passes q ws n s → Passes r (w ∷ ws) (suc n) s

-- Reading from r on stops at a place with a number: all words before it are right, and the word that stands there is wrong with that number, or the
-- words run out there, before they are read to their end ("where the words ran out [the place] is their number").
pub data Stops (r : Reader) (ws : List ℕ) (number place : ℕ) : Type 0 where
  wrong_word : {s : Reader} → Passes r ws place s → place < length ws → next s (get_or ws place 0) ≡ wrong number → Stops r ws number place
  ran_out : {s : Reader} → Passes r ws place s → place ≡ length ws → number ≡ 3 → ((m : Model) → s ≡ after_end m → ⊥) → Stops r ws number place

-- the numbers of refusals that belong to a word
abbrev pub OfWord : ℕ → Type 0
OfWord number = ((3 ≤ number) × (number ≤ 9)) ⊎ (number ≡ 15)

-- no state from 1 up to, and without, n passes a test
abbrev pub NoneBelow : (ℕ → Bool) → ℕ → Type 0
NoneBelow test n = (s : ℕ) → 1 ≤ s → s < n → test s ≡ false

-- a place is the lowest of the states that passes a test
pub record IsLowest (test : ℕ → Bool) (states place : ℕ) : Type 0 where
  pub low : 1 ≤ place
  pub high : place ≤ states
  pub passes : test place ≡ true
  pub none_below : NoneBelow test place

-- Why words are refused with a number and a place: 1, the words are too many; 2, the budget is out of range; 3 to 9 and 15, reading from the left
-- stops there; 10, the words are read to their end, and the place is the lowest state whose fast exits do not sum to 1; 16, no state is such, and the
-- place is the lowest named state with exits; 11, no state is such either, and the place is the start, which has no exits.
pub data Reason (ws : List ℕ) (budget number place : ℕ) : Type 0 where
  too_long : number ≡ 1 → place ≡ 0 → most_words < length ws → Reason ws budget number place
  bad_budget : number ≡ 2 → place ≡ 0 → length ws ≤ most_words → outside 1 1000000 budget ≡ true → Reason ws budget number place
  bad_word : OfWord number → Called ws budget → Stops at_head ws number place → Reason ws budget number place
  bad_sum : (m : Model) → number ≡ 10 → Called ws budget → read_from at_head 0 ws ≡ granted m
      → IsLowest (uneven m.net) m.states place → Reason ws budget number place
  named_with_exits : (m : Model) → number ≡ 16 → Called ws budget → read_from at_head 0 ws ≡ granted m
      → NoneBelow (uneven m.net) (suc m.states) → IsLowest (leads_on m.net) m.states place → Reason ws budget number place
  no_exits : (m : Model) → number ≡ 11 → place ≡ m.net.start → Called ws budget → read_from at_head 0 ws ≡ granted m
      → NoneBelow (uneven m.net) (suc m.states) → NoneBelow (leads_on m.net) (suc m.states)
      → is_empty (exits m.net m.net.start) ≡ true → Reason ws budget number place

-- "Each number is returned when its condition is the first to hold": whatever has a reason is refused with its number and place.
abbrev pub ReasonIsRefused : Type 0
ReasonIsRefused = (ws : List ℕ) (budget number place : ℕ) → Reason ws budget number place → read ws budget ≡ refused number place

-- "and in no other event": whatever is refused has the reason that its number and place name.
abbrev pub RefusalHasReason : Type 0
RefusalHasReason = (ws : List ℕ) (budget number place : ℕ) → read ws budget ≡ refused number place → Reason ws budget number place
