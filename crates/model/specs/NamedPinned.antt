-- Document 02, Item 3, "States that the generator pruned": small lists of words, each with the refusal that reading them ends in or with the states that
-- the model then names, and one claim: that the definitions agree with all of them. Assumes nothing: these are definitions.
use Rattle.std.specs.Prelude.{ℕ, suc, ◌+◌, ◌≡◌, Bool, true, false, ◌&&◌, List, [], ◌∷◌, ◌++◌, map, replicate, eqb}
use Rattle.word.specs.Model.{numbers_from}
use Rattle.word.specs.Answer.{Answer, refused, granted, then}
use Rattle.model.specs.Reading.{most_words, read}

-- words, and the states that they name or the refusal
pub record NamedReading : Type 0 where
  pub words : List ℕ
  pub answer : Answer (List ℕ)

-- ---- the words: T 10, P 0, L 24, V 1

-- words of kind 12 that name these states
abbrev pub naming : List ℕ → List ℕ
naming states = map (λ s. 0xC0000000 + s) states

-- head, T, P and caps; words between the caps and the transitions; then the others
abbrev pub with_words : (head : ℕ) → (between behind : List ℕ) → List ℕ
with_words head between behind = head ∷ 0x2000000A ∷ 0x30000000 ∷ 0x41801000 ∷ (between ++ behind)

-- 1 to 2, 1 to 3, 2 to 4 and 2 to 5, each with the rate 1E-4
abbrev pub fork : List ℕ
fork =
    0x50001002 ∷ 0x60400001 ∷ 0x50001003 ∷ 0x60400001 ∷ 0x50002004 ∷ 0x60400001 ∷ 0x50002005 ∷ 0x60400001 ∷ 0xF0000000 ∷ []

-- the fork with words between the caps and the transitions, started in 1; N is 5
abbrev pub forked : List ℕ → List ℕ
forked between = with_words 0x11005001 between fork

-- 1 to 300 with the rate 1E-4, and these states named; N is 1,000
abbrev pub long : List ℕ → List ℕ
long states = with_words 0x113E8001 (naming states) (0x5000112C ∷ 0x60400001 ∷ 0xF0000000 ∷ [])

-- ---- the readings

infix 15 ◌names◌
abbrev ◌names◌ : List ℕ → List ℕ → NamedReading
◌names◌ words states = record { words = words; answer = granted states }

abbrev stops : List ℕ → (number place : ℕ) → NamedReading
stops words number place = record { words = words; answer = refused number place }

unfoldable pub named_readings : List NamedReading
named_readings =
    -- none; two, in the order of their words; one to which no transition leads
    (forked [] names [])
    ∷ (forked (naming (3 ∷ 4 ∷ [])) names (3 ∷ 4 ∷ []))
    ∷ (with_words 0x11005001 (naming (5 ∷ [])) (0x50001002 ∷ 0x60400001 ∷ 0xF0000000 ∷ []) names (5 ∷ []))
    -- "bits 11..0 a state, the other 16 of the body zero": bits 27 and 12, also where the state is out of range
    ∷ stops (forked (0xC8000003 ∷ [])) 4 4
    ∷ stops (forked (0xC0001003 ∷ [])) 4 4
    ∷ stops (forked (0xC0001000 ∷ [])) 4 4
    -- a state from 1 to N
    ∷ stops (forked (naming (0 ∷ []))) 6 4
    ∷ stops (forked (naming (3 ∷ 6 ∷ []))) 6 5
    -- "15 when a named state isn't greater than the one named before it; it comes after 6 at that word"
    ∷ stops (forked (naming (3 ∷ 3 ∷ []))) 15 5
    ∷ stops (forked (naming (4 ∷ 5 ∷ 3 ∷ []))) 15 6
    ∷ stops (forked (naming (3 ∷ 0 ∷ []))) 6 5
    ∷ stops (forked (0xC0000004 ∷ 0xC0001003 ∷ [])) 4 5
    -- "between the caps and the transitions": not before, and not after
    ∷ stops (0x11005001 ∷ 0x2000000A ∷ 0x30000000 ∷ 0xC0000003 ∷ 0x41801000 ∷ fork) 3 3
    ∷ stops (forked (0x50001002 ∷ 0x60400001 ∷ 0xC0000003 ∷ [])) 3 6
    -- the words run out behind one
    ∷ stops (with_words 0x11005001 (naming (3 ∷ [])) []) 3 5
    -- "A 101st such word is refused as 9", after 6 and 15
    ∷ (long (numbers_from 100 2) names numbers_from 100 2)
    ∷ stops (long (numbers_from 101 2)) 9 104
    ∷ stops (long (numbers_from 100 2 ++ (101 ∷ []))) 15 104
    ∷ stops (long (numbers_from 100 2 ++ (1001 ∷ []))) 6 104
    -- "and the word limit becomes 16,105"
    ∷ stops (replicate most_words 0) 3 0
    ∷ stops (replicate (suc most_words) 0) 1 0
    -- "16 when a named state has exits; it comes after 10 with the lowest such state as its place"
    ∷ stops (forked (naming (2 ∷ 3 ∷ []))) 16 2
    ∷ stops (forked (naming (1 ∷ 2 ∷ []))) 16 1
    -- before 11; a start that is named and has no exits is refused as 11
    ∷ stops (with_words 0x11005003 (naming (2 ∷ [])) fork) 16 2
    ∷ stops (with_words 0x11005003 (naming (3 ∷ [])) fork) 11 3
    -- 10 of a higher state comes first: 4 to 5 fast, with the probability 0.9
    ∷ stops (with_words 0x11005001 (naming (2 ∷ [])) (0x70004005 ∷ 0x80400001 ∷ 0x90000000 ∷ 0xA0100009 ∷ fork)) 10 4
    ∷ []

-- ---- the test of a reading

unfoldable pub same_states : List ℕ → List ℕ → Bool
same_states [] [] = true
same_states [] (s ∷ ss) = false
same_states (s ∷ ss) [] = false
same_states (s ∷ ss) (r ∷ rs) = eqb s r && same_states ss rs

abbrev same_answer : Answer (List ℕ) → Answer (List ℕ) → Bool
same_answer (refused n i) (refused o j) = eqb n o && eqb i j
same_answer (refused n i) (granted r) = false
same_answer (granted r) (refused n i) = false
same_answer (granted r) (granted s) = same_states r s

unfoldable pub all_agree : List NamedReading → Bool
all_agree [] = true
all_agree (x ∷ xs) = same_answer (then (read x.words 1) (λ m. granted m.net.named)) x.answer && all_agree xs

unfoldable pub NamedReadingsAgree : Type 0
NamedReadingsAgree = all_agree named_readings ≡ true
