-- Document 01, "The report program and the marked models": models A to L as one list, each with what the page says of it, and one claim: that the
-- definitions agree with all of it. Document 02, Item 2, adds model A's two digits. Assumes nothing: these are definitions.
use Rattle.std.specs.Prelude.{ℕ, ◌+◌, ◌*◌, ◌^◌, ◌≡◌, Bool, true, false, ◌&&◌, List, [], ◌∷◌, ◌++◌, ℤ, pos, negsuc, neg_ℤ, ◌+ℤ◌, eqb}
use Rattle.std.specs.Int.Signed.{le_z}
use Rattle.figure.specs.declared.Figure.{Figure}
use Rattle.figure.specs.Rounding.{figure, none}
use Rattle.figure.specs.Operations.{times_up, times_down}
use Rattle.word.specs.Answer.{Answer}
use Rattle.word.specs.Faults.{same_test}
use Rattle.model.specs.Reading.{read}
use Rattle.model.specs.Index.{transition}
use Rattle.tree.specs.Grains.{grains}
use Rattle.tree.specs.Report.{Report, answer}
use Rattle.tree.specs.Marks.{Marks, marks_with}

-- ---- words

-- kind, a number at bit 12 and one at bit 0
abbrev word : ℕ → ℕ → ℕ → ℕ
word kind high low = kind * 2 ^ 28 + high * 2 ^ 12 + low

-- the quantity c / 10^p
abbrev quantity_word : ℕ → ℕ → ℕ → ℕ
quantity_word kind c p = kind * 2 ^ 28 + p * 2 ^ 20 + c

-- from a to b with the rate c / 10^p
abbrev slow_words : ℕ → ℕ → ℕ → ℕ → List ℕ
slow_words a b c p = word 5 a b ∷ quantity_word 6 c p ∷ []

-- from a to b with mean mc / 10^mp, deviation dc / 10^dp and probability qc / 10^qp
abbrev fast_words : ℕ → ℕ → ℕ → ℕ → ℕ → ℕ → ℕ → ℕ → List ℕ
fast_words a b mc mp dc dp qc qp = word 7 a b ∷ quantity_word 8 mc mp ∷ quantity_word 9 dc dp ∷ quantity_word 10 qc qp ∷ []

-- "Where a model below doesn't say, it is as A but for its transitions, with N its largest state number": start 1, T 10, L 24, V 1. The prune
-- level is c / 10^p.
abbrev model_words : ℕ → ℕ → ℕ → ℕ → List ℕ → List ℕ
model_words edition n c p transitions = word 1 (edition * 2 ^ 12 + n) 1 ∷ quantity_word 2 10 0 ∷ quantity_word 3 c p ∷ 0x41801000 ∷ (transitions ++ (0xF0000000 ∷ []))

-- ---- what the page says of a model

-- a figure of nine digits, one of them before the point: 9.99500000E-4 is `printed 999500000 (neg_ℤ (pos 4))`
abbrev pub printed : ℕ → ℤ → Figure
printed d e = figure d (e +ℤ negsuc 7)

pub data Statement : Type 0 where
  lower_is upper_is cut_is : Figure → Statement
  deaths_are cuts_are steps_are : ℕ → Statement
  refused_as : (number place : ℕ) → Statement
  is_reported : Statement
  -- the two digits of the line `exact`
  exact_are : (lower upper : Bool) → Statement
  -- the grains of a transition of the table, by its index from 0
  grains_are : (index n : ℕ) → Statement
  -- the whole report is that on these words
  all_as : List ℕ → Statement

-- a model's words with a budget, or (L) two figures with their product up and down
pub data Marked : Type 0 where
  model : (words : List ℕ) (budget : ℕ) → List Statement → Marked
  product : (a b up down : Figure) → Marked

abbrev million : ℕ
million = 1000000

abbrev words-A : List ℕ
words-A = 0x11002001 ∷ 0x2000000A ∷ 0x30000000 ∷ 0x41801000 ∷ 0x50001002 ∷ 0x60400001 ∷ 0xF0000000 ∷ []

-- B with the prune level c / 10^p
abbrev words-B : ℕ → ℕ → List ℕ
words-B c p = model_words 1 5 c p (slow_words 1 2 3 4 ++ slow_words 2 3 2 4 ++ fast_words 2 4 1 4 1 4 1 0 ++ slow_words 4 5 1 4)

abbrev words-D : List ℕ
words-D = model_words 1 2 0 0 (slow_words 1 2 1 3 ++ slow_words 2 1 1 3)

-- G with the last probability c / 10^6
abbrev words-G : ℕ → List ℕ
words-G c = model_words 1 4 0 0 (fast_words 1 2 1 4 1 4 333333 6 ++ fast_words 1 3 1 4 1 4 333333 6 ++ fast_words 1 4 1 4 1 4 c 6)

unfoldable pub marked_models : List Marked
marked_models =
    -- A; document 02, Item 2: "Model A prints `exact 11`."
    model words-A million
    (lower_is (printed 999500000 (neg_ℤ (pos 4))) ∷ upper_is (printed 100000000 (neg_ℤ (pos 3))) ∷ cut_is none ∷ deaths_are 1 ∷ cuts_are 0 ∷ steps_are 1
    ∷ exact_are true true ∷ [])
    -- B: "Upper 1.50006000E-6, deaths 2, cuts 0, steps 4. Grains: 4,473 for 2 to 3, 737 for 2 to 4."
    ∷ model (words-B 0 0) million (upper_is (printed 150006000 (neg_ℤ (pos 6))) ∷ deaths_are 2 ∷ cuts_are 0 ∷ steps_are 4 ∷ grains_are 1 4473 ∷ grains_are 2 737 ∷ [])
    -- C: "B with P 3E-3: upper and cut 3.00000000E-3, lower 0, deaths 0, cuts 1, steps 1. With P 2.9E-3, all as B."
    ∷ model (words-B 3 3) million (upper_is (printed 300000000 (neg_ℤ (pos 3))) ∷ cut_is (printed 300000000 (neg_ℤ (pos 3))) ∷ lower_is none ∷ deaths_are 0 ∷ cuts_are 1 ∷ steps_are 1 ∷ [])
    ∷ model (words-B 29 4) million (all_as (words-B 0 0) ∷ [])
    -- D: "upper and cut 5.00000000E-5, cuts 1, steps 2"
    ∷ model words-D million (upper_is (printed 500000000 (neg_ℤ (pos 5))) ∷ cut_is (printed 500000000 (neg_ℤ (pos 5))) ∷ cuts_are 1 ∷ steps_are 2 ∷ [])
    -- E: "D, budget 1: 13. Budget 2: reported."
    ∷ model words-D 1 (refused_as 13 0 ∷ [])
    ∷ model words-D 2 (is_reported ∷ [])
    -- F: "no words: 3 at 0"
    ∷ model [] million (refused_as 3 0 ∷ [])
    -- G: "10 at 1. With the last 0.333334: accepted."
    ∷ model (words-G 333333) million (refused_as 10 1 ∷ [])
    ∷ model (words-G 333334) million (is_reported ∷ [])
    -- H: "1 to 2 fast (10, 0, 1), T 10: n is 1,000,000, lower 0, upper 1.00000000E0"
    ∷ model (model_words 1 2 0 0 (fast_words 1 2 10 0 0 0 1 0)) million (grains_are 0 million ∷ lower_is none ∷ upper_is (printed 100000000 (pos 0)) ∷ [])
    -- I: "A with rate 1: upper 1.00000000E1 (no cap at 1), lower 0"
    ∷ model (model_words 1 2 0 0 (slow_words 1 2 1 0)) million (upper_is (printed 100000000 (pos 1)) ∷ lower_is none ∷ [])
    -- J: "A with edition 2: 6 at 0"
    ∷ model (model_words 2 2 0 0 (slow_words 1 2 1 4)) million (refused_as 6 0 ∷ [])
    -- K: "N 1, no transitions: 11 at 1"
    ∷ model (model_words 1 1 0 0 []) million (refused_as 11 1 ∷ [])
    -- L: "1.00000001 × 1.00000001 is 1.00000003 up, 1.00000002 down"
    ∷ product (printed 100000001 (pos 0)) (printed 100000001 (pos 0)) (printed 100000003 (pos 0)) (printed 100000002 (pos 0))
    ∷ []

-- ---- the test of a statement

abbrev pub same_figure : Figure → Figure → Bool
same_figure f g = eqb f.digits g.digits && (le_z f.power g.power && le_z g.power f.power)

abbrev pub same_report : Report → Report → Bool
same_report r s =
    same_figure r.lower s.lower
    && (same_figure r.upper s.upper
    && (same_figure r.cut s.cut && (eqb r.deaths s.deaths && (eqb r.cuts s.cuts && eqb r.steps s.steps))))

abbrev pub same_marks : Marks → Marks → Bool
same_marks a b = same_test a.lower b.lower && same_test a.upper b.upper

-- a test of what was granted, false for a refusal
abbrev if_granted : {A : Type 0} → Answer A → (A → Bool) → Bool
if_granted (Answer.refused number place) test = false
if_granted (Answer.granted a) test = test a

abbrev is_refusal : Answer Report → ℕ → ℕ → Bool
is_refusal (Answer.refused number place) n i = eqb number n && eqb place i
is_refusal (Answer.granted r) n i = false

unfoldable pub holds : List ℕ → ℕ → Answer Report → Statement → Bool
holds ws budget a (lower_is f) = if_granted a (λ r. same_figure r.lower f)
holds ws budget a (upper_is f) = if_granted a (λ r. same_figure r.upper f)
holds ws budget a (cut_is f) = if_granted a (λ r. same_figure r.cut f)
holds ws budget a (deaths_are n) = if_granted a (λ r. eqb r.deaths n)
holds ws budget a (cuts_are n) = if_granted a (λ r. eqb r.cuts n)
holds ws budget a (steps_are n) = if_granted a (λ r. eqb r.steps n)
holds ws budget a (refused_as n i) = is_refusal a n i
holds ws budget a is_reported = if_granted a (λ r. true)
holds ws budget a (exact_are l u) = if_granted a (λ r. same_marks (marks_with ws budget a) (record { lower = l; upper = u }))
holds ws budget a (grains_are i n) = if_granted (read ws budget) (λ m. eqb (grains m.net [] (transition m.net i)) n)
holds ws budget a (all_as us) = if_granted a (λ r. if_granted (answer us budget) (λ s. same_report r s))

unfoldable pub all : {A : Type 0} → (A → Bool) → List A → Bool
all test [] = true
all test (x ∷ xs) = test x && all test xs

unfoldable pub agrees : Marked → Bool
agrees (model ws budget statements) = let a = answer ws budget in all (holds ws budget a) statements
agrees (product a b u d) = same_figure (times_up a b) u && same_figure (times_down a b) d

-- the claim: "Models A to L are proved as a single list by one claim about the definitions"
unfoldable pub MarkedModelsAgree : Type 0
MarkedModelsAgree = all agrees marked_models ≡ true
