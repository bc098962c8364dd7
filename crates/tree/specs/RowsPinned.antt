-- Document 02, Item 1, "A row for each way to fail": small cases, each with the rows that a caller lends, the answer and the whole table after the
-- call, and one claim: that the definitions agree with all of them. Assumes nothing: these are definitions.
use Rattle.std.specs.Prelude.{ℕ, ◌≡◌, Bool, true, false, ◌&&◌, List, [], ◌∷◌, length, pos, neg_ℤ, eqb}
use Rattle.figure.specs.Rounding.{figure, none}
use Rattle.word.specs.Answer.{Answer, refused, granted}
use Rattle.tree.specs.declared.Row.{Row}
use Rattle.tree.specs.Report.{Report}
use Rattle.tree.specs.Rows.{zero_row, answer_with_rows, rows_after}
use Rattle.tree.specs.Marked.{all, printed, same_figure, same_report}

pub record RowCase : Type 0 where
  pub words : List ℕ
  pub budget : ℕ
  pub lent : List Row
  pub answered : Answer Report
  pub after : List Row

-- ---- rows

-- a row as it may lie in a lent table, of no state and with what is no figure of nine digits
abbrev pub spare : ℕ → Row
spare n = record { state = 4095; lower = figure n (pos 7); upper = figure 0 (pos n) }

-- the row of a state: `row 2 999500000 4 100000000 3` has the lower 9.99500000E-4 and the upper 1.00000000E-3
abbrev pub row : ℕ → ℕ → ℕ → ℕ → ℕ → Row
row s d e u f = record { state = s; lower = printed d (neg_ℤ (pos e)); upper = printed u (neg_ℤ (pos f)) }

-- the report of some deaths and no cut
abbrev deaths_only : ℕ → ℕ → ℕ → ℕ → ℕ → ℕ → Report
deaths_only d e u f deaths steps =
    record { lower = printed d (neg_ℤ (pos e)); upper = printed u (neg_ℤ (pos f)); cut = none; deaths = deaths; cuts = 0; steps = steps }

-- ---- the models: T 10, P 0, L 24, V 1, started in 1, where nothing else is said

-- one transition, with the rate 1E-4. Upper: 1E-4 × 10. Lower: 1E-3 × (1 − 10 × 1E-4 / 2) = 9.995E-4.
abbrev words_one : (head transition : ℕ) → List ℕ
words_one head transition = head ∷ 0x2000000A ∷ 0x30000000 ∷ 0x41801000 ∷ transition ∷ 0x60400001 ∷ 0xF0000000 ∷ []

abbrev one_report : Answer Report
one_report = granted (deaths_only 999500000 4 100000000 3 1 1)

-- 1 to 2 with the rate 1E-4, 1 to 3 with 2E-4. Uppers: 1E-4 × 10 = 1E-3 and 2E-3. Lowers: A = 3E-4 for both, 1 − 10 × 3E-4 / 2 = 0.9985; 9.985E-4
-- and 1.997E-3. Of the report: upper 3E-3, lower 2.9955E-3.
abbrev words_two : List ℕ
words_two = 0x11003001 ∷ 0x2000000A ∷ 0x30000000 ∷ 0x41801000 ∷ 0x50001002 ∷ 0x60400001 ∷ 0x50001003 ∷ 0x60400002 ∷ 0xF0000000 ∷ []

-- 1 to 4 and 1 to 2 with the rate 1E-4, 2 to 6 with 1E-4, 1 to 6 with 7E-5, 2 to 3 with 9E-6; state 5 is no target. Four deaths end in three states,
-- two of them in 6: 1 to 2 to 6 and, later in the walk, 1 to 6. Uppers: 1E-3, 1E-4 × 1E-4 × 10² / 2 = 5E-7, 1E-4 × 9E-6 × 10² / 2 = 4.5E-8 and 7E-4.
-- Lowers: of one step A = 2.7E-4, 1 − 10 × 2.7E-4 / 2 = 0.99865, so 9.9865E-4 and 6.99055E-4; of two steps A = 3.79E-4,
-- 1 − 10 × 3.79E-4 / 3 = 0.998736666.., rounded down on the way, so 4.99368333E-7 and 4.49431499E-8.
abbrev words_three : (head : ℕ) → (rest : List ℕ) → List ℕ
words_three head rest =
    head ∷ 0x2000000A ∷ 0x30000000 ∷ 0x41801000 ∷ 0x50001004 ∷ 0x60400001 ∷ 0x50001002 ∷ 0x60400001 ∷ 0x50002006 ∷ 0x60400001
    ∷ 0x50001006 ∷ 0x60500007 ∷ 0x50002003 ∷ 0x60600009 ∷ rest

abbrev three : List ℕ
three = words_three 0x11006001 (0xF0000000 ∷ [])

abbrev three_report : Answer Report
three_report = granted (deaths_only 169824931 3 170054500 3 4 5)

abbrev three_rows : List Row → List Row
three_rows rest = row 3 449431499 8 450000000 8 ∷ row 4 998650000 4 100000000 3 ∷ row 6 699554368 4 700500000 4 ∷ rest

-- 1 to 2 with the rate 1E-4; 4 to 5 and 4 to 3 too, and no path comes to 4
abbrev words_unreached : List ℕ
words_unreached =
    0x11005001 ∷ 0x2000000A ∷ 0x30000000 ∷ 0x41801000 ∷ 0x50001002 ∷ 0x60400001 ∷ 0x50004005 ∷ 0x60400001 ∷ 0x50004003 ∷ 0x60400001
    ∷ 0xF0000000 ∷ []

-- 1 to 2 to 3 with the rate 1E-4, and L 1
abbrev words_cut : List ℕ
words_cut = 0x11003001 ∷ 0x2000000A ∷ 0x30000000 ∷ 0x40101000 ∷ 0x50001002 ∷ 0x60400001 ∷ 0x50002003 ∷ 0x60400001 ∷ 0xF0000000 ∷ []

-- ---- the cases

abbrev pub case : List ℕ → ℕ → List Row → Answer Report → List Row → RowCase
case ws budget lent a after = record { words = ws; budget = budget; lent = lent; answered = a; after = after }

-- a refusal that changes no row
abbrev pub unchanged : List ℕ → ℕ → List Row → Answer Report → RowCase
unchanged ws budget lent a = case ws budget lent a lent

abbrev pub million : ℕ
million = 1000000

unfoldable pub row_cases : List RowCase
row_cases =
    -- two ways to fail, worked out above
    case words_two million (spare 1 ∷ spare 2 ∷ []) (granted (deaths_only 299550000 3 300000000 3 2 2))
    (row 2 998500000 4 100000000 3 ∷ row 3 199700000 3 200000000 3 ∷ [])
    -- "14 when there are fewer rows than such states; .. its place the number of rows needed": none, and one too few
    ∷ unchanged three million [] (refused 14 3)
    ∷ unchanged three million (spare 1 ∷ spare 2 ∷ []) (refused 14 3)
    -- as many as are needed; and one more, "Rows beyond them are unchanged"
    ∷ case three million (spare 1 ∷ spare 2 ∷ spare 3 ∷ []) three_report (three_rows [])
    ∷ case three million (spare 1 ∷ spare 2 ∷ spare 3 ∷ spare 4 ∷ []) three_report (three_rows (spare 4 ∷ []))
    -- "On 13 the filled rows hold their state numbers and zeros": the tree has five steps
    ∷ case three 4 (spare 1 ∷ spare 2 ∷ spare 3 ∷ spare 4 ∷ spare 5 ∷ []) (refused 13 0)
    (zero_row 3 ∷ zero_row 4 ∷ zero_row 6 ∷ spare 4 ∷ spare 5 ∷ [])
    -- 14 comes before the walk, 13
    ∷ unchanged three 4 (spare 1 ∷ spare 2 ∷ []) (refused 14 3)
    -- "any refusal but 13 changes no row": 11, which comes before 14, and 3, with rows enough
    ∷ unchanged (words_three 0x11006003 (0xF0000000 ∷ [])) million (spare 1 ∷ []) (refused 11 3)
    ∷ unchanged (words_three 0x11006001 []) million (spare 1 ∷ spare 2 ∷ spare 3 ∷ spare 4 ∷ []) (refused 3 14)
    -- a target that no path reaches has a row: "a sum over no path is 0"
    ∷ case words_unreached million (spare 1 ∷ spare 2 ∷ spare 3 ∷ spare 4 ∷ []) one_report
    (row 2 999500000 4 100000000 3 ∷ zero_row 3 ∷ zero_row 5 ∷ spare 4 ∷ [])
    -- 1 to 2, and of nine states only 2 is a target
    ∷ case (words_one 0x11009001 0x50001002) million (spare 1 ∷ spare 2 ∷ []) one_report (row 2 999500000 4 100000000 3 ∷ spare 2 ∷ [])
    -- started in 2, 2 to 1: the row of the first state
    ∷ case (words_one 0x11002002 0x50002001) million (spare 1 ∷ []) one_report (row 1 999500000 4 100000000 3 ∷ [])
    -- the only path is cut before it comes to 3
    ∷ case words_cut million (spare 1 ∷ [])
    (granted
    (record {
      lower = none;
      upper = printed 100000000 (neg_ℤ (pos 3));
      cut = printed 100000000 (neg_ℤ (pos 3));
      deaths = 0;
      cuts = 1;
      steps = 1;
    }))
    (zero_row 3 ∷ [])
    ∷ []

-- ---- the test of a case

abbrev same_answer : Answer Report → Answer Report → Bool
same_answer (refused n i) (refused o j) = eqb n o && eqb i j
same_answer (refused n i) (granted r) = false
same_answer (granted r) (refused n i) = false
same_answer (granted r) (granted s) = same_report r s

abbrev same_row : Row → Row → Bool
same_row r s = eqb r.state s.state && (same_figure r.lower s.lower && same_figure r.upper s.upper)

unfoldable pub same_rows : List Row → List Row → Bool
same_rows [] [] = true
same_rows [] (r ∷ rs) = false
same_rows (r ∷ rs) [] = false
same_rows (r ∷ rs) (s ∷ ss) = same_row r s && same_rows rs ss

unfoldable pub row_case_agrees : RowCase → Bool
row_case_agrees c =
    same_answer (answer_with_rows c.words c.budget (length c.lent)) c.answered
    && same_rows (rows_after c.words c.budget c.lent) c.after

unfoldable pub RowCasesAgree : Type 0
RowCasesAgree = all row_case_agrees row_cases ≡ true
