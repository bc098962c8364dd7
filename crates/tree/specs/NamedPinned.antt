-- Document 02, Item 3, "States that the generator pruned": small cases, each with the rows that a caller lends, the answer and the whole table after the
-- call, and one claim: that the definitions agree with all of them. Assumes nothing: these are definitions.
use Rattle.std.specs.Prelude.{◌≡◌, true, List, [], ◌∷◌, ◌++◌, pos, neg_ℤ}
use Rattle.figure.specs.Rounding.{none}
use Rattle.word.specs.Model.{numbers_from}
use Rattle.word.specs.Answer.{refused, granted}
use Rattle.model.specs.NamedPinned.{naming, with_words, fork, forked, long}
use Rattle.tree.specs.declared.Row.{Row}
use Rattle.tree.specs.Report.{Report}
use Rattle.tree.specs.Rows.{zero_row}
use Rattle.tree.specs.Marked.{all, printed}
use Rattle.tree.specs.RowsPinned.{RowCase, spare, row, case, unchanged, million, row_case_agrees}

-- ---- the models, with words of crates/model/specs/NamedPinned.antt

-- Uppers: of 1 to 3, 1E-4 × 10 = 1E-3; of 1 to 2 to 4 and of 1 to 2 to 5, 1E-4 × 1E-4 × 10² / 2 = 5E-7. Lower of 1 to 2 to 4: A = 2E-4 + 2E-4,
-- 1 − 10 × 4E-4 / 3 = 0.998666666.., rounded down on the way, so 4.99333333E-7.
abbrev row_4 : Row
row_4 = row 4 499333333 7 500000000 7

-- 3 and 5 are named: one death, and the cuts 1E-3 and 5E-7
abbrev two_named : Report
two_named = record {
  lower = printed 499333333 (neg_ℤ (pos 7));
  upper = printed 100100000 (neg_ℤ (pos 3));
  cut = printed 100050000 (neg_ℤ (pos 3));
  deaths = 1;
  cuts = 2;
  steps = 4;
}

-- 3, 4 and 5 are named: no death
abbrev all_named : Report
all_named = record {
  lower = none;
  upper = printed 100100000 (neg_ℤ (pos 3));
  cut = printed 100100000 (neg_ℤ (pos 3));
  deaths = 0;
  cuts = 3;
  steps = 4;
}

-- one transition, with the rate 1E-4: the report of model A
abbrev model_a : Report
model_a = record {
  lower = printed 999500000 (neg_ℤ (pos 4));
  upper = printed 100000000 (neg_ℤ (pos 3));
  cut = none;
  deaths = 1;
  cuts = 0;
  steps = 1;
}

-- ---- the cases

unfoldable pub named_cases : List RowCase
named_cases =
    -- "A path that ends in such a state is a cut, .. and the state has no row"
    case (forked (naming (3 ∷ 5 ∷ []))) million (spare 1 ∷ spare 2 ∷ []) (granted two_named) (row_4 ∷ spare 2 ∷ [])
    -- so that 14 counts the others alone
    ∷ unchanged (forked (naming (3 ∷ 5 ∷ []))) million [] (refused 14 1)
    ∷ case (forked (naming (3 ∷ 4 ∷ 5 ∷ []))) million [] (granted all_named) []
    -- on 13 as well
    ∷ case (forked (naming (3 ∷ 5 ∷ []))) 3 (spare 1 ∷ []) (refused 13 0) (zero_row 4 ∷ [])
    -- L 1 and P 1E-3: a path that comes to 3 with L steps and with U at P is cut all the same; 4 has a row and is not reached
    ∷ case (0x11005001 ∷ 0x2000000A ∷ 0x30300001 ∷ 0x40101000 ∷ (naming (3 ∷ 5 ∷ []) ++ fork)) million (spare 1 ∷ [])
    (granted
    (record {
      lower = none;
      upper = printed 200000000 (neg_ℤ (pos 3));
      cut = printed 200000000 (neg_ℤ (pos 3));
      deaths = 0;
      cuts = 2;
      steps = 2;
    }))
    (zero_row 4 ∷ [])
    -- a hundred states are named; 300, which no word names, is the one that has a row
    ∷ case (long (numbers_from 100 2)) million (spare 1 ∷ []) (granted model_a) (row 300 999500000 4 100000000 3 ∷ [])
    -- a named state that no transition reaches
    ∷ case (with_words 0x11006001 (naming (6 ∷ [])) (0x50001002 ∷ 0x60400001 ∷ 0xF0000000 ∷ [])) million (spare 1 ∷ []) (granted model_a)
    (row 2 999500000 4 100000000 3 ∷ [])
    -- "any refusal but 13 changes no row": 15, and 16, which comes before 14
    ∷ unchanged (forked (naming (3 ∷ 3 ∷ []))) million (spare 1 ∷ spare 2 ∷ []) (refused 15 5)
    ∷ unchanged (forked (naming (2 ∷ 3 ∷ []))) million [] (refused 16 2)
    ∷ []

unfoldable pub NamedCasesAgree : Type 0
NamedCasesAgree = all row_case_agrees named_cases ≡ true
