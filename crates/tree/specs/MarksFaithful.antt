-- What document 02, Item 2, "Say when nothing was rounded", says of the two digits in words, where the definitions compute: each sentence as a
-- statement, and all of them in one record. The proof is `faithful_marks` (crates/tree/proofs/MarksFaithful.antt). Assumes nothing: these are
-- statements.
use Rattle.std.specs.Prelude.{ℕ, ◌≡◌, true, false, List, []}
use Rattle.word.specs.Model.{Net}
use Rattle.word.specs.Answer.{Answer}
use Rattle.tree.specs.Tree.{Visit, deaths}
use Rattle.tree.specs.Report.{answer}
use Rattle.tree.specs.Rows.{answer_with_rows}
use Rattle.tree.specs.Marks.{marks_on, marks_with}
use Rattle.tree.specs.MarksPinned.{MarkCasesAgree}

-- in a refusal both digits are 0, whatever its number and place;
abbrev pub RefusedMarks : Type 0
RefusedMarks = (ws : List ℕ) (budget number place : ℕ) → answer ws budget ≡ Answer.refused number place
    → marks_with ws budget (answer ws budget) ≡ record { lower = false; upper = false }

-- so too for a caller who lends rows, of refusal 14 as of the others
abbrev pub RefusedRowMarks : Type 0
RefusedRowMarks = (ws : List ℕ) (budget lent number place : ℕ) → answer_with_rows ws budget lent ≡ Answer.refused number place
    → marks_with ws budget (answer_with_rows ws budget lent) ≡ record { lower = false; upper = false }

-- visits without a death path have the lower 0, which no operation lost anything of
abbrev pub NoDeathKeeps : Type 0
NoDeathKeeps = (net : Net) (vs : List Visit) → deaths vs ≡ [] → (marks_on net vs).lower ≡ true

-- the lower does not rest on cut paths: two lists of visits with the same death paths have the same lower digit
abbrev pub CutsNotInLower : Type 0
CutsNotInLower = (net : Net) (vs ws : List Visit) → deaths vs ≡ deaths ws → (marks_on net vs).lower ≡ (marks_on net ws).lower

-- ---- all of it

pub record FaithfulMarks : Type 0 where
  -- "(in a refusal both are 0)"
  pub refused_marks : RefusedMarks
  pub refused_row_marks : RefusedRowMarks
  -- "1 if no operation that the figure rests on lost anything": a sum over no path rests on none
  pub no_death_keeps : NoDeathKeeps
  -- "a lower rests on every stated operation of its death paths"
  pub cuts_not_in_lower : CutsNotInLower
  -- the digits of small models, each conjunct of the definitions a model's only loss where such a model was found, are as worked out apart
  pub mark_cases_agree : MarkCasesAgree
