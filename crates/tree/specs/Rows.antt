-- Document 02, Item 1, "A row for each way to fail", and of Item 3 that a generator's state "has no row": which states have rows, what a row holds, the
-- rows that a caller finds after the call, and refusal 14. Assumes nothing: these are definitions.
use Rattle.std.specs.Prelude.{ℕ, Bool, true, false, not, ◌&&◌, List, [], ◌∷◌, ◌++◌, map, length, drop, ltb, eqb}
use Rattle.figure.specs.Rounding.{none}
use Rattle.word.specs.Model.{Net, Model, is_empty, any, numbers_from, is_named, only, exits}
use Rattle.word.specs.Answer.{Answer, then}
use Rattle.model.specs.Reading.{Finding, first_of, read}
use Rattle.tree.specs.declared.Row.{Row}
use Rattle.tree.specs.Paths.{Path, last_state}
use Rattle.tree.specs.Tree.{Visit, tree, deaths}
use Rattle.tree.specs.Report.{Report, report_of, walked}

-- A row is the code's struct `Row`: "The caller lends a table of rows, each holding a state number, a lower figure and an upper figure."

-- ---- which states have rows

-- "each state that has no exits and is the target of a transition", whether a path of the tree reaches it or not; of a generator's
-- state, "the state has no row"
unfoldable pub has_row : Net → ℕ → Bool
has_row net s = not (is_named net s) && (is_empty (exits net s) && any (λ t. eqb t.to s) net.table)

-- "A row is filled, in order of state number, for each state ..": states are 1 to N
unfoldable pub row_states : Model → List ℕ
row_states m = only (has_row m.net) (numbers_from m.states 1)

-- ---- what a row holds

-- "that state's death paths alone", in the order of the walk
unfoldable pub ending_in : Net → ℕ → List Path → List Path
ending_in net s ps = only (λ p. eqb (last_state net p) s) ps

abbrev pub row_of_report : ℕ → Report → Row
row_of_report s r = record { state = s; lower = r.lower; upper = r.upper }

-- "Its totals are kept and rounded as the report's are": a report's lower and upper on those death paths and no cut path
unfoldable pub row_on : Net → List Visit → ℕ → Row
row_on net vs s = row_of_report s (report_of net (ending_in net s (deaths vs)) [] 0)

-- a row with its state number and zeros
abbrev pub zero_row : ℕ → Row
zero_row s = record { state = s; lower = none; upper = none }

-- ---- the rows filled, and the table after the call

-- "On 13 the filled rows hold their state numbers and zeros", whatever of the tree was walked
unfoldable pub rows_of : ℕ → Model → List Row
rows_of budget m =
    let vs = tree m.net m.limits in
    elim (ltb budget (length vs)) [ true ↦ map zero_row (row_states m) | false ↦ map (row_on m.net vs) (row_states m) ]

-- "14 when there are fewer rows than such states; .. its place the number of rows needed"
abbrev pub row_findings : ℕ → Model → List Finding
row_findings lent m = record { fault = record { holds = ltb lent (length (row_states m)); number = 14 }; place = length (row_states m) } ∷ []

-- "it comes after 11 and before the walk": the model that is walked, of a caller who lends so many rows
unfoldable pub read_with_rows : List ℕ → ℕ → ℕ → Answer Model
read_with_rows ws budget lent = then (read ws budget) (λ m. first_of (row_findings lent m) m)

unfoldable pub answer_with_rows : List ℕ → ℕ → ℕ → Answer Report
answer_with_rows ws budget lent = then (read_with_rows ws budget lent) (walked budget)

-- "any refusal but 13 changes no row": where no model is walked, none is filled
abbrev pub rows_by : ℕ → Answer Model → List Row
rows_by budget (Answer.refused number place) = []
rows_by budget (Answer.granted m) = rows_of budget m

unfoldable pub filled_rows : List ℕ → ℕ → ℕ → List Row
filled_rows ws budget lent = rows_by budget (read_with_rows ws budget lent)

-- "Rows beyond them are unchanged"
unfoldable pub laid_over : List Row → List Row → List Row
laid_over filled given = filled ++ drop (length filled) given

-- the caller's table after the call
unfoldable pub rows_after : List ℕ → ℕ → List Row → List Row
rows_after ws budget given = laid_over (filled_rows ws budget (length given)) given
