-- The totals one visit at a time, as a walk keeps them, of the report and of each state's row, and the report's marks. Contracts of the walk cite this
-- page; that over the tree they give the report, the rows and the marks is `tally_report` and `tally_finish_row` (crates/tree/proofs/Tally.antt) and
-- `tally_marks` (crates/tree/proofs/TallyMarks.antt). Assumes nothing: these are definitions.
use Rattle.std.specs.Prelude.{ℕ, ◌+◌, true, false, ◌&&◌, List, [], ◌∷◌, eqb}
use Rattle.figure.specs.declared.Figure.{Figure}
use Rattle.figure.specs.Rounding.{none}
use Rattle.figure.specs.Operations.{total_up, total_down, to_nine_up, to_nine_down, sum_to_nine_up}
use Rattle.figure.specs.Losses.{total_keeps, to_nine_keeps, sum_to_nine_keeps}
use Rattle.word.specs.Model.{Net}
use Rattle.tree.specs.declared.Row.{Row}
use Rattle.tree.specs.Paths.{last_state}
use Rattle.tree.specs.Upper.{upper}
use Rattle.tree.specs.Lower.{lower}
use Rattle.tree.specs.Tree.{Outcome, generators_state, death, entered_too_often, step_limit, low_level, continued, Visit}
use Rattle.tree.specs.Report.{Report}
use Rattle.tree.specs.Marks.{Marks, path_marks}

pub record Totals : Type 0 where
  pub lower : Figure
  pub death_upper : Figure
  pub cut_upper : Figure
  pub deaths : ℕ
  pub cuts : ℕ
  pub steps : ℕ

abbrev pub zero_totals : Totals
zero_totals = record { lower = none; death_upper = none; cut_upper = none; deaths = 0; cuts = 0; steps = 0 }

-- one more step, and no ended path
unfoldable pub with_step : Totals → Totals
with_step a = record {
  lower = a.lower;
  death_upper = a.death_upper;
  cut_upper = a.cut_upper;
  deaths = a.deaths;
  cuts = a.cuts;
  steps = a.steps + 1;
}

-- one more cut path, of the upper u
unfoldable pub with_cut : Totals → Figure → Totals
with_cut a u = record {
  lower = a.lower;
  death_upper = a.death_upper;
  cut_upper = total_up a.cut_upper u;
  deaths = a.deaths;
  cuts = a.cuts + 1;
  steps = a.steps + 1;
}

-- one more death path, of the lower l and the upper u
unfoldable pub with_death : Totals → Figure → Figure → Totals
with_death a l u = record {
  lower = total_down a.lower l;
  death_upper = total_up a.death_upper u;
  cut_upper = a.cut_upper;
  deaths = a.deaths + 1;
  cuts = a.cuts;
  steps = a.steps + 1;
}

-- ---- the totals of rows

-- of one state's death paths
pub record RowTotals : Type 0 where
  pub lower : Figure
  pub upper : Figure

abbrev pub zero_row_totals : ℕ → RowTotals
zero_row_totals s = record { lower = none; upper = none }

abbrev pub row_totals_with : RowTotals → Figure → Figure → RowTotals
row_totals_with a l u = record { lower = total_down a.lower l; upper = total_up a.upper u }

-- one more death path, of the lower l and the upper u, which ends in the state `last`; other states' totals are as they were
unfoldable pub row_with_death : (ℕ → RowTotals) → (last : ℕ) → Figure → Figure → ℕ → RowTotals
row_with_death rows last l u s = elim (eqb last s) [ true ↦ row_totals_with (rows s) l u | false ↦ rows s ]

-- ---- the marks

-- before the first visit nothing was lost
abbrev pub all_kept : Marks
all_kept = record { lower = true; upper = true }

-- one more death path, of the lower l, the upper u and the marks k: beside what the path itself rests on, its two additions to the totals t
unfoldable pub marks_with_death : Totals → Marks → Figure → Figure → Marks → Marks
marks_with_death t a l u k = record {
  lower = a.lower && (k.lower && total_keeps t.lower l);
  upper = a.upper && (k.upper && total_keeps t.death_upper u);
}

-- one more cut path: the lower does not rest on it
unfoldable pub marks_with_cut : Totals → Marks → Figure → Marks → Marks
marks_with_cut t a u k = record { lower = a.lower; upper = a.upper && (k.upper && total_keeps t.cut_upper u) }

-- ---- all that a walk keeps

pub record Kept : Type 0 where
  pub totals : Totals
  pub rows : ℕ → RowTotals
  pub marks : Marks

abbrev pub nothing_kept : Kept
nothing_kept = record { totals = zero_totals; rows = zero_row_totals; marks = all_kept }

abbrev pub death_noted : Kept → (last : ℕ) → (l u : Figure) → Marks → Kept
death_noted a last l u k = record {
  totals = with_death a.totals l u;
  rows = row_with_death a.rows last l u;
  marks = marks_with_death a.totals a.marks l u k;
}

abbrev pub cut_noted : Kept → (u : Figure) → Marks → Kept
cut_noted a u k = record { totals = with_cut a.totals u; rows = a.rows; marks = marks_with_cut a.totals a.marks u k }

-- one more path, by what becomes of it, the state that it ends in and its marks
unfoldable pub noted : Kept → Outcome → (last : ℕ) → (l u : Figure) → Marks → Kept
noted a generators_state last l u k = cut_noted a u k
noted a death last l u k = death_noted a last l u k
noted a entered_too_often last l u k = cut_noted a u k
noted a step_limit last l u k = cut_noted a u k
noted a low_level last l u k = cut_noted a u k
noted a continued last l u k = record { totals = with_step a.totals; rows = a.rows; marks = a.marks }

abbrev pub with_visit : Net → Kept → Visit → Kept
with_visit net a v =
    noted a v.outcome (last_state net v.path) (lower net v.path) (upper net v.path) (path_marks net v.path)

-- what is kept over visits, in their order
unfoldable pub tally : Net → Kept → List Visit → Kept
tally net a [] = a
tally net a (v ∷ vs) = tally net (with_visit net a v) vs

-- ---- to nine digits

-- "The lower total, the cut total and the sum of both uppers go to nine digits last, outward."
unfoldable pub finish : Totals → Report
finish a = record {
  lower = to_nine_down a.lower;
  upper = sum_to_nine_up a.death_upper a.cut_upper;
  cut = to_nine_up a.cut_upper;
  deaths = a.deaths;
  cuts = a.cuts;
  steps = a.steps;
}

-- a row's, "rounded as the report's are": of no cut path
unfoldable pub finish_row : ℕ → RowTotals → Row
finish_row s a = record { state = s; lower = to_nine_down a.lower; upper = sum_to_nine_up a.upper none }

-- the report's marks: with the last rounding of its figures
unfoldable pub finish_marks : Kept → Marks
finish_marks a = record {
  lower = a.marks.lower && to_nine_keeps a.totals.lower;
  upper = a.marks.upper && sum_to_nine_keeps a.totals.death_upper a.totals.cut_upper;
}
