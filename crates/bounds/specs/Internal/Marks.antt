-- What an ended path brings to the report's marks, as the walk notes it in the table of totals. Assumes nothing: these are definitions.
use Rattle.std.specs.Prelude.{true, ◌&&◌, Option, None, Some}
use Rattle.figure.specs.declared.Figure.{Figure}
use Rattle.figure.specs.Losses.{total_keeps}
use Rattle.word.specs.Model.{Net}
use Rattle.tree.specs.Paths.{Path}
use Rattle.tree.specs.Marks.{Marks, lower_kept, upper_kept}
use Rattle.rows.specs.declared.table.RowTable.{RowTable}
use Rattle.rows.specs.Internal.Table.{lower_total, death_total, cut_total, MarksNoted}

-- what is asked of an ended path for each mark: what the path itself rests on, and its addition to the total in the table. A death has a lower; a cut has
-- none, and u is the upper
abbrev pub asked_marks : Option Figure → Net → Path → (u : Figure) → RowTable → Marks
asked_marks (Some l) net p u table =
    record { lower = lower_kept net p && total_keeps (lower_total table) l; upper = upper_kept net p && total_keeps (death_total table) u }
asked_marks None net p u table = record { lower = true; upper = upper_kept net p && total_keeps (cut_total table) u }

-- an ended path was noted, as a death or as a cut
abbrev pub EndedNoted : Option Figure → Net → Path → (u : Figure) → (before after : RowTable) → Type 0
EndedNoted lower net p u before after = MarksNoted (asked_marks lower net p u before) before after
