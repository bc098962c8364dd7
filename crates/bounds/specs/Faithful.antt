-- What the documents say in words, where the definitions compute: the statements of every layer, in one record. The contracts of `unreliability`
-- and `unreliability_by_state` carry it, so that none of them can go missing. Assumes nothing: these are statements.
use Rattle.figure.specs.Faithful.{FaithfulFigures}
use Rattle.model.specs.Reasons.{ReasonIsRefused, RefusalHasReason}
use Rattle.tree.specs.Faithful.{FaithfulTree}
use Rattle.tree.specs.RowsFaithful.{FaithfulRows}
use Rattle.tree.specs.MarksFaithful.{FaithfulMarks}
use Rattle.tree.specs.NamedFaithful.{FaithfulNamed}
use Rattle.accuracy.specs.Faithful.{FaithfulExact}

pub record Faithful : Type 0 where
  -- figures and their rounding
  pub figures : FaithfulFigures
  -- "Each number is returned when its condition is the first to hold, and in no other event."
  pub reason_is_refused : ReasonIsRefused
  pub refusal_has_reason : RefusalHasReason
  -- the cut tree, refusal 10, grains, divisors, models A to L and the pinned cases
  pub tree : FaithfulTree
  -- the exact bounds: divisors, and models whose sums are worked out by hand
  pub exact : FaithfulExact
  -- document 02, Item 1: the rows
  pub rows : FaithfulRows
  -- document 02, Item 2: the marks
  pub marks : FaithfulMarks
  -- document 02, Item 3: the generator's states
  pub named : FaithfulNamed
