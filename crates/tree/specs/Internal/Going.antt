-- What a walk comes to. Contracts of the walk cite this page. Assumes nothing: these are definitions.
use Rattle.std.specs.Prelude.{ℕ, ◌+◌, ◌≡◌, Bool, false, List, length, ltb}
use Rattle.word.specs.Model.{Net}
use Rattle.tree.specs.Tree.{Visit}
use Rattle.tree.specs.Internal.Tally.{Kept, tally}

-- The end of a walk over the visits vs from what is kept, w, on: it says that the budget was too small exactly if it was; else it has the totals.
pub record Walked (net : Net) (budget : ℕ) (w : Kept) (vs : List Visit) (over : Bool) (r : Kept) : Type 0 where
  pub over_is : over ≡ ltb budget (w.totals.steps + length vs)
  pub totals_are : over ≡ false → r ≡ tally net w vs
