-- What the steps of a path have spent: N', A and k, as the code has them. Assumes nothing: these are definitions.
use Rattle.std.specs.Prelude.{ℕ, ◌<◌, ◌≡◌, Bool, length}
use Rattle.figure.specs.declared.Figure.{Figure}
use Rattle.word.specs.Model.{Net}
use Rattle.model.specs.Index.{transition}
use Rattle.tree.specs.Paths.{Path, class1_count}
use Rattle.tree.specs.Grains.{grain_sum}
use Rattle.tree.specs.Lower.{path_rate_sum}
use Rattle.tree.specs.Marks.{path_rates_kept}
use Rattle.tables.specs.Internal.Classes.{class_for}
use Rattle.path.specs.declared.lower.Spent.{Spent}
use Rattle.path.specs.declared.prepared.Leaving.{Leaving}
use Rattle.path.specs.Internal.Paths.{own_grains, step_class}

-- N', A and k of a path; `Is x f k` says that x is the figure f, and that its mark, if it tells, is k
pub record SpentIs {T : Type 0} (Is : T → Figure → Bool → Type 0) (net : Net) (p : Path) (s : Spent T) : Type 0 where
  pub grains : s.grains ≡ grain_sum net (own_grains net) p
  pub rates : Is s.rates (path_rate_sum net p) (path_rates_kept net p)
  pub ones : s.ones ≡ class1_count net p

-- the class of the transition j, and the state that it leaves
pub record Leaves (net : Net) (j : ℕ) (step : Leaving) : Type 0 where
  pub inside : j < length net.table
  pub class_is : class_for step.class ≡ step_class net j
  pub state_is : step.state ≡ (transition net j).from
