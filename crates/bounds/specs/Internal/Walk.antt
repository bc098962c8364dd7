-- What the walk is asked for and hands back. Assumes nothing: these are definitions.
use Rattle.std.specs.Prelude.{ℕ, ◌+◌, ◌≤◌, ◌<◌, ◌≡◌, false, List, length, Option, MatchOption}
use Rattle.word.specs.Model.{Net, Model}
use Rattle.tree.specs.States.{figure_of}
use Rattle.tree.specs.Tree.{Visit, visits, tree}
use Rattle.tree.specs.Internal.Tally.{Totals, Kept, nothing_kept}
use Rattle.tree.specs.Internal.Carried.{Carried, Carries, carried_visits}
use Rattle.tree.specs.Internal.Going.{Walked}
use Rattle.tables.specs.Internal.Described.{described, net_of}
use Rattle.bounds.specs.declared.walk.Task.{Task}
use Rattle.path.specs.declared.exits.Tip.{Tip}
use Rattle.path.specs.declared.counts.Counts.{Counts}
use Rattle.path.specs.Internal.Lent.{Lent, model_in, net_in, limits_in}
use Rattle.path.specs.Internal.Paths.{path_of, Known}
use Rattle.path.specs.Internal.Counts.{Few}
use Rattle.rows.specs.declared.table.RowTable.{RowTable}
use Rattle.rows.specs.Internal.Table.{lower_total, death_total, cut_total, marks_in, totals_in, NamesKept, TableGathered}

-- What a walk is asked for: to go on from the tip, with so many steps left, the entry counts and the path up to the tip, the counts so far, and the
-- table with the totals.
pub record Asked : Type 0 where
  pub task : Task
  pub tip : Tip
  pub left : ℕ
  pub entered : List ℕ
  pub path : List ℕ
  pub counts : Counts
  pub rows : RowTable

abbrev pub asked : Task → Tip → ℕ → List ℕ → List ℕ → Counts → RowTable → Asked
asked task tip left entered path counts rows =
    record { task = task; tip = tip; left = left; entered = entered; path = path; counts = counts; rows = rows }

-- a task is that of a model, with an allowed budget
pub record TaskOf (m : Model) (t : Task) : Type 0 where
  pub level_is : t.level ≡ figure_of m.limits.prune
  pub entry_limit_is : t.entry_limit ≡ m.limits.entry_limit
  pub budget_high : t.budget ≤ 1000000

-- what a walk carries
abbrev pub carried_of : Net → List ℕ → Tip → List ℕ → Carried
carried_of net path tip entered =
    record { path = path_of net path; state = tip.state; upper = tip.upper; ones = tip.ones; entered = entered }

abbrev pub carried_in : Lent → Asked → Carried
carried_in l a = carried_of (net_in l) a.path a.tip a.entered

-- the definitions' running totals: the counts, and the totals in the table
abbrev pub totals_of : Counts → RowTable → Totals
totals_of c rows =
    record {
      lower = lower_total rows;
      death_upper = death_total rows;
      cut_upper = cut_total rows;
      deaths = c.deaths;
      cuts = c.cuts;
      steps = c.steps;
    }

-- all that a walk keeps: these, and in the table those of rows and the marks
abbrev pub kept_of : Counts → RowTable → Kept
kept_of c rows = record { totals = totals_of c rows; rows = totals_in rows; marks = marks_in rows }

-- all of it is in range: as many terms as steps were taken
pub record KeptCounted (c : Counts) (rows : RowTable) : Type 0 where
  pub counts : Few c
  pub totals : TableGathered c.steps rows

-- A walk may begin: the task is the model's, and the tip, the entry counts and the path agree.
pub record Ready (l : Lent) (a : Asked) : Type 0 where
  pub task_is : TaskOf (model_in l) a.task
  pub known : Known (net_in l) a.path
  pub length_is : length a.path ≡ a.tip.len
  pub carries : Carries (net_in l) (carried_in l a)
  pub state_low : 1 ≤ a.tip.state
  pub state_high : a.tip.state ≤ (model_in l).states
  pub depth : a.left + a.tip.len ≡ (limits_in l).step_limit
  pub more : 0 < a.left
  pub counted : KeptCounted a.counts a.rows
  pub within : a.counts.steps ≤ a.task.budget

-- Of a walk over some visits, from what is kept, w, on: the budget has room for all of them, and these are their totals.
abbrev pub EndsWithin : Net → ℕ → Kept → List Visit → Counts → RowTable → Type 0
EndsWithin net budget w vs c rows = Walked net budget w vs false (kept_of c rows)

-- the visits beyond what is carried, with n steps left
abbrev pub visits_from : Lent → ℕ → Carried → List Visit
visits_from l n c = carried_visits (net_in l) (limits_in l) n c

-- the walk that is asked for ends so
abbrev pub Ends : Lent → Asked → Counts → RowTable → Type 0
Ends l a c rows = EndsWithin (net_in l) a.task.budget (kept_of a.counts a.rows) (visits_from l a.left (carried_in l a)) c rows

-- or the budget has no room for all that it would go over
abbrev pub NoRoom : Lent → Asked → Type 0
NoRoom l a = a.task.budget < a.counts.steps + length (visits_from l a.left (carried_in l a))

-- the cut tree's own visits beyond the path up to the tip
abbrev pub visits_beyond : Lent → Asked → List Visit
visits_beyond l a = visits (net_in l) (limits_in l) a.left (path_of (net_in l) a.path)

-- what `walk` hands back where it went over them all: counts, and after it the path up to the tip and the table of rows
pub record WentBeyond (l : Lent) (a : Asked) (c : Counts) (path : List ℕ) (rows : RowTable) : Type 0 where
  pub ends : Ends l a c rows
  pub counted : KeptCounted c rows
  pub within : c.steps ≤ a.task.budget
  pub names_kept : NamesKept a.rows rows
  pub path_same : path ≡ a.path
  -- the steps are the count of paths in the cut tree's definition
  pub steps_are : c.steps ≡ a.counts.steps + length (visits_beyond l a)

-- what `walk` hands back: none says that the budget has no room, and then nothing is said of what it left
abbrev pub WalkedBeyond : Lent → Asked → Option Counts → List ℕ → RowTable → Type 0
WalkedBeyond l a r path rows = MatchOption r (NoRoom l a) (λ c. WentBeyond l a c path rows)

-- what the walk from the start hands back where it went over the whole tree, of the table of rows before and after
pub record WentOver (ws : List ℕ) (budget : ℕ) (c : Counts) (before after : RowTable) : Type 0 where
  pub ends : EndsWithin (net_of ws) budget nothing_kept (tree (net_of ws) (described ws).limits) c after
  pub counted : KeptCounted c after
  pub within : c.steps ≤ budget
  pub names_kept : NamesKept before after
  -- likewise, of the whole tree
  pub steps_are : c.steps ≡ length (tree (net_of ws) (described ws).limits)

-- what the walk from the start hands back: none says that the tree has more steps than the budget
abbrev pub WalkedTree : List ℕ → ℕ → Option Counts → (before after : RowTable) → Type 0
WalkedTree ws budget r before after =
    MatchOption r (budget < length (tree (net_of ws) (described ws).limits)) (λ c. WentOver ws budget c before after)
