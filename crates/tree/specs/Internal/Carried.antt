-- The tree as a walk carries it: the state, U, the number of class 1 steps and the entry counts go along with the path, where the definitions ask
-- the path each time. Contracts of the walk cite this page; that the two are the same list is `carried_tree` (crates/tree/proofs/Carried.antt).
-- Assumes nothing: these are definitions.
use Rattle.std.specs.Prelude.{ℕ, zero, suc, ◌+◌, ◌≤◌, ◌≡◌, true, false, length, get_or, set, replicate, leb, eqb}
use mathlib.Core.List.{List, [], ◌∷◌, flat_map}
use Rattle.figure.specs.declared.Figure.{Figure}
use Rattle.figure.specs.Operations.{of_whole, at_or_below}
use Rattle.word.specs.Model.{Transition, Net, Limits, is_empty, is_named, exits}
use Rattle.tree.specs.Paths.{Path, last_state, entries, class, counts_1, class1_count}
use Rattle.tree.specs.States.{figure_of}
use Rattle.tree.specs.Upper.{upper_step, upper}
use Rattle.tree.specs.Tree.{Outcome, is_continued, Visit}
use Rattle.tree.specs.Internal.Outcomes.{decided}

-- `entered` has, at place s, how often the path has entered the state s
pub record Carried : Type 0 where
  pub path : Path
  pub state : ℕ
  pub upper : Figure
  pub ones : ℕ
  pub entered : List ℕ

-- entry counts for the states 0 to 1,000
abbrev pub no_entries : List ℕ
no_entries = replicate 1001 0

unfoldable pub at_start : Net → Carried
at_start net = record { path = []; state = net.start; upper = of_whole 1; ones = 0; entered = set no_entries net.start 1 }

-- one more step
unfoldable pub carry : Net → Transition → Carried → Carried
carry net t c =
    let k = counts_1 (class net t) + c.ones in
    record {
      path = t ∷ c.path;
      state = t.to;
      upper = upper_step net (class net t) k t c.upper;
      ones = k;
      entered = set c.entered t.to (get_or c.entered t.to 0 + 1);
    }

-- what becomes of a path that has n steps left, is at s, had entered s `before` times before, and has the upper u
unfoldable pub outcome_by : Net → Limits → (n s before : ℕ) → Figure → Outcome
outcome_by net limits n s before u =
    decided (is_named net s) (is_empty (exits net s)) (leb limits.entry_limit before) (eqb n 0) (at_or_below u (figure_of limits.prune))

-- what becomes of what is carried after the step t
abbrev pub outcome_next : Net → Limits → ℕ → Transition → Carried → Outcome
outcome_next net limits n t c = outcome_by net limits n t.to (get_or c.entered t.to 0) (carry net t c).upper

-- ---- the tree of it

unfoldable pub carried_visits : Net → Limits → ℕ → Carried → List Visit
carried_visits net limits zero c = []
carried_visits net limits (suc n) c =
    flat_map
    (λ t.
    let o = outcome_next net limits n t c in
    record { path = t ∷ c.path; outcome = o } ∷ elim (is_continued o) [ true ↦ carried_visits net limits n (carry net t c) | false ↦ [] ])
    (exits net c.state)

-- ---- what is carried is what the path says

pub record Carries (net : Net) (c : Carried) : Type 0 where
  pub state : c.state ≡ last_state net c.path
  pub upper : c.upper ≡ upper net c.path
  pub ones : c.ones ≡ class1_count net c.path
  pub size : length c.entered ≡ 1001
  pub entered : (s : ℕ) → s ≤ 1000 → get_or c.entered s 0 ≡ entries net s c.path
