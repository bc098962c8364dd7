-- One exit of a state, and the tip of a path beyond it. Assumes nothing: these are definitions.
use Rattle.std.specs.Prelude.{ℕ, ◌+◌, ◌<◌, ◌≡◌, length}
use Rattle.figure.specs.declared.Figure.{Figure}
use Rattle.figure.specs.Operands.{Sized}
use Rattle.figure.specs.Operations.{times_up, divided_up, of_whole}
use Rattle.word.specs.Model.{Transition, Net}
use Rattle.model.specs.Index.{transition}
use Rattle.tree.specs.Paths.{Class, class1, class2, class3, class, counts_1}
use Rattle.tree.specs.Upper.{upper_step}
use Rattle.tables.specs.Internal.Classes.{class_for}
use Rattle.path.specs.declared.exits.Tip.{Tip}
use Rattle.path.specs.declared.exits.Exit.{Exit}
use Rattle.path.specs.Internal.Lent.{Lent, net_in}
use Rattle.path.specs.Internal.Paths.{step_class}

-- U one step further, by the step's class, its number n among class 1 steps, its share, h and T
unfoldable pub upper_by : Class → Figure → Figure → Figure → Figure → Figure → Figure
upper_by class1 n u share mean time = divided_up (times_up (times_up u share) time) n
upper_by class2 n u share mean time = times_up u share
upper_by class3 n u share mean time = times_up (times_up u share) mean

-- the tip one step further
unfoldable pub tip_by : Tip → Class → ℕ → Figure → Figure → Figure → Tip
tip_by tip x to share mean time =
    record {
      state = to;
      upper = upper_by x (of_whole (tip.ones + 1)) tip.upper share mean time;
      ones = counts_1 x + tip.ones;
      len = tip.len + 1;
    }

-- the same of a transition of a net
unfoldable pub tip_after : Net → Transition → Tip → Tip
tip_after net t tip =
    let k = counts_1 (class net t) + tip.ones in
    record { state = t.to; upper = upper_step net (class net t) k t tip.upper; ones = k; len = tip.len + 1 }

-- What an exit of the tip's state is read from, the transition of the index x: it leaves that state, and U may be taken one step further.
pub record ExitReady (l : Lent) (tip : Tip) (x : ℕ) : Type 0 where
  pub index : x < length (net_in l).table
  pub leaves : (transition (net_in l) x).from ≡ tip.state
  pub upper : Sized 9 20000 tip.upper
  pub ones : tip.ones < 24
  pub room : tip.len < 24

-- an exit as it was read: its class and the tip beyond it are those of its transition
pub record ExitOf (l : Lent) (tip : Tip) (x : ℕ) (r : Exit) : Type 0 where
  pub index_is : r.index ≡ x
  pub class_is : class_for r.class ≡ step_class (net_in l) r.index
  pub tip_is : r.tip ≡ tip_after (net_in l) (transition (net_in l) r.index) tip
