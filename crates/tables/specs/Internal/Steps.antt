-- The share, the grains and the lower factor of a step, with their marks, of its state's sums and the mission time as figures. Laws say that of a net's own
-- sums they are the net's. No public contract cites this page. Assumes nothing: these are definitions.
use Rattle.std.specs.Prelude.{ℕ, ◌^◌, ◌≤◌, ◌≡◌, List, [], pos}
use Rattle.figure.specs.declared.Direction.TheVariants.{Down, Up}
use Rattle.figure.specs.declared.Rounded.{Rounded}
use Rattle.figure.specs.Operands.{Operand}
use Rattle.figure.specs.Operations as ops
use Rattle.figure.specs.Operations.{of_whole}
use Rattle.figure.specs.Losses.{told}
use Rattle.word.specs.Model.{Transition, Net}
use Rattle.tree.specs.Paths.{class}
use Rattle.tree.specs.Marks.{grains_kept}
use Rattle.tree.specs.States.{mission_time}
use Rattle.tree.specs.Upper.{share}
use Rattle.tree.specs.Grains.{least, grains}
use Rattle.tables.specs.declared.manner.Spread.{Spread}
use Rattle.tables.specs.declared.steps.Step.{Step}
use Rattle.tables.specs.declared.table.StepEntry.{StepEntry}
use Rattle.tables.specs.declared.table.Table.{Table}
use Rattle.tables.specs.Internal.Described.{described, net_of}
use Rattle.tables.specs.Internal.Tables.{StatesHold, counted, marked, told_of, step_factor, step_factor_kept}
use Rattle.tables.specs.Internal.Told.{exact, whole, times_ten, times, plus, minus, divided, moment_of}

-- what class 2 takes off 1, of E, the mean, M, T2 and n grains
unfoldable pub class2_loss_of : Rounded → Rounded → Rounded → Rounded → ℕ → Rounded
class2_loss_of rate mean moment time2 n =
    plus Up (times Up rate mean) (times_ten (divided Up moment (times Down (whole (n ^ 2)) time2)) (pos 12))

-- what class 3 takes off h', of E, H, T and n grains
unfoldable pub class3_loss_of : Rounded → Rounded → Rounded → ℕ → Rounded
class3_loss_of rate moment time n =
    plus Up (divided Up (times Up rate moment) (exact (of_whole 2))) (times_ten (divided Up moment (times Down (exact (of_whole n)) time)) (pos 6))

-- what g is a power of ten times of: class 2, of M and T2; class 3, of H, h' and T

unfoldable pub class2_quotient_of : Rounded → Rounded → Rounded
class2_quotient_of moment time2 = divided Up (times Up (exact (of_whole 2)) moment) time2

unfoldable pub class3_quotient_of : Rounded → Rounded → Rounded → Rounded
class3_quotient_of moment mean time = divided Up moment (times Down mean time)

-- a share times what a loss leaves of a whole
unfoldable pub factor_of : Rounded → Rounded → Rounded → Rounded
factor_of share all loss = times Down share (minus Down all loss)

-- class 2, of E and T
unfoldable pub class2_step_of : Rounded → Rounded → Spread → Step
class2_step_of rate time e =
    let moment = moment_of e.mean e.deviation in
    let time2 = times Down time time in
    let quotient = class2_quotient_of moment time2 in
    let n = least 3 (ops.times_ten quotient.figure (pos 18)) in
    record {
      share = e.probability;
      grains = n;
      grains_kept = quotient.kept;
      factor = factor_of e.probability (exact (of_whole 1)) (class2_loss_of rate e.mean moment time2 n);
    }

-- class 3, of E, h', H and T
unfoldable pub class3_step_of : Rounded → Rounded → Rounded → Rounded → Rounded → Step
class3_step_of rate mean moment time share =
    let quotient = class3_quotient_of moment mean time in
    let n = least 2 (ops.times_ten quotient.figure (pos 12)) in
    record { share = share; grains = n; grains_kept = quotient.kept; factor = factor_of share mean (class3_loss_of rate moment time n) }

-- a transition of a net
unfoldable pub step_of : Net → Transition → Step
step_of net t = record {
  share = exact (share t.manner);
  grains = grains net [] t;
  grains_kept = grains_kept net [] t;
  factor = told (step_factor net (class net t) t) (step_factor_kept net (class net t) t);
}

-- what the steps are worked out from: T, and a table with the sums of the states
pub record StepReady (ws : List ℕ) (time : Rounded) (table : Table) : Type 0 where
  pub time_is : time ≡ exact (mission_time (net_of ws))
  pub states : StatesHold (net_of ws) (described ws).states table

-- a step's figures are in range
pub record StepSized (x : Step) : Type 0 where
  pub share : Operand 9 x.share.figure
  pub factor : Operand 9 x.factor.figure
  pub grains : x.grains ≤ 1000000

-- an entry of the table with a step
pub record StepPacked (x : Step) (entry : StepEntry) : Type 0 where
  pub share : told_of entry.share ≡ x.share
  pub factor : told_of entry.factor ≡ x.factor
  pub grain_count : counted entry.grains ≡ x.grains
  pub grains_mark : marked entry.grains ≡ x.grains_kept
