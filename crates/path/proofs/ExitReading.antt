-- An exit of the tip's state as the code reads it: by its word and the table. Assumes nothing.
use Prim.Native.Nat.{ℕ, ◌≤◌, ◌<◌}
use mathlib.Core.Path.{◌≡◌, refl, sym, ap, ◌∙◌}
use mathlib.Core.Bool.{Bool}
use native.Mathlib.Omega.{arith}
use lib.Dec.{eqb, lit≤}
use lib.ListN.{length}
use Rattle.figure.specs.declared.Figure.{Figure}
use Rattle.figure.specs.Operands.{Sized}
use Rattle.figure.proofs.Sized.{sized-≤}
use Rattle.word.specs.Model.{Transition}
use Rattle.word.specs.Words.{kind, to_field}
use Rattle.model.specs.Index.{transition}
use Rattle.model.specs.Internal.Valid.{Valid}
use Rattle.model.proofs.Slots.{word, stands_to}
use Rattle.tree.specs.Paths.{Class, class}
use Rattle.tree.specs.States.{mission_time, mean_up}
use Rattle.tree.specs.Upper.{share}
use Rattle.tree.proofs.Ranges.{share_sized, mean_up_sized, mission_time_sized}
use Rattle.tables.specs.declared.class.Class.{Class as Coded}
use Rattle.tables.specs.Internal.Classes.{class_for, class_by}
use Rattle.tables.specs.Internal.Tables.{mean_up_in}
use Rattle.tables.proofs.Classes.{step_valid, origin_small, class_read}
use Rattle.path.specs.declared.exits.Tip.{Tip}
use Rattle.path.specs.Internal.Lent.{Lent, Filled, model_in, net_in}
use Rattle.path.specs.Internal.Exits.{tip_by, ExitReady, ExitOf}
use Rattle.path.proofs.ExitTips.{tip_by_transition}

module _ {l : Lent} {time : Figure} (filled : Filled l) (time_is : time ≡ mission_time (net_in l)) {tip : Tip} {x : ℕ} (h : ExitReady l tip x) where
  abbrev exit : Transition
  exit = transition (net_in l) x

  valid : Valid (model_in l)
  valid = filled.indexes.valid

  pub state_small : tip.state ≤ 1000
  state_small = omega (arith, origin_small valid h.index, h.leaves)

  pub time_sized : Sized 9 1000 time
  time_sized = rw time_is (sized-≤ (lit≤ tt) (mission_time_sized valid))

  -- h of the state
  module _ {m : Figure} (m-is : m ≡ mean_up_in l.table tip.state) where
    mean_is : m ≡ mean_up (net_in l) exit.from
    mean_is =
        let v = step_valid valid h.index in
        m-is ∙ ap (mean_up_in l.table) (sym h.leaves) ∙ filled.tabled.states.means_up exit.from v.from_low v.from_high

    pub mean_sized : Sized 9 1000 m
    mean_sized = rw mean_is (sized-≤ (lit≤ tt) (mean_up_sized valid exit.from))

  -- j is the exit's index
  module _ {j : ℕ} (j-is : j ≡ x) where
    pub exit_inside : j < length (net_in l).table
    exit_inside = rw j-is h.index

    module _ {s : Figure} (s-is : s ≡ share (transition (net_in l) j).manner) where
      share_is : s ≡ share exit.manner
      share_is = rw j-is at s-is

      pub exit_share_sized : Sized 9 1000 s
      exit_share_sized = rw share_is (sized-≤ (lit≤ tt) (share_sized exit.manner (step_valid valid h.index).manner))

    -- w is its word
    module _ {w : ℕ} (w-is : w ≡ word l.words l.index j) where
      word_there : w ≡ word l.words l.index x
      word_there = w-is ∙ ap (word l.words l.index) j-is

      -- what is read of the exit, and the tip beyond it
      pub exit_of : {k : ℕ} {b : Bool} {a : Coded} {to : ℕ} {s m : Figure} {next : Tip}
          → k ≡ x
          → b ≡ eqb (kind w) 7
          → class_for a ≡ class_by b m.digits
          → to ≡ to_field w
          → s ≡ share (transition (net_in l) j).manner
          → m ≡ mean_up_in l.table tip.state
          → next ≡ tip_by tip (class_for a) to s m time
          → ExitOf l tip x (record { index = k; class = a; tip = next })
      exit_of {k} {b} {a} {to} {s} {m} {next} k-is b-is a-is to_is s-is m-is next_is = rw k-is (record {
        index_is = refl;
        class_is = class_there;
        tip_is =
            next_is
            ∙ same_tip class_there (to_is ∙ ap to_field word_there ∙ stands_to (filled.indexes.indexed.places_are x h.index)) (share_is s-is) (mean_is m-is)
            ∙ tip_by_transition (net_in l) exit tip;
      })
        where
          class_there : class_for a ≡ class (net_in l) exit
          class_there = class_read filled.indexes h.index word_there b-is (mean_is m-is) a-is

          same_tip : {c : Class} → c ≡ class (net_in l) exit → to ≡ exit.to → s ≡ share exit.manner → m ≡ mean_up (net_in l) exit.from
              → tip_by tip c to s m time ≡ tip_by tip (class (net_in l) exit) exit.to (share exit.manner) (mean_up (net_in l) exit.from) (mission_time (net_in l))
          same_tip p q r u = cc
