-- What holds of every model that is read without a refusal. The layers above use nothing else of the reading. Assumes nothing: these are
-- definitions; `read_valid` in crates/model/proofs/ReadValid.antt shows it.
use Rattle.std.specs.Prelude.{ℕ, ◌≤◌, ◌≡◌, true, false, List, [], ◌∷◌, length}
use Rattle.word.specs.Internal.Lists.{Each}
use Rattle.word.specs.declared.Quantity.{Quantity}
use Rattle.word.specs.Model.{Manner, slow, fast, Transition, Model, is_fast, is_empty, is_named, exits, has_fast, probability_sum}

-- a quantity whose coefficient is from `least` to 999,999 and whose scale is at most `most`
pub record InRange (least most : ℕ) (q : Quantity) : Type 0 where
  pub low : least ≤ q.coefficient
  pub high : q.coefficient ≤ 999999
  pub scale : q.scale ≤ most

unfoldable pub ValidManner : Manner → Type 0
ValidManner (slow r) = InRange 1 20 r
ValidManner (fast m d q) = InRange 1 20 m × (InRange 0 20 d × InRange 1 12 q)

pub record ValidTransition (states : ℕ) (t : Transition) : Type 0 where
  pub from_low : 1 ≤ t.from
  pub from_high : t.from ≤ states
  pub to_low : 1 ≤ t.to
  pub to_high : t.to ≤ states
  pub moves : t.from ≡ t.to → ⊥
  pub manner : ValidManner t.manner

-- the same kind, from and to
pub record SameTransition (t u : Transition) : Type 0 where
  pub kind : is_fast t.manner ≡ is_fast u.manner
  pub from : t.from ≡ u.from
  pub to : t.to ≡ u.to

-- no two members are the same transition
unfoldable pub Distinct : List Transition → Type 0
Distinct [] = Unit {0}
Distinct (t ∷ ts) = Each (λ u. SameTransition t u → ⊥) ts × Distinct ts

pub record Valid (m : Model) : Type 0 where
  pub states_low : 1 ≤ m.states
  pub states_high : m.states ≤ 1000
  pub start_low : 1 ≤ m.net.start
  pub start_high : m.net.start ≤ m.states
  pub time : InRange 1 20 m.net.time
  pub prune : InRange 0 20 m.limits.prune
  pub steps_low : 1 ≤ m.limits.step_limit
  pub steps_high : m.limits.step_limit ≤ 24
  pub entries_low : 1 ≤ m.limits.entry_limit
  pub entries_high : m.limits.entry_limit ≤ 24
  pub table : Each (ValidTransition m.states) m.net.table
  pub few : length m.net.table ≤ 4000
  pub few_exits : (s : ℕ) → length (exits m.net s) ≤ 16
  pub distinct : Distinct m.net.table
  pub even : (s : ℕ) → has_fast (exits m.net s) ≡ true → probability_sum (exits m.net s) ≡ 1000000000000
  pub start_exits : is_empty (exits m.net m.net.start) ≡ false
  pub named_end : (s : ℕ) → is_named m.net s ≡ true → is_empty (exits m.net s) ≡ true
