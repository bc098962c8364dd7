-- What a word table describes: a semi-Markov model. Document 01, "The model words"; document 02, Item 3, "States that the generator pruned". Assumes
-- nothing: these are definitions.
use Rattle.std.specs.Prelude.{ℕ, zero, suc, ◌+◌, ◌-◌, ◌*◌, ◌^◌, Bool, true, false, ◌||◌, List, [], ◌∷◌, eqb}
use Rattle.word.specs.declared.Quantity.{Quantity}

-- A quantity is the code's struct `Quantity`, the record of a coefficient and a scale: "A quantity has its scale p in bits 27..20 and its
-- coefficient c in bits 19..0, and means c / 10^p."

-- "Kind 5, slow: .. a kind 6 quantity (rate) follows. Kind 7, fast, ..; kinds 8 (conditional mean), 9 (conditional standard deviation) and 10
-- (probability) follow in that order."
pub data Manner : Type 0 where
  slow : Quantity → Manner
  fast : Quantity → Quantity → Quantity → Manner

pub record Transition : Type 0 where
  pub from : ℕ
  pub to : ℕ
  pub manner : Manner

-- The net: what classes, uppers, grains and lowers look at, and which states are the generator's. `time` is the mission time T; `named` has the states
-- that "Kind 12 words" name, in the order of these words; `table` has the transitions in table order.
pub record Net : Type 0 where
  pub start : ℕ
  pub time : Quantity
  pub named : List ℕ
  pub table : List Transition

-- The limits, which only the cut tree looks at: "step limit L", "entry limit V" and "prune level P".
pub record Limits : Type 0 where
  pub step_limit : ℕ
  pub entry_limit : ℕ
  pub prune : Quantity

-- `states` is the number of states N; "states are 1 to N".
pub record Model : Type 0 where
  pub states : ℕ
  pub net : Net
  pub limits : Limits

-- ---- exits

abbrev pub is_fast : Manner → Bool
is_fast (slow r) = false
is_fast (fast m d q) = true

-- the members of a list that pass a test, in their order
unfoldable pub only : {A : Type 0} → (A → Bool) → List A → List A
only test [] = []
only test (x ∷ xs) = elim (test x) [ true ↦ x ∷ only test xs | false ↦ only test xs ]

unfoldable pub any : {A : Type 0} → (A → Bool) → List A → Bool
any test [] = false
any test (x ∷ xs) = test x || any test xs

-- the n numbers from s on
unfoldable pub numbers_from : ℕ → ℕ → List ℕ
numbers_from zero s = []
numbers_from (suc n) s = s ∷ numbers_from n (suc s)

-- a truth value as a number
abbrev pub one_if : Bool → ℕ
one_if true = 1
one_if false = 0

abbrev pub is_empty : {A : Type 0} → List A → Bool
is_empty [] = true
is_empty (x ∷ xs) = false

-- whether a state is one of the generator's
unfoldable pub is_named : Net → ℕ → Bool
is_named net s = any (λ n. eqb n s) net.named

abbrev pub leaves : ℕ → Transition → Bool
leaves s t = eqb t.from s

-- the exits of a state, in table order
unfoldable pub exits_in : List Transition → ℕ → List Transition
exits_in table s = only (leaves s) table

abbrev pub exits : Net → ℕ → List Transition
exits net s = exits_in net.table s

-- whether a state has fast exits
unfoldable pub has_fast : List Transition → Bool
has_fast ts = any (λ t. is_fast t.manner) ts

-- An exit's probability as a whole number of 10^-12 ("p is .. for kind 10 0 to 12"), 0 for a slow one; and the sum over a list of exits.
abbrev pub probability_units : Manner → ℕ
probability_units (slow r) = 0
probability_units (fast m d q) = q.coefficient * 10 ^ (12 - q.scale)

unfoldable pub probability_sum : List Transition → ℕ
probability_sum [] = 0
probability_sum (t ∷ ts) = probability_units t.manner + probability_sum ts
