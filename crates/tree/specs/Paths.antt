-- Document 01, "The cut tree" and "Classes and the exact bounds": paths, the classes of their steps, and how often a path has entered a state.
-- Assumes nothing: these are definitions.
use Rattle.std.specs.Prelude.{ℕ, ◌+◌, Bool, true, false, eqb}
use mathlib.Core.List.{List, [], ◌∷◌, Mem}
use Rattle.word.specs.Model.{Manner, slow, fast, Transition, Net, one_if, exits, has_fast}

-- "A path is a list of transitions from the start, each leaving where the one before arrived." It is held with its last step first.
abbrev pub Path : Type 0
Path = List Transition

-- the state that a path has reached
unfoldable pub last_state : Net → Path → ℕ
last_state net [] = net.start
last_state net (t ∷ p) = t.to

-- that a list of transitions is a path: each is an exit of the state where the one before arrived
unfoldable pub IsPath : Net → Path → Type 0
IsPath net [] = Unit {0}
IsPath net (t ∷ p) = Mem t (exits net (last_state net p)) × IsPath net p

-- how often a path has entered s ("being at the start counts as one entry")
unfoldable pub entries : Net → ℕ → Path → ℕ
entries net s [] = one_if (eqb net.start s)
entries net s (t ∷ p) = one_if (eqb t.to s) + entries net s p

-- "Source 001's classes."
pub data Class : Type 0 where
  class1 class2 class3 : Class

-- by whether the state that is left has fast exits: "Class 1: slow step from a state without fast exits. Class 2: fast step. Class 3: slow step
-- from a state with fast exits."
abbrev pub class_of : Bool → Manner → Class
class_of true (slow r) = class3
class_of false (slow r) = class1
class_of b (fast m d q) = class2

unfoldable pub class : Net → Transition → Class
class net t = class_of (has_fast (exits net t.from)) t.manner

abbrev pub counts_1 : Class → ℕ
counts_1 class1 = 1
counts_1 class2 = 0
counts_1 class3 = 0

-- k, the number of class 1 steps of a path. Where the last step is of class 1, this is also "its number among class 1 steps so far".
unfoldable pub class1_count : Net → Path → ℕ
class1_count net [] = 0
class1_count net (t ∷ p) = counts_1 (class net t) + class1_count net p
