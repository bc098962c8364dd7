-- A path as a slice holds it. Assumes nothing: these are definitions.
use Rattle.std.specs.Prelude.{ℕ, ◌≤◌, ◌<◌, List, [], length, map, reverse, All}
use Rattle.word.specs.Model.{Transition, Net}
use Rattle.model.specs.Index.{transition}
use Rattle.tree.specs.Paths.{Path, Class, class}
use Rattle.tree.specs.Grains.{grains}

-- the path whose steps are the entries of a list: indexes of transitions, the first step first
unfoldable pub path_of : Net → List ℕ → Path
path_of net l = reverse (map (transition net) l)

-- the entries are indexes of transitions, of at most 24 steps
pub record Known (net : Net) (l : List ℕ) : Type 0 where
  pub short : length l ≤ 24
  pub inside : All (λ (j : ℕ). j < length net.table) l

-- grains are those of edition 1, which do not depend on the path
abbrev pub own_grains : Net → Transition → ℕ
own_grains net = grains net []

-- the class of a transition by its index
abbrev pub step_class : Net → ℕ → Class
step_class net j = class net (transition net j)
