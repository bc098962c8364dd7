-- That entries are known is a proposition. Assumes nothing.
use Prim.Native.Nat.{ℕ}
use mathlib.Core.List.{List}
use Rattle.std.proofs.Props.{props}
use Rattle.word.specs.Model.{Net}
use Rattle.path.specs.Internal.Paths.{Known}

pub known_prop : (net : Net) (l : List ℕ) → IsProp (Known net l)
known_prop net l = Prim.hlevel props
