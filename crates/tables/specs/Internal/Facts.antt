-- That words describe a valid model, and that an index is theirs, is one fact: it has one proof at most, so that a struct may carry it. Assumes nothing.
use mathlib.Core.HLevel.{Unit-prop, ×_prop}
use mathlib.Core.Sum.{⊎_set}
use Rattle.std.specs.Prelude.{ℕ, List, [], ◌∷◌}
use Rattle.std.proofs.Props.{props}
use Rattle.word.specs.Internal.Lists.{Each}
use Rattle.word.specs.Model.{Manner, slow, fast, Transition, Model}
use Rattle.model.specs.declared.index.Index.{Index}
use Rattle.model.specs.Index.{Stands, Indexed}
use Rattle.model.specs.Internal.Valid.{ValidManner, ValidTransition, SameTransition, Distinct, Valid}
use Rattle.tables.specs.Internal.Described.{Indexes}

each_prop : {A : Type 0} (Q : A → Type 0) → ((x : A) → IsProp (Q x)) → (xs : List A) → IsProp (Each Q xs)
unfolding Each
each_prop Q one [] = Unit-prop
each_prop Q one (x ∷ xs) = ×_prop (one x) (each_prop Q one xs)

valid_manner_prop : (x : Manner) → IsProp (ValidManner x)
unfolding ValidManner
valid_manner_prop (slow r) = Prim.hlevel props
valid_manner_prop (fast m d q) = Prim.hlevel props

valid_transition_prop : (states : ℕ) (t : Transition) → IsProp (ValidTransition states t)
valid_transition_prop states t = Prim.hlevel (props, valid_manner_prop)

distinct_prop : (ts : List Transition) → IsProp (Distinct ts)
unfolding Distinct
distinct_prop [] = Unit-prop
distinct_prop (t ∷ ts) = ×_prop (each_prop (λ u. SameTransition t u → ⊥) (λ u. Prim.hlevel props) ts) (distinct_prop ts)

valid_prop : (m : Model) → IsProp (Valid m)
valid_prop m = Prim.hlevel (props, each_prop (ValidTransition m.states) (valid_transition_prop m.states) m.net.table, distinct_prop)

stands_prop : (ws : List ℕ) (place : ℕ) (t : Transition) → IsProp (Stands ws place t)
stands_prop ws place t = Prim.hlevel (props, ⊎_set)

indexed_prop : (m : Model) (ws : List ℕ) (index : Index) → IsProp (Indexed m ws index)
indexed_prop m ws index = Prim.hlevel (props, stands_prop)

pub indexes_prop : (ws : List ℕ) (index : Index) → IsProp (Indexes ws index)
indexes_prop ws index = Prim.hlevel (props, valid_prop, indexed_prop)
