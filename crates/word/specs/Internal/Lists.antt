-- Facts of lists that several crates speak of. Assumes nothing: these are definitions.
use Rattle.std.specs.Prelude.{List, [], ◌∷◌}

-- a fact of every member of a list
unfoldable pub Each : {A : Type 0} → (A → Type 0) → List A → Type 0
Each Q [] = Unit {0}
Each Q (x ∷ xs) = Q x × Each Q xs
