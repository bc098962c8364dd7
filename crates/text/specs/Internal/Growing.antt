-- What the functions ask of one another that write a `Text` at its end. Assumes nothing: these are definitions.
use Rattle.std.specs.Prelude.{ℕ, ◌+◌, ◌≤◌, List, length}
use Rattle.text.specs.declared.Text.{Text}

-- there is room for these bytes behind those of t
abbrev pub Room : Text → List ℕ → Type 0
Room t xs = length t + length xs ≤ 256
