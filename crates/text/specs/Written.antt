-- What a `Text` of the code holds: a clause sees it as the list of its bytes. Assumes nothing: these are definitions.
use Rattle.std.specs.Prelude.{ℕ, ◌≡◌, List}
use Rattle.text.specs.declared.Text.{Text}

-- r holds these bytes, and no others
abbrev pub Holds : List ℕ → Text → Type 0
Holds xs r = r ≡ xs
