-- Document 01, "The model words", and document 02, Item 3: the number of each kind of word, which the code names by its enum `Kind`. Assumes nothing:
-- these are definitions.
use Rattle.std.specs.Prelude.{ℕ, ◌≡◌, ◌⊎◌, Bool, eqb}
use Rattle.word.specs.declared.kinds.Kind.{Kind}
use Rattle.word.specs.declared.kinds.Kind.TheVariants.{Head, MissionTime, PruneLevel, Caps, SlowTransition, Rate, FastTransition}
use Rattle.word.specs.declared.kinds.Kind.TheVariants.{Mean, Deviation, Probability, NamedState, End, Other}
use Rattle.word.specs.Words.{kind}

abbrev pub kind_number : Kind → ℕ
kind_number Head = 1
kind_number MissionTime = 2
kind_number PruneLevel = 3
kind_number Caps = 4
kind_number SlowTransition = 5
kind_number Rate = 6
kind_number FastTransition = 7
kind_number Mean = 8
kind_number Deviation = 9
kind_number Probability = 10
kind_number NamedState = 12
kind_number End = 15
kind_number (Other n) = n

-- a number of four bits that the documents give no word
abbrev pub IsUnnamed : ℕ → Type 0
IsUnnamed n = (n ≡ 0) ⊎ ((n ≡ 11) ⊎ ((n ≡ 13) ⊎ (n ≡ 14)))

-- whether a word is of a kind
abbrev pub is_of : Kind → ℕ → Bool
is_of k w = eqb (kind w) (kind_number k)
