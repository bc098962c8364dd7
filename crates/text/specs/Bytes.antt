-- Document 01, "The report program": "It reads standard input, four bytes a word, least significant first; left-over bytes count as one more word, of
-- no kind." Assumes nothing: these are definitions.
use Rattle.std.specs.Prelude.{ℕ, ◌+◌, ◌*◌, ◌≤◌, ◌≡◌, List, [], ◌∷◌, length, take}
use Rattle.model.specs.Reading.{most_words}

-- a word of no kind: kind 0 stands nowhere in a table
abbrev pub no_kind : ℕ
no_kind = 0

-- the word of four bytes
abbrev pub word : ℕ → ℕ → ℕ → ℕ → ℕ
word a b c d = a + 256 * b + 65536 * c + 16777216 * d

unfoldable pub words_of : List ℕ → List ℕ
words_of [] = []
words_of (a ∷ []) = no_kind ∷ []
words_of (a ∷ b ∷ []) = no_kind ∷ []
words_of (a ∷ b ∷ c ∷ []) = no_kind ∷ []
words_of (a ∷ b ∷ c ∷ d ∷ rest) = word a b c d ∷ words_of rest

-- How many words are looked at, and their bytes: one word more than a model may have, so that too many words are found to be too many. `AnswerEnough`
-- (specs/Faithful.antt) says that the answer is that to all bytes.
abbrev pub words_size : ℕ
words_size = most_words + 1

abbrev pub most_bytes : ℕ
most_bytes = 4 * words_size

-- What `words_of` promises: the first n of these words are those of the bytes. What the others hold is free.
pub record Spelled (bytes words : List ℕ) (n : ℕ) : Type 0 where
  pub whole : length words ≡ words_size
  pub within : n ≤ words_size
  pub words_are : take n words ≡ words_of bytes
