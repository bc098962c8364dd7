-- Document 01, "The report program and the marked models": what the program prints for the bytes of model A, and for no bytes at all (model F), as
-- one claim. Assumes nothing: these are definitions.
use Rattle.std.specs.Prelude.{ℕ, ◌≡◌, List, [], ◌∷◌}
use Rattle.text.specs.Bytes.{words_of, no_kind}
use Rattle.text.specs.Text.{ascii}
use Rattle.text.specs.Program.{printed}

-- "words 11002001 2000000A 30000000 41801000 50001002 60400001 F0000000 (hexadecimal)", each "least significant first"
abbrev pub bytes-A : List ℕ
bytes-A =
    0x01 ∷ 0x20 ∷ 0x00 ∷ 0x11
    ∷ 0x0A ∷ 0x00 ∷ 0x00 ∷ 0x20
    ∷ 0x00 ∷ 0x00 ∷ 0x00 ∷ 0x30
    ∷ 0x00 ∷ 0x10 ∷ 0x80 ∷ 0x41
    ∷ 0x02 ∷ 0x10 ∷ 0x00 ∷ 0x50
    ∷ 0x01 ∷ 0x00 ∷ 0x40 ∷ 0x60
    ∷ 0x00 ∷ 0x00 ∷ 0x00 ∷ 0xF0
    ∷ []

pub record AsDocumented : Type 0 where
  pub words-A : words_of bytes-A ≡ 0x11002001 ∷ 0x2000000A ∷ 0x30000000 ∷ 0x41801000 ∷ 0x50001002 ∷ 0x60400001 ∷ 0xF0000000 ∷ []
  -- "On model A, .., it prints", and document 02, Item 2: "Model A prints `exact 11`."
  pub text-A : printed bytes-A ≡ ascii "lower 9.99500000E-4\nupper 1.00000000E-3\ncut 0\ndeaths 1\ncuts 0\nsteps 1\nexact 11\n"
  -- model F
  pub text-F : printed [] ≡ ascii "refused 3 at 0\n"
  -- the second word of model A, and one byte of a third
  pub words_left_over : words_of (0x0A ∷ 0x00 ∷ 0x00 ∷ 0x20 ∷ 0x30 ∷ []) ≡ 0x2000000A ∷ no_kind ∷ []
