-- What the text and its bytes are worth to a reader: the digits printed are the numbers', document 01's examples come out as it prints them, and no
-- byte that the program leaves unread matters. Assumes nothing: these are definitions.
use Rattle.std.specs.Prelude.{ℕ, ◌+◌, ◌-◌, ◌*◌, ◌^◌, ◌<◌, ◌≡◌, length, take, pos, ◌+ℤ◌}
use Prim.Native.Char.{code}
use mathlib.Core.List.{List, ◌∷◌, ◌++◌, foldl}
use Rattle.figure.specs.declared.Figure.{Figure}
use Rattle.figure.specs.Rounding.{IsFigure}
use Rattle.tree.specs.Report.{answer}
use Rattle.text.specs.Bytes.{words_of, most_bytes}
use Rattle.text.specs.Text.{decimal, signed_decimal, figure_text, text_of}
use Rattle.text.specs.Program.{report_budget, printed}
use Rattle.text.specs.Example.{AsDocumented}

-- one digit more on the right
abbrev pub shifted : ℕ → ℕ → ℕ
shifted a d = 10 * a + (d - code "0")

-- what decimal digits are worth, read from the left
unfoldable pub worth : List ℕ → ℕ
worth ds = foldl shifted 0 ds

-- the digits printed for a number of 64 bits are worth that number
abbrev pub DecimalWorth : Type 0
DecimalWorth = (n : ℕ) → n < 2 ^ 64 → worth (decimal n) ≡ n

-- "A figure prints as one digit, point, eight digits, E, exponent": the nine digits are those of the figure's whole number, so that the point, eight
-- digits from the right, raises the power by eight
pub record NineDigits (f : Figure) : Type 0 where
  pub first : ℕ
  pub others : List ℕ
  pub eight : length others ≡ 8
  pub text_is : figure_text f ≡ first ∷ code "." ∷ (others ++ (code "E" ∷ signed_decimal (f.power +ℤ pos 8)))
  pub digits_are : first ∷ others ≡ decimal f.digits

-- every figure but zero prints so
abbrev pub FigureDigits : Type 0
FigureDigits = (f : Figure) → IsFigure 9 f → (f.digits ≡ 0 → ⊥) → NineDigits f

-- however many bytes there are, the answer to the words of the first `most_bytes` is that to the words of all
abbrev pub AnswerEnough : Type 0
AnswerEnough = (bytes : List ℕ) (budget : ℕ) → answer (words_of bytes) budget ≡ answer (words_of (take most_bytes bytes)) budget

-- the program prints the text of the answer that is given without rows
abbrev pub PrintsNoRow : Type 0
PrintsNoRow = (bytes : List ℕ) → printed bytes ≡ text_of (words_of bytes) report_budget (answer (words_of bytes) report_budget)

-- What the report program's text promises beside the equation with its definition.
pub record FaithfulText : Type 0 where
  pub decimal_worth : DecimalWorth
  pub figure_digits : FigureDigits
  pub as_documented : AsDocumented
  pub answer_enough : AnswerEnough
  -- "The report program lends 1,000 rows and prints none."
  pub prints_no_row : PrintsNoRow
