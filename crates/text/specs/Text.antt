-- Document 01, "The report program", and document 02, Item 2: the text that it prints, as a list of ASCII bytes. Assumes nothing: these are definitions.
use Rattle.std.specs.Prelude.{ℕ, zero, suc, ◌+◌, ◌/◌, ◌%◌, Bool, true, false, List, [], ◌∷◌, ◌++◌, ltb, eqb, ℤ, pos, negsuc, ◌+ℤ◌}
use Prim.Native.Char.{code}
use Prim.Native.String.{String, [] as empty, ◌∷◌ as ◌then◌}
use Rattle.figure.specs.declared.Figure.{Figure}
use Rattle.word.specs.Answer.{Answer, refused, granted}
use Rattle.tree.specs.Report.{Report}
use Rattle.tree.specs.Marks.{Marks, marks_with}

-- the numbers of a text's characters, which for those of ASCII are its bytes
abbrev pub ascii : String → List ℕ
ascii empty = []
ascii (c then s) = code c ∷ ascii s

abbrev pub digit : ℕ → ℕ
digit d = code "0" + d

-- the decimal digits of a number, without zeros in front; `most` is at least as many as it has
unfoldable pub digits_within : ℕ → ℕ → List ℕ
digits_within zero n = []
digits_within (suc most) n = elim (ltb n 10) [ true ↦ digit n ∷ [] | false ↦ digits_within most (n / 10) ++ (digit (n % 10) ∷ []) ]

-- a number below 10^20, as every number of 64 bits is
abbrev pub decimal : ℕ → List ℕ
decimal n = digits_within 20 n

-- the last k decimal digits of a number, with zeros in front where it has fewer
unfoldable pub last_digits : ℕ → ℕ → List ℕ
last_digits zero n = []
last_digits (suc k) n = last_digits k (n / 10) ++ (digit (n % 10) ∷ [])

-- an exponent, with a minus sign where it is negative
unfoldable pub signed_decimal : ℤ → List ℕ
signed_decimal (pos n) = decimal n
signed_decimal (negsuc n) = code "-" ∷ decimal (suc n)

-- "A figure prints as one digit, point, eight digits, E, exponent; zero as 0." The point stands eight digits from the right.
unfoldable pub figure_text : Figure → List ℕ
figure_text f =
    elim (eqb f.digits 0) [
      | true ↦ code "0" ∷ []
      | false ↦ last_digits 1 (f.digits / 100000000) ++ (code "." ∷ (last_digits 8 f.digits ++ (code "E" ∷ signed_decimal (f.power +ℤ pos 8))))
    ]

-- a label, what stands behind it, and the end of the line
abbrev pub line : List ℕ → List ℕ → List ℕ
line label rest = label ++ (rest ++ (code "\n" ∷ []))

-- the lines of the figures and those of the counts, as document 01 prints them for model A
abbrev pub figure_lines : Figure → Figure → Figure → List ℕ
figure_lines lower upper cut = line (ascii "lower ") (figure_text lower) ++ (line (ascii "upper ") (figure_text upper) ++ line (ascii "cut ") (figure_text cut))

abbrev pub count_lines : ℕ → ℕ → ℕ → List ℕ
count_lines deaths cuts steps = line (ascii "deaths ") (decimal deaths) ++ (line (ascii "cuts ") (decimal cuts) ++ line (ascii "steps ") (decimal steps))

-- "NUMBER at PLACE"
abbrev pub refusal_text : ℕ → ℕ → List ℕ
refusal_text number place = decimal number ++ (ascii " at " ++ decimal place)

-- "The report gains, after steps, a line `exact` followed by two digits, lower then upper, 1 if .. and 0 otherwise"
abbrev pub mark_digit : Bool → ℕ
mark_digit true = code "1"
mark_digit false = code "0"

abbrev pub exact_line : Marks → List ℕ
exact_line k = line (ascii "exact ") (mark_digit k.lower ∷ mark_digit k.upper ∷ [])

-- a report's seven lines, or "`refused NUMBER at PLACE`"
unfoldable pub answer_text : Answer Report → Marks → List ℕ
answer_text (refused number place) k = line (ascii "refused ") (refusal_text number place)
answer_text (granted r) k =
    figure_lines r.lower r.upper r.cut ++ (count_lines r.deaths r.cuts r.steps ++ exact_line k)

-- the text of an answer to a list of words and a budget, with its marks
abbrev pub text_of : List ℕ → ℕ → Answer Report → List ℕ
text_of ws budget a = answer_text a (marks_with ws budget a)
