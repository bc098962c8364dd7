-- How long a text is: that of an answer has at most 256 bytes. Assumes nothing.
use Prim.Native.Nat.{ℕ, suc, ◌+◌, ◌/◌, ◌≤◌}
use mathlib.Core.Bool.{Bool, true, false}
use mathlib.Core.List.{List, [], ◌∷◌, ◌++◌}
use native.Mathlib.Nat.{le_refl, le_trans}
use native.Mathlib.Omega.{arith}
use lib.ListN.{length, length-append}
use lib.Dec.{eqb, lit≤}
use lib.IntN.{ℤ, pos, negsuc, ◌+ℤ◌}
use Rattle.figure.specs.declared.Figure.{Figure}
use Rattle.word.specs.Answer.{Answer, refused, granted}
use Rattle.tree.specs.Report.{Report}
use Rattle.tree.specs.Marks.{Marks}
use Rattle.text.specs.Text.{ascii, decimal, signed_decimal, figure_text, line, figure_lines, count_lines, mark_digit, exact_line, refusal_text, answer_text}
use Rattle.text.proofs.Digits.{length_last, length_digits}
use Rattle.text.proofs.Figures.{first_digit, from_point, eight_digits, from-E}

length_exponent : (e : ℤ) → length (signed_decimal e) ≤ 21
unfolding signed_decimal
length_exponent (pos n) = omega (arith, length_digits 20 n)
length_exponent (negsuc n) = omega (arith, length_digits 20 (suc n))

length_figure : (f : Figure) → length (figure_text f) ≤ 32
unfolding figure_text
length_figure f = go (eqb f.digits 0)
  where
    go : (t : Bool) → length {A = ℕ} (elim t [ true ↦ 48 ∷ [] | false ↦ first_digit f ++ from_point f ]) ≤ 32
    go true = omega arith
    go false =
        omega (
          arith,
          length-append (first_digit f) (from_point f),
          length-append (eight_digits f) (from-E f),
          length_last 1 (f.digits / 100000000),
          length_last 8 f.digits,
          length_exponent (f.power +ℤ pos 8),
        )

-- two pieces, and a line, by bounds on what they are made of
length_two : (xs ys : List ℕ) {a b : ℕ} → length xs ≤ a → length ys ≤ b → length (xs ++ ys) ≤ a + b
length_two xs ys h k = omega (arith, length-append xs ys)

length_line : (label rest : List ℕ) {b : ℕ} → length rest ≤ b → length (line label rest) ≤ length label + (b + 1)
length_line label rest k = length_two label (rest ++ (10 ∷ [])) (le_refl (length label)) (length_two rest (10 ∷ []) k (le_refl 1))

length_figure_line : (label : List ℕ) (f : Figure) → length (line label (figure_text f)) ≤ length label + 33
length_figure_line label f = length_line label (figure_text f) (length_figure f)

length_number_line : (label : List ℕ) (n : ℕ) → length (line label (decimal n)) ≤ length label + 21
length_number_line label n = length_line label (decimal n) (length_digits 20 n)

length_three : (xs ys zs : List ℕ) {a b c : ℕ} → length xs ≤ a → length ys ≤ b → length zs ≤ c → length (xs ++ (ys ++ zs)) ≤ a + (b + c)
length_three xs ys zs h k l = length_two xs (ys ++ zs) h (length_two ys zs k l)

length_figures : (lower upper cut : Figure) → length (figure_lines lower upper cut) ≤ 115
length_figures lower upper cut =
    length_three
    (line (ascii "lower ") (figure_text lower))
    (line (ascii "upper ") (figure_text upper))
    (line (ascii "cut ") (figure_text cut))
    (length_figure_line (ascii "lower ") lower)
    (length_figure_line (ascii "upper ") upper)
    (length_figure_line (ascii "cut ") cut)

length_counts : (deaths cuts steps : ℕ) → length (count_lines deaths cuts steps) ≤ 81
length_counts deaths cuts steps =
    length_three
    (line (ascii "deaths ") (decimal deaths))
    (line (ascii "cuts ") (decimal cuts))
    (line (ascii "steps ") (decimal steps))
    (length_number_line (ascii "deaths ") deaths)
    (length_number_line (ascii "cuts ") cuts)
    (length_number_line (ascii "steps ") steps)

length_refusal : (number place : ℕ) → length (refusal_text number place) ≤ 44
length_refusal number place = length_three (decimal number) (ascii " at ") (decimal place) (length_digits 20 number) (le_refl 4) (length_digits 20 place)

length_exact : (k : Marks) → length (exact_line k) ≤ 9
length_exact k = length_line (ascii "exact ") (mark_digit k.lower ∷ mark_digit k.upper ∷ []) (le_refl 2)

pub answer_short : (a : Answer Report) (k : Marks) → length (answer_text a k) ≤ 256
unfolding answer_text
answer_short (refused number place) k = le_trans (length_line (ascii "refused ") (refusal_text number place) (length_refusal number place)) (lit≤ tt)
answer_short (granted r) k =
    le_trans
    (length_three
    (figure_lines r.lower r.upper r.cut)
    (count_lines r.deaths r.cuts r.steps)
    (exact_line k)
    (length_figures r.lower r.upper r.cut)
    (length_counts r.deaths r.cuts r.steps)
    (length_exact k))
    (lit≤ tt)
