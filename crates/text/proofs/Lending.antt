-- A caller who lends 1,000 rows: the answer that is promised, and that it is the one given without rows. Assumes nothing.
use Prim.Native.Nat.{ℕ}
use mathlib.Core.Path.{◌≡◌, sym, ap, ap₂, ◌∙◌}
use mathlib.Core.List.{List}
use native.Mathlib.Nat.{le_refl}
use lib.ListN.{length, take}
use Rattle.std.specs.Prelude.{Result}
use Rattle.word.specs.declared.Refusal.{Refusal}
use Rattle.tree.specs.declared.Row.{Row}
use Rattle.tree.specs.Report.{answer}
use Rattle.tree.specs.Rows.{answer_with_rows}
use Rattle.tree.specs.Marks.{marks_by, marks_with}
use Rattle.tree.proofs.RowAnswers.{thousand_rows_enough}
use Rattle.accuracy.proofs.Theorem.{accuracy_theorem}
use Rattle.accuracy.proofs.Exactness.{mark_theorem}
use Rattle.bounds.specs.declared.Report.{Report}
use Rattle.bounds.specs.Rows.{PromisedRows}
use Rattle.text.specs.Bytes.{words_of, most_bytes}
use Rattle.text.specs.Text.{answer_text, text_of}
use Rattle.text.specs.Rules.{Rules}
use Rattle.text.specs.Program.{report_budget, report_rows, LendsRows}
use Rattle.text.specs.Faithful.{PrintsNoRow}
use Rattle.text.proofs.Words.{read_enough, answer_enough}

pub lends_rows : (before after : List ℕ) (budget : ℕ) (given left : List Row) (r : Result Report Refusal) → length given ≡ 1000
    → PromisedRows before after budget given left r → LendsRows before after budget r
lends_rows before after budget given left r many h = record {
  answer_is = h.answer_is ∙ ap (answer_with_rows before budget) many;
  marks_are = h.marks_are ∙ ap (λ n. marks_with before budget (answer_with_rows before budget n)) many;
  accuracy = h.accuracy;
  words_unchanged = h.words_unchanged;
}

pub rows_enough : (ws : List ℕ) (budget : ℕ) → answer_with_rows ws budget report_rows ≡ answer ws budget
rows_enough ws budget = thousand_rows_enough ws budget report_rows (le_refl report_rows)

-- the program prints what it would print without rows
pub prints_no_row : PrintsNoRow
prints_no_row bytes = ap (text_of (words_of bytes) report_budget) (rows_enough (words_of bytes) report_budget)

-- what holds of the answer

pub rules : (ws : List ℕ) (budget : ℕ) → Rules ws budget (answer ws budget)
rules ws budget = record { accuracy = accuracy_theorem ws budget; marks_mean = mark_theorem ws budget }

pub row_rules : (ws : List ℕ) (budget : ℕ) → Rules ws budget (answer_with_rows ws budget report_rows)
row_rules ws budget = rw (rows_enough ws budget) (rules ws budget)

-- the words of the first `most_bytes` bytes have the answer to all of them, and its text
pub text_enough : (bytes : List ℕ) (budget : ℕ)
    → text_of (words_of bytes) budget (answer (words_of bytes) budget)
    ≡ text_of (words_of (take most_bytes bytes)) budget (answer (words_of (take most_bytes bytes)) budget)
unfolding marks_with
text_enough bytes budget = ap₂ answer_text (answer_enough bytes budget)
    (ap₂ (λ a r. marks_by a r) (read_enough bytes budget) (answer_enough bytes budget))

pub printed_enough : (bytes : List ℕ) (budget : ℕ)
    → text_of (words_of bytes) budget (answer_with_rows (words_of bytes) budget report_rows)
    ≡ text_of (words_of (take most_bytes bytes)) budget (answer_with_rows (words_of (take most_bytes bytes)) budget report_rows)
printed_enough bytes budget =
    ap (text_of (words_of bytes) budget) (rows_enough (words_of bytes) budget) ∙ text_enough bytes budget
    ∙ sym (ap (text_of (words_of (take most_bytes bytes)) budget) (rows_enough (words_of (take most_bytes bytes)) budget))
