-- From the answer and the table of rows to all that the entry point that is lent rows promises. Assumes nothing.
use Prim.Native.Nat.{ℕ}
use mathlib.Core.Path.{◌≡◌, sym, ap, ◌∙◌}
use mathlib.Core.List.{List}
use lib.ListN.{length, get_or}
use Rattle.std.specs.Prelude.{Result}
use Rattle.word.specs.declared.Refusal.{Refusal}
use Rattle.tree.specs.declared.Row.{Row}
use Rattle.tree.specs.Report as definition
use Rattle.tree.specs.Rows.{answer_with_rows, laid_over, rows_after}
use Rattle.tree.proofs.RowAnswers.{answer_by_rows, few_by_rows, rows_read_few}
use Rattle.tree.proofs.RowTables.{rows_refused_over, rows_over_refused, rows_after_length, rows_after_beyond, rows_after_unchanged, rows_after_zero}
use Rattle.tree.specs.Marks.{marks_with}
use Rattle.accuracy.specs.RowRule.{RowRule}
use Rattle.accuracy.proofs.Theorem.{accuracy_theorem}
use Rattle.accuracy.proofs.Rows.{row_theorem}
use Rattle.accuracy.proofs.Exactness.{row_mark_theorem}
use Rattle.rows.specs.declared.table.RowTable.{RowTable}
use Rattle.rows.specs.Internal.Filling.{rows_in}
use Rattle.bounds.proofs.Faithful.{faithful}
use Rattle.bounds.specs.declared.Report.{Report}
use Rattle.bounds.specs.Answers.{answer_of, marks_of_answer}
use Rattle.bounds.specs.Rows.{PromisedRows}
use Rattle.bounds.specs.Internal.Measured.{Measured}

module _ (ws : List ℕ) (budget : ℕ) (given left : List Row) (r : Result Report Refusal) (is : answer_of r ≡ answer_with_rows ws budget (length given))
    (rows : left ≡ rows_after ws budget given) (marks : marks_of_answer r ≡ marks_with ws budget (answer_with_rows ws budget (length given))) where
  promised : (after : List ℕ) → after ≡ ws → PromisedRows ws after budget given left r
  promised after kept = record {
    answer_is = is;
    values_are = ap definition.values is;
    rows_are = rows;
    rows_beyond = λ m read i d h. ap (λ l. get_or l i d) rows ∙ rows_after_beyond ws budget given m read i d h;
    rows_number = ap length rows ∙ rows_after_length ws budget given;
    rows_unchanged = λ n p e other. rows ∙ rows_after_unchanged ws budget given n p (sym is ∙ e) other;
    rows_zero = λ m read e. rows ∙ rows_after_zero ws budget given m read (sym is ∙ e);
    refused_few = λ m read h. is ∙ (rows_read_few ws budget (length given) read h).answers;
    few_refused = λ m p read e. few_by_rows ws budget (length given) p m read (sym is ∙ e);
    refused_over = λ m read h. is ∙ rows_refused_over ws budget (length given) m read h;
    over_refused = λ m read e. rows_over_refused ws budget (length given) m read (sym is ∙ e);
    accuracy = record { accurate = λ m q read e. (accuracy_theorem ws budget).accurate m q read (answer_by_rows ws budget (length given) (sym is ∙ e)) };
    rows_accurate = row_rule;
    marks_are = marks;
    marks_mean = rw (is, marks) (row_mark_theorem ws budget (length given));
    words_unchanged = kept;
    faithful = faithful;
  }
    where
      row_rule : RowRule ws budget (answer_of r) given left
      row_rule = rw (is, rows) (row_theorem ws budget given)

-- the table's rows are laid over the caller's
pub promise_rows : (before after : List ℕ) (budget : ℕ) (given left : List Row) (r : Result Report Refusal) (table : RowTable)
    → Measured before after budget (length given) table r → left ≡ laid_over (rows_in table) given
    → PromisedRows before after budget given left r
unfolding rows_after
promise_rows before after budget given left r table h e =
    promised before budget given left r h.answer_is (e ∙ ap (λ rows. laid_over rows given) h.has) h.marks_are after h.words_unchanged
