-- From what the entry points promise to what the exported functions do. Assumes nothing.
use Prim.Native.Nat.{ℕ}
use mathlib.Core.Path.{ap, ap₂, subst, ◌∙◌}
use Rattle.std.specs.Prelude.{Result}
use Rattle.word.specs.declared.Refusal.{Refusal}
use mathlib.Core.List.{List}
use lib.IntN.{ℤ}
use Rattle.tree.specs.declared.Row.{Row}
use Rattle.accuracy.specs.Rule.{AccuracyRule}
use Rattle.accuracy.specs.RowRule.{RowRule}
use Rattle.bounds.specs.declared.Report.{Report}
use Rattle.bounds.specs.Answers.{Promised}
use Rattle.bounds.specs.Rows.{PromisedRows}
use Rattle.embed.specs.Exports.{numbers_of, powers_of, AnswerPut, Assessed, AssessedRows}

-- the numbers of the answer that the code has are those of the definition's
pub assessed : {before after : List ℕ} {budget number : ℕ} {numbers : List ℕ} {powers : List ℤ} (a : Result Report Refusal) → Promised before after budget a
    → AnswerPut a number numbers powers → Assessed before after budget number numbers powers
assessed {before} {budget = n} a p h =
    record {
      number_is = h.number_is ∙ ap (λ v. v.number) p.values_are;
      numbers_are = h.numbers_are ∙ ap₂ numbers_of p.values_are p.marks_are;
      powers_are = h.powers_are ∙ ap powers_of p.values_are;
      accuracy = subst (AccuracyRule before n) p.answer_is p.accuracy;
      marks_mean = rw (p.answer_is, p.marks_are) at p.marks_mean;
      words_unchanged = p.words_unchanged;
    }

pub assessed_rows : (before after : List ℕ) (budget : ℕ) (given left : List Row) (a : Result Report Refusal) (number : ℕ) (numbers : List ℕ) (powers : List ℤ)
    → PromisedRows before after budget given left a → AnswerPut a number numbers powers
    → AssessedRows before after budget given left number numbers powers
assessed_rows before after budget given left a number numbers powers p h =
    record {
      number_is = h.number_is ∙ ap (λ v. v.number) p.values_are;
      numbers_are = h.numbers_are ∙ ap₂ numbers_of p.values_are p.marks_are;
      powers_are = h.powers_are ∙ ap powers_of p.values_are;
      rows_are = p.rows_are;
      accuracy = subst (AccuracyRule before budget) p.answer_is p.accuracy;
      rows_accurate = subst (λ x. RowRule before budget x given left) p.answer_is p.rows_accurate;
      marks_mean = rw (p.answer_is, p.marks_are) at p.marks_mean;
      words_unchanged = p.words_unchanged;
    }
