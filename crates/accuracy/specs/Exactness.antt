-- Document 02, Item 2: "A digit 1 shall mean that the figure equals its exact sum." Nothing is said of a digit 0. Assumes nothing: these are
-- definitions.
use Rattle.std.specs.Prelude.{ℕ, ◌≡◌, true, List}
use Rattle.fraction.specs.Fraction.{◌≈ᶠ◌}
use Rattle.figure.specs.Rounding.{value}
use Rattle.word.specs.Model.{Net, Model}
use Rattle.word.specs.Answer.{Answer}
use Rattle.model.specs.Reading.{read}
use Rattle.tree.specs.Paths.{Path}
use Rattle.tree.specs.Tree.{tree, deaths, cuts}
use Rattle.tree.specs.Report.{Report, answer}
use Rattle.tree.specs.Rows.{answer_with_rows}
use Rattle.tree.specs.Marks.{Marks, marks_with}
use Rattle.accuracy.specs.Rule.{exact_upper_sum, exact_lower_sum}

-- For a list of death paths, a list of cut paths, a report and its marks: the lower sum runs over deaths, the upper sum over deaths and cuts.
pub record Meant (net : Net) (ds cs : List Path) (r : Report) (k : Marks) : Type 0 where
  pub lower_is : k.lower ≡ true → value r.lower ≈ᶠ exact_lower_sum net ds
  pub upper_is : k.upper ≡ true → value r.upper ≈ᶠ exact_upper_sum net ds cs

-- Of an answer to a list of words and a budget, and its marks: where the words are accepted and the answer is a report, the marks mean that, for the
-- paths of the model's cut tree.
pub record MarkRule (ws : List ℕ) (budget : ℕ) (a : Answer Report) (k : Marks) : Type 0 where
  pub meant : (m : Model) (r : Report) → read ws budget ≡ Answer.granted m → a ≡ Answer.granted r
      → Meant m.net (deaths (tree m.net m.limits)) (cuts (tree m.net m.limits)) r k

-- It holds of the answer to every list of words and every budget,
abbrev pub MarkTheorem : Type 0
MarkTheorem = (ws : List ℕ) (budget : ℕ) → MarkRule ws budget (answer ws budget) (marks_with ws budget (answer ws budget))

-- and of that to a caller who lends any number of rows.
abbrev pub RowMarkTheorem : Type 0
RowMarkTheorem = (ws : List ℕ) (budget lent : ℕ)
    → MarkRule ws budget (answer_with_rows ws budget lent) (marks_with ws budget (answer_with_rows ws budget lent))
