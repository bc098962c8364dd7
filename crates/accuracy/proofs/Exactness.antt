-- Document 02, Item 2: "A digit 1 shall mean that the figure equals its exact sum", of the answer to every list of words and every budget, and of
-- that to a caller who lends rows. Assumes nothing.
use mathlib.Core.Path.{◌≡◌, sym, ◌∙◌, ap}
use mathlib.Core.Bool.{Bool}
use mathlib.Core.List.{List}
use Prim.Native.Nat.{ℕ}
use native.Mathlib.Omega.{arith}
use Rattle.word.specs.Model.{Net, Model}
use Rattle.word.specs.Answer.{Answer}
use Rattle.word.specs.Internal.Lists.{Each}
use Rattle.word.proofs.Members.{each_monotone}
use Rattle.model.specs.Reading.{read}
use Rattle.model.specs.Internal.Valid.{Valid}
use Rattle.model.proofs.ReadValid.{read_valid}
use Rattle.tree.specs.Tree.{Outcome, Visit, tree, paths, deaths, cuts, is_death, is_cut}
use Rattle.tree.specs.Report.{Report, report_of, report_on, answer}
use Rattle.tree.specs.Marks.{marks_of, marks_on, marks_with}
use Rattle.tree.proofs.Ended.{InTree, paths_in_tree}
use Rattle.tree.proofs.Answer.{answer_read, marks_granted}
use Rattle.tree.proofs.RowAnswers.{answer_by_rows}
use Rattle.accuracy.specs.Exactness.{Meant, MarkTheorem, RowMarkTheorem}
use Rattle.accuracy.proofs.TreePaths.{path_valid}
use Rattle.accuracy.proofs.Theorem.{walked_granted}
use Rattle.accuracy.proofs.UpperExact.{Short, upper_means}
use Rattle.accuracy.proofs.LowerExact.{lower_means}

module _ {m : Model} (valid : Valid m) where
  abbrev net : Net
  net = m.net

  abbrev visits : List Visit
  visits = tree net m.limits

  ended_short : (test : Outcome → Bool) → Each (Short valid) (paths test visits)
  ended_short test = each_monotone (InTree net m.limits test) (Short valid)
      (λ p h. record { steps = path_valid valid p h.formed.is_path; few = omega (arith, h.deep, valid.steps_high) })
      (paths test visits) (paths_in_tree net m.limits test)

  tree_meant : Meant net (deaths visits) (cuts visits) (report_on net visits) (marks_on net visits)
  unfolding report_on report_of marks_on marks_of
  tree_meant = record {
    lower_is = λ e. lower_means valid (deaths visits) (ended_short is_death) e;
    upper_is = λ e. upper_means valid (deaths visits) (cuts visits) (ended_short is_death) (ended_short is_cut) e;
  }

-- of any answer that is the report
report_meant : (ws : List ℕ) (budget : ℕ) (m : Model) (r : Report) (a : Answer Report) → read ws budget ≡ Answer.granted m
    → answer ws budget ≡ Answer.granted r → a ≡ Answer.granted r
    → Meant m.net (deaths (tree m.net m.limits)) (cuts (tree m.net m.limits)) r (marks_with ws budget a)
report_meant ws budget m r a e f g =
    let w = walked_granted budget m r (sym (answer_read ws budget m e) ∙ f) in
    let marks : marks_with ws budget a ≡ marks_on m.net (tree m.net m.limits) = ap (marks_with ws budget) g ∙ marks_granted ws budget m r e in
    rw (w.reports, marks) (tree_meant (read_valid ws budget m e))

pub mark_theorem : MarkTheorem
mark_theorem ws budget = record { meant = λ m r e f. report_meant ws budget m r (answer ws budget) e f f }

pub row_mark_theorem : RowMarkTheorem
row_mark_theorem ws budget lent = record { meant = λ m r e f. report_meant ws budget m r _ e (answer_by_rows ws budget lent f) f }
