-- The accuracy rule of each row: the rule over any lists of a tree's ended paths, at the death paths that end in the row's state and no cut path.
-- Assumes nothing.
use mathlib.Core.Path.{◌≡◌, refl, sym, ◌∙◌, subst}
use mathlib.Core.Bool.{Bool}
use mathlib.Core.List.{List, []}
use Prim.Native.Nat.{ℕ, ◌≤◌, ◌<◌}
use native.Mathlib.Omega.{arith}
use lib.Dec.{eqb, lit≤}
use lib.ListN.{length, get_or}
use Rattle.fraction.specs.Fraction.{whole, ten, ◌*ᶠ◌}
use Rattle.figure.specs.Rounding.{none, value, up}
use Rattle.figure.specs.Operations.{to_nine_up}
use Rattle.word.specs.Model.{Net, Model, only}
use Rattle.word.specs.Answer.{Answer}
use Rattle.word.specs.Internal.Lists.{Each}
use Rattle.word.proofs.Members.{each_only, only_length}
use Rattle.model.specs.Internal.Valid.{Valid}
use Rattle.model.proofs.Refusals.{read_granted}
use Rattle.model.proofs.ReadValid.{read_valid}
use Rattle.tree.specs.Paths.{Path, last_state}
use Rattle.tree.specs.Tree.{Visit, is_death, tree, deaths}
use Rattle.tree.specs.Report.{Report, upper_total, report_of}
use Rattle.tree.specs.Rows.{row_states, ending_in, row_on, zero_row, read_with_rows, answer_with_rows, rows_after}
use Rattle.tree.proofs.Ended.{ended_at_most}
use Rattle.tree.proofs.RowAnswers.{rows_granted_by, rows_granted_read, walked_reports}
use Rattle.tree.proofs.RowTables.{rows_after_row}
use Rattle.accuracy.specs.Rule.{Accurate}
use Rattle.accuracy.specs.RowRule.{report_of_row, RowTheorem}
use Rattle.accuracy.proofs.TreePaths.{Good, ended_good, paths_accurate}

-- the cut figure of no cut path
no_cut : (net : Net) (ds : List Path) → (report_of net ds [] 0).cut ≡ none
unfolding report_of upper_total to_nine_up up value ◌*ᶠ◌ whole ten
no_cut net ds = refl

module _ {m : Model} (valid : Valid m) where
  abbrev net : Net
  net = m.net

  abbrev visits : List Visit
  visits = tree net m.limits

  pub row_accurate : (s : ℕ) → length visits ≤ 1000000 → Accurate net (ending_in net s (deaths visits)) [] (report_of_row (row_on net visits s))
  unfolding ending_in row_on Each
  row_accurate s few =
      let a = paths_accurate valid ds [] 0 (each_only test (Good valid) (deaths visits) (ended_good valid is_death)) tt
      (omega (arith, only_length test (deaths visits), ended_at_most visits)) (lit≤ tt) in
      record {
        upper_from = a.upper_from;
        upper_to = a.upper_to;
        lower_from = a.lower_from;
        lower_to = a.lower_to;
        cut_from = rw (no_cut net ds) at a.cut_from;
        cut_to = rw (no_cut net ds) at a.cut_to;
      }
    where
      test : Path → Bool
      test p = eqb (last_state net p) s

      ds : List Path
      ds = only test (deaths visits)

pub row_theorem : RowTheorem
row_theorem ws budget before = record { accurate = accurate }
  where
    accurate : (m : Model) (r : Report) → read_with_rows ws budget (length before) ≡ Answer.granted m
        → answer_with_rows ws budget (length before) ≡ Answer.granted r → (i : ℕ) → i < length (row_states m)
        → Accurate m.net (ending_in m.net (get_or (row_states m) i 0) (deaths (tree m.net m.limits))) []
        (report_of_row (get_or (rows_after ws budget before) i (zero_row 0)))
    accurate m r e f i small =
        let reads = (rows_granted_read ws budget (length before) e).0 in
        let within = walked_reports budget m r (sym (rows_granted_by ws budget (length before) e).answers ∙ f) in
        let high = (read_granted ws budget m reads).budget_high in
        let s = get_or (row_states m) i 0 in
        subst (λ x. Accurate m.net (ending_in m.net s (deaths (tree m.net m.limits))) [] (report_of_row x))
        (sym (rows_after_row ws budget before m e within i (zero_row 0) small))
        (row_accurate (read_valid ws budget m reads) s (omega (arith, within, high)))
