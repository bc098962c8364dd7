-- The answer to a caller who lends rows, and the table of the rows to be filled, as they come about: a refusal before the walk, 13, or a report.
-- Assumes nothing.
use Prim.Native.Nat.{ℕ, ◌+◌, ◌≤◌, ◌<◌}
use mathlib.Core.Path.{◌≡◌, refl, sym, ap, ap₂, ◌∙◌, subst}
use mathlib.Core.List.{List, map}
use native.Mathlib.Omega.{arith}
use native.Mathlib.Nat.{le_trans}
use lib.Dec.{lit≤}
use lib.ListN.{length, get_or, take}
use lib.Seq.{get_or-take}
use borrow.Author.Tests.{ltb-false}
use Rattle.std.specs.Prelude.{Ok, Err}
use Rattle.figure.specs.Rounding.{none}
use Rattle.figure.specs.Operands.{Operand}
use Rattle.figure.specs.Operations.{to_nine_down, sum_to_nine_up}
use Rattle.word.specs.declared.Refusal.{Refusal}
use Rattle.word.specs.declared.Refusal.TheVariants.{TooFewRows, OverBudget}
use Rattle.word.specs.Refusal.{number, place}
use Rattle.word.specs.Model.{Model}
use Rattle.word.specs.Answer as answers
use Rattle.word.proofs.Members.{each_lookup, each_of_members}
use Rattle.model.specs.Reading as reading
use Rattle.model.proofs.ReadValid.{read_valid}
use Rattle.tree.specs.Tree.{tree}
use Rattle.tree.specs.declared.Row.{Row}
use Rattle.tree.specs.Rows.{row_states, row_on, zero_row}
use Rattle.tree.specs.Internal.Tally as running
use Rattle.tree.specs.Internal.Tally.{finish_row, zero_row_totals, nothing_kept, tally}
use Rattle.tree.proofs.Computing.{computing}
use Rattle.tree.proofs.Tally.{tally_finish_row}
use Rattle.tree.proofs.Ranges.{total_none, total_operand}
use Rattle.tree.specs.Marks.{marks_with}
use Rattle.tree.proofs.Answer.{walked_over, walk_reported, walk_marks, marks_refused, marks_granted}
use Rattle.tree.proofs.RowStates.{row_states_few, row_states_range}
use Rattle.tree.proofs.RowAnswers.{RowsRefused, rows_read_refused, rows_read_few, rows_read_granted, rows_of_over, rows_of_within}
use Rattle.path.specs.declared.counts.Counts.{Counts}
use Rattle.rows.specs.declared.table.RowTable.{RowTable}
use Rattle.rows.specs.Internal.Table.{named_states, totals_in, NamesKept, TableGathered, Empty}
use Rattle.rows.specs.Internal.Filling.{row_of, rows_in, Fits}
use Rattle.rows.specs.Internal.Names.{Named}
use Rattle.bounds.specs.declared.Report.{Report}
use Rattle.bounds.specs.Answers.{report_of, marks_of}
use Rattle.bounds.specs.Internal.Measured.{Measured}
use Rattle.bounds.specs.Internal.Walk.{totals_of, kept_of, EndsWithin}

-- ---- no rows

module _ (ws : List ℕ) (budget lent : ℕ) {table : RowTable} (empty : Empty table) where
  -- a refusal before the walk
  none_filled : (f : Refusal) → RowsRefused ws budget lent (number f) (place f) → Measured ws ws budget lent table (Err f)
  none_filled f h = record {
    answer_is = sym h.answers;
    marks_are = sym (ap (marks_with ws budget) h.answers ∙ marks_refused ws budget (number f) (place f));
    has = ap (λ n. map (row_of table) (take n table.states)) empty.no_rows ∙ sym h.fills;
    fits = record {
      few = omega (arith, empty.no_rows);
      room = omega (arith, empty.no_rows);
      rows = λ i low. absurd (omega (arith, low, empty.no_rows));
    };
    words_unchanged = refl;
  }

  pub measured_refused : (f : Refusal) → reading.read ws budget ≡ answers.refused (number f) (place f) → Measured ws ws budget lent table (Err f)
  measured_refused f e = none_filled f (rows_read_refused ws budget lent e)

  pub measured_few : {m : Model} {n : ℕ} → reading.read ws budget ≡ answers.granted m → n ≡ length (row_states m) → lent < n
      → Measured ws ws budget lent table (Err (TooFewRows n))
  measured_few {m} {n} e is h =
      none_filled (TooFewRows n) (subst (λ (k : ℕ). RowsRefused ws budget lent 14 k) (sym is) (rows_read_few ws budget lent e (omega (arith, is, h))))

-- ---- the rows of a model

none_nine : to_nine_down none ≡ none
unfolding computing
none_nine = refl

none_sum : sum_to_nine_up none none ≡ none
unfolding computing
none_sum = refl

module _ (m : Model) (high : m.states ≤ 1000) where
  few_rows : length (row_states m) ≤ 1000
  few_rows = omega (arith, row_states_few m, high)

  state_low : (i : ℕ) → i < length (row_states m) → get_or (row_states m) i 0 ≤ 1000
  state_low i h =
      let each = each_of_members (λ (s : ℕ). s ≤ m.states) (row_states m) (λ s k. (row_states_range m k).1) in
      le_trans (each_lookup (λ (s : ℕ). s ≤ m.states) (row_states m) i 0 each h) high

  -- a table that names them, as it is or after the walk
  module _ {table after : RowTable} (named : Named m table) (names : NamesKept table after) where
    count_there : after.count ≡ length (row_states m)
    count_there = names.count_same ∙ named.count_is

    states_there : named_states after ≡ row_states m
    states_there = ap₂ take names.count_same names.states_same ∙ named.states_are

    state_there : (i : ℕ) → i < length (row_states m) → get_or after.states i 0 ≡ get_or (row_states m) i 0
    state_there i h =
        sym (get_or-take after.count after.states i 0 (omega (arith, count_there, h))) ∙ ap (λ (l : List ℕ). get_or l i 0) states_there

    fits_there : {lent : ℕ} → length (row_states m) ≤ lent → ((s : ℕ) → Operand 18 (totals_in after s).lower × Operand 18 (totals_in after s).upper) → Fits after lent
    fits_there {lent} enough fine = record {
      few = omega (arith, count_there, few_rows);
      room = omega (arith, count_there);
      rows = λ i h.
          let low : i < length (row_states m) = omega (arith, count_there, h) in
          record {
            state_small = rw (state_there i low) (state_low i low);
            lower = (fine (get_or after.states i 0)).0;
            upper = (fine (get_or after.states i 0)).1;
          };
    }

    -- where the row of each state is what f makes of it
    has_there : (f : ℕ → Row) → ((s : ℕ) → finish_row s (totals_in after s) ≡ f s) → rows_in after ≡ map f (row_states m)
    unfolding row_of
    has_there f each = ap₂ map (λ i s. each s i) states_there

module _ (ws : List ℕ) (budget lent : ℕ) {m : Model} (read : reading.read ws budget ≡ answers.granted m)
    (enough : length (row_states m) ≤ lent) where
  high : m.states ≤ 1000
  high = (read_valid ws budget m read).states_high

  -- the tree has more steps than the budget, and the rows were named anew
  pub measured_over : {table : RowTable} → Named m table → budget < length (tree m.net m.limits) → Measured ws ws budget lent table (Err OverBudget)
  unfolding finish_row
  measured_over {table} named more =
      let granted = rows_read_granted ws budget lent read enough in
      let refused = granted.answers ∙ walked_over budget m more in
      let kept : NamesKept table table = record { count_same = refl; states_same = refl } in
      record {
        answer_is = sym refused;
        marks_are = sym (ap (marks_with ws budget) refused ∙ marks_refused ws budget 13 0);
        has = has_there m high named kept zero_row (zero_there named) ∙ sym (granted.fills ∙ rows_of_over budget m more);
        fits = fits_there m high named kept enough
            (λ s. rw named.no_totals.rows_are (total_operand total_none (lit≤ tt), total_operand total_none (lit≤ tt)));
        words_unchanged = refl;
      }
    where
      zero_there : Named m table → (s : ℕ) → finish_row s (totals_in table s) ≡ zero_row s
      zero_there named s = rw named.no_totals.rows_are (λ i. record { state = s; lower = none_nine i; upper = none_sum i })

  -- a report
  pub measured_report : {c : Counts} {table : RowTable} (after : RowTable) → EndsWithin m.net budget nothing_kept (tree m.net m.limits) c after
      → Named m table → NamesKept table after → TableGathered 1000000 after
      → (q : Report) → report_of q ≡ running.finish (totals_of c after) → marks_of q ≡ running.finish_marks (kept_of c after)
      → Measured ws ws budget lent after (Ok q)
  measured_report after ends named names gathered q is marks =
      let granted = rows_read_granted ws budget lent read enough in
      let reported = granted.answers ∙ walk_reported budget m _ _ ends refl in
      let less : length (tree m.net m.limits) ≤ budget = omega (arith, ltb-false budget (0 + length (tree m.net m.limits)) (sym ends.over_is)) in
      record {
        answer_is = ap answers.granted is ∙ sym reported;
        marks_are = marks ∙ walk_marks budget m _ _ ends refl ∙ sym (ap (marks_with ws budget) reported ∙ marks_granted ws budget m _ read);
        has = has_there m high named names (row_on m.net (tree m.net m.limits)) row_there ∙ sym (granted.fills ∙ rows_of_within budget m less);
        fits = fits_there m high named names enough
            (λ s. let g = gathered.each_row s in (total_operand g.lower (lit≤ tt), total_operand g.upper (lit≤ tt)));
        words_unchanged = refl;
      }
    where
      row_there : (s : ℕ) → finish_row s (totals_in after s) ≡ row_on m.net (tree m.net m.limits) s
      row_there s =
          ap (λ k. finish_row s (k.rows s)) (ends.totals_are refl) ∙ tally_finish_row m.net (tree m.net m.limits) s
