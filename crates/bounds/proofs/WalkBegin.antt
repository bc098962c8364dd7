-- Before the walk: an accepted reading describes a valid model, and what is made of its first four words lets the table be filled and the walk
-- begin at the start. Assumes nothing.
use Prim.Native.Nat.{ℕ, ◌≤◌, ◌<◌}
use mathlib.Core.Path.{◌≡◌, refl, sym, ap, ap₂, ◌∙◌, subst}
use mathlib.Core.List.{List, []}
use native.Mathlib.Omega.{arith}
use native.Mathlib.Nat.{le_trans, add-zero, zero-add}
use lib.Dec.{lit≤}
use lib.ListN.{length, set, replicate}
use Rattle.figure.specs.declared.Figure.{Figure}
use Rattle.figure.specs.Operations.{of_whole}
use Rattle.std.specs.Prelude.{Option, None, Some, Result, Ok, Err}
use Rattle.word.specs.declared.Refusal.{Refusal}
use Rattle.word.specs.Model.{Model}
use Rattle.word.specs.Answer as answers
use Rattle.model.specs.declared.Accepted.{Accepted}
use Rattle.model.specs.declared.index.Index.{Index}
use Rattle.model.specs.Reading as reading
use Rattle.model.specs.Promise.{summary, Accepts, Refuses, Answers}
use Rattle.model.specs.Index.{Indexed}
use Rattle.model.specs.Internal.Valid.{Valid}
use Rattle.model.proofs.ReadValid.{read_valid}
use Rattle.model.proofs.Refusals.{read_reads, read_budget}
use Rattle.tree.specs.States.{figure_of, mission_time}
use Rattle.tree.specs.Tree.{tree, Visit}
use Rattle.tree.specs.Internal.Carried.{at_start}
use Rattle.tree.specs.Internal.Tally.{Kept, nothing_kept}
use Rattle.tree.proofs.Carried.{start_carries, carried_tree}
use Rattle.tables.specs.Internal.Described.{Indexes, described}
use Rattle.tables.specs.declared.table.Table.{Table}
use Rattle.bounds.specs.declared.walk.Task.{Task}
use Rattle.path.specs.declared.exits.Tip.{Tip}
use Rattle.path.specs.declared.counts.Counts.{Counts}
use Rattle.path.specs.Internal.Lent.{lent}
use Rattle.path.specs.Internal.Paths.{path_of}
use Rattle.path.specs.Internal.Counts.{no_counts}
use Rattle.rows.specs.declared.table.RowTable.{RowTable}
use Rattle.rows.specs.Internal.Table.{NoTotals}
use Rattle.rows.proofs.RowTotals.{empty_gathered}
use Rattle.bounds.specs.Internal.Walk.{Asked, asked, carried_in, carried_of, kept_of, visits_from, Ready, EndsWithin, NoRoom, WentBeyond, WalkedBeyond, WentOver, WalkedTree}

-- ---- an accepted reading

module _ {ws : List ℕ} {index : Index} {budget : ℕ} {r : Result Accepted Refusal} (answer : Answers ws budget index r) where
  pub accepts_of : {a : Accepted} → r ≡ Ok a → Accepts ws budget index a
  accepts_of e = subst (Answers ws budget index) e answer

  pub refuses_of : {f : Refusal} → r ≡ Err f → Refuses ws budget index f
  refuses_of e = subst (Answers ws budget index) e answer

module _ {ws : List ℕ} {index : Index} {budget : ℕ} {a : Accepted} (accepts : Accepts ws budget index a) where
  described_is : described ws ≡ accepts.model
  unfolding described
  described_is = rw (read_reads ws budget accepts.model accepts.reads) refl

  pub reads_described : reading.read ws budget ≡ answers.granted (described ws)
  reads_described = accepts.reads ∙ ap answers.granted (sym described_is)

  pub accepted_indexes : Indexes ws index
  accepted_indexes = record {
    valid = subst Valid (sym described_is) (read_valid ws budget accepts.model accepts.reads);
    indexed = subst (λ (x : Model). Indexed x ws index) (sym described_is) accepts.indexed;
  }

  pub accepted_summary : a ≡ summary (described ws)
  accepted_summary = accepts.fields ∙ ap summary (sym described_is)

  pub accepted_budget : budget ≤ 1000000
  accepted_budget = (read_budget ws budget accepts.model accepts.reads).1

-- counts that are each 0
pub none_counted : (c : Counts) → (c.deaths ≡ 0) × ((c.cuts ≡ 0) × (c.steps ≡ 0)) → c ≡ no_counts
none_counted c h = λ i. record { deaths = h.0 i; cuts = h.1.0 i; steps = h.1.1 i }

-- ---- what the first four words give

module _ {ws : List ℕ} {index : Index} (indexes : Indexes ws index) {a : Accepted} (is : a ≡ summary (described ws)) where
  abbrev m : Model
  m = described ws

  pub start_below : a.start < 1001
  start_below =
      let e : a.start ≡ m.net.start = ap (λ (x : Accepted). x.start) is in
      omega (arith, e, indexes.valid.start_high, indexes.valid.states_high)

  pub time_scale : a.time.scale ≤ 255
  time_scale = rw is (le_trans indexes.valid.time.scale (lit≤ tt))

  pub prune_scale : a.prune.scale ≤ 255
  prune_scale = rw is (le_trans indexes.valid.prune.scale (lit≤ tt))

  -- the mission time
  pub time_prepared : {time : Figure} → time ≡ figure_of a.time → time ≡ mission_time m.net
  time_prepared e = e ∙ ap (λ (x : Accepted). figure_of x.time) is

  -- the walk may begin at the start
  module _ {level u : Figure} (level_is : level ≡ figure_of a.prune) (one : u ≡ of_whole 1) (budget : ℕ) (few : budget ≤ 1000000) where
    abbrev task : Task
    task = record { level = level; entry_limit = a.entry_limit; budget = budget }

    abbrev tip : Tip
    tip = record { state = a.start; upper = u; ones = 0; len = 0 }

    abbrev entered : List ℕ
    entered = set (replicate 1001 0) a.start 1

    at_the_start : carried_of m.net [] tip entered ≡ at_start m.net
    unfolding at_start path_of
    at_the_start = rw (one, is) refl

    module _ {counts : Counts} (none_yet : counts ≡ no_counts) (rows : RowTable) (empty : NoTotals rows) where
      abbrev first : Asked
      first = asked task tip a.step_limit entered [] counts rows

      nothing_so_far : kept_of counts rows ≡ nothing_kept
      nothing_so_far = rw none_yet (λ i. record {
        totals = record {
          lower = empty.lower_is i;
          death_upper = empty.death_is i;
          cut_upper = empty.cut_is i;
          deaths = 0;
          cuts = 0;
          steps = 0;
        };
        rows = empty.rows_are i;
        marks = empty.marks_are i;
      })

      pub walk_ready : {table : Table} → Ready (lent ws index table) first
      walk_ready {table} = record {
        task_is = record {
          level_is = level_is ∙ ap (λ (x : Accepted). figure_of x.prune) is;
          entry_limit_is = ap (λ (x : Accepted). x.entry_limit) is;
          budget_high = few;
        };
        known = record { short = omega arith; inside = λ i d h. absurd (omega arith) };
        length_is = refl;
        carries = rw at_the_start (start_carries m.net (omega (arith, indexes.valid.start_high, indexes.valid.states_high)));
        state_low = rw is indexes.valid.start_low;
        state_high = rw is indexes.valid.start_high;
        depth = add-zero a.step_limit ∙ ap (λ (x : Accepted). x.step_limit) is;
        more = rw is indexes.valid.steps_low;
        counted = rw none_yet (record { counts = record { deaths = omega arith; cuts = omega arith }; totals = empty_gathered empty });
        within = rw none_yet (omega arith);
      }

      -- the visits from there are those of the tree
      whole : (table : Table) → visits_from (lent ws index table) a.step_limit (carried_in (lent ws index table) first) ≡ tree m.net m.limits
      whole table =
          ap₂ (visits_from (lent ws index table)) (ap (λ (x : Accepted). x.step_limit) is) at_the_start ∙ carried_tree m indexes.valid

      tree_over : (table : Table) → NoRoom (lent ws index table) first → budget < length (tree m.net m.limits)
      tree_over table past = omega (arith, past, ap (λ c. c.steps) none_yet, ap length (whole table))

      tree_within : (table : Table) (c : Counts) {path : List ℕ} (after : RowTable)
          → WentBeyond (lent ws index table) first c path after → WentOver ws budget c rows after
      unfolding path_of tree
      tree_within table c after went = record {
        ends = subst (λ (w : Kept). EndsWithin m.net budget w (tree m.net m.limits) c after) nothing_so_far
            (subst (λ (vs : List Visit). EndsWithin m.net budget (kept_of counts rows) vs c after) (whole table) went.ends);
        counted = went.counted;
        within = went.within;
        names_kept = went.names_kept;
        steps_are = went.steps_are ∙ rw (none_yet, is) (zero-add _);
      }

      -- and the walk from there is the one over the tree
      pub walk_tree : (table : Table) (r : Option Counts) (path : List ℕ) (after : RowTable)
          → WalkedBeyond (lent ws index table) first r path after → WalkedTree ws budget r rows after
      walk_tree table None _ _ past = tree_over table past
      walk_tree table (Some c) _ after went = tree_within table c after went
