-- One turn of the walk's loop: the exit is read, the path through it judged and noted. Assumes nothing.
use Prim.Native.Nat.{ℕ, ◌+◌, ◌-◌, ◌^◌, ◌≤◌, ◌<◌}
use mathlib.Core.Path.{◌≡◌, refl, sym, ap, ◌∙◌, subst}
use mathlib.Core.Bool.{Bool, true, false, ◌&&◌}
use mathlib.Core.Logic.{◌⊎◌, inl, inr}
use mathlib.Core.List.{List, [], ◌∷◌}
use native.Mathlib.Omega.{arith}
use native.Mathlib.Nat.{le_trans}
use lib.Dec.{lit≤}
use lib.ListN.{length, get_or, take, set}
use Rattle.std.proofs.Common.{◌++◌}
use Rattle.std.proofs.lemmas.List.{take-set, take_more_set}
use Rattle.std.specs.Prelude.{Option, Some, None}
use Rattle.figure.specs.declared.Figure.{Figure}
use Rattle.figure.specs.Rounding.{IsFigure}
use Rattle.figure.specs.Operands.{Sized}
use Rattle.figure.specs.Operations.{total_up, total_down}
use Rattle.figure.specs.Losses.{total_keeps}
use Rattle.figure.proofs.Sized.{sized-≤}
use Rattle.word.specs.Model.{Transition, Net, exits}
use Rattle.word.specs.Internal.Lists.{Each}
use Rattle.model.specs.Index.{no_transition, transition, slot, exits_of, exit_count}
use Rattle.model.specs.Internal.Valid.{ValidTransition, Valid}
use Rattle.model.proofs.Slots.{slot_below, slot_exit, slot_leaves}
use Rattle.tree.specs.Paths.{Path}
use Rattle.tree.specs.Lower.{lower}
use Rattle.tree.specs.Marks.{Marks, path_marks, upper_kept}
use Rattle.tree.specs.Tree.{Outcome, is_death, is_continued}
use Rattle.tree.proofs.Ranges.{any_upper_sized, prune_sized}
use Rattle.tree.specs.Internal.Tally.{with_step, with_cut, with_death, row_with_death, marks_with_death, marks_with_cut, noted}
use Rattle.tree.specs.Internal.Carried.{Carried, carry, outcome_next}
use Rattle.tree.proofs.Carried.{carry_upper}
use Rattle.tables.proofs.Classes.{step_valid}
use Rattle.path.specs.declared.outcome.Outcome.{Outcome as Coded}
use Rattle.path.specs.declared.outcome.Outcome.TheVariants.{GeneratorsState, EnteredTooOften, StepLimit, LowLevel}
use Rattle.path.specs.declared.counts.Counts.{Counts}
use Rattle.path.specs.declared.deaths.Cache.{Cache}
use Rattle.path.specs.declared.exits.Exit.{Exit}
use Rattle.path.specs.Internal.Lent.{Lent, Filled, model_in, net_in, limits_in}
use Rattle.path.specs.Internal.Paths.{path_of, Known}
use Rattle.path.specs.Internal.Counts.{Few, death_more, cut_more, step_more}
use Rattle.rows.specs.declared.table.RowTable.{RowTable}
use Rattle.rows.specs.Internal.Table.{cut_total, marks_in, MarksNoted, NamesKept, DeathNoted, CutNoted, TableGathered}
use Rattle.rows.proofs.RowTotals.{and_true, names_then, table_room, table_death, table_cut, marks_gathered}
use Rattle.path.specs.Internal.Outcomes.{outcome_of, named_end, judged}
use Rattle.path.specs.Internal.Exits.{tip_after, ExitOf}
use Rattle.path.specs.Internal.Deaths.{LastStep, Cached}
use Rattle.bounds.specs.Internal.Marks.{asked_marks}
use Rattle.bounds.specs.Internal.Walk.{Asked, carried_in, totals_of, kept_of, KeptCounted, Ready}
use Rattle.path.proofs.PathSums.{path_longer, known_more}
use Rattle.path.proofs.VisitNoted.{note_death, note_step, note_cut}
use Rattle.bounds.proofs.WalkLoop.{Held, AtExit, step_counted, state_small, Counted, leaving_more, exit_slot, room, path_short, steps_valid}

module _ (l : Lent) (a : Asked) (h : Held) (x : Exit) where
  -- exit i is there and was read, and the budget has room for a step
  pub record Turn : Type 0 where
    pub filled : Filled l
    pub ready : Ready l a
    pub kept : AtExit l a h
    pub more : h.i < exit_count l.index a.tip.state
    pub some : h.made.steps ≡ a.task.budget → ⊥
    pub exit : ExitOf l a.tip (slot l.index a.tip.state h.i) x

  -- the outcome that the path through it is judged to have
  abbrev pub judged_there : Outcome
  judged_there =
      let exits = exit_count l.index x.tip.state in
      judged (named_end l.index x.tip.state exits) exits (get_or h.entered x.tip.state 0) (a.left - 1) x.tip.upper a.task.level
      a.task.entry_limit

  -- the path up to the tip; with the exit, its lower and its marks
  abbrev pub path_before : Path
  path_before = path_of (net_in l) a.path

  abbrev pub path_there : Path
  path_there = transition (net_in l) x.index ∷ path_before

  abbrev pub lower_there : Figure
  lower_there = lower (net_in l) path_there

  abbrev pub marks_there : Marks
  marks_there = path_marks (net_in l) path_there

  -- the path through it was judged and noted
  pub record Visited (o : Coded) (after : Counts) (cache : Cache) (rows : RowTable) : Type 0 where
    pub turn : Turn
    pub judged_is : outcome_of o ≡ judged_there
    pub kept_is : kept_of after rows ≡ noted (kept_of h.made h.rows) (outcome_of o) x.tip.state lower_there x.tip.upper marks_there
    pub cached : Cached (net_in l) path_before a.tip.state cache
    pub counted : KeptCounted after rows
    pub names_kept : NamesKept h.rows rows

-- ---- what the walk's proof knows once the exit was read, and once it was judged

pub turn_of : {l : Lent} {a : Asked} {h : Held} {x : Exit} {leaving : List ℕ} (filled : Filled l) (ready : Ready l a) → AtExit l a h
    → leaving ≡ exits_of l.index a.tip.state → Counted filled ready (length leaving) → h.i < length leaving → (h.made.steps ≡ a.task.budget → ⊥)
    → ExitOf l a.tip (get_or leaving h.i 0) x → Turn l a h x
turn_of filled ready kept is counted below some exit =
    let more = leaving_more filled ready counted below in
    record { filled = filled; ready = ready; kept = kept; more = more; some = some; exit = rw (exit_slot filled ready more is) at exit }

pub judged_as : {l : Lent} {a : Asked} {h : Held} {x : Exit} {ends : Bool} {n : ℕ} (o : Coded) → Turn l a h x → ends ≡ named_end l.index x.tip.state n
    → n ≡ exit_count l.index x.tip.state
    → outcome_of o ≡ judged ends n (get_or h.entered x.tip.state 0) (a.left - 1) x.tip.upper a.task.level a.task.entry_limit
    → outcome_of o ≡ judged_there l a h x
judged_as _ _ ends exits is = rw (ends, exits) at is

-- the outcomes that cut a path
pub record IsCut (o : Coded) : Type 0 where
  pub alive : is_death (outcome_of o) ≡ false
  pub ends : is_continued (outcome_of o) ≡ false

pub is_cut : {o : Coded} → (o ≡ GeneratorsState) ⊎ (o ≡ EnteredTooOften) ⊎ (o ≡ StepLimit) ⊎ (o ≡ LowLevel) → IsCut o
is_cut (inl e) = rw e (record { alive = refl; ends = refl })
is_cut (inr (inl e)) = rw e (record { alive = refl; ends = refl })
is_cut (inr (inr (inl e))) = rw e (record { alive = refl; ends = refl })
is_cut (inr (inr (inr e))) = rw e (record { alive = refl; ends = refl })

-- ---- the exit

module _ {l : Lent} {a : Asked} {h : Held} {x : Exit} (w : Turn l a h x) where
  abbrev pub net : Net
  net = net_in l

  abbrev pub here : Carried
  here = carried_in l a

  abbrev pub valid : Valid (model_in l)
  valid = w.filled.indexes.valid

  -- the exit, by its place among the exits of its state
  abbrev pub exit : Transition
  exit = get_or (exits net a.tip.state) h.i no_transition

  abbrev pub next : Carried
  next = carry net exit here

  abbrev pub outcome_there : Outcome
  outcome_there = outcome_next net (limits_in l) (a.left - 1) exit here

  pub index_below : x.index < length net.table
  index_below =
      rw w.exit.index_is
      (slot_below (model_in l) l.words l.index valid w.filled.indexes.indexed a.tip.state h.i (state_small w.filled w.ready) w.more)

  pub exit_is : transition net x.index ≡ exit
  exit_is =
      ap (λ j. transition net j) w.exit.index_is
      ∙ slot_exit (model_in l) l.words l.index valid w.filled.indexes.indexed a.tip.state h.i (state_small w.filled w.ready) w.more

  leaves : (transition net x.index).from ≡ a.tip.state
  leaves =
      ap (λ j. (transition net j).from) w.exit.index_is
      ∙ slot_leaves (model_in l) l.words l.index valid w.filled.indexes.indexed a.tip.state h.i (state_small w.filled w.ready) w.more

  pub there : ValidTransition (model_in l).states exit
  there = subst (λ t. ValidTransition (model_in l).states t) exit_is (step_valid valid index_below)

  pub to_small : exit.to ≤ 1000
  to_small = omega (arith, there.to_high, valid.states_high)

  pub tip_is : x.tip ≡ tip_after net exit a.tip
  tip_is = w.exit.tip_is ∙ ap (λ t. tip_after net t a.tip) exit_is

  pub state_is : x.tip.state ≡ exit.to
  unfolding tip_after
  state_is = ap (λ r. r.state) tip_is

  pub upper_is : x.tip.upper ≡ next.upper
  unfolding tip_after carry
  upper_is = ap (λ r. r.upper) tip_is

  pub len_is : x.tip.len ≡ a.tip.len + 1
  unfolding tip_after
  len_is = ap (λ r. r.len) tip_is

  pub there_small : x.tip.state ≤ 1000
  there_small = omega (arith, state_is, to_small)

  upper_sized : Sized 9 14000 x.tip.upper
  unfolding Each
  upper_sized =
      rw (upper_is ∙ carry_upper net exit here to_small w.ready.carries)
      (any_upper_sized valid (exit ∷ path_before l a h x) (path_short w.filled w.ready) (there.manner, steps_valid w.filled w.ready))

  pub judge_figures : IsFigure 9 x.tip.upper × IsFigure 9 a.task.level
  judge_figures = (upper_sized.is_figure, rw w.ready.task_is.level_is (prune_sized valid).is_figure)

  -- the exit is written behind the path, which stays as it was
  abbrev pub written : List ℕ
  written = set h.taken a.tip.len x.index

  long : a.tip.len < length h.taken
  long = omega (arith, room w.filled w.ready, w.kept.size)

  pub before_is : take a.tip.len written ≡ a.path
  before_is = take-set h.taken a.tip.len x.index ∙ w.kept.same

  pub whole_is : take (a.tip.len + 1) written ≡ a.path ++ x.index ∷ []
  whole_is = take_more_set h.taken a.tip.len x.index long ∙ ap (λ p. p ++ x.index ∷ []) w.kept.same

  pub whole_path : path_of net (take (a.tip.len + 1) written) ≡ path_there l a h x
  whole_path = ap (path_of net) whole_is ∙ path_longer net a.path x.index

  pub whole_known : Known net (take (a.tip.len + 1) written)
  whole_known = rw whole_is (known_more (omega (arith, w.ready.length_is, room w.filled w.ready)) index_below w.ready.known)

  -- the path through it is noted in the marks, as a death of this lower or as a cut
  abbrev pub MarkedThere : Option Figure → RowTable → Type 0
  MarkedThere low rows = MarksNoted (asked_marks low net (path_there l a h x) x.tip.upper h.rows) h.rows rows

  -- what the walk notes in the marks of the path as it is written, it notes of this path
  pub mark_there : (low : Option Figure) {rows : RowTable}
      → MarksNoted (asked_marks low net (path_of net (take (a.tip.len + 1) written)) x.tip.upper h.rows) h.rows rows → MarkedThere low rows
  mark_there low {rows} m = subst (λ p. MarksNoted (asked_marks low net p x.tip.upper h.rows) h.rows rows) whole_path m

  pub before_known : Known net (take a.tip.len written)
  before_known = rw before_is w.ready.known

  pub last_step : LastStep l (take a.tip.len written) a.tip x
  last_step = rw before_is (record {
    room = omega (arith, w.ready.length_is, room w.filled w.ready);
    ones_are = w.ready.carries.ones;
    index = index_below;
    class_is = w.exit.class_is;
    leaves = sym leaves;
  })

  some_left : h.made.steps < 1000000
  some_left = omega (arith, w.kept.going.within, w.some, w.ready.task_is.budget_high)

  upper_fits : Sized 9 35000 x.tip.upper
  upper_fits = sized-≤ (lit≤ tt) upper_sized

  -- an ended path may be counted, and added to the totals
  pub count_figures : Few h.made × (h.made.steps < 1000000)
  count_figures = (w.kept.counted.counts, some_left)

  pub note_figures : TableGathered 999999 h.rows × Sized 9 35000 x.tip.upper
  note_figures = (table_room w.kept.counted.totals some_left, upper_fits)

  terms : h.made.steps < 10 ^ 9
  terms = le_trans some_left (lit≤ tt)

  -- ---- the path through it is noted

  module _ (o : Coded) (is : outcome_of o ≡ judged_there l a h x) {after : Counts} where
    -- as a death, of the lower f
    pub death_noted : is_death (outcome_of o) ≡ true → {f : Figure} → Sized 9 35000 f → f ≡ lower_there l a h x → after ≡ death_more h.made
        → {mid rows : RowTable} → MarkedThere (Some f) mid → DeathNoted x.tip.state f x.tip.upper mid rows
        → {cache : Cache} → Cached net (path_before l a h x) a.tip.state cache → Visited l a h x o after cache rows
    unfolding with_death marks_with_death
    death_noted on {f} low f-is more {mid} {rows} m k cached = record {
      turn = w;
      judged_is = is;
      kept_is = note_death _ _ _ _ _ _ same (k.rows_are ∙ ap (λ r. row_with_death r x.tip.state f x.tip.upper) m.rows_same)
          (k.marks_same ∙ m.marks_are) f-is on;
      cached = cached;
      counted = rw more (record {
        counts = record { deaths = omega (arith, w.kept.counted.counts.deaths); cuts = omega (arith, w.kept.counted.counts.cuts) };
        totals = table_death (marks_gathered m w.kept.counted.totals) terms upper_fits low k;
      });
      names_kept = names_then m.names_kept k.names_kept;
    }
      where
        same : totals_of after rows ≡ with_death (totals_of h.made h.rows) f x.tip.upper
        same = rw more (λ i. record {
          lower = (k.lower_is ∙ ap (λ t. total_down t f) m.lower_same) i;
          death_upper = (k.death_is ∙ ap (λ t. total_up t x.tip.upper) m.death_same) i;
          cut_upper = (k.cut_same ∙ m.cut_same) i;
          deaths = h.made.deaths + 1;
          cuts = h.made.cuts;
          steps = h.made.steps + 1;
        })

    -- as a step that ends no path
    pub step_noted : is_continued (outcome_of o) ≡ true → after ≡ step_more h.made → Visited l a h x o after h.cache h.rows
    unfolding with_step
    step_noted on more = record {
      turn = w;
      judged_is = is;
      kept_is = note_step _ _ _ _ _ _ (ap (λ c. totals_of c h.rows) more) refl refl on;
      cached = w.kept.cached;
      counted = step_counted more w.kept.counted;
      names_kept = record { count_same = refl; states_same = refl };
    }

    -- as a cut
    pub cut_noted : is_death (outcome_of o) ≡ false → is_continued (outcome_of o) ≡ false → after ≡ cut_more h.made
        → {mid rows : RowTable} → MarkedThere None mid → CutNoted x.tip.upper mid rows → Visited l a h x o after h.cache rows
    unfolding with_cut marks_with_cut
    cut_noted off ended more {mid} {rows} m k = record {
      turn = w;
      judged_is = is;
      kept_is = note_cut _ _ _ _ _ _ same (k.rows_same ∙ m.rows_same) (k.marks_same ∙ m.marks_are ∙ kept_lower) off ended;
      cached = w.kept.cached;
      counted = rw more (record {
        counts = record { deaths = omega (arith, w.kept.counted.counts.deaths); cuts = omega (arith, w.kept.counted.counts.cuts) };
        totals = table_cut (marks_gathered m w.kept.counted.totals) terms upper_fits k;
      });
      names_kept = names_then m.names_kept k.names_kept;
    }
      where
        -- the lower does not rest on a cut
        with_lower : Bool → Marks
        with_lower b =
            record { lower = b; upper = (marks_in h.rows).upper && (upper_kept net (path_there l a h x) && total_keeps (cut_total h.rows) x.tip.upper) }

        kept_lower : with_lower ((marks_in h.rows).lower && true) ≡ with_lower (marks_in h.rows).lower
        kept_lower = ap with_lower (and_true (marks_in h.rows).lower)

        same : totals_of after rows ≡ with_cut (totals_of h.made h.rows) x.tip.upper
        same = rw more (λ i. record {
          lower = (k.lower_same ∙ m.lower_same) i;
          death_upper = (k.death_same ∙ m.death_same) i;
          cut_upper = (k.cut_is ∙ ap (λ t. total_up t x.tip.upper) m.cut_same) i;
          deaths = h.made.deaths;
          cuts = h.made.cuts + 1;
          steps = h.made.steps + 1;
        })
