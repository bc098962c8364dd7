-- What the walk's loop keeps at each exit of a state: it begins, it ends after the last exit or where the budget is used up, and each exit may be read.
-- Assumes nothing.
use Prim.Native.Nat.{ℕ, suc, ◌+◌, ◌-◌, ◌≤◌, ◌<◌}
use mathlib.Core.Path.{◌≡◌, refl, sym, ap, ◌∙◌, subst}
use mathlib.Core.Bool.{Bool, true, false}
use mathlib.Core.List.{List}
use native.Mathlib.Omega.{arith}
use lib.Dec.{lit≤}
use lib.ListN.{length, get_or, take}
use lib.Seq.{get_or-take}
use borrow.Author.Tests.{ltb-true}
use Rattle.figure.proofs.Sized.{sized-≤}
use Rattle.word.specs.Model.{exits}
use Rattle.model.specs.Internal.Valid.{Valid}
use Rattle.model.specs.Index.{exits_at, exits_of, slot, exit_count}
use Rattle.model.proofs.Slots.{slot_below, slot_leaves, counts_few}
use Rattle.tree.proofs.Positive.{ValidSteps}
use Rattle.tree.proofs.Ranges.{any_upper_sized, class1_count-≤}
use Rattle.tree.specs.Internal.Carried.{Carried}
use Rattle.tree.proofs.Tally.{tally_steps}
use Rattle.tree.proofs.Carried.{rest, carried_is, valid_known}
use Rattle.tree.specs.Internal.Tally.{Kept}
use Rattle.tree.specs.Internal.Going.{Walked}
use Rattle.tree.proofs.Going.{Going, exits_start, exits_end, exit_over}
use Rattle.path.specs.declared.counts.Counts.{Counts}
use Rattle.path.specs.declared.deaths.Cache.{Cache}
use Rattle.path.specs.Internal.Lent.{Lent, Filled, model_in, net_in, limits_in}
use Rattle.path.specs.Internal.Paths.{path_of}
use Rattle.path.specs.Internal.Counts.{step_more}
use Rattle.rows.specs.declared.table.RowTable.{RowTable}
use Rattle.rows.specs.Internal.Table.{NamesKept}
use Rattle.rows.proofs.RowTotals.{table_step}
use Rattle.path.specs.Internal.Exits.{ExitReady}
use Rattle.path.specs.Internal.Deaths.{Cached}
use Rattle.bounds.specs.Internal.Walk.{Asked, carried_in, kept_of, KeptCounted, Ready, Ends, NoRoom, WentBeyond, visits_from, visits_beyond}
use Rattle.path.proofs.PathSums.{path_length, path_valid}

-- what the loop holds at exit i: the entry counts, the path, the totals so far, the cache, and the table of rows with their totals
pub record Held : Type 0 where
  pub i : ℕ
  pub entered : List ℕ
  pub taken : List ℕ
  pub made : Counts
  pub cache : Cache
  pub rows : RowTable

abbrev pub held : ℕ → List ℕ → List ℕ → Counts → Cache → RowTable → Held
held i entered taken made cache rows = record { i = i; entered = entered; taken = taken; made = made; cache = cache; rows = rows }

-- At exit i: the entry counts are set back, the path in the array is as it was up to the tip, the rows are named as they were, and the totals so far,
-- with the visits still to make, come to the totals of all.
pub record AtExit (l : Lent) (a : Asked) (h : Held) : Type 0 where
  pub set_back : h.entered ≡ a.entered
  pub size : length h.taken ≡ 24
  pub same : take a.tip.len h.taken ≡ a.path
  pub cached : Cached (net_in l) (path_of (net_in l) a.path) a.tip.state h.cache
  pub counted : KeptCounted h.made h.rows
  pub names_kept : NamesKept a.rows h.rows
  pub going : Going (net_in l) a.task.budget (kept_of a.counts a.rows) (visits_from l (suc (a.left - 1)) (carried_in l a))
      (rest (net_in l) (limits_in l) (a.left - 1) (carried_in l a) h.i) (kept_of h.made h.rows)

pub exit_same : {l : Lent} {a : Asked} {i : ℕ} {entered taken f k : List ℕ} {made r : Counts} {cache c : Cache} {rows t : RowTable}
    → f ≡ entered → k ≡ taken → r ≡ made → c ≡ cache → t ≡ rows → AtExit l a (held i entered taken made cache rows) → AtExit l a (held i f k r c t)
exit_same p q r s t h = rw (p, q, r, s, t) h

-- one step more that adds nothing to a total
pub step_counted : {t u : Counts} {rows : RowTable} → u ≡ step_more t → KeptCounted t rows → KeptCounted u rows
step_counted is h = rw is (record {
  counts = record { deaths = omega (arith, h.counts.deaths); cuts = omega (arith, h.counts.cuts) };
  totals = table_step h.totals;
})

module _ {l : Lent} {a : Asked} (filled : Filled l) (ready : Ready l a) where
  abbrev here : Carried
  here = carried_in l a

  abbrev valid : Valid (model_in l)
  valid = filled.indexes.valid

  pub state_small : a.tip.state ≤ 1000
  state_small = omega (arith, ready.state_high, valid.states_high)

  pub room : a.tip.len < 24
  room = omega (arith, ready.depth, ready.more, valid.steps_high)

  -- ---- the path up to the tip

  pub path_short : length (path_of (net_in l) a.path) < 24
  path_short = omega (arith, path_length (net_in l) a.path, ready.length_is, room)

  pub steps_valid : ValidSteps (path_of (net_in l) a.path)
  steps_valid = path_valid valid a.path ready.known

  pub ones_few : a.tip.ones < 24
  ones_few = omega (arith, ready.carries.ones, class1_count-≤ (net_in l) (path_of (net_in l) a.path), path_short)

  -- ---- the exits of its last state

  count_is : exit_count l.index a.tip.state ≡ length (exits (net_in l) a.tip.state)
  count_is = filled.indexes.indexed.counts_are a.tip.state state_small

  pub is_exit : {i : ℕ} → i < exit_count l.index a.tip.state → i < length (exits (net_in l) a.tip.state)
  is_exit h = omega (arith, count_is)

  -- what the code knows of the length of the slice of them: it has as many unless there are more than 16
  abbrev pub Counted : ℕ → Type 0
  Counted n = exit_count l.index a.tip.state ≤ 16 → n ≡ exit_count l.index a.tip.state

  leaving_count : {n : ℕ} → Counted n → n ≡ exit_count l.index a.tip.state
  leaving_count counted = counted (counts_few (model_in l) l.words l.index valid filled.indexes.indexed a.tip.state state_small)

  pub leaving_more : {i n : ℕ} → Counted n → i < n → i < exit_count l.index a.tip.state
  leaving_more counted below = rw (leaving_count counted) at below

  -- the exit i, as the slice of the state's exits has it
  pub exit_slot : {i : ℕ} {leaving : List ℕ} → i < exit_count l.index a.tip.state → leaving ≡ exits_of l.index a.tip.state
      → get_or leaving i 0 ≡ slot l.index a.tip.state i
  exit_slot {i} h is =
      ap (λ (xs : List ℕ). get_or xs i 0) is ∙ get_or-take (exit_count l.index a.tip.state) (exits_at l.index a.tip.state).slots i 0 h

  pub exit_ready : {i : ℕ} {leaving : List ℕ} → leaving ≡ exits_of l.index a.tip.state → Counted (length leaving) → i < length leaving
      → ExitReady l a.tip (get_or leaving i 0)
  exit_ready {i} is counted below =
      let x = filled.indexes.indexed in let h = leaving_more counted below in
      rw (exit_slot h is) (record {
        index = slot_below (model_in l) l.words l.index valid x a.tip.state i state_small h;
        leaves = slot_leaves (model_in l) l.words l.index valid x a.tip.state i state_small h;
        upper = rw ready.carries.upper
            (sized-≤ (lit≤ tt) (any_upper_sized valid (path_of (net_in l) a.path) (omega (arith, path_short)) steps_valid));
        ones = ones_few;
        room = room;
      })

  -- ---- the loop begins and ends

  pub loop_start : {cache : Cache} {path : List ℕ} → length path ≡ 24 → take a.tip.len path ≡ a.path
      → Cached (net_in l) (path_of (net_in l) a.path) a.tip.state cache
      → AtExit l a (held 0 a.entered path a.counts cache a.rows)
  loop_start size same known = record {
    set_back = refl;
    size = size;
    same = same;
    cached = known;
    counted = ready.counted;
    names_kept = record { count_same = refl; states_same = refl };
    going = exits_start (net_in l) (limits_in l) a.task.budget (a.left - 1) here (kept_of a.counts a.rows) ready.within;
  }

  -- a walk over the visits from here on, which has a step left
  abbrev WalkedFrom : ℕ → Bool → Kept → Type 0
  WalkedFrom n over k = Walked (net_in l) a.task.budget (kept_of a.counts a.rows) (visits_from l n here) over k

  all_left : suc (a.left - 1) ≡ a.left
  all_left = omega (arith, ready.more)

  -- such a walk that passed the budget found no room
  pub no_room : {k : Kept} → WalkedFrom (suc (a.left - 1)) true k → NoRoom l a
  no_room {k} over =
      let at : WalkedFrom a.left true k = subst (λ n. WalkedFrom n true k) all_left over in
      ltb-true a.task.budget (a.counts.steps + length (visits_from l a.left here)) (sym at.over_is)

  -- where it did not, the steps are those of the cut tree beyond the path
  ends_steps : (c : Counts) (rows : RowTable) → Ends l a c rows → c.steps ≡ a.counts.steps + length (visits_beyond l a)
  ends_steps c rows ends =
      ap (λ t. t.totals.steps) (ends.totals_are refl)
      ∙ tally_steps (net_in l) (kept_of a.counts a.rows) (visits_from l a.left here)
      ∙ ap (λ vs. a.counts.steps + length vs)
      (carried_is (net_in l) (limits_in l) (valid_known (model_in l) valid) a.left here ready.carries
      (omega (arith, ready.depth, ready.length_is, path_length (net_in l) a.path)))

  module _ {h : Held} (kept : AtExit l a h) where
    pub steps_few : h.made.steps ≤ 1000000
    steps_few = omega (arith, kept.going.within, ready.task_is.budget_high)

    pub loop_end : {n : ℕ} → Counted n → n ≤ h.i → WentBeyond l a h.made (take a.tip.len h.taken) h.rows
    loop_end counted all = record {
      ends = ends;
      counted = kept.counted;
      within = kept.going.within;
      names_kept = kept.names_kept;
      path_same = kept.same;
      steps_are = ends_steps h.made h.rows ends;
    }
      where
        ends : Ends l a h.made h.rows
        ends =
            subst (λ n. WalkedFrom n false (kept_of h.made h.rows)) all_left
            (exits_end (net_in l) (limits_in l) a.task.budget (a.left - 1) here (kept_of a.counts a.rows) h.i (kept_of h.made h.rows)
            (omega (arith, count_is, leaving_count counted, all)) kept.going)

    -- the budget is used up, and exit i is still to walk
    pub loop_over : {n : ℕ} → Counted n → h.i < n → h.made.steps ≡ a.task.budget → NoRoom l a
    loop_over counted below full =
        no_room (exit_over (net_in l) (limits_in l) a.task.budget (a.left - 1) here (kept_of a.counts a.rows) h.i (kept_of h.made h.rows)
        (is_exit (leaving_more counted below)) kept.going full)
