-- What the walk's loop knows once the path through an exit was judged and noted: the path is ended, or walked beyond and set back. Assumes nothing.
use Prim.Native.Nat.{ℕ, ◌+◌, ◌-◌, ◌<◌}
use mathlib.Core.Path.{◌≡◌, refl, sym, ap, ap₂, ◌∙◌, subst}
use mathlib.Core.Bool.{Bool, true, false, ◌&&◌, true≢false}
use mathlib.Core.List.{List, [], ◌∷◌}
use native.Mathlib.Omega.{arith}
use native.Mathlib.Numerals.{add-one}
use lib.Dec.{eqb}
use lib.ListN.{length, get_or, take, set, length-set}
use lib.Seq.{set-set, set-get_or}
use borrow.Author.Tests.{lt-ltb}
use Rattle.std.proofs.Common.{◌++◌, take-take}
use Rattle.std.proofs.lemmas.List.{length-append}
use Rattle.word.specs.Model.{is_empty, is_named, exits}
use Rattle.word.proofs.Members.{is_empty_length}
use Rattle.word.proofs.Tests.{flag_test}
use Rattle.model.specs.Index.{exit_count}
use Rattle.tree.specs.Lower.{lower}
use Rattle.tree.specs.Marks.{path_marks}
use Rattle.tree.specs.Tree.{is_continued}
use Rattle.tree.proofs.Outcomes.{is_continued_true}
use Rattle.tree.specs.Internal.Tally.{noted, with_visit}
use Rattle.tree.specs.Internal.Carried.{Carries, carry, outcome_by}
use Rattle.tree.proofs.Carried.{carry_carries, GoesOnBy, continued_by}
use Rattle.tree.proofs.Going.{exit_totals, exit_within, exit_ended, exit_back, exit_below_over}
use Rattle.path.specs.declared.outcome.Outcome.{Outcome as Coded}
use Rattle.path.specs.declared.counts.Counts.{Counts}
use Rattle.path.specs.declared.deaths.Cache.{Cache}
use Rattle.path.specs.declared.exits.Exit.{Exit}
use Rattle.path.specs.Internal.Lent.{Lent, limits_in}
use Rattle.path.specs.Internal.Paths.{path_of}
use Rattle.rows.specs.declared.table.RowTable.{RowTable}
use Rattle.rows.proofs.RowTotals.{names_then}
use Rattle.path.specs.Internal.Outcomes.{outcome_of, named_end, judged}
use Rattle.path.specs.Internal.Exits.{tip_after}
use Rattle.bounds.specs.Internal.Walk.{Asked, asked, carried_of, carried_in, kept_of, Ready, EndsWithin, NoRoom, WentBeyond, visits_from}
use Rattle.path.proofs.PathSums.{path_longer}
use Rattle.bounds.proofs.WalkLoop.{Held, held, AtExit, is_exit, no_room}
use Rattle.bounds.proofs.WalkTurns.{Turn, Visited, path_before, lower_there, marks_there, there_small, before_is, whole_known}
use Rattle.bounds.proofs.WalkTurns.{net, here, valid, exit, next, outcome_there, there}
use Rattle.bounds.proofs.WalkTurns.{exit_is, to_small, tip_is, state_is, upper_is, len_is, written, whole_is}

-- a test that holds only where another does is the two together
behind_exits : (a b : Bool) → (b ≡ true → a ≡ true) → (a && b) ≡ b
behind_exits true b h = refl
behind_exits false true h = h refl
behind_exits false false h = refl

module _ {l : Lent} {a : Asked} {h : Held} {x : Exit} {o : Coded} {after : Counts} {cache : Cache} {rows : RowTable} (v : Visited l a h x o after cache rows) where
  abbrev w : Turn l a h x
  w = v.turn

  abbrev on_exit : h.i < length (exits (net w) a.tip.state)
  on_exit = is_exit w.filled w.ready w.more

  same_exits : eqb (exit_count l.index x.tip.state) 0 ≡ is_empty (exits (net w) (exit w).to)
  same_exits =
      ap (λ k. eqb k 0) (w.filled.indexes.indexed.counts_are x.tip.state (there_small w)
      ∙ ap (λ s. length (exits (net w) s)) (state_is w))
      ∙ sym (is_empty_length (exits (net w) (exit w).to))

  -- a named state has no exits
  same_named : named_end l.index x.tip.state (exit_count l.index x.tip.state) ≡ is_named (net w) (exit w).to
  same_named =
      ap₂ (λ a b. a && b) same_exits
      (ap (λ k. eqb k 1) (w.filled.indexes.indexed.named_are x.tip.state (there_small w)) ∙ flag_test (is_named (net w) x.tip.state)
      ∙ ap (is_named (net w)) (state_is w))
      ∙ behind_exits (is_empty (exits (net w) (exit w).to)) (is_named (net w) (exit w).to) (w.filled.indexes.valid.named_end (exit w).to)

  same_before : get_or h.entered x.tip.state 0 ≡ get_or a.entered (exit w).to 0
  same_before = ap₂ (λ k s. get_or k s 0) w.kept.set_back (state_is w)

  outcome_is : outcome_of o ≡ outcome_there w
  unfolding judged outcome_by
  outcome_is =
      let n = same_named in
      let p = same_exits in
      let q = same_before in
      let r = upper_is w in
      let s = w.ready.task_is.entry_limit_is in
      let u = w.ready.task_is.level_is in
      cc v.judged_is

  visit_is : kept_of after rows
      ≡ with_visit (net w) (kept_of h.made h.rows) (record { path = exit w ∷ path_before l a h x; outcome = outcome_there w })
  visit_is =
      v.kept_is
      ∙ same
      ∙ exit_totals (net w) (limits_in l) a.task.budget (a.left - 1) (here w) (kept_of a.counts a.rows) h.i (kept_of h.made h.rows) on_exit
      w.kept.going (to_small w) w.ready.carries
    where
      same : noted (kept_of h.made h.rows) (outcome_of o) x.tip.state (lower_there l a h x) x.tip.upper (marks_there l a h x)
          ≡ noted (kept_of h.made h.rows) (outcome_there w) (exit w).to (lower (net w) (exit w ∷ path_before l a h x)) (next w).upper
          (path_marks (net w) (exit w ∷ path_before l a h x))
      same =
          let p = outcome_is in
          let q = exit_is w in
          let r = upper_is w in
          let s = state_is w in
          cc

  -- the path is ended
  pub visit_ended : is_continued (outcome_of o) ≡ false → AtExit l a (held (h.i + 1) h.entered (written w) after cache rows)
  visit_ended off = record {
    set_back = w.kept.set_back;
    size = length-set h.taken a.tip.len x.index ∙ w.kept.size;
    same = before_is w;
    cached = v.cached;
    counted = v.counted;
    names_kept = names_then w.kept.names_kept v.names_kept;
    going = rw (add-one h.i) (exit_ended (net w) (limits_in l) a.task.budget (a.left - 1) (here w) (kept_of a.counts a.rows) h.i
        (kept_of h.made h.rows) on_exit w.kept.going (kept_of after rows) visit_is w.some (ap is_continued (sym outcome_is) ∙ off));
  }

  -- the path goes on: its last state is entered once more, and its step is written down
  module _ (on : is_continued (outcome_of o) ≡ true) where
    goes_on : GoesOnBy (net w) (limits_in l) (a.left - 1) (exit w).to (get_or a.entered (exit w).to 0) (next w).upper
    goes_on =
        continued_by (net w) (limits_in l) (a.left - 1) (exit w).to (get_or a.entered (exit w).to 0) (next w).upper
        (sym outcome_is ∙ is_continued_true (outcome_of o) on)

    pub before_fits : get_or h.entered x.tip.state 0 + 1 < 256
    before_fits = omega (arith, same_before, goes_on.entered, (valid w).entries_high)

    abbrev entered_there : List ℕ
    entered_there = set h.entered x.tip.state (get_or h.entered x.tip.state 0 + 1)

    -- what the walk beyond is asked for
    abbrev pub asked_there : Asked
    asked_there = asked a.task x.tip (a.left - 1) entered_there (take x.tip.len (written w)) after rows

    -- after the walk beyond the entry count is set back
    entries_back : set entered_there x.tip.state (get_or h.entered x.tip.state 0) ≡ a.entered
    entries_back =
        set-set h.entered x.tip.state (get_or h.entered x.tip.state 0 + 1) (get_or h.entered x.tip.state 0)
        ∙ set-get_or h.entered x.tip.state 0
        ∙ w.kept.set_back

    -- the path up to the tip is as it was wherever the path beyond is
    path_back : (taken : List ℕ) → take x.tip.len taken ≡ take x.tip.len (written w) → take a.tip.len taken ≡ a.path
    path_back taken same = below taken ∙ ap (take a.tip.len) same ∙ sym (below (written w)) ∙ before_is w
      where
        below : (p : List ℕ) → take a.tip.len p ≡ take a.tip.len (take x.tip.len p)
        below p = sym (take-take a.tip.len x.tip.len p (omega (arith, len_is w)))

    there_is : take x.tip.len (written w) ≡ a.path ++ x.index ∷ []
    there_is = ap (λ n. take n (written w)) (len_is w) ∙ whole_is w

    deeper : carried_in l asked_there ≡ next w
    unfolding tip_after carry
    deeper =
        ap₂ (λ r k. carried_of (net w) (take x.tip.len (written w)) r (set k r.state (get_or k r.state 0 + 1))) (tip_is w) w.kept.set_back
        ∙ ap (λ p. record { path = p; state = (next w).state; upper = (next w).upper; ones = (next w).ones; entered = (next w).entered })
        (ap (path_of (net w)) there_is ∙ path_longer (net w) a.path x.index ∙ ap (λ t. t ∷ path_before l a h x) (exit_is w))

    pub ready_there : Ready l asked_there
    ready_there = record {
      task_is = w.ready.task_is;
      known = rw (len_is w) (whole_known w);
      length_is = rw there_is (omega (arith, length-append a.path (x.index ∷ []), w.ready.length_is, len_is w));
      carries = subst (λ k. Carries (net w) k) (sym deeper) (carry_carries (net w) (exit w) (here w) (to_small w) w.ready.carries);
      state_low = omega (arith, state_is w, (there w).to_low);
      state_high = omega (arith, state_is w, (there w).to_high);
      depth = omega (arith, len_is w, w.ready.depth, w.ready.more);
      more = goes_on.left;
      counted = v.counted;
      within = exit_within (net w) (limits_in l) a.task.budget (a.left - 1) (here w) (kept_of a.counts a.rows) h.i (kept_of h.made h.rows) on_exit
          w.kept.going (kept_of after rows) visit_is w.some;
    }

    continues : is_continued (outcome_there w) ≡ true
    continues = ap is_continued (sym outcome_is) ∙ on

    -- the walk beyond finds no room in the budget
    pub visit_over : NoRoom l asked_there → NoRoom l a
    visit_over none =
        let past : a.task.budget < after.steps + length (visits_from l (a.left - 1) (next w)) =
        subst (λ k. a.task.budget < after.steps + length (visits_from l (a.left - 1) k)) deeper none in
        no_room w.filled w.ready
        (exit_below_over (net w) (limits_in l) a.task.budget (a.left - 1) (here w) (kept_of a.counts a.rows) h.i (kept_of h.made h.rows) on_exit
        w.kept.going (kept_of after rows) visit_is w.some continues true (kept_of after rows)
        (record { over_is = sym (lt-ltb a.task.budget _ past); totals_are = λ z. absurd (true≢false z) }) refl)

    -- it hands back the counts c, with the table rows'
    pub visit_back : {c : Counts} {taken : List ℕ} {rows' : RowTable} → WentBeyond l asked_there c (take x.tip.len taken) rows'
        → length taken ≡ 24 → AtExit l a (held (h.i + 1) (set entered_there x.tip.state (get_or h.entered x.tip.state 0)) taken c cache rows')
    visit_back {c} {taken} {rows'} went size = record {
      set_back = entries_back;
      size = size;
      same = path_back taken went.path_same;
      cached = v.cached;
      counted = went.counted;
      names_kept = names_then (names_then w.kept.names_kept v.names_kept) went.names_kept;
      going = rw (add-one h.i) (exit_back (net w) (limits_in l) a.task.budget (a.left - 1) (here w) (kept_of a.counts a.rows) h.i
          (kept_of h.made h.rows) on_exit w.kept.going (kept_of after rows) visit_is w.some continues false (kept_of c rows') beyond refl);
    }
      where
        beyond : EndsWithin (net w) a.task.budget (kept_of after rows) (visits_from l (a.left - 1) (next w)) c rows'
        beyond = subst (λ k. EndsWithin (net w) a.task.budget (kept_of after rows) (visits_from l (a.left - 1) k) c rows') deeper went.ends
