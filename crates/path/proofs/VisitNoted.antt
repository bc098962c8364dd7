-- One visit noted in what a walk keeps, by what becomes of its path. Assumes nothing.
use Prim.Native.Nat.{ℕ}
use mathlib.Core.Path.{◌≡◌, sym, ap, ◌∙◌}
use mathlib.Core.Bool.{true, false, true≢false}
use Rattle.figure.specs.declared.Figure.{Figure}
use Rattle.tree.specs.Tree.{Outcome, generators_state, death, entered_too_often, step_limit, low_level, continued, is_death, is_continued}
use Rattle.tree.proofs.Outcomes.{is_death_true, is_continued_true}
use Rattle.tree.specs.Marks.{Marks}
use Rattle.tree.specs.Internal.Tally.{with_step, with_cut, with_death, row_with_death, marks_with_death, marks_with_cut, Kept, noted}

-- what is kept, r, is a with this path, which ends in the state s, of the lower l, the upper u and the marks k

module _ (a : Kept) {r : Kept} (s : ℕ) (l u : Figure) (k : Marks) (o : Outcome) where
  -- as a record of its three parts
  parts : {b : Kept} → r.totals ≡ b.totals → r.rows ≡ b.rows → r.marks ≡ b.marks → r ≡ b
  parts e f g = λ i. record { totals = e i; rows = f i; marks = g i }

  pub note_death : {f : Figure} → r.totals ≡ with_death a.totals f u → r.rows ≡ row_with_death a.rows s f u
      → r.marks ≡ marks_with_death a.totals a.marks f u k → f ≡ l → is_death o ≡ true → r ≡ noted a o s l u k
  unfolding noted
  note_death e h m is d =
      parts {b = noted a death s l u k} (e ∙ ap (λ x. with_death a.totals x u) is) (h ∙ ap (λ x. row_with_death a.rows s x u) is)
      (m ∙ ap (λ x. marks_with_death a.totals a.marks x u k) is)
      ∙ sym (ap (λ x. noted a x s l u k) (is_death_true o d))

  pub note_step : r.totals ≡ with_step a.totals → r.rows ≡ a.rows → r.marks ≡ a.marks → is_continued o ≡ true → r ≡ noted a o s l u k
  unfolding noted
  note_step e h m c = parts {b = noted a continued s l u k} e h m ∙ sym (ap (λ x. noted a x s l u k) (is_continued_true o c))

  pub note_cut : r.totals ≡ with_cut a.totals u → r.rows ≡ a.rows → r.marks ≡ marks_with_cut a.totals a.marks u k
      → is_death o ≡ false → is_continued o ≡ false → r ≡ noted a o s l u k
  unfolding noted
  note_cut e h m d c = go o d c
    where
      go : (x : Outcome) → is_death x ≡ false → is_continued x ≡ false → r ≡ noted a x s l u k
      go generators_state d c = parts {b = noted a generators_state s l u k} e h m
      go death d c = absurd (true≢false d)
      go entered_too_often d c = parts {b = noted a entered_too_often s l u k} e h m
      go step_limit d c = parts {b = noted a step_limit s l u k} e h m
      go low_level d c = parts {b = noted a low_level s l u k} e h m
      go continued d c = absurd (true≢false c)
