-- Totals and marks in the table of rows: one death path more changes its own state's totals alone; the range of totals; a table without any.
-- Assumes nothing.
use Prim.Native.Nat.{ℕ, zero, suc, ◌+◌, ◌^◌, ◌≤◌, ◌<◌}
use mathlib.Core.Path.{◌≡◌, refl, sym, ap, ◌∙◌, subst}
use mathlib.Core.Bool.{Bool, true, false, ◌&&◌}
use mathlib.Core.List.{List}
use native.Mathlib.Omega.{arith}
use native.Mathlib.Decide.{dec_le}
use lib.Dec.{eqb, lit≤}
use lib.ListN.{length, get_or, set, replicate}
use lib.Seq.{get_or-set_same, get_or-set_other}
use borrow.Author.Tests.{eq-eqb, ne_eqb}
use Rattle.figure.specs.declared.Figure.{Figure}
use Rattle.figure.specs.Operands.{Sized, Operand}
use Rattle.figure.proofs.Gathered.{gathered_more}
use Rattle.tree.specs.Marks.{Marks}
use Rattle.tree.specs.Internal.Tally.{RowTotals, row_totals_with, row_with_death}
use Rattle.tree.proofs.Ranges.{total_up_more, total_down_more, total_same, total_operand}
use Rattle.tree.proofs.Ranges.{total_none as no-total}
use Rattle.rows.specs.declared.table.Sums.{Sums}
use Rattle.rows.specs.declared.table.RowTable.{RowTable}
use Rattle.rows.specs.Internal.Table.{no_sums, sums_of, totals_in, TotalsWith, NamesKept, DeathNoted, CutNoted, MarksNoted, NoTotals}
use Rattle.rows.specs.Internal.Table.{TotalOf, RowGathered, TableGathered}

pub names_then : {a b c : RowTable} → NamesKept a b → NamesKept b c → NamesKept a c
names_then h k = record { count_same = k.count_same ∙ h.count_same; states_same = k.states_same ∙ h.states_same }

pub and_true : (a : Bool) → (a && true) ≡ a
and_true true = refl
and_true false = refl

-- ---- one death path more

module _ (before after : RowTable) {s : ℕ} {l u : Figure} {t : Sums} (inside : s < length before.by_state)
    (written : after.by_state ≡ set before.by_state s t) (more : TotalsWith l u (sums_of before s) t) where
  at_each : (q : ℕ) → totals_in after q ≡ row_with_death (totals_in before) s l u q
  unfolding row_with_death totals_in
  at_each q = go (dec_le s q) (dec_le q s)
    where
      there : get_or after.by_state s no_sums ≡ t
      there = ap (λ (ts : List Sums). get_or ts s no_sums) written ∙ get_or-set_same before.by_state s t no_sums inside

      here : totals_in after s ≡ row_totals_with (totals_in before s) l u
      here = ap (λ (x : Sums). record { lower = x.lower; upper = x.upper }) there ∙ (λ i. record { lower = more.lower_is i; upper = more.upper_is i })

      apart : (s ≡ q → ⊥) → totals_in after q ≡ row_with_death (totals_in before) s l u q
      apart n =
          rw (ne_eqb s q n, row_with_death)
          (ap (λ (x : Sums). record { lower = x.lower; upper = x.upper })
          (ap (λ (ts : List Sums). get_or ts q no_sums) written ∙ get_or-set_other before.by_state s q t no_sums (λ e. n (sym e))))

      go : Dec (s ≤ q) → Dec (q ≤ s) → totals_in after q ≡ row_with_death (totals_in before) s l u q
      go (yes a) (yes b) =
          let same : s ≡ q = omega arith in
          subst (λ (x : ℕ). totals_in after x ≡ row_with_death (totals_in before) s l u x) same (rw (eq-eqb s s refl, row_with_death) here)
      go (yes a) (no b) = apart (λ e. b (omega (arith, e)))
      go (no a) b = apart (λ e. a (omega (arith, e)))

  pub totals_noted : totals_in after ≡ row_with_death (totals_in before) s l u
  totals_noted = λ i q. at_each q i

-- ---- ranges

module _ {t : Figure} (room : TotalOf 999999 t) where
  pub room_operand : Operand 18 t
  room_operand = total_operand room (lit≤ tt)

-- with one death path more, of n before it
row_counted : {n : ℕ} (rows : ℕ → RowTotals) (last : ℕ) (l u : Figure) → n < 10 ^ 9 → Sized 9 35000 l → Sized 9 35000 u
    → ((s : ℕ) → RowGathered n (rows s)) → (s : ℕ) → RowGathered (n + 1) (row_with_death rows last l u s)
unfolding row_with_death
row_counted {n} rows last l u few low high h s = go (eqb last s)
  where
    go : (b : Bool) → RowGathered (n + 1) (elim b [ true ↦ row_totals_with (rows s) l u | false ↦ rows s ])
    go true = record { lower = total_down_more (h s).lower low; upper = total_up_more (h s).upper few high }
    go false = record { lower = total_same (h s).lower; upper = total_same (h s).upper }

module _ {n : ℕ} {table : RowTable} (h : TableGathered n table) where
  -- totals of at most m terms, where m is no less
  pub table_most : {m : ℕ} → n ≤ m → TableGathered m table
  table_most few = record {
    lower = gathered_more few h.lower;
    death = gathered_more few h.death;
    cut = gathered_more few h.cut;
    each_row = λ s. record { lower = gathered_more few (h.each_row s).lower; upper = gathered_more few (h.each_row s).upper };
  }

  -- all of them may have one term more, within the greatest budget
  pub table_room : n < 1000000 → TableGathered 999999 table
  table_room few = table_most (omega (arith, few))

  pub table_step : TableGathered (n + 1) table
  table_step = table_most (omega arith)

  module _ (few : n < 10 ^ 9) {after : RowTable} {u : Figure} (high : Sized 9 35000 u) where
    pub table_cut : CutNoted u table after → TableGathered (n + 1) after
    table_cut k = record {
      lower = rw k.lower_same (total_same h.lower);
      death = rw k.death_same (total_same h.death);
      cut = rw k.cut_is (total_up_more h.cut few high);
      each_row = λ s. rw k.rows_same (record { lower = total_same (h.each_row s).lower; upper = total_same (h.each_row s).upper });
    }

    pub table_death : {s : ℕ} {l : Figure} → Sized 9 35000 l → DeathNoted s l u table after → TableGathered (n + 1) after
    table_death {s} {l} low k = record {
      lower = rw k.lower_is (total_down_more h.lower low);
      death = rw k.death_is (total_up_more h.death few high);
      cut = rw k.cut_same (total_same h.cut);
      each_row = λ q. rw k.rows_are (row_counted (totals_in table) s l u few low high h.each_row q);
    }

-- what is noted in the marks touches no total
pub marks_gathered : {n : ℕ} {before after : RowTable} {k : Marks} → MarksNoted k before after → TableGathered n before → TableGathered n after
marks_gathered note h = record {
  lower = rw note.lower_same h.lower;
  death = rw note.death_same h.death;
  cut = rw note.cut_same h.cut;
  each_row = λ s. rw note.rows_same (h.each_row s);
}

-- ---- nothing yet

pub no_sums_at : (n s : ℕ) → get_or (replicate n no_sums) s no_sums ≡ no_sums
no_sums_at zero s = refl
no_sums_at (suc n) zero = refl
no_sums_at (suc n) (suc s) = no_sums_at n s

pub empty_gathered : {table : RowTable} → NoTotals table → TableGathered 0 table
empty_gathered h = record {
  lower = rw h.lower_is no-total;
  death = rw h.death_is no-total;
  cut = rw h.cut_is no-total;
  each_row = λ s. rw h.rows_are (record { lower = no-total; upper = no-total });
}
