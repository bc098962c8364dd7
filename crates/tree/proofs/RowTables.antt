-- The table that a caller finds after the call: as many rows as before, those beyond the filled ones as they were, all of them as they were on any
-- refusal but 13, state numbers and zeros on 13, and else the rows of the tree. Assumes nothing.
use Prim.Native.Nat.{ℕ, ◌≤◌, ◌<◌}
use mathlib.Core.Path.{◌≡◌, refl, sym, ap, ◌∙◌}
use mathlib.Core.List.{List, map}
use native.Mathlib.Omega.{arith}
use native.Mathlib.Decide.{dec_le}
use lib.ListN.{length, get_or}
use Rattle.word.specs.Model.{Model}
use Rattle.word.specs.Answer.{Answer}
use Rattle.model.specs.Reading.{read}
use Rattle.tree.specs.declared.Row.{Row}
use Rattle.tree.specs.Tree.{tree}
use Rattle.tree.specs.Rows.{row_states, row_on, zero_row, rows_of, read_with_rows, answer_with_rows, laid_over, rows_after}
use Rattle.tree.proofs.Answer.{walked_over}
use Rattle.tree.proofs.RowAnswers.{RowsRefused, RowsGranted, rows_granted_by, rows_read_refused, rows_read_few, rows_read_granted}
use Rattle.tree.proofs.RowAnswers.{refused_number, read_number, walked_refused, rows_of_over, rows_of_length, rows_of_within_at}
use Rattle.tree.proofs.RowAnswers.{laid_over_none, laid_over_length, laid_over_first, laid_over_beyond}

-- a caller is refused with another number than 13 before the walk, or a model is walked for which the rows are enough
pub data RowsFound (ws : List ℕ) (budget lent : ℕ) : Type 0 where
  refuses : (number place : ℕ) → (number ≡ 13 → ⊥) → RowsRefused ws budget lent number place → RowsFound ws budget lent
  grants : (m : Model) → length (row_states m) ≤ lent → RowsGranted ws budget lent m → RowsFound ws budget lent

pub rows_found : (ws : List ℕ) (budget lent : ℕ) → RowsFound ws budget lent
rows_found ws budget lent = go (read ws budget) refl
  where
    counted : (m : Model) → read ws budget ≡ Answer.granted m → Dec (length (row_states m) ≤ lent) → RowsFound ws budget lent
    counted m e (yes h) = grants m h (rows_read_granted ws budget lent e h)
    counted m e (no h) = refuses 14 (length (row_states m)) (λ n. omega arith) (rows_read_few ws budget lent e (omega arith))

    go : (a : Answer Model) → read ws budget ≡ a → RowsFound ws budget lent
    go (Answer.refused n p) e = refuses n p (read_number ws budget n p e).0 (rows_read_refused ws budget lent e)
    go (Answer.granted m) e = counted m e (dec_le (length (row_states m)) lent)

-- ---- the walk of a model that was read, with rows enough

module _ (ws : List ℕ) (budget lent : ℕ) (m : Model) (reads : read_with_rows ws budget lent ≡ Answer.granted m) where
  pub rows_refused_over : budget < length (tree m.net m.limits) → answer_with_rows ws budget lent ≡ Answer.refused 13 0
  rows_refused_over h = (rows_granted_by ws budget lent reads).answers ∙ walked_over budget m h

  pub rows_over_refused : {number place : ℕ} → answer_with_rows ws budget lent ≡ Answer.refused number place
      → budget < length (tree m.net m.limits)
  rows_over_refused {number} {place} e = (walked_refused budget m number place (sym (rows_granted_by ws budget lent reads).answers ∙ e)).2

-- ---- the table

module _ (ws : List ℕ) (budget : ℕ) (given : List Row) where
  after_refused : {number place : ℕ} → RowsRefused ws budget (length given) number place → rows_after ws budget given ≡ given
  unfolding rows_after
  after_refused r = ap (λ rs. laid_over rs given) r.fills ∙ laid_over_none given

  after_granted : {m : Model} → RowsGranted ws budget (length given) m → rows_after ws budget given ≡ laid_over (rows_of budget m) given
  unfolding rows_after
  after_granted r = ap (λ rs. laid_over rs given) r.fills

  pub rows_after_length : length (rows_after ws budget given) ≡ length given
  rows_after_length = go (rows_found ws budget (length given))
    where
      go : RowsFound ws budget (length given) → length (rows_after ws budget given) ≡ length given
      go (refuses n p other r) = ap length (after_refused r)
      go (grants m h r) = ap length (after_granted r) ∙ laid_over_length (rows_of budget m) given (omega (arith, rows_of_length budget m))

  -- "Rows beyond them are unchanged"
  pub rows_after_beyond : (m : Model) → read ws budget ≡ Answer.granted m → (i : ℕ) (d : Row) → length (row_states m) ≤ i
      → get_or (rows_after ws budget given) i d ≡ get_or given i d
  rows_after_beyond m e i d h = go (dec_le (length (row_states m)) (length given))
    where
      go : Dec (length (row_states m) ≤ length given) → get_or (rows_after ws budget given) i d ≡ get_or given i d
      go (yes k) =
          ap (λ rs. get_or rs i d) (after_granted (rows_read_granted ws budget (length given) e k))
          ∙ laid_over_beyond (rows_of budget m) given i d (omega (arith, rows_of_length budget m))
      go (no k) = ap (λ rs. get_or rs i d) (after_refused (rows_read_few ws budget (length given) e (omega arith)))

  -- "any refusal but 13 changes no row"
  pub rows_after_unchanged : (number place : ℕ) → answer_with_rows ws budget (length given) ≡ Answer.refused number place → (number ≡ 13 → ⊥)
      → rows_after ws budget given ≡ given
  rows_after_unchanged number place e other = go (rows_found ws budget (length given))
    where
      go : RowsFound ws budget (length given) → rows_after ws budget given ≡ given
      go (refuses n p some r) = after_refused r
      go (grants m h r) = absurd (other (walked_refused budget m number place (sym r.answers ∙ e)).0)

  -- "On 13 the filled rows hold their state numbers and zeros."
  pub rows_after_zero : (m : Model) → read ws budget ≡ Answer.granted m → answer_with_rows ws budget (length given) ≡ Answer.refused 13 0
      → rows_after ws budget given ≡ laid_over (map zero_row (row_states m)) given
  rows_after_zero m e f = go (dec_le (length (row_states m)) (length given))
    where
      go : Dec (length (row_states m) ≤ length given) → rows_after ws budget given ≡ laid_over (map zero_row (row_states m)) given
      go (yes k) =
          let r = rows_read_granted ws budget (length given) e k in
          after_granted r ∙ ap (λ rs. laid_over rs given) (rows_of_over budget m (rows_over_refused ws budget (length given) m r.reads f))
      go (no k) =
          let r = rows_read_few ws budget (length given) e (omega arith) in
          let same : ◌≡◌ {A = ℕ} 14 13 = refused_number (sym r.answers ∙ f) in
          absurd (omega arith)

  -- the i-th row after a report
  pub rows_after_row : (m : Model) → read_with_rows ws budget (length given) ≡ Answer.granted m → length (tree m.net m.limits) ≤ budget
      → (i : ℕ) (d : Row) → i < length (row_states m)
      → get_or (rows_after ws budget given) i d ≡ row_on m.net (tree m.net m.limits) (get_or (row_states m) i 0)
  rows_after_row m e h i d small =
      ap (λ rs. get_or rs i d) (after_granted (rows_granted_by ws budget (length given) e))
      ∙ laid_over_first (rows_of budget m) given i d (omega (arith, rows_of_length budget m))
      ∙ rows_of_within_at budget m i d small h
