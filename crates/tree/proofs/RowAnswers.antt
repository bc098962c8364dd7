-- What a caller who lends rows is answered, by what the reading finds: a refusal of the reading, 14 where the rows are too few, else what the walk
-- answers; and the rows that are filled. Assumes nothing.
use Prim.Native.Nat.{ℕ, ◌+◌, ◌-◌, ◌≤◌, ◌<◌}
use mathlib.Core.Path.{◌≡◌, refl, sym, ap, ◌∙◌, subst}
use mathlib.Core.Logic.{inl, inr}
use mathlib.Core.List.{List, [], ◌++◌, map}
use native.Mathlib.Omega.{arith}
use native.Mathlib.Decide.{dec_le, dec_lt}
use lib.ListN.{length, get_or, drop, length-append, length-drop, length-map, get_or-append}
use lib.Seq.{get_or-append-add, get_or-drop}
use borrow.Author.Tests.{lt-ltb, le-ltb}
use Rattle.word.specs.Model.{Model}
use Rattle.word.specs.Answer.{Answer, then}
use Rattle.word.specs.Internal.Lists.{Each}
use Rattle.word.proofs.Members.{lookup_map}
use Rattle.model.specs.Reading.{first_of, read}
use Rattle.model.specs.Reasons.{OfWord, Reason, too_long, bad_budget, bad_word, bad_sum, named_with_exits, no_exits}
use Rattle.model.proofs.Refusals.{refused_not_granted, first_here, first_none}
use Rattle.model.proofs.ReadValid.{read_valid}
use Rattle.model.proofs.Numbers.{refusal_reason}
use Rattle.tree.specs.declared.Row.{Row}
use Rattle.tree.specs.Tree.{tree}
use Rattle.tree.specs.Report.{Report, walked, answer}
use Rattle.tree.specs.Rows.{row_states, row_on, zero_row, rows_of, row_findings, read_with_rows, answer_with_rows, rows_by, filled_rows}
use Rattle.tree.specs.Rows.{laid_over}
use Rattle.tree.specs.RowsFaithful.{ThousandRowsEnough}
use Rattle.tree.proofs.Answer.{walked_over, walked_within, answer_refused, answer_read}
use Rattle.tree.proofs.RowStates.{row_states_few}

-- ---- by what the reading finds

-- no model is walked, and no row is filled
pub record RowsRefused (ws : List ℕ) (budget lent number place : ℕ) : Type 0 where
  pub reads : read_with_rows ws budget lent ≡ Answer.refused number place
  pub answers : answer_with_rows ws budget lent ≡ Answer.refused number place
  pub fills : filled_rows ws budget lent ≡ []

-- the model m is walked, and its rows are filled
pub record RowsGranted (ws : List ℕ) (budget lent : ℕ) (m : Model) : Type 0 where
  pub reads : read_with_rows ws budget lent ≡ Answer.granted m
  pub answers : answer_with_rows ws budget lent ≡ walked budget m
  pub fills : filled_rows ws budget lent ≡ rows_of budget m

module _ (ws : List ℕ) (budget lent : ℕ) where
  refused_by : {number place : ℕ} → read_with_rows ws budget lent ≡ Answer.refused number place → RowsRefused ws budget lent number place
  unfolding answer_with_rows filled_rows then
  refused_by e = record { reads = e; answers = ap (λ a. then a (walked budget)) e; fills = ap (rows_by budget) e }

  pub rows_granted_by : {m : Model} → read_with_rows ws budget lent ≡ Answer.granted m → RowsGranted ws budget lent m
  unfolding answer_with_rows filled_rows then
  rows_granted_by e = record { reads = e; answers = ap (λ a. then a (walked budget)) e; fills = ap (rows_by budget) e }

  pub rows_read_refused : {number place : ℕ} → read ws budget ≡ Answer.refused number place → RowsRefused ws budget lent number place
  unfolding read_with_rows then
  rows_read_refused e = refused_by (ap (λ a. then a (λ m. first_of (row_findings lent m) m)) e)

  module _ {m : Model} (reads : read ws budget ≡ Answer.granted m) where
    counted : read_with_rows ws budget lent ≡ first_of (row_findings lent m) m
    unfolding read_with_rows then
    counted = ap (λ a. then a (λ m. first_of (row_findings lent m) m)) reads

    pub rows_read_few : lent < length (row_states m) → RowsRefused ws budget lent 14 (length (row_states m))
    rows_read_few h = refused_by (counted ∙ first_here _ _ m (lt-ltb lent (length (row_states m)) h))

    pub rows_read_granted : length (row_states m) ≤ lent → RowsGranted ws budget lent m
    unfolding Each
    rows_read_granted h = rows_granted_by (counted ∙ first_none (row_findings lent m) m (le-ltb lent (length (row_states m)) h, tt))

  -- the converse: a model is walked only if it was read and the rows are enough
  pub rows_granted_read : {m : Model} → read_with_rows ws budget lent ≡ Answer.granted m
      → (read ws budget ≡ Answer.granted m) × (length (row_states m) ≤ lent)
  rows_granted_read {m} e = go (read ws budget) refl
    where
      same : {k : Model} → length (row_states k) ≤ lent → read ws budget ≡ Answer.granted k → k ≡ m
      same h f = let both : Answer.granted _ ≡ Answer.granted m = sym (rows_read_granted f h).reads ∙ e in cc

      enough : {k : Model} → read ws budget ≡ Answer.granted k → Dec (length (row_states k) ≤ lent)
          → (read ws budget ≡ Answer.granted m) × (length (row_states m) ≤ lent)
      enough {k} f (yes h) = subst (λ x. (read ws budget ≡ Answer.granted x) × (length (row_states x) ≤ lent)) (same h f) (f, h)
      enough {k} f (no h) = absurd (refused_not_granted (sym (rows_read_few f (omega arith)).reads ∙ e))

      go : (a : Answer Model) → read ws budget ≡ a → (read ws budget ≡ Answer.granted m) × (length (row_states m) ≤ lent)
      go (Answer.refused n p) f = absurd (refused_not_granted (sym (rows_read_refused f).reads ∙ e))
      go (Answer.granted k) f = enough f (dec_le (length (row_states k)) lent)

  -- ---- beside the answer to a caller who lends no row

  -- where rows are enough, or the reading refuses, it is the same
  pub rows_answer_same : ((m : Model) → read ws budget ≡ Answer.granted m → length (row_states m) ≤ lent)
      → answer_with_rows ws budget lent ≡ answer ws budget
  rows_answer_same enough = go (read ws budget) refl
    where
      go : (a : Answer Model) → read ws budget ≡ a → answer_with_rows ws budget lent ≡ answer ws budget
      go (Answer.refused n p) e = (rows_read_refused e).answers ∙ sym (answer_refused ws budget n p e)
      go (Answer.granted m) e = (rows_read_granted e (enough m e)).answers ∙ sym (answer_read ws budget m e)

  -- a report is that of a caller who lends no row
  pub answer_by_rows : {r : Report} → answer_with_rows ws budget lent ≡ Answer.granted r → answer ws budget ≡ Answer.granted r
  answer_by_rows {r} e = sym (rows_answer_same enough) ∙ e
    where
      enough : (m : Model) → read ws budget ≡ Answer.granted m → length (row_states m) ≤ lent
      enough m f = go (dec_le (length (row_states m)) lent)
        where
          go : Dec (length (row_states m) ≤ lent) → length (row_states m) ≤ lent
          go (yes h) = h
          go (no h) = absurd (refused_not_granted (sym (rows_read_few f (omega arith)).answers ∙ e))

pub thousand_rows_enough : ThousandRowsEnough
thousand_rows_enough ws budget lent h = rows_answer_same ws budget lent
    (λ m e. omega (arith, row_states_few m, (read_valid ws budget m e).states_high))

-- ---- the numbers

pub refused_number : {A : Type 0} {n p o q : ℕ} → ◌≡◌ {A = Answer A} (Answer.refused n p) (Answer.refused o q) → n ≡ o
refused_number e = cc

pub refused_place : {A : Type 0} {n p o q : ℕ} → ◌≡◌ {A = Answer A} (Answer.refused n p) (Answer.refused o q) → p ≡ q
refused_place e = cc

-- neither 13, which is the walk's, nor 14, which is that of the rows
abbrev OfReading : ℕ → Type 0
OfReading number = (number ≡ 13 → ⊥) × (number ≡ 14 → ⊥)

pub read_number : (ws : List ℕ) (budget number place : ℕ) → read ws budget ≡ Answer.refused number place → OfReading number
read_number ws budget number place e = go (refusal_reason ws budget number place e)
  where
    is : {n : ℕ} → OfReading n → number ≡ n → OfReading number
    is h e = (λ f. h.0 (sym e ∙ f), λ f. h.1 (sym e ∙ f))

    of_word : OfWord number → OfReading number
    of_word (inl h) = (λ f. absurd (omega (arith, f, h.1)), λ f. absurd (omega (arith, f, h.1)))
    of_word (inr h) = is (λ f. omega arith, λ f. omega arith) h

    go : Reason ws budget number place → OfReading number
    go (too_long n i h) = is (λ f. omega arith, λ f. omega arith) n
    go (bad_budget n i h k) = is (λ f. omega arith, λ f. omega arith) n
    go (bad_word h c s) = of_word h
    go (bad_sum m n c r l) = is (λ f. omega arith, λ f. omega arith) n
    go (named_with_exits m n c r b l) = is (λ f. omega arith, λ f. omega arith) n
    go (no_exits m n i c r b d h) = is (λ f. omega arith, λ f. omega arith) n

-- a walk that refuses does so with 13, and its tree has more steps than the budget
pub walked_refused : (budget : ℕ) (m : Model) (number place : ℕ) → walked budget m ≡ Answer.refused number place
    → (number ≡ 13) × (place ≡ 0) × (budget < length (tree m.net m.limits))
walked_refused budget m number place e = go (dec_lt budget (length (tree m.net m.limits)))
  where
    go : Dec (budget < length (tree m.net m.limits)) → (number ≡ 13) × (place ≡ 0) × (budget < length (tree m.net m.limits))
    go (yes h) = let same = sym e ∙ walked_over budget m h in (refused_number same, refused_place same, h)
    go (no h) = absurd (refused_not_granted (sym e ∙ walked_within budget m (omega arith)))

-- a walk that reports is within the budget
pub walked_reports : (budget : ℕ) (m : Model) (r : Report) → walked budget m ≡ Answer.granted r → length (tree m.net m.limits) ≤ budget
walked_reports budget m r e = go (dec_lt budget (length (tree m.net m.limits)))
  where
    go : Dec (budget < length (tree m.net m.limits)) → length (tree m.net m.limits) ≤ budget
    go (yes h) = absurd (refused_not_granted (sym (walked_over budget m h) ∙ e))
    go (no h) = omega arith

-- who lends no row is never refused with 14
pub answer_not_fourteen : (ws : List ℕ) (budget place : ℕ) → answer ws budget ≡ Answer.refused 14 place → ⊥
answer_not_fourteen ws budget place e = go (read ws budget) refl
  where
    go : (a : Answer Model) → read ws budget ≡ a → ⊥
    go (Answer.refused n p) f =
        let same : n ≡ 14 = refused_number (sym (answer_refused ws budget n p f) ∙ e) in
        (read_number ws budget n p f).1 same
    go (Answer.granted m) f = absurd (omega (arith, (walked_refused budget m 14 place (sym (answer_read ws budget m f) ∙ e)).0))

-- "14 when there are fewer rows than such states", and in no other event
pub few_by_rows : (ws : List ℕ) (budget lent place : ℕ) (m : Model) → read ws budget ≡ Answer.granted m
    → answer_with_rows ws budget lent ≡ Answer.refused 14 place → lent < length (row_states m)
few_by_rows ws budget lent place m e f = go (dec_lt lent (length (row_states m)))
  where
    go : Dec (lent < length (row_states m)) → lent < length (row_states m)
    go (yes h) = h
    go (no h) =
        let granted = rows_read_granted ws budget lent e (omega arith) in
        absurd (omega (arith, (walked_refused budget m 14 place (sym granted.answers ∙ f)).0))

-- ---- the rows of a model

module _ (budget : ℕ) (m : Model) where
  pub rows_of_over : budget < length (tree m.net m.limits) → rows_of budget m ≡ map zero_row (row_states m)
  unfolding rows_of
  rows_of_over h = rw (lt-ltb budget (length (tree m.net m.limits)) h, rows_of)

  pub rows_of_within : length (tree m.net m.limits) ≤ budget
      → rows_of budget m ≡ map (row_on m.net (tree m.net m.limits)) (row_states m)
  unfolding rows_of
  rows_of_within h = rw (le-ltb budget (length (tree m.net m.limits)) h, rows_of)

  pub rows_of_length : length (rows_of budget m) ≡ length (row_states m)
  rows_of_length = go (dec_lt budget (length (tree m.net m.limits)))
    where
      go : Dec (budget < length (tree m.net m.limits)) → length (rows_of budget m) ≡ length (row_states m)
      go (yes h) = ap length (rows_of_over h) ∙ length-map (row_states m) zero_row
      go (no h) = ap length (rows_of_within (omega arith)) ∙ length-map (row_states m) (row_on m.net (tree m.net m.limits))

  -- row i of them, by the i-th row state
  module _ (i : ℕ) (d : Row) (small : i < length (row_states m)) where
    pub rows_of_over_at : budget < length (tree m.net m.limits) → get_or (rows_of budget m) i d ≡ zero_row (get_or (row_states m) i 0)
    rows_of_over_at h = ap (λ rs. get_or rs i d) (rows_of_over h) ∙ lookup_map zero_row (row_states m) i 0 d small

    pub rows_of_within_at : length (tree m.net m.limits) ≤ budget
        → get_or (rows_of budget m) i d ≡ row_on m.net (tree m.net m.limits) (get_or (row_states m) i 0)
    rows_of_within_at h =
        ap (λ rs. get_or rs i d) (rows_of_within h) ∙ lookup_map (row_on m.net (tree m.net m.limits)) (row_states m) i 0 d small

-- ---- rows laid over a table

pub laid_over_none : (given : List Row) → laid_over [] given ≡ given
unfolding laid_over
laid_over_none given = refl

module _ (filled given : List Row) where
  pub laid_over_length : length filled ≤ length given → length (laid_over filled given) ≡ length given
  unfolding laid_over
  laid_over_length h = omega (arith, length-append filled (drop (length filled) given), length-drop (length filled) given)

  pub laid_over_first : (i : ℕ) (d : Row) → i < length filled → get_or (laid_over filled given) i d ≡ get_or filled i d
  unfolding laid_over
  laid_over_first i d h = get_or-append filled (drop (length filled) given) d i h

  pub laid_over_beyond : (i : ℕ) (d : Row) → length filled ≤ i → get_or (laid_over filled given) i d ≡ get_or given i d
  unfolding laid_over
  laid_over_beyond i d h =
      let n = length filled in
      let split : n + (i - n) ≡ i = omega arith in
      ap (λ k. get_or (filled ++ drop n given) k d) (sym split) ∙ get_or-append-add filled (drop n given) (i - n) d
      ∙ get_or-drop n given (i - n) d ∙ ap (λ k. get_or given k d) split
