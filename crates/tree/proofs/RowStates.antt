-- The list of row states is what document 02 says of it: each state without exits that is a target and none of the generator's, rising, and so each
-- that a death path ends in; it has at most N states. Assumes nothing.
use Prim.Native.Nat.{ℕ, zero, suc, ◌+◌, ◌≤◌, ◌<◌}
use mathlib.Core.Path.{◌≡◌, refl, sym, ap, ap₂, ◌∙◌}
use mathlib.Core.Bool.{Bool, true, false, not, ◌&&◌, false≢true}
use mathlib.Core.Logic.{∥∥₁_elim, ∥∥₁_map}
use mathlib.Core.List.{List, [], ◌∷◌, Mem, Memᴰ, Mem-prop}
use native.Mathlib.Omega.{arith}
use native.Mathlib.Decide.{ℕ_discrete}
use lib.ListN.{length}
use lib.Dec.{eqb}
use borrow.Author.Tests.{eqb-true, eq-eqb}
use Rattle.word.specs.Model.{Model, is_empty, any, numbers_from, is_named, leaves, exits_in, exits}
use Rattle.word.specs.Internal.Lists.{Each}
use Rattle.word.proofs.Members.{both, each_monotone, each_member, only_length, any_some}
use Rattle.model.specs.Internal.Valid.{ValidTransition, Valid}
use Rattle.model.proofs.ReadValid.{read_valid}
use Rattle.tree.specs.Paths.{Path, last_state, IsPath}
use Rattle.tree.specs.Tree.{is_death}
use Rattle.tree.specs.Rows.{has_row, row_states}
use Rattle.tree.specs.RowsFaithful.{HasRow, RowStatesExactly, RowStatesRise, EveryDeathHasRow}
use Rattle.tree.specs.Internal.Outcomes.{decided}
use Rattle.tree.proofs.Lists.{only_member, only_from, any_member, InOrder, in_order_only, in_order_lookup}
use Rattle.tree.proofs.Outcomes.{outcome_decided}
use Rattle.tree.proofs.Ended.{InTree, paths_in_tree}

-- ---- the n numbers from s on

numbers_bounds : (n s : ℕ) → Each (λ k. (s ≤ k) × (k < s + n)) (numbers_from n s)
unfolding numbers_from Each
numbers_bounds zero s = tt
numbers_bounds (suc n) s = (
  (omega arith, omega arith),
  each_monotone (λ k. (suc s ≤ k) × (k < suc s + n)) (λ k. (s ≤ k) × (k < s + suc n)) (λ k h. (omega (arith, h.0), omega (arith, h.1)))
      (numbers_from n (suc s)) (numbers_bounds n (suc s)),
)

numbers_member : (n s k : ℕ) → s ≤ k → k < s + n → Memᴰ k (numbers_from n s)
unfolding numbers_from
numbers_member zero s k low high = absurd (omega arith)
numbers_member (suc n) s k low high = go (ℕ_discrete k s) (numbers_member n (suc s) k)
  where
    go : Dec (k ≡ s) → (suc s ≤ k → k < suc s + n → Memᴰ k (numbers_from n (suc s))) → Memᴰ k (s ∷ numbers_from n (suc s))
    go (yes e) below = Memᴰ.head e
    go (no e) below = Memᴰ.tail (below (omega arith) (omega arith))

numbers_rise : (n s : ℕ) → InOrder ◌<◌ (numbers_from n s)
unfolding numbers_from InOrder
numbers_rise zero s = tt
numbers_rise (suc n) s = (
  each_monotone (λ k. (suc s ≤ k) × (k < suc s + n)) (λ k. s < k) (λ k h. h.0) (numbers_from n (suc s)) (numbers_bounds n (suc s)),
  numbers_rise n (suc s),
)

numbers_length : (n s : ℕ) → length (numbers_from n s) ≡ n
unfolding numbers_from
numbers_length zero s = refl
numbers_length (suc n) s = ap suc (numbers_length n (suc s))

-- ---- the list of row states

pub row_states_few : (m : Model) → length (row_states m) ≤ m.states
unfolding row_states
row_states_few m = omega (arith, only_length (has_row m.net) (numbers_from m.states 1), numbers_length m.states 1)

pub row_states_rise : RowStatesRise
unfolding row_states
row_states_rise m = in_order_lookup ◌<◌ (row_states m) 0
    (in_order_only ◌<◌ (has_row m.net) (numbers_from m.states 1) (numbers_rise m.states 1))

-- each of them is from 1 to N
pub row_states_range : (m : Model) {s : ℕ} → Memᴰ s (row_states m) → (1 ≤ s) × (s ≤ m.states)
unfolding row_states
row_states_range m {s} k =
    let among = (only_from (has_row m.net) (numbers_from m.states 1) k).0 in
    let h = each_member (λ x. (1 ≤ x) × (x < 1 + m.states)) among (numbers_bounds m.states 1) in
    (h.0, omega (arith, h.1))

pub is_empty_nil : {A : Type 0} (xs : List A) → is_empty xs ≡ true → xs ≡ []
is_empty_nil [] e = refl
is_empty_nil (x ∷ xs) e = absurd (false≢true e)

not_true : (b : Bool) → not b ≡ true → b ≡ false
not_true true e = sym e
not_true false e = refl

-- the law: a state stands in the list exactly if it is such a state
row_state_has : (m : Model) {s : ℕ} → Memᴰ s (row_states m) → HasRow m s
unfolding row_states has_row
row_state_has m {s} k =
    let range = row_states_range m k in
    let passes = (only_from (has_row m.net) (numbers_from m.states 1) k).1 in
    let (free, rest) = both (not (is_named m.net s)) _ passes in
    let tests = both (is_empty (exits m.net s)) (any (λ t. eqb t.to s) m.net.table) rest in
    let (t, member, arrives) = any_some (λ t. eqb t.to s) m.net.table tests.1 in
    record {
      low = range.0;
      high = range.1;
      not_named = not_true (is_named m.net s) free;
      no_exits = is_empty_nil (exits m.net s) tests.0;
      by = t;
      in_table = member;
      target = eqb-true t.to s arrives;
    }

has_row_state : (m : Model) {s : ℕ} → HasRow m s → Memᴰ s (row_states m)
unfolding row_states has_row
has_row_state m {s} h =
    only_member (has_row m.net) (numbers_member m.states 1 s h.low (omega (arith, h.high)))
    (ap₂ (λ b ts. not b && (is_empty ts && any (λ t. eqb t.to s) m.net.table)) h.not_named h.no_exits
    ∙ any_member (λ t. eqb t.to s) h.in_table (eq-eqb h.by.to s h.target))

pub row_states_exactly : RowStatesExactly
row_states_exactly m s = (λ k. ∥∥₁_map k (row_state_has m), λ h. ∥∥₁_map h (has_row_state m))

-- ---- a death path ends in one of them

pub death_decided : (n a b c d : Bool) → is_death (decided n a b c d) ≡ true → (n ≡ false) × (a ≡ true)
unfolding decided
death_decided true a b c d e = absurd (false≢true e)
death_decided false true b c d e = (refl, refl)
death_decided false false true c d e = absurd (false≢true e)
death_decided false false false true d e = absurd (false≢true e)
death_decided false false false false true e = absurd (false≢true e)
death_decided false false false false false e = absurd (false≢true e)

module _ {m : Model} (valid : Valid m) where
  death_row : (p : Path) → InTree m.net m.limits is_death p → Mem (last_state m.net p) (row_states m)
  unfolding IsPath last_state exits_in
  death_row [] h = absurd (omega (arith, h.formed.non_empty))
  death_row (t ∷ p) h =
      ∥∥₁_map h.formed.is_path.0 (λ k. has_row_state m (arrives (only_from (leaves (last_state m.net p)) m.net.table k).0))
    where
      ended : (is_named m.net t.to ≡ false) × (is_empty (exits m.net t.to) ≡ true)
      ended = death_decided _ _ _ _ _ (ap is_death (sym (outcome_decided m.net m.limits (t ∷ p))) ∙ h.passes)

      arrives : Memᴰ t m.net.table → HasRow m t.to
      arrives k =
          let v = each_member (ValidTransition m.states) k valid.table in
          record {
            low = v.to_low;
            high = v.to_high;
            not_named = ended.0;
            no_exits = is_empty_nil (exits m.net t.to) ended.1;
            by = t;
            in_table = k;
            target = refl;
          }

pub every_death_has_row : EveryDeathHasRow
every_death_has_row ws budget m e p k =
    ∥∥₁_elim k Mem-prop
    (λ d. death_row (read_valid ws budget m e) p (each_member (InTree m.net m.limits is_death) d (paths_in_tree m.net m.limits is_death)))
