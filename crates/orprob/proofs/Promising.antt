-- From what the parts promise to what the entry point does. Assumes nothing.
use Rattle.std.proofs.lemmas.List.Quantifiers.{position-Some}
use Rattle.std.proofs.lemmas.List.Sums.{fails_before_first}
use Rattle.std.specs.List.{position_or_len}
use Rattle.std.proofs.Common.{cond, ℕ, ◌<◌, ◌≡◌, refl, sym, ap₂, ◌∙◌, Bool, true, false}
use Rattle.std.proofs.Common.{not, List, length, arith, Some, None, Result, Ok, Err, position, nat_lt}
use borrow.Author.Tests.{ltb-false}
use native.Mathlib.Nat.{zero-add}
use Rattle.figure.proofs.Faithful.{faithful_figures}
use Rattle.figure.proofs.Tested.{tested}
use Rattle.word.specs.Answer.{granted}
use Rattle.word.specs.Faults.{outside}
use Rattle.orprob.specs.declared.Pair.{Pair}
use Rattle.orprob.specs.declared.OrRefusal.{OrRefusal}
use Rattle.orprob.specs.declared.OrRefusal.TheVariants.{PairCountOutOfRange, PairOutOfRange}
use Rattle.orprob.specs.Pairs.{is_pair}
use Rattle.orprob.specs.Combination.{lower_or, upper_or, answer}
use Rattle.orprob.specs.Internal.Parts.{Right, no_pair}
use Rattle.orprob.specs.Promise.{answer_of, FaithfulOr, Promised}
use Rattle.orprob.proofs.PairTests.{pair_tested, all_pass, found_at}
use Rattle.orprob.proofs.Enclosure.{both_or, answer_count, answer_pairs, enclosure_theorem}
use Rattle.orprob.proofs.Pinned.{or_cases_agree, exact_ors_agree}

not_true : (b : Bool) → not b ≡ true → b ≡ false
not_true true e = sym e
not_true false e = refl

not_false : (b : Bool) → not b ≡ false → b ≡ true
not_false true e = refl
not_false false e = sym e

pub faithful_or : FaithfulOr
faithful_or = record { figures = faithful_figures; figure_tested = tested; pair_tested = pair_tested; cases = or_cases_agree; exact_cases = exact_ors_agree }

module _ (pairs : List Pair) where
  promise : (r : Result Pair OrRefusal) → answer_of r ≡ answer (length pairs) pairs → Promised pairs r
  promise r e = record {
    answer_is = e;
    encloses = λ x g. enclosure_theorem (length pairs) pairs x (omega arith) (sym e ∙ g);
    faithful = faithful_or;
  }

  pub miscounted : outside 1 16 (length pairs) ≡ true → Promised pairs (Err PairCountOutOfRange)
  miscounted h = promise (Err PairCountOutOfRange) (sym (answer_count (length pairs) pairs h))

  module _ (counted : outside 1 16 (length pairs) ≡ false) where
    pub one_wrong : (i : ℕ) → position (λ x. not (is_pair x)) pairs ≡ Some i → Promised pairs (Err (PairOutOfRange i))
    one_wrong i h =
        let (inside, here, before) = position-Some (λ x. not (is_pair x)) pairs i no_pair h in
        promise (Err (PairOutOfRange i)) (sym (answer_pairs (length pairs) pairs counted
        ∙ rw zero-add at (found_at pairs i 0 (granted (both_or pairs)) inside (λ j l. not_false _ (before j l)) (not_true _ here))))

    pub all_right : Right pairs (length pairs) → (r : Pair) → r.lower ≡ lower_or pairs → r.upper ≡ upper_or pairs → Promised pairs (Ok r)
    all_right h r a b = promise (Ok r)
        (ap₂ (λ x y. granted (record { lower = x; upper = y })) a b
        ∙ sym (answer_pairs (length pairs) pairs counted ∙ all_pass pairs 0 (granted (both_or pairs)) h.right))

-- no pair is none
pub none_wrong : (pairs : List Pair) → position (λ x. not (is_pair x)) pairs ≡ None → Right pairs (length pairs)
none_wrong pairs h = record {
  right = λ j l. not_false _ (fails_before_first (λ x. not (is_pair x)) pairs j no_pair (go (nat_lt first (length pairs)) refl h l));
}
  where
    first : ℕ
    first = position_or_len (λ x. not (is_pair x)) pairs

    go : (b : Bool) → nat_lt first (length pairs) ≡ b → cond b (Some first) None ≡ None → {j : ℕ} → j < length pairs → j < first
    go true t e l = cc
    go false t e l = omega (arith, ltb-false first (length pairs) t)
