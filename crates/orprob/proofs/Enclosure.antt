-- The probabilistic OR of up to 16 pairs lies outward of its exact value and within one part in 1,000,000 of it: at most 48 roundings. Assumes nothing.
use mathlib.Core.Path.{◌≡◌, refl, sym, ◌∙◌}
use mathlib.Core.Bool.{Bool, true, false}
use mathlib.Core.List.{List, [], ◌∷◌, foldl, map}
use Prim.Native.Nat.{ℕ, ◌+◌, ◌*◌, ◌≤◌}
use native.Mathlib.Omega.{arith, patom, plit}
use native.Mathlib.Nat.{le_trans}
use lib.Dec.{lit≤}
use lib.ListN.{length}
use Rattle.fraction.specs.Fraction.{◌≤ᶠ◌}
use Rattle.fraction.proofs.Ratio.{Ratio, ◌≼◌, ofℕ, ◌⊕◌, ◌⊗◌, ◌≈◌, ≼_refl, ≼_trans, ≈_le, ≈_ge, ⊗_mono, ⊗_cancel, ⊗_zero, ofℕ_pos, zero-≼}
use Rattle.fraction.proofs.Certificate.{◌+'◌, ◌*'◌, prove, hyp}
use Rattle.fraction.proofs.Inverse.{◌over◌, over_is}
use Rattle.fraction.proofs.Within.{Within, ε, ε_is, grow_linear}
use Rattle.fraction.proofs.Signed.{signed-⊗, signed_ratio, signed_whole}
use Rattle.fraction.proofs.Laws.{≤ᶠ_trans}
use Rattle.figure.specs.declared.Figure.{Figure}
use Rattle.figure.specs.Rounding.{none, value}
use Rattle.figure.specs.Operations.{of_whole}
use Rattle.figure.proofs.Value.{val, val-≼, below_value, above_value}
use Rattle.word.specs.Faults.{outside}
use Rattle.word.specs.Answer.{refused, granted}
use Rattle.word.specs.Internal.Lists.{Each}
use Rattle.word.proofs.Members.{each_monotone}
use Rattle.word.proofs.Tests.{inside}
use Rattle.model.proofs.Refusals.{refused_not_granted}
use Rattle.accuracy.proofs.Folds.{fold_count}
use Rattle.accuracy.proofs.Natural.{◌is◌}
use Rattle.accuracy.proofs.Roundings.{ρ}
use Rattle.accuracy.proofs.Near.{Near, near_exact, near-≤}
use Rattle.accuracy.proofs.Under.{Under, under_exact, under-≤}
use Rattle.orprob.specs.declared.Pair.{Pair}
use Rattle.orprob.specs.Pairs.{first_wrong, IsPair}
use Rattle.orprob.specs.Combination.{at_most_one, with_upper, with_lower, upper_or, lower_or, exact_or, exact_lower_or, exact_upper_or}
use Rattle.orprob.specs.Combination.{Encloses, answer, EnclosureTheorem}
use Rattle.orprob.proofs.Joined.{one_is, joined, joined_one, at_most_one_is, at_most_one_small, at_most_one_rises, upper_joined, lower_joined}
use Rattle.orprob.proofs.ExactOr.{folded, exact_is}
use Rattle.orprob.proofs.Order.{Rises, or_rises}
use Rattle.orprob.proofs.PairTests.{one_above, all_pairs}

-- ---- the rounded value: three roundings for each pair, whichever way they go

-- a running s against the running exact value: so many roundings, and neither is above 1
record Running (Close : ℕ → Figure → Ratio → Type 0) (k : ℕ) (s : Figure) (e : Ratio) : Type 0 where
  close : Close (k * 3) s e
  one : val s ≼ ofℕ 1
  exact_one : e ≼ ofℕ 1

none_is : val none ≈ ofℕ 0
none_is = ⊗_zero _

module _ (Close : ℕ → Figure → Ratio → Type 0) (with : Figure → Figure → Figure) (side : Pair → Figure)
    (looser : (m n : ℕ) (s : Figure) (e : Ratio) → m ≤ n → Close m s e → Close n s e) (with-one : (s p : Figure) → val (with s p) ≼ ofℕ 1)
    (with-close : (s p : Figure) → val s ≼ ofℕ 1 → val p ≼ ofℕ 1 → (n : ℕ) (e : Ratio) → e ≼ ofℕ 1 → Close n s e → Close (n + 3) (with s p) (joined e (val p)))
    (start : Close 0 none (ofℕ 0)) where
  step : (k : ℕ) (s : Figure) (e : Ratio) (x : Pair) → val (side x) ≼ ofℕ 1 → 0 ≤ k → Running Close k s e
      → Running Close (k + 1) (with s (side x)) (joined e (val (side x)))
  step k s e x h _ u = record {
    close = looser _ ((k + 1) * 3) _ _ (omega arith) (with-close s (side x) u.one h (k * 3) e u.exact_one u.close);
    one = with-one s (side x);
    exact_one = joined_one u.exact_one h;
  }

  -- of up to 16 pairs 48 roundings
  all_run : (pairs : List Pair) → length pairs ≤ 16 → Each (λ x. val (side x) ≼ ofℕ 1) pairs
      → Running Close 16 (foldl (λ s x. with s (side x)) none pairs) (folded side (ofℕ 0) pairs)
  unfolding folded
  all_run pairs few ones = record { close = looser _ 48 _ _ (omega (arith, few)) run.close; one = run.one; exact_one = run.exact_one }
    where
      run : Running Close (0 + length pairs) (foldl (λ s x. with s (side x)) none pairs) (foldl (λ y x. joined y (val (side x))) (ofℕ 0) pairs)
      run = fold_count (Running Close) (λ x. val (side x) ≼ ofℕ 1) (λ s x. with s (side x)) (λ y x. joined y (val (side x))) 0
          step 0 pairs ones (omega arith) (record { close = start; one = ≼_trans (≈_le none_is) (zero-≼ _); exact_one = zero-≼ _ })

with_upper_one : (s p : Figure) → val (with_upper s p) ≼ ofℕ 1
unfolding with_upper
with_upper_one s p = at_most_one_is _

with_lower_one : (s p : Figure) → val (with_lower s p) ≼ ofℕ 1
unfolding with_lower
with_lower_one s p = at_most_one_is _

abbrev upper_of : Pair → Figure
upper_of x = at_most_one x.upper

abbrev lower_of : Pair → Figure
lower_of x = x.lower

module _ (pairs : List Pair) (few : length pairs ≤ 16) where
  upper_runs : Each (λ x. val (upper_of x) ≼ ofℕ 1) pairs → Running Near 16 (upper_or pairs) (folded upper_of (ofℕ 0) pairs)
  unfolding upper_or
  upper_runs = all_run Near with_upper upper_of (λ m n s e h c. near-≤ n h c) with_upper_one (λ s p a b n e c d. upper_joined s p a b c d)
      (near_exact none_is) pairs few

  lower_runs : Each (λ x. val (lower_of x) ≼ ofℕ 1) pairs → Running Under 16 (lower_or pairs) (folded lower_of (ofℕ 0) pairs)
  unfolding lower_or
  lower_runs = all_run Under with_lower lower_of (λ m n s e h c. under-≤ n h c) with_lower_one (λ s p a b n e c d. lower_joined s p a b c d)
      (under_exact none_is) pairs few

-- ---- one part in 1,000,000

-- 48 roundings are at most 49 parts of 10^-8
parts : ρ 48 ≼ ofℕ 1 ⊕ ofℕ 49 ⊗ ε
parts = grow_linear 48 (lit≤ tt)

above : {y x : Ratio} → Within (ρ 48) y x → y ≼ x ⊗ (1000001 over 1000000)
above {y} {x} p = ⊗_cancel (ofℕ 1000000) (ofℕ_pos (lit≤ tt)) (prove (y ∷ x ∷ ρ 48 ∷ ε ∷ (1000001 over 1000000) ∷ [])
    (hyp (plit 1000000) (patom 0) (patom 1 *' patom 2) ∷ hyp (plit 1000000 *' patom 1) (patom 2) (plit 1 +' plit 49 *' patom 3)
    ∷ hyp (patom 1) (plit 100000000 *' patom 3) (plit 1) ∷ hyp (patom 1) (plit 1000001) (plit 1000000 *' patom 4) ∷ [])
    (plit 1000000 *' patom 0) (plit 1000000 *' (patom 1 *' patom 4)) tt
    p.high parts (≈_le ε_is) (≈_ge (over_is 1000001 1000000 (lit≤ tt))))

below : {y x : Ratio} → Within (ρ 48) x y → x ⊗ (999999 over 1000000) ≼ y
below {y} {x} p = ⊗_cancel (ofℕ 1000000) (ofℕ_pos (lit≤ tt)) (prove (y ∷ x ∷ ρ 48 ∷ ε ∷ (999999 over 1000000) ∷ [])
    (hyp (plit 999999) (patom 1) (patom 0 *' patom 2) ∷ hyp (plit 999999 *' patom 0) (patom 2) (plit 1 +' plit 49 *' patom 3)
    ∷ hyp (patom 0) (plit 100000000 *' patom 3) (plit 1) ∷ hyp (patom 1) (plit 1000000 *' patom 4) (plit 999999) ∷ [])
    (plit 1000000 *' (patom 1 *' patom 4)) (plit 1000000 *' patom 0) tt
    p.high parts (≈_le ε_is) (≈_le (over_is 999999 1000000 (lit≤ tt))))

-- ---- the pairs of an answer

abbrev pub both_or : List Pair → Pair
both_or pairs = record { lower = lower_or pairs; upper = upper_or pairs }

lower_one : (x : Pair) → IsPair x → val (lower_of x) ≼ ofℕ 1
lower_one x h = ≼_trans (val-≼ x.lower (of_whole 1) (≤ᶠ_trans h.at_most_one one_above)) (≈_le one_is)

pair_rises : (x : Pair) → IsPair x → Rises (value (lower_of x)) (value (upper_of x))
pair_rises x h = record { below = at_most_one_rises x.lower x.upper h.in_order h.at_most_one; small = at_most_one_small x.upper }

module _ (pairs : List Pair) (few : length pairs ≤ 16) (are : Each IsPair pairs) where
  uppers : Each (λ x. val (upper_of x) ≼ ofℕ 1) pairs
  uppers = each_monotone IsPair (λ x. val (upper_of x) ≼ ofℕ 1) (λ x _. at_most_one_is x.upper) pairs are

  lowers : Each (λ x. val (lower_of x) ≼ ofℕ 1) pairs
  lowers = each_monotone IsPair (λ x. val (lower_of x) ≼ ofℕ 1) lower_one pairs are

  low : exact_or (map (λ x. value x.lower) pairs) is folded lower_of (ofℕ 0) pairs
  low = exact_is lower_of pairs lowers

  high : exact_or (map (λ x. value (at_most_one x.upper)) pairs) is folded upper_of (ofℕ 0) pairs
  high = exact_is upper_of pairs uppers

  lower_under : Within (ρ 48) (folded lower_of (ofℕ 0) pairs) (val (lower_or pairs))
  lower_under = (lower_runs pairs few lowers).close.within

  upper_near : Within (ρ 48) (val (upper_or pairs)) (folded upper_of (ofℕ 0) pairs)
  upper_near = (upper_runs pairs few uppers).close.within

  lower_most : value (lower_or pairs) ≤ᶠ exact_lower_or pairs
  unfolding exact_lower_or
  lower_most = rw low.equal (above_value _ (≼_trans lower_under.low (≈_ge low.same)))

  upper_least : exact_upper_or pairs ≤ᶠ value (upper_or pairs)
  unfolding exact_upper_or
  upper_least = rw high.equal (below_value _ (≼_trans (≈_le high.same) upper_near.low))

  exact_order : exact_lower_or pairs ≤ᶠ exact_upper_or pairs
  unfolding exact_lower_or exact_upper_or
  exact_order = or_rises (λ x. value (lower_of x)) (λ x. value (upper_of x)) pairs
      (each_monotone IsPair (λ x. Rises (value (lower_of x)) (value (upper_of x))) pair_rises pairs are)

  encloses : Encloses pairs (both_or pairs)
  unfolding exact_lower_or exact_upper_or
  encloses = record {
    lower_from = rw (low.equal, ← signed_ratio 999999 1000000, ← signed-⊗ low.held (999999 over 1000000))
        (below_value _ (≼_trans (⊗_mono (≈_le low.same) (≼_refl _)) (below lower_under)));
    lower_to = lower_most;
    upper_from = upper_least;
    upper_to = rw (high.equal, ← signed_ratio 1000001 1000000, ← signed-⊗ high.held (1000001 over 1000000))
        (above_value _ (≼_trans (above upper_near) (⊗_mono (≈_ge high.same) (≼_refl _))));
    in_order = ≤ᶠ_trans lower_most (≤ᶠ_trans exact_order upper_least);
    at_most_whole = rw (← signed_whole 1) (above_value _ (upper_runs pairs few uppers).one);
  }

-- ---- the theorem

-- the answer, where the count is in range and where it is not
module _ (count : ℕ) (pairs : List Pair) where
  pub answer_count : outside 1 16 count ≡ true → answer count pairs ≡ refused 17 0
  unfolding answer
  answer_count e = rw (e, answer)

  pub answer_pairs : outside 1 16 count ≡ false → answer count pairs ≡ first_wrong pairs 0 (granted (both_or pairs))
  unfolding answer
  answer_pairs e = rw (e, answer)

pub enclosure_theorem : EnclosureTheorem
enclosure_theorem count pairs r l e = go (outside 1 16 count) refl
  where
    go : (b : Bool) → outside 1 16 count ≡ b → Encloses pairs r
    go true h = absurd (refused_not_granted (sym (answer_count count pairs h) ∙ e))
    go false h =
        let (are, same) = all_pairs pairs 0 (both_or pairs) r (sym (answer_pairs count pairs h) ∙ e) in
        rw (← same) (encloses pairs (le_trans l (inside 1 16 count h).1) are)
