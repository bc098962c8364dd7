-- One turn of the loop over pairs: a pair more is combined. Assumes nothing.
use Prim.Native.Nat.{ℕ, ◌+◌, ◌*◌, ◌<◌}
use mathlib.Core.Path.{◌≡◌, refl, sym, ap, ap₂, ◌∙◌}
use mathlib.Core.List.{List, [], ◌∷◌, ◌++◌, foldl}
use native.Mathlib.Omega.{arith}
use native.Mathlib.Numerals.{add-one}
use lib.Dec.{lit≤}
use lib.ListN.{length, take}
use lib.Seq.{take-suc}
use Rattle.figure.specs.declared.Figure.{Figure}
use Rattle.figure.specs.Rounding.{none, is_zero}
use Rattle.figure.specs.Operands.{Sized}
use Rattle.figure.proofs.Sized.{sized-≤}
use Rattle.orprob.specs.declared.Pair.{Pair}
use Rattle.orprob.specs.Pairs.{IsPair}
use Rattle.orprob.specs.Combination.{at_most_one, with_upper, with_lower, lower_or, upper_or}
use Rattle.orprob.specs.Internal.Parts.{no_pair, pair_at}
use Rattle.orprob.proofs.Operands.{lower_sized, upper_sized, with_lower_sized, with_upper_sized}

-- ---- combined

-- i pairs are combined, with powers that operations take
pub record Combining (pairs : List Pair) (i : ℕ) (lower upper : Figure) : Type 0 where
  pub lower_is : lower ≡ lower_or (take i pairs)
  pub upper_is : upper ≡ upper_or (take i pairs)
  pub lower_sized : Sized 9 (i * 2100) lower
  pub upper_sized : Sized 9 (i * 2100) upper

pub combining_none : (pairs : List Pair) → Combining pairs 0 none none
unfolding lower_or upper_or
combining_none pairs = record { lower_is = refl; upper_is = refl; lower_sized = zero_sized; upper_sized = zero_sized }
  where
    zero_sized : Sized 9 0 none
    zero_sized = record { is_figure = is_zero refl refl; near = lit≤ tt }

-- ---- one pair more

folded_last : {A B : Type 0} (f : B → A → B) (b : B) (xs : List A) (x : A) → foldl f b (xs ++ (x ∷ [])) ≡ f (foldl f b xs) x
folded_last f b [] x = refl
folded_last f b (y ∷ xs) x = folded_last f (f b y) xs x

module _ (pairs : List Pair) (i : ℕ) (h : i < length pairs) where
  lower_last : lower_or (take (i + 1) pairs) ≡ with_lower (lower_or (take i pairs)) (pair_at pairs i).lower
  unfolding lower_or
  lower_last = rw (add-one, take-suc pairs i no_pair) (folded_last (λ s x. with_lower s x.lower) none (take i pairs) (pair_at pairs i))

  upper_last : upper_or (take (i + 1) pairs) ≡ with_upper (upper_or (take i pairs)) (at_most_one (pair_at pairs i).upper)
  unfolding upper_or
  upper_last =
      rw (add-one, take-suc pairs i no_pair) (folded_last (λ s x. with_upper s (at_most_one x.upper)) none (take i pairs) (pair_at pairs i))

  pub combining_more : {lower upper high lower' upper' : Figure} → IsPair (pair_at pairs i) → Combining pairs i lower upper
      → lower' ≡ with_lower lower (pair_at pairs i).lower → high ≡ at_most_one (pair_at pairs i).upper → upper' ≡ with_upper upper high
      → Combining pairs (i + 1) lower' upper'
  combining_more {lower} {upper} p c l t u = record {
    lower_is = l ∙ ap (λ s. with_lower s (pair_at pairs i).lower) c.lower_is ∙ sym lower_last;
    upper_is = u ∙ ap₂ with_upper c.upper_is t ∙ sym upper_last;
    lower_sized = rw l (sized-≤ (omega arith) (with_lower_sized c.lower_sized (lower_sized p)));
    upper_sized = rw (u, t) (sized-≤ (omega arith) (with_upper_sized c.upper_sized (upper_sized p)));
  }
