-- The exact value of the lowers is at most that of the uppers: the product of the complements falls as the probabilities grow. Assumes nothing.
use mathlib.Core.List.{List, [], ◌∷◌, map}
use native.Mathlib.Omega.{plit}
use lib.Dec.{lit≤}
use Rattle.fraction.specs.Fraction.{Fraction, ◌≤ᶠ◌, whole, ◌-ᶠ◌}
use Rattle.fraction.proofs.SignedCertificate.{var, lit, ◌⊟◌, order, prove_signed}
use Rattle.fraction.proofs.Laws.{≤ᶠ_refl, ≤ᶠ_trans, -ᶠ_mono, *ᶠ_mono, *ᶠ_nonneg, whole-≤}
use Rattle.word.specs.Internal.Lists.{Each}
use Rattle.orprob.specs.declared.Pair.{Pair}
use Rattle.orprob.specs.Combination.{complements, exact_or}

-- at most the other, which is at most 1
pub record Rises (p q : Fraction) : Type 0 where
  pub below : p ≤ᶠ q
  pub small : q ≤ᶠ whole 1

module _ (low high : Pair → Fraction) where
  abbrev Rise : List Pair → Type 0
  Rise = Each (λ x. Rises (low x) (high x))

  rest : (p : Fraction) → p ≤ᶠ whole 1 → whole 0 ≤ᶠ whole 1 -ᶠ p
  rest p h = prove_signed (p ∷ []) (order (plit 1) (var 0) (lit 1) ∷ []) (lit 0) (lit 1 ⊟ var 0) tt h

  not_negative : (xs : List Pair) → Rise xs → whole 0 ≤ᶠ complements (map low xs)
  unfolding complements Each
  not_negative [] r = whole-≤ (lit≤ tt)
  not_negative (x ∷ xs) r = *ᶠ_nonneg (rest (low x) (≤ᶠ_trans r.0.below r.0.small)) (not_negative xs r.1)

  fall : (xs : List Pair) → Rise xs → complements (map high xs) ≤ᶠ complements (map low xs)
  unfolding complements Each
  fall [] r = ≤ᶠ_refl _
  fall (x ∷ xs) r =
      *ᶠ_mono (rest (high x) r.0.small) (not_negative xs r.1) (-ᶠ_mono (≤ᶠ_refl (whole 1)) r.0.below) (fall xs r.1)

  pub or_rises : (xs : List Pair) → Rise xs → exact_or (map low xs) ≤ᶠ exact_or (map high xs)
  unfolding exact_or
  or_rises xs r = -ᶠ_mono (≤ᶠ_refl (whole 1)) (fall xs r)
