-- The exact value, one subsystem after the other: what is left of 1 is the product of the complements. Assumes nothing.
use mathlib.Core.Path.{sym, ◌∙◌, ap₂}
use mathlib.Core.List.{List, [], ◌∷◌, foldl, map}
use native.Mathlib.Omega.{patom, plit}
use Rattle.fraction.specs.Fraction.{whole, ◌-ᶠ◌}
use Rattle.fraction.proofs.Ratio.{Ratio, ◌≼◌, ◌≈◌, ofℕ, ◌⊕◌, ◌⊗◌, ◌⊖◌, ≼_trans, ≼_antisym, ≈_refl, ≈_sym, ≈_trans, ≈_le, ≈_ge, ⊕_cong, ⊗_one, ⊗_one_right}
use Rattle.fraction.proofs.Ratio.{⊖_adj, ⊖_le, ⊖_back, ⊕_cancel, ⊕_comm, ⊕_zero, ≼-⊕}
use Rattle.fraction.proofs.Certificate.{◌+'◌, ◌*'◌, equal, same_value, hyp}
use Rattle.fraction.proofs.Signed.{signed-⊖, signed_whole}
use Rattle.figure.specs.declared.Figure.{Figure}
use Rattle.figure.specs.Rounding.{value}
use Rattle.figure.proofs.Value.{val, value_is}
use Rattle.word.specs.Internal.Lists.{Each}
use Rattle.accuracy.proofs.Natural.{◌is◌, is_whole, is_product}
use Rattle.orprob.specs.declared.Pair.{Pair}
use Rattle.orprob.specs.Combination.{complements, exact_or}
use Rattle.orprob.proofs.Joined.{joined}

module _ (side : Pair → Figure) where
  -- one after the other, from e on
  unfoldable pub folded : Ratio → List Pair → Ratio
  folded e pairs = foldl (λ y x. joined y (val (side x))) e pairs

  unfoldable complementsᴺ : List Pair → Ratio
  complementsᴺ [] = ofℕ 1
  complementsᴺ (x ∷ xs) = (ofℕ 1 ⊖ val (side x)) ⊗ complementsᴺ xs

  abbrev Ones : List Pair → Type 0
  Ones = Each (λ x. val (side x) ≼ ofℕ 1)

  -- what is left of 1 is c times the product of the complements
  left : (e c : Ratio) (pairs : List Pair) → Ones pairs → e ⊕ c ≈ ofℕ 1 → folded e pairs ⊕ c ⊗ complementsᴺ pairs ≈ ofℕ 1
  unfolding folded complementsᴺ Each joined
  left e c [] w h = ≈_trans (⊕_cong (≈_refl _) (⊗_one_right c)) h
  left e c (x ∷ xs) w h =
      ≈_trans (⊕_cong (≈_refl _) (same_value (c ∷ (ofℕ 1 ⊖ val (side x)) ∷ complementsᴺ xs ∷ []) (patom 0 *' (patom 1 *' patom 2)) (patom 0 *' patom 1 *' patom 2) tt tt))
      (left (joined e (val (side x))) (c ⊗ (ofℕ 1 ⊖ val (side x))) xs w.1
      (equal (e ∷ c ∷ val (side x) ∷ (ofℕ 1 ⊖ val (side x)) ∷ [])
      (hyp (patom 3) (patom 0 +' patom 1) (plit 1) ∷ hyp (plit 1) (patom 3 +' patom 2) (plit 1) ∷ [])
      (patom 2 +' patom 0 *' patom 3 +' patom 1 *' patom 3) (plit 1) tt tt h (⊖_back w.0)))

  complements_is : (pairs : List Pair) → Ones pairs → complements (map (λ x. value (side x)) pairs) is complementsᴺ pairs
  unfolding complements complementsᴺ Each
  complements_is [] w = is_whole 1
  complements_is (x ∷ xs) w = is_product (minus w.0) (complements_is xs w.1)
    where
      minus : val (side x) ≼ ofℕ 1 → whole 1 -ᶠ value (side x) is ofℕ 1 ⊖ val (side x)
      minus h = record { held = ofℕ 1 ⊖ val (side x); equal = ap₂ ◌-ᶠ◌ (sym (signed_whole 1)) (value_is (side x)) ∙ sym (signed-⊖ h); same = ≈_refl _ }

  -- "1 minus the product of (1 − p)"
  pub exact_is : (pairs : List Pair) → Ones pairs → exact_or (map (λ x. value (side x)) pairs) is folded (ofℕ 0) pairs
  unfolding exact_or
  exact_is pairs w = record {
    held = ofℕ 1 ⊖ c.held;
    equal = ap₂ ◌-ᶠ◌ (sym (signed_whole 1)) c.equal ∙ sym (signed-⊖ small);
    same = ≼_antisym (⊖_adj _ _ _ (≈_ge whole_one)) (⊕_cancel c.held (≼_trans (≈_le whole_one) (⊖_le _ _)));
  }
    where
      c : complements (map (λ x. value (side x)) pairs) is complementsᴺ pairs
      c = complements_is pairs w

      whole_one : folded (ofℕ 0) pairs ⊕ c.held ≈ ofℕ 1
      whole_one = ≈_trans (⊕_cong (≈_refl _) (≈_trans c.same (≈_sym (⊗_one _)))) (left (ofℕ 0) (ofℕ 1) pairs w (⊕_zero _))

      small : c.held ≼ ofℕ 1
      small = ≼_trans (≼-⊕ c.held (folded (ofℕ 0) pairs)) (≼_trans (≈_le (⊕_comm _ _)) (≈_le whole_one))
