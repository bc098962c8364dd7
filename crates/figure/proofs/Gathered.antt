-- Sums in a row. A figure that n terms may have added up to, each 0 or from 10^-l to 10^h, rounded at each addition: it is 0 or from 10^-l
-- to n × 10^h, since both ends are figures themselves. So its power is bounded however many additions there were. Assumes nothing.
use mathlib.Core.Path.{◌≡◌, refl, ◌∙◌, ap₂}
use Prim.Native.Nat.{ℕ, suc, ◌+◌, ◌*◌, ◌^◌, ◌≤◌, ◌<◌}
use native.Mathlib.Nat.{le_refl, mul-le-mul_right}
use lib.IntN.{pos, neg_ℤ}
use Rattle.fraction.specs.Fraction.{whole, ten, ◌*ᶠ◌}
use Rattle.fraction.proofs.Ratio.{◌≈◌, ofℕ, ◌⊗◌, ≼_trans, ≈_le, ≈_ge, ≈_refl, ≈_sym, ≈_trans, ⊗_cong, ⊗_zero, ⊗_one, ofℕ-⊗, pos_ofℕ, pos_left, zero-≼}
use Rattle.fraction.proofs.PowersOfTen.{ten_to, ten_nat}
use Rattle.fraction.proofs.Signed.{signed, signed-⊗, signed_whole, signed_ten}
use Rattle.figure.specs.declared.Figure.{Figure}
use Rattle.figure.specs.Rounding.{none, IsFigure, is_zero}
use Rattle.figure.specs.Operations.{total_up, total_down}
use Rattle.figure.specs.Operands.{Sized}
use Rattle.figure.specs.Internal.Gathered.{Gathered}
use Rattle.figure.proofs.Scale.{multiple_pos}
use Rattle.figure.proofs.Value.{val, below_value, below_val, above_value, above_val}
use Rattle.figure.proofs.Rounding.{up_figure, down_figure}
use Rattle.figure.proofs.Operations.{value_plus}
use Rattle.figure.proofs.Reach.{Reach, reach_one, reach-≤, reach_wide, reach-⊕, reach_up, reach_down, none_not_pos, low_end_below, low_end_above}
use Rattle.figure.proofs.Sized.{sized_reach, reach_sized}

-- ---- the same by natural numerators: what has been gathered has this reach, and back

module _ (n h : ℕ) where
  top_signed : signed (ofℕ n ⊗ ten_to (pos h)) ≡ whole n *ᶠ ten (pos h)
  top_signed = signed-⊗ _ _ ∙ ap₂ ◌*ᶠ◌ (signed_whole n) (signed_ten (pos h))

  top_is : ofℕ n ⊗ ten_to (pos h) ≈ ofℕ (n * 10 ^ h)
  top_is = ≈_trans (⊗_cong (≈_refl _) (ten_nat h)) (≈_sym (ofℕ-⊗ n (10 ^ h)))

module _ {K l h n : ℕ} {f : Figure} where
  pub gathered_reach : Gathered K l h n f → Reach l h n (val f)
  gathered_reach g = record {
    low = λ z. low_end_above l (≼_trans (≈_le (⊗_one _)) (below_val f (rw (signed_ten (neg_ℤ (pos l))) (g.low (pos_ofℕ (pos_left _ _ z))))));
    high = ≼_trans (above_val f (rw (top_signed n h) g.high)) (≈_le (top_is n h));
  }

  pub reach_gathered : IsFigure K f → Reach l h n (val f) → Gathered K l h n f
  reach_gathered i r = record {
    is_figure = i;
    low = λ z. rw (← signed_ten (neg_ℤ (pos l))) (below_value f (≼_trans (≈_ge (⊗_one _)) (low_end_below l (r.low (multiple_pos _ _ z)))));
    high = rw (← top_signed n h) (above_value f (≼_trans r.high (≈_ge (top_is n h))));
  }

-- ---- no term, one, and more

pub gathered_none : (K l h : ℕ) → Gathered K l h 0 none
gathered_none K l h = reach_gathered (is_zero refl refl) (record {
  low = λ z. absurd (none_not_pos z);
  high = ≼_trans (≈_le (⊗_zero _)) (zero-≼ _);
})

pub gathered_one : (l h : ℕ) {w m : ℕ} {f : Figure} → suc m ≤ l → m + suc w ≤ h → Sized (suc w) m f → Gathered (suc w) l h 1 f
gathered_one l h p q s = reach_gathered s.is_figure (reach-≤ p q (sized_reach s))

-- a term that is 0 changes nothing
pub gathered_more : {K l h n k : ℕ} {f : Figure} → n ≤ k → Gathered K l h n f → Gathered K l h k f
gathered_more {h = h} p g = reach_gathered g.is_figure (reach_wide (le_refl _) (mul-le-mul_right (10 ^ h) p) (gathered_reach g))

module _ {l h n k : ℕ} {a b : Figure} where
  pub total_up_gathered : n + k < 10 ^ 18 → Gathered 18 l h n a → Gathered 9 l h k b → Gathered 18 l h (n + k) (total_up a b)
  unfolding total_up
  total_up_gathered s p q = rw (value_plus a b) (reach_gathered (up_figure 17 _) (reach_up 17 s (reach-⊕ (gathered_reach p) (gathered_reach q))))

  pub total_down_gathered : Gathered 18 l h n a → Gathered 9 l h k b → Gathered 18 l h (n + k) (total_down a b)
  unfolding total_down
  total_down_gathered p q = rw (value_plus a b) (reach_gathered (down_figure 17 _) (reach_down 17 (reach-⊕ (gathered_reach p) (gathered_reach q))))

-- of at most 10^j terms
pub gathered_sized : (N j : ℕ) {w l h n : ℕ} {f : Figure} → n ≤ 10 ^ j → l + w ≤ suc N → h + j ≤ N + w → Gathered (suc w) l h n f → Sized (suc w) N f
gathered_sized N j {w} {f = f} s p q g = reach_sized w f g.is_figure (reach_one j s (gathered_reach g)) p q
