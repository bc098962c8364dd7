-- The exact upper of a path, step by step and with a natural numerator: "class 1 .. rates times T^k / k!, times q for each class 2 step, times
-- rate × h for each class 3 step". Assumes nothing.
use mathlib.Core.List.{[], ◌∷◌, ◌++◌}
use Rattle.fraction.proofs.Ratio.{Ratio, ofℕ, ◌⊗◌, ≈_sym, ⊗_one}
use Rattle.word.specs.Model.{Transition, Net}
use Rattle.tree.specs.Paths.{Path, Class, class1, class2, class3, class, class1_count}
use Rattle.accuracy.specs.Bounds.{product, upper_factor, upper_factors, exact_upper}
use Rattle.accuracy.proofs.Natural.{◌is◌, is-≈, is_whole, is_product}
use Rattle.accuracy.proofs.ExactStates.{exact_is, shareᴺ, share_is, meanᴺ, mean_is, timeᴺ}
use Rattle.accuracy.proofs.ExactSteps.{rates_is, over_factorial_is, beside_class1, factorsᴺ, closedᴺ, steppedᴺ, closed_stepped}

-- what a class 2 or 3 step brings
abbrev pub upper_valueᴺ : Net → Class → Transition → Ratio
upper_valueᴺ net class1 x = ofℕ 1
upper_valueᴺ net class2 x = shareᴺ x.manner
upper_valueᴺ net class3 x = shareᴺ x.manner ⊗ meanᴺ net x.from

unfoldable pub upperᴺ : Net → Path → Ratio
upperᴺ net p = steppedᴺ net (timeᴺ net) (upper_valueᴺ net) p

factors_is : (net : Net) (p : Path) → product (upper_factors net p) is factorsᴺ net (upper_valueᴺ net) p
unfolding product upper_factors factorsᴺ
factors_is net [] = is_whole 1
factors_is net (x ∷ p) = go (class net x) (factors_is net p)
  where
    go : (c : Class) → product (upper_factors net p) is factorsᴺ net (upper_valueᴺ net) p
        → product (upper_factor net c x ++ upper_factors net p) is beside_class1 c (upper_valueᴺ net c x) ⊗ factorsᴺ net (upper_valueᴺ net) p
    go class1 h = is-≈ (≈_sym (⊗_one _)) h
    go class2 h = is_product (share_is x.manner) h
    go class3 h = is_product (is_product (share_is x.manner) (mean_is net x.from)) h

pub exact_upper_is : (net : Net) (p : Path) → exact_upper net p is upperᴺ net p
unfolding exact_upper upperᴺ
exact_upper_is net p = is-≈ (closed_stepped net (timeᴺ net) (upper_valueᴺ net) p)
    (unfold closedᴺ in is_product (is_product (rates_is net p) (over_factorial_is (class1_count net p) (exact_is net.time))) (factors_is net p))
