-- The floor and the ceiling of x over 10^e: the greatest number of times that does not pass x, and the least that reaches it. Assumes nothing.
use mathlib.Core.Path.{◌≡◌, refl}
use Prim.Native.Nat.{ℕ, ◌≤◌}
use lib.IntN.{ℤ, pos, negsuc}
use Rattle.fraction.specs.Fraction.{ten}
use Rattle.fraction.proofs.Ratio.{Ratio, ◌≼◌, ofℕ, ◌⊗◌}
use Rattle.fraction.proofs.PowersOfTen.{ten_to, ten_pos}
use Rattle.fraction.proofs.Multiples.{ceilDiv, ceilOver, floorOver, over_reach, over_least, under_reach, under_greatest}
use Rattle.fraction.proofs.Signed.{signed}
use Rattle.figure.specs.Rounding.{dividend, divisor, floor, ceiling}

ceiling_is : (x : Ratio) (e : ℤ) → ceiling (signed x) e ≡ ceilOver x (ten_to e)
unfolding ceiling dividend divisor ceilOver ceilDiv signed ten ten_to
ceiling_is x (pos k) = refl
ceiling_is x (negsuc k) = refl

floor_is : (x : Ratio) (e : ℤ) → floor (signed x) e ≡ floorOver x (ten_to e)
unfolding floor dividend divisor floorOver signed ten ten_to
floor_is x (pos k) = refl
floor_is x (negsuc k) = refl

module _ (x : Ratio) (e : ℤ) where
  pub ceiling_least : (c : ℕ) → x ≼ ofℕ c ⊗ ten_to e → ceiling (signed x) e ≤ c
  ceiling_least c h = rw (ceiling_is x e) (over_least x (ten_to e) c (ten_pos e) h)

  pub ceiling_reach : x ≼ ofℕ (ceiling (signed x) e) ⊗ ten_to e
  ceiling_reach = rw (ceiling_is x e) (over_reach x (ten_to e) (ten_pos e))

  pub floor_greatest : (c : ℕ) → ofℕ c ⊗ ten_to e ≼ x → c ≤ floor (signed x) e
  floor_greatest c h = rw (floor_is x e) (under_greatest x (ten_to e) c (ten_pos e) h)

  pub floor_reach : ofℕ (floor (signed x) e) ⊗ ten_to e ≼ x
  floor_reach = rw (floor_is x e) (under_reach x (ten_to e))
