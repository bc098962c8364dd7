-- How often one fraction goes into another: the least number of times that reaches it, and the greatest that does not pass it. This is
-- what rounding to a multiple, up and down, is.
use Prim.Native.Nat.{ℕ, suc, ◌+◌, ◌*◌, ◌-◌, ◌/◌, ◌≤◌, ◌<◌}
use native.Mathlib.Nat.{mul-pos, le-div_iff_mul-le, div-mul-le_self, lt-div-mul-add, div-lt_iff_lt-mul}
use native.Mathlib.Omega.{arith}
use Rattle.fraction.proofs.Ratio.{Ratio, ◌≼◌, ◌≈◌, ofℕ, ◌⊗◌, ≼_refl, ≼_trans, ≈_refl, ≈_trans, ≈_le, ≈_ge, ⊗_mono, ⊗_cong, ⊗_comm, ⊗_assoc, ⊗_cancel}

-- ---- the two quotients

-- a / b rounded up
unfoldable pub ceilDiv : ℕ → ℕ → ℕ
ceilDiv a b = (a + (b - 1)) / b

-- the least c with x at or below c times y, for y positive
unfoldable pub ceilOver : Ratio → Ratio → ℕ
ceilOver x y = ceilDiv (x.num * y.den) (x.den * y.num)

-- the greatest c with c times y at or below x, for y positive
unfoldable pub floorOver : Ratio → Ratio → ℕ
floorOver x y = (x.num * y.den) / (x.den * y.num)

pub ceil_reach : (a b : ℕ) → 0 < b → a ≤ ceilDiv a b * b
unfolding ceilDiv
ceil_reach a b h = omega (arith, lt-div-mul-add {a = a + (b - 1)} {b = b} h)

pub ceil_least : (a b c : ℕ) → 0 < b → a ≤ c * b → ceilDiv a b ≤ c
unfolding ceilDiv
ceil_least a b c h p = omega (arith, (div-lt_iff_lt-mul {k = b} {x = a + (b - 1)} {y = suc c} h).1 (omega arith))

-- ---- they are what they are said to be

pub over_reach : (x y : Ratio) → 0 < y.num → x ≼ ofℕ (ceilOver x y) ⊗ y
unfolding ofℕ ◌⊗◌ ceilOver
over_reach x y h = record { le = omega (arith, ceil_reach (x.num * y.den) (x.den * y.num) (mul-pos x.den_pos h)) }

pub over_least : (x y : Ratio) (c : ℕ) → 0 < y.num → x ≼ ofℕ c ⊗ y → ceilOver x y ≤ c
unfolding ofℕ ◌⊗◌ ceilOver
over_least x y c h p = ceil_least _ _ c (mul-pos x.den_pos h) (omega (arith, p.le))

pub under_reach : (x y : Ratio) → ofℕ (floorOver x y) ⊗ y ≼ x
unfolding ofℕ ◌⊗◌ floorOver
under_reach x y = record { le = omega (arith, div-mul-le_self (x.num * y.den) (x.den * y.num)) }

pub under_greatest : (x y : Ratio) (c : ℕ) → 0 < y.num → ofℕ c ⊗ y ≼ x → c ≤ floorOver x y
unfolding ofℕ ◌⊗◌ floorOver
under_greatest x y c h p = (le-div_iff_mul-le (mul-pos x.den_pos h)).1 (omega (arith, p.le))

-- ---- where y is v over u, an order with a multiple of y is an order of naturals; first x below the multiple, then above

scaled : (y : Ratio) (c u v : ℕ) → y ⊗ ofℕ u ≈ ofℕ v → (ofℕ c ⊗ y) ⊗ ofℕ u ≈ ofℕ c ⊗ ofℕ v
scaled y c u v e = ≈_trans (⊗_assoc (ofℕ c) y (ofℕ u)) (⊗_cong (≈_refl (ofℕ c)) e)

pub at_scale : (x y : Ratio) (c u v : ℕ) → y ⊗ ofℕ u ≈ ofℕ v → x ≼ ofℕ c ⊗ y → x.num * u ≤ c * v * x.den
unfolding ofℕ ◌⊗◌
at_scale x y c u v e p =
    let q : x ⊗ ofℕ u ≼ ofℕ c ⊗ ofℕ v = ≼_trans (⊗_mono p (≼_refl (ofℕ u))) (≈_le (scaled y c u v e)) in
    omega (arith, q.le)

pub from_scale : (x y : Ratio) (c u v : ℕ) → 0 < u → y ⊗ ofℕ u ≈ ofℕ v → x.num * u ≤ c * v * x.den → x ≼ ofℕ c ⊗ y
unfolding ofℕ ◌⊗◌
from_scale x y c u v h e p =
    let q : x ⊗ ofℕ u ≼ ofℕ c ⊗ ofℕ v = record { le = omega arith } in
    ⊗_cancel (ofℕ u) h (≼_trans (≈_le (⊗_comm (ofℕ u) x)) (≼_trans q (≈_ge (≈_trans (⊗_comm (ofℕ u) _) (scaled y c u v e)))))

pub at_scale_ge : (x y : Ratio) (c u v : ℕ) → y ⊗ ofℕ u ≈ ofℕ v → ofℕ c ⊗ y ≼ x → c * v * x.den ≤ x.num * u
unfolding ofℕ ◌⊗◌
at_scale_ge x y c u v e p =
    let q : ofℕ c ⊗ ofℕ v ≼ x ⊗ ofℕ u = ≼_trans (≈_ge (scaled y c u v e)) (⊗_mono p (≼_refl (ofℕ u))) in
    omega (arith, q.le)

pub from_scale_ge : (x y : Ratio) (c u v : ℕ) → 0 < u → y ⊗ ofℕ u ≈ ofℕ v → c * v * x.den ≤ x.num * u → ofℕ c ⊗ y ≼ x
unfolding ofℕ ◌⊗◌
from_scale_ge x y c u v h e p =
    let q : ofℕ c ⊗ ofℕ v ≼ x ⊗ ofℕ u = record { le = omega arith } in
    ⊗_cancel (ofℕ u) h (≼_trans (≈_le (≈_trans (⊗_comm (ofℕ u) _) (scaled y c u v e))) (≼_trans q (≈_le (⊗_comm x (ofℕ u)))))
