-- A figure in 64 bits: powers are raised above 0 and set back, and what was packed, with its mark above it, is unpacked again. Assumes nothing.
use mathlib.Core.Path.{◌≡◌, refl, ◌∙◌, ap, ap₂}
use mathlib.Core.Bool.{Bool, true, false}
use Prim.Native.Nat.{ℕ, ◌+◌, ◌*◌, ◌/◌, ◌%◌, ◌≤◌, ◌<◌}
use native.Mathlib.Nat.{le_trans}
use native.Mathlib.Omega.{arith}
use lib.Dec.{eqb, lit≤}
use lib.IntN.{ℤ, pos, ◌+ℤ◌, ◌-ℤ◌, +ℤ-neg_ℤ_cancel}
use lib.Signed.{mag}
use Rattle.figure.specs.declared.Figure.{Figure}
use Rattle.figure.specs.Rounding.{figure, IsFigure, is_zero, is_whole}
use Rattle.figure.specs.Operands.{Operand}
use Rattle.figure.proofs.Stored.{stored, kept, mag_sum, mag_difference}
use Rattle.tables.specs.declared.pack.Packed.{Packed}
use Rattle.tables.specs.Internal.Tables.{unpacked, marked, mark_of}

-- ---- a power raised above 0

module _ (p : ℤ) (h : mag p ≤ 100000) where
  -- it takes 21 bits
  raised_below : (r : ℕ) → pos r ≡ p +ℤ pos 1048576 → r < 2097152
  raised_below r e = le_trans {m = 1148579} (omega (arith, ap mag e, mag_sum p (pos 1048576))) (lit≤ tt)

-- ---- and set back

-- what is unpacked, its power stored once more
pub unpacked_is : (x : Packed) (p : ℤ) → p ≡ pos (x.bits / 1073741824 % 2097152) -ℤ pos 1048576
    → figure (x.bits % 1073741824) (stored p) ≡ unpacked x
unfolding unpacked
unpacked_is x p e = ap₂ figure refl (kept p (le_trans {m = 3145730} near (lit≤ tt)) ∙ e)
  where
    near : mag p ≤ 3145730
    near = rw e (omega (arith, mag_difference (pos (x.bits / 1073741824 % 2097152)) (pos 1048576)))

-- an entry of these bits
abbrev of_bits : ℕ → Packed
of_bits x = record { bits = x }

-- ---- the mark at bit 51, above a number below it

module _ {x : ℕ} (low : x < 2251799813685248) where
  mark_read : (k : Bool) → marked (of_bits (x + mark_of k)) ≡ k
  unfolding marked
  mark_read true = let one : (x + 2251799813685248) / 2251799813685248 ≡ 1 = omega arith in ap (λ (q : ℕ). eqb q 1) one
  mark_read false = let none : (x + 0) / 2251799813685248 ≡ 0 = omega arith in ap (λ (q : ℕ). eqb q 1) none

-- what lies below it is as it was

low_kept : (x : ℕ) (k : Bool) → (x + mark_of k) % 1073741824 ≡ x % 1073741824
low_kept x true = omega arith
low_kept x false = omega arith

high_kept : (x : ℕ) (k : Bool) → (x + mark_of k) / 1073741824 % 2097152 ≡ x / 1073741824 % 2097152
high_kept x true = omega arith
high_kept x false = omega arith

unpacked_kept : (x : ℕ) (k : Bool) → unpacked (of_bits (x + mark_of k)) ≡ unpacked (of_bits x)
unfolding unpacked
unpacked_kept x k = rw (low_kept x k, high_kept x k)

-- ---- a number of grains

module _ {n : ℕ} (few : n ≤ 1000000) where
  few_below : n < 2251799813685248
  few_below = le_trans {m = 1000001} (omega arith) (lit≤ tt)

  module _ (k : Bool) {b : ℕ} (mark : b ≡ mark_of k) where
    pub count_is : ((n + b) % 1073741824 ≡ n) × (marked (of_bits (n + b)) ≡ k)
    count_is = rw mark (low_kept n k ∙ small_self, mark_read few_below k)
      where
        small_self : n % 1073741824 ≡ n
        small_self = omega arith

-- ---- a figure

module _ (f : Figure) (h : Operand 9 f) (r : ℕ) (raised : pos r ≡ stored f.power +ℤ pos 1048576) where
  e : pos r ≡ f.power +ℤ pos 1048576
  e = rw (kept f.power (le_trans h.near (lit≤ tt))) at raised

  digits_below : f.digits < 1073741824
  digits_below = go h.is_figure
    where
      go : IsFigure 9 f → f.digits < 1073741824
      go (is_zero z p) = rw z (lit≤ tt)
      go (is_whole b t) = le_trans t (lit≤ tt)

  packed_below : f.digits + r * 1073741824 < 2251799813685248
  packed_below = omega (arith, raised_below f.power h.near r e, digits_below)

  figure_is : unpacked (of_bits (f.digits + r * 1073741824)) ≡ f
  unfolding unpacked
  figure_is = ap₂ figure (omega (arith, digits_below)) (ap set_back back ∙ ap (λ (z : ℤ). z -ℤ pos 1048576) e ∙ +ℤ-neg_ℤ_cancel f.power (pos 1048576))
    where
      set_back : ℕ → ℤ
      set_back k = pos k -ℤ pos 1048576

      back : (f.digits + r * 1073741824) / 1073741824 % 2097152 ≡ r
      back = omega (arith, raised_below f.power h.near r e, digits_below)

  module _ (k : Bool) {b : ℕ} (mark : b ≡ mark_of k) where
    pub packed_is : (unpacked (of_bits (f.digits + r * 1073741824 + b)) ≡ f)
        × (marked (of_bits (f.digits + r * 1073741824 + b)) ≡ k)
    packed_is = rw mark (unpacked_kept (f.digits + r * 1073741824) k ∙ figure_is, mark_read packed_below k)
