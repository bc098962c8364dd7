-- The code's sum of two figures of one width is the rounding that is meant: the larger, with the digits of the smaller that reach the larger's
-- last digit and the mark that more was left, settles it. Assumes nothing.
use mathlib.Core.Path.{◌≡◌, refl, sym, ◌∙◌, ap, ap₂}
use mathlib.Core.List.{[], ◌∷◌}
use mathlib.Core.Bool.{Bool, true, false}
use Prim.Native.Nat.{ℕ, zero, suc, ◌+◌, ◌*◌, ◌/◌, ◌%◌, ◌^◌, ◌≤◌, ◌<◌}
use native.Mathlib.Nat.{lt_of_lt_of_le, mul-le-mul_right, mul-le-mul_left, zero-lt-suc, lt_irrefl, div-le_self, mod-lt, div-add-mod', pow-le-pow_right, pow-succ'}
use native.Mathlib.Omega.{arith, P, patom}
use lib.Dec.{T, ltb}
use lib.IntN.{ℤ, pos, nat_abs, ◌+ℤ◌, ◌-ℤ◌, -ℤ-+ℤ_cancel, +ℤ_comm}
use lib.Signed.{le_z, ◌≤ℤ◌}
use mir.Syntax.{w64}
use mir.Val.{Fits}
use borrow.Author.Tests.{lt-ltb}
use Rattle.fraction.specs.Fraction.{◌+ᶠ◌}
use Rattle.fraction.proofs.Ratio.{◌≈◌, ofℕ, ◌⊕◌, ◌⊗◌, ≈_refl, ≈_sym, ≈_trans, ⊕_cong, ⊗_cong, ⊕_comm, ⊕_zero, ⊗_zero, ofℕ-⊗, ofℕ-⊕}
use Rattle.fraction.proofs.Certificate.{◌+'◌, ◌*'◌, same_value}
use Rattle.fraction.proofs.PowersOfTen.{ten_to, ten-+, ten_nat}
use Rattle.fraction.proofs.Signed.{signed}
use Rattle.figure.specs.declared.Figure.{Figure}
use Rattle.figure.specs.declared.Direction.{Direction}
use Rattle.figure.specs.declared.division.Part.{Part}
use Rattle.figure.specs.Rounding.{value, IsFigure}
use Rattle.figure.specs.Operands.{Sized}
use Rattle.figure.specs.Internal.Steps.{rounded, Digits, Ordered, Alignable, in_order, part, trimmed, gap_of, aligned_sum}
use Rattle.figure.proofs.Scale.{pow_pos}
use Rattle.figure.proofs.Value.{val, value_is}
use Rattle.figure.proofs.Operations.{value_plus}
use Rattle.figure.proofs.Stored.{stored, kept, gap_pos, turned}
use Rattle.figure.proofs.Parts.{parts, some, some_left, at_part, part_split, digits_fit}
use Rattle.figure.proofs.PartsRounded.{Over, rounded_trimmed}
use Rattle.figure.proofs.Figures.{digits_high, digits_low, rounded_own, rounded_same}

-- ---- a number over a high power of ten: nothing of it is left but that there was something

some_is : (n : ℕ) → some n ≡ ltb 0 n
some_is zero = refl
some_is (suc n) = some_left (zero-lt-suc n) ∙ sym (lt-ltb 0 (suc n) (zero-lt-suc n))

pub far_part : (n k : ℕ) → n < 10 ^ 18 → 19 ≤ k → parts 0 (ltb 0 n) ≡ part n (10 ^ k)
far_part n k h l = sym (at_part n (10 ^ k) 0 n (omega arith) below ∙ ap (parts 0) (some_is n))
  where
    below : n < 10 ^ k
    below = lt_of_lt_of_le h (pow-le-pow_right (zero-lt-suc 9) {i = 18} {j = k} (omega arith))

-- ---- two figures in order

pub higher_first : (a b : Figure) → le_z b.power a.power ≡ true → (a, b) ≡ in_order a b
unfolding in_order
higher_first a b h = rw (h, in_order) refl

pub lower_first : (a b : Figure) → le_z b.power a.power ≡ false → (b, a) ≡ in_order a b
unfolding in_order
lower_first a b h = rw (h, in_order) refl

-- what holds of the two as they stand, where the second's power is not above the first's, and of the two turned round, where it is, holds of them in order
in_either : (P : Figure × Figure → Type 0) (a b : Figure) → (le_z b.power a.power ≡ true → P (a, b)) → (le_z b.power a.power ≡ false → P (b, a))
    → {r : Figure × Figure} → r ≡ in_order a b → P r
in_either P a b f g {r} e = by_test (le_z b.power a.power) refl
  where
    by_test : (t : Bool) → le_z b.power a.power ≡ t → P r
    by_test true h = rw (e ∙ sym (higher_first a b h)) (f h)
    by_test false h = rw (e ∙ sym (lower_first a b h)) (g h)

-- neither of two figures is zero
module _ {K : ℕ} {a b : Figure} (sa : Sized K 200000 a) (sb : Sized K 200000 b) (na : a.digits ≡ 0 → ⊥) (nb : b.digits ≡ 0 → ⊥) where
  pub ordered : {r : Figure × Figure} → r ≡ in_order a b → Ordered K r.0 r.1
  ordered =
      in_either (λ r. Ordered K r.0 r.1) a b (λ h. in_turn a b sa sb na nb (rw h tt)) (λ h. in_turn b a sb sa nb na (turned a.power b.power h))
    where
      in_turn : (x y : Figure) → Sized K 200000 x → Sized K 200000 y → (x.digits ≡ 0 → ⊥) → (y.digits ≡ 0 → ⊥) → T (le_z y.power x.power) → Ordered K x y
      in_turn x y sx sy nx ny h = record {
        first = sx;
        second = sy;
        first_some = omega (arith, nx);
        second_some = omega (arith, ny);
        order = record { le = h };
      }

pub alignable : {K : ℕ} {a b : Figure} → Digits K → Ordered K a b → Alignable a b
alignable k o = record {
  first_high = digits_fit k (digits_high o.first.is_figure);
  second_high = digits_fit k (digits_high o.second.is_figure);
  first_near = o.first.near;
  second_near = o.second.near;
  order = o.order;
}

-- ---- the aligned sum

aligned_parts : (D S T : ℕ) → 0 < T → part (D * T + S) T ≡ parts (D + S / T) (some (S % T))
aligned_parts D S T h = at_part (D * T + S) T (D + S / T) (S % T) (omega (arith, div-add-mod' S T)) (mod-lt S h)

module _ {a b : Figure} (al : Alignable a b) where
  pub whole_fits : (g : ℕ) {l : Part} → l ≡ part b.digits (10 ^ g) → Fits w64 (a.digits + l.whole)
  whole_fits g e = rw e (unfold part in omega (arith, al.first_high, al.second_high, div-le_self b.digits (10 ^ g)))

  pub aligned_is : (g : ℕ) {l : Part} → pos g ≡ a.power -ℤ b.power → l ≡ part b.digits (10 ^ g)
      → parts (a.digits + l.whole) l.rest ≡ aligned_sum a b
  unfolding aligned_sum
  aligned_is g f e =
      rw (e ∙ ap (λ n. part b.digits (10 ^ n)) gap_is ∙ part_split b.digits (10 ^ gap_of a b) (pow_pos (gap_of a b)))
      (sym (aligned_parts a.digits b.digits (10 ^ gap_of a b) (pow_pos (gap_of a b))))
    where
      gap_is : g ≡ gap_of a b
      gap_is = ap nat_abs f

pub aligned_small : {K : ℕ} {a b : Figure} {p : Part} → Ordered K a b → p ≡ aligned_sum a b → p.whole < 10 * 10 ^ K
unfolding aligned_sum
aligned_small {K} {a} {b} o e =
    rw (e ∙ aligned_parts a.digits b.digits (10 ^ gap_of a b) (pow_pos (gap_of a b)))
    (omega (arith, digits_high o.first.is_figure, digits_high o.second.is_figure, div-le_self b.digits (10 ^ gap_of a b)))

-- ---- the exact sum, in units of the larger's power over a power of ten

gap_ten : {p q : ℤ} → q ≤ℤ p → ten_to q ⊗ ofℕ (10 ^ nat_abs (p -ℤ q)) ≈ ten_to p
gap_ten {p} {q} h = rw cancel at (≈_trans (⊗_cong (≈_refl _) (≈_sym (ten_nat (nat_abs (p -ℤ q))))) (≈_sym (ten-+ q (pos (nat_abs (p -ℤ q))))))
  where
    cancel : q +ℤ pos (nat_abs (p -ℤ q)) ≡ p
    cancel = ap (λ z. q +ℤ z) (gap_pos h) ∙ +ℤ_comm q (p -ℤ q) ∙ -ℤ-+ℤ_cancel p q

sum_is : (a b : Figure) (T : ℕ) → ten_to b.power ⊗ ofℕ T ≈ ten_to a.power → (val a ⊕ val b) ⊗ ofℕ T ≈ ofℕ (a.digits * T + b.digits) ⊗ ten_to a.power
sum_is a b T h =
    ≈_trans (same_value (ofℕ a.digits ∷ ten_to a.power ∷ ofℕ b.digits ∷ ten_to b.power ∷ ofℕ T ∷ [])
    ((patom 0 *' patom 1 +' patom 2 *' patom 3) *' patom 4) (patom 0 *' patom 4 *' patom 1 +' patom 2 *' (patom 3 *' patom 4)) tt tt)
    (≈_trans (⊕_cong (≈_refl _) (⊗_cong (≈_refl _) h))
    (≈_trans (same_value (ofℕ a.digits ∷ ofℕ T ∷ ten_to a.power ∷ ofℕ b.digits ∷ [])
    (patom 0 *' patom 1 *' patom 2 +' patom 3 *' patom 2) ((patom 0 *' patom 1 +' patom 3) *' patom 2) tt tt)
    (⊗_cong (≈_trans (⊕_cong (≈_sym (ofℕ-⊗ a.digits T)) (≈_refl _)) (≈_sym (ofℕ-⊕ (a.digits * T) b.digits))) (≈_refl _))))

pub sum_over : {K : ℕ} {a b : Figure} → Ordered K a b → Over (val a ⊕ val b) (a.digits * 10 ^ gap_of a b + b.digits) (10 ^ gap_of a b) a.power
sum_over {K} {a} {b} o = record { is = sum_is a b (10 ^ gap_of a b) (gap_ten o.order) }

-- one law over the direction and the width
sum_rounded : (to : Direction) (w : ℕ) {a b : Figure} → Ordered (suc w) a b
    → trimmed to (suc w) (aligned_sum a b) a.power ≡ rounded to (suc w) (value a +ᶠ value b)
unfolding aligned_sum
sum_rounded to w {a} {b} o =
    rounded_trimmed w (pow_pos (gap_of a b)) (sum_over o) (low (10 ^ gap_of a b)) (high (10 ^ gap_of a b) (pow_pos (gap_of a b))) to
    ∙ ap (rounded to (suc w)) (sym (value_plus a b))
  where
    least : 10 ^ w ≤ a.digits
    least = digits_low o.first.is_figure (λ z. lt_irrefl 0 (rw z at o.first_some))

    top : {f : Figure} → IsFigure (suc w) f → f.digits < 10 * 10 ^ w
    top i = rw (pow-succ' 10 w) at (digits_high i)

    low : (T : ℕ) → 10 ^ w * T ≤ a.digits * T + b.digits
    low T = omega (arith, mul-le-mul_right T least)

    high : (T : ℕ) → 0 < T → a.digits * T + b.digits < 10 * (10 * 10 ^ w * T)
    high T h = omega (arith, mul-le-mul_right T (top o.first.is_figure), top o.second.is_figure, mul-le-mul_left (10 ^ w) h)

-- ---- the code's sum, of any width

-- a statement of every number of digits from 1 on
by_width : (P : ℕ → Type 0) → ((w : ℕ) → P (suc w)) → {K : ℕ} → Digits K → P K
by_width P f {K} k = go K k.some
  where
    go : (n : ℕ) → 0 < n → P n
    go zero h = absurd (lt_irrefl 0 h)
    go (suc w) h = f w

module _ (to : Direction) {K : ℕ} (k : Digits K) where
  pub sum_answer : {a b : Figure} {p : Part} {r : Figure} → Ordered K a b → p ≡ aligned_sum a b → r ≡ trimmed to K p (stored a.power)
      → r ≡ rounded to K (value a +ᶠ value b)
  sum_answer {a} {b} o e q = q ∙ ap₂ (trimmed to K) e (kept a.power (omega (arith, o.first.near))) ∙ at_width k o
    where
      at_width : {n : ℕ} → Digits n → Ordered n a b → trimmed to n (aligned_sum a b) a.power ≡ rounded to n (value a +ᶠ value b)
      at_width = by_width (λ n. Ordered n a b → trimmed to n (aligned_sum a b) a.power ≡ rounded to n (value a +ᶠ value b))
          (λ w. sum_rounded to w)

  pub sum_swap : (a b : Figure) → rounded to K (value b +ᶠ value a) ≡ rounded to K (value a +ᶠ value b)
  sum_swap a b =
      ap (rounded to K) (value_plus b a)
      ∙ by_width (λ n. rounded to n (signed (val b ⊕ val a)) ≡ rounded to n (signed (val a ⊕ val b)))
      (λ w. rounded_same to w (⊕_comm (val b) (val a))) k
      ∙ ap (rounded to K) (sym (value_plus a b))

  pub sum_in_order : (a b : Figure) {r : Figure × Figure} → r ≡ in_order a b → rounded to K (value r.0 +ᶠ value r.1) ≡ rounded to K (value a +ᶠ value b)
  sum_in_order a b =
      in_either (λ r. rounded to K (value r.0 +ᶠ value r.1) ≡ rounded to K (value a +ᶠ value b)) a b (λ h. refl) (λ h. sum_swap a b)

  pub nothing_added : (a b : Figure) → a.digits ≡ 0 → rounded to K (value b) ≡ rounded to K (value a +ᶠ value b)
  nothing_added a b z =
      ap (rounded to K) (value_is b)
      ∙ by_width (λ n. rounded to n (signed (val b)) ≡ rounded to n (signed (val a ⊕ val b))) (λ w. rounded_same to w (≈_sym nothing)) k
      ∙ ap (rounded to K) (sym (value_plus a b))
    where
      nothing : val a ⊕ val b ≈ val b
      nothing = rw z (≈_trans (⊕_cong (⊗_zero _) (≈_refl _)) (⊕_zero _))

  pub sum_zero : (a b : Figure) → a.digits ≡ 0 → IsFigure K b → b ≡ rounded to K (value a +ᶠ value b)
  sum_zero a b z i = sym (by_width (λ n. IsFigure n b → rounded to n (value b) ≡ b) (λ w. rounded_own to w b) k i) ∙ nothing_added a b z
