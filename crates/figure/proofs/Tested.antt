-- Whether digits and a power are a figure, as the code tests it; and that the test is right. Assumes nothing.
use Prim.Native.Nat.{ℕ, ◌≤◌, ◌<◌}
use mathlib.Core.Path.{◌≡◌, refl, sym, ap, ◌∙◌}
use mathlib.Core.Bool.{Bool, true, false, true≢false}
use native.Mathlib.Omega.{arith}
use lib.Dec.{eqb, ltb}
use lib.IntN.{ℤ, pos, negsuc}
use mir.Syntax.{w32}
use mir.Val.{SFits, of_z}
use borrow.Author.Tests.{eqb-true, eq-eqb, ne_eqb, ltb-true, ltb-false, lt-ltb, le-ltb}
use Rattle.figure.specs.declared.Figure.{Figure}
use Rattle.figure.specs.Rounding.{IsFigure, is_zero, is_whole}
use Rattle.figure.specs.Tested.{power_zero, figure_test, Tested}

-- ---- the test, as the code makes it

power_tested : (p : ℤ) → SFits w32 p → eqb (of_z w32 p) 0 ≡ power_zero p
power_tested (pos n) f = refl
power_tested (negsuc n) f = ne_eqb (of_z w32 (negsuc n)) 0 (λ e. absurd (omega (arith, f.sfits, e)))

module _ (f : Figure) where
  pub zero_digits : SFits w32 f.power → f.digits ≡ 0 → eqb (of_z w32 f.power) 0 ≡ figure_test f
  unfolding figure_test
  zero_digits h e = power_tested f.power h ∙ rw (eq-eqb f.digits 0 e, figure_test)

  pub few_digits : (f.digits ≡ 0 → ⊥) → f.digits < 100000000 → false ≡ figure_test f
  unfolding figure_test
  few_digits n l = rw (ne_eqb f.digits 0 n, lt-ltb f.digits 100000000 l, figure_test)

  many_digits : 100000000 ≤ f.digits → ltb f.digits 1000000000 ≡ figure_test f
  unfolding figure_test
  many_digits l = let n : f.digits ≡ 0 → ⊥ = λ e. absurd (omega (arith, l, e)) in rw (ne_eqb f.digits 0 n, le-ltb f.digits 100000000 l, figure_test)

  pub nine_digits : 100000000 ≤ f.digits → f.digits < 1000000000 → true ≡ figure_test f
  nine_digits l u = sym (lt-ltb f.digits 1000000000 u) ∙ many_digits l

  pub more_digits : 1000000000 ≤ f.digits → false ≡ figure_test f
  more_digits l = sym (le-ltb f.digits 1000000000 l) ∙ many_digits (omega (arith, l))

-- ---- the test is right

zero_power : (p : ℤ) → power_zero p ≡ true → p ≡ pos 0
zero_power (pos n) h = ap pos (eqb-true n 0 h)
zero_power (negsuc n) h = absurd (true≢false (sym h))

pub tested : (f : Figure) → Tested f
unfolding figure_test
tested f = record { held = held (eqb d 0) (eqb-true d 0) (ltb d 100000000) (ltb-false d 100000000); failed = λ h i. other i h }
  where
    d : ℕ
    d = f.digits

    held : (z : Bool) → (z ≡ true → d ≡ 0) → (l : Bool) → (l ≡ false → 100000000 ≤ d)
        → elim z [ true ↦ power_zero f.power | false ↦ elim l [ true ↦ false | false ↦ ltb d 1000000000 ] ] ≡ true → IsFigure 9 f
    held true e l b h = is_zero (e refl) (zero_power f.power h)
    held false e true b h = absurd (true≢false (sym h))
    held false e false b h = is_whole (b refl) (ltb-true d 1000000000 h)

    other : IsFigure 9 f → figure_test f ≡ false → ⊥
    other (is_zero z p) h = true≢false (sym (rw (eq-eqb d 0 z, p, figure_test)) ∙ h)
    other (is_whole l u) h = true≢false (nine_digits f (omega (arith, l)) u ∙ h)
