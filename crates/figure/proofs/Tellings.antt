-- What a figure that tells is: an operation rounded one way, and whether the other way comes to the same. One law over the direction and the width. Assumes
-- nothing.
use Prim.Native.Nat.{ℕ, suc}
use mathlib.Core.Path.{◌≡◌, refl, sym, ◌∙◌, ap}
use mathlib.Core.Bool.{Bool, true, false, ◌&&◌}
use borrow.Author.Rules.{rules}
use Rattle.fraction.specs.Fraction.{Fraction}
use Rattle.figure.specs.declared.Figure.{Figure}
use Rattle.figure.specs.declared.Direction.{Direction}
use Rattle.figure.specs.declared.Direction.TheVariants.{Down, Up}
use Rattle.figure.specs.declared.Rounded.{Rounded}
use Rattle.figure.specs.Losses.{keeps, told}
use Rattle.figure.specs.Internal.Steps.{rounded}
use Rattle.figure.specs.Internal.Directions.{opposite, same}
use Rattle.figure.proofs.Losses.{both_ways, both_agree, agree_keeps}

-- whether two figures are the same, as the code finds it
found : (f g : Figure) → same f g ≡ true → f ≡ g
found f g e = search rules

same_found : (f g : Figure) → f ≡ g → same f g ≡ true
same_found f g e = search rules

module _ (w : ℕ) (x : Fraction) where
  agree : (to : Direction) → keeps (suc w) x ≡ true → rounded to (suc w) x ≡ rounded (opposite to) (suc w) x
  agree Up e = both_agree w x e
  agree Down e = sym (both_agree w x e)

  agreed : (to : Direction) → rounded to (suc w) x ≡ rounded (opposite to) (suc w) x → keeps (suc w) x ≡ true
  agreed Up e = agree_keeps w x e
  agreed Down e = agree_keeps w x (sym e)

  -- An operation that is x rounded, either way: whether both ways come to the same says whether the rounding keeps x.
  pub same_keeps : (op : Direction → Figure) → ((d : Direction) → op d ≡ rounded d (suc w) x) → (to : Direction)
      → same (op to) (op (opposite to)) ≡ keeps (suc w) x
  same_keeps op is to =
      both_ways (same (op to) (op (opposite to))) (keeps (suc w) x) (λ e. agreed to (sym (is to) ∙ found (op to) (op (opposite to)) e ∙ is (opposite to)))
      (λ e. same_found (op to) (op (opposite to)) (is to ∙ agree to e ∙ sym (is (opposite to))))

  -- A rounding and whether the other way comes to the same are what an operation that tells promises.
  pub told_by : (to : Direction) {f g : Figure} {r : Rounded} → f ≡ rounded to (suc w) x → g ≡ rounded (opposite to) (suc w) x
      → r ≡ told f (same f g) → r ≡ told (rounded to (suc w) x) (keeps (suc w) x)
  told_by to {f} {g} p q t = t ∙ (λ i. told (p i) (mark i))
    where
      mark : same f g ≡ keeps (suc w) x
      mark = rw (p, q) (same_keeps (λ d. rounded d (suc w) x) (λ d. refl) to)

-- the marks of two operands and an operation's own, as the code takes them and as a contract has them
pub kept_of_both : (a b : Bool) {r : Rounded} {f : Figure} {k m : Bool} → r ≡ told f ((a && b) && k) → k ≡ m → r ≡ told f (a && (b && m))
kept_of_both true b {f = f} p q = p ∙ ap (λ x. told f (b && x)) q
kept_of_both false b p q = p
