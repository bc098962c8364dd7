-- What the functions of this crate need of figures: the result of a sum is a figure, and 1 or f by a test. Assumes nothing.
use mathlib.Core.Path.{◌≡◌, refl, sym, ◌∙◌}
use mathlib.Core.Bool.{Bool, true, false}
use Prim.Native.Nat.{ℕ, ◌+◌, ◌≤◌}
use native.Mathlib.Omega.{arith}
use lib.Dec.{lit≤}
use Rattle.figure.specs.declared.Direction.{Direction}
use Rattle.figure.specs.declared.Direction.TheVariants.{Down, Up}
use Rattle.figure.specs.declared.Figure.{Figure}
use Rattle.figure.specs.Rounding.{IsFigure}
use Rattle.figure.specs.Operands.{Sized}
use Rattle.figure.specs.Operations.{plus_up, plus_down, times, plus, minus, of_whole, at_or_below}
use Rattle.figure.proofs.Rounding.{up_figure, down_figure}
use Rattle.figure.proofs.Sized.{sized-≤, sized_2000, of_whole_sized, times_up_sized, times_down_sized, plus_up_sized, plus_down_sized, minus_up_sized, minus_down_sized}
use Rattle.orprob.specs.declared.Pair.{Pair}
use Rattle.orprob.specs.Pairs.{IsPair}
use Rattle.orprob.specs.Combination.{at_most_one, with_upper, with_lower}
use Rattle.orprob.specs.Internal.Parts.{with}

pub plus_up_figure : (a b : Figure) → IsFigure 9 (plus_up a b)
unfolding plus_up
plus_up_figure a b = up_figure 8 _

pub plus_down_figure : (a b : Figure) → IsFigure 9 (plus_down a b)
unfolding plus_down
plus_down_figure a b = down_figure 8 _

pub whole_figure : (n : ℕ) → IsFigure 9 (of_whole n)
unfolding of_whole
whole_figure n = down_figure 8 _

test_one : (f one : Figure) → one ≡ of_whole 1 → at_or_below f one ≡ at_or_below f (of_whole 1)
test_one f one e = rw e refl

pub small_is : (f one : Figure) → one ≡ of_whole 1 → at_or_below f one ≡ true → f ≡ at_most_one f
unfolding at_most_one
small_is f one e h = rw (sym (test_one f one e) ∙ h, at_most_one)

pub large_is : (f one : Figure) → one ≡ of_whole 1 → at_or_below f one ≡ false → one ≡ at_most_one f
unfolding at_most_one
large_is f one e h = e ∙ rw (sym (test_one f one e) ∙ h, at_most_one)

-- ---- powers stay in a range that operations take

pub lower_sized : {x : Pair} → IsPair x → Sized 9 2000 x.lower
lower_sized {x} p = sized_2000 9 x.lower p.lower_figure p.lower_least p.lower_most

pub one_sized : {n : ℕ} (f : Figure) → 20 ≤ n → Sized 9 n f → Sized 9 n (at_most_one f)
unfolding at_most_one
one_sized {n} f h s = go (at_or_below f (of_whole 1))
  where
    go : (b : Bool) → Sized 9 n (elim b as (λ _. Figure) [ true ↦ f | false ↦ of_whole 1 ])
    go true = s
    go false = sized-≤ h (of_whole_sized 1 (lit≤ tt))

pub upper_sized : {x : Pair} → IsPair x → Sized 9 2000 (at_most_one x.upper)
upper_sized {x} p = one_sized x.upper (lit≤ tt) (sized_2000 9 x.upper p.upper_figure p.upper_least p.upper_most)

module _ {m : ℕ} {s p : Figure} (a : Sized 9 m s) (b : Sized 9 2000 p) where
  pub with_upper_sized : Sized 9 (m + 2100) (with_upper s p)
  unfolding with_upper
  with_upper_sized = one_sized _ (omega arith)
      (sized-≤ (omega arith) (plus_up_sized a (times_up_sized b (minus_up_sized (of_whole_sized 1 (lit≤ tt)) a))))

  pub with_lower_sized : Sized 9 (m + 2100) (with_lower s p)
  unfolding with_lower
  with_lower_sized = one_sized _ (omega arith)
      (sized-≤ (omega arith) (plus_down_sized a (times_down_sized b (minus_down_sized (of_whole_sized 1 (lit≤ tt)) a))))

-- ---- one subsystem more, rounded either way

module _ (to : Direction) {s p : Figure} (a : Sized 9 40000 s) (b : Sized 9 2000 p) where
  pub rest_sized : Sized 9 40100 (minus to (of_whole 1) s)
  rest_sized = go to
    where
      go : (to : Direction) → Sized 9 40100 (minus to (of_whole 1) s)
      go Up = sized-≤ (lit≤ tt) (minus_up_sized (of_whole_sized 1 (lit≤ tt)) a)
      go Down = sized-≤ (lit≤ tt) (minus_down_sized (of_whole_sized 1 (lit≤ tt)) a)

  pub share_sized : Sized 9 42200 (times to p (minus to (of_whole 1) s))
  share_sized = go to rest_sized
    where
      go : (to : Direction) → Sized 9 40100 (minus to (of_whole 1) s) → Sized 9 42200 (times to p (minus to (of_whole 1) s))
      go Up r = sized-≤ (lit≤ tt) (times_up_sized b r)
      go Down r = sized-≤ (lit≤ tt) (times_down_sized b r)

pub plus_figure : (to : Direction) (s p : Figure) → IsFigure 9 (plus to s p)
plus_figure Up s p = plus_up_figure s p
plus_figure Down s p = plus_down_figure s p

pub with_is : (to : Direction) (s p : Figure) → at_most_one (plus to s (times to p (minus to (of_whole 1) s))) ≡ with to s p
unfolding with_upper with_lower
with_is Up s p = refl
with_is Down s p = refl
