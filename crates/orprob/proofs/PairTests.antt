-- What a pair is, as a test and in words; and what an answer says of the pairs before it. Assumes nothing.
use Prim.Native.Nat.{ℕ, zero, suc, ◌+◌, ◌<◌}
use native.Mathlib.Nat.{not-suc-le-zero}
use native.Mathlib.Omega.{arith}
use lib.ListN.{length}
use mathlib.Core.Path.{◌≡◌, refl, sym, ◌∙◌}
use mathlib.Core.Bool.{Bool, true, false, true≢false, ◌&&◌}
use mathlib.Core.List.{List, [], ◌∷◌}
use lib.Dec.{T, lit≤}
use lib.IntN.{ℤ, pos, negsuc}
use lib.Signed.{le_z, lt_z, ◌≤ℤ◌, le_z_yes}
use mir.Syntax.{w32}
use mir.Val.{to_z, of_z}
use borrow.Author.Tests.{ltb-true, ltb-false, le-leb, lt-leb}
use Rattle.fraction.specs.Fraction.{◌≤ᶠ◌, whole, at_most}
use Rattle.fraction.proofs.Laws.{≤ᶠ_trans, at_most_iff, ≈ᶠ-≤, ≈ᶠ-≥}
use Rattle.figure.specs.declared.Figure.{Figure}
use Rattle.figure.specs.Rounding.{IsFigure, value}
use Rattle.figure.specs.Operations.{of_whole, at_or_below}
use Rattle.figure.specs.Tested.{figure_test}
use Rattle.figure.proofs.Exact.{of_whole_exact}
use Rattle.figure.proofs.Tested.{tested}
use Rattle.word.specs.Answer.{Answer, refused, granted}
use Rattle.word.specs.Internal.Lists.{Each}
use Rattle.word.proofs.Members.{both}
use Rattle.model.proofs.Refusals.{refused_not_granted}
use Rattle.orprob.specs.declared.Pair.{Pair}
use Rattle.orprob.specs.Internal.Parts.{pair_at}
use Rattle.orprob.specs.Pairs.{power_inside, is_pair, first_wrong, IsPair, PairTested}

-- ---- tests and what they say

holds : (b : Bool) → T b → b ≡ true
holds true t = refl
holds false t = absurd t

pub below : (a b : Figure) → at_or_below a b ≡ true → value a ≤ᶠ value b
unfolding at_or_below
below a b e = (at_most_iff (value a) (value b)).0 (rw e tt)

not_above : (a b : Figure) → value a ≤ᶠ value b → at_or_below a b ≡ true
unfolding at_or_below
not_above a b h = holds (at_most (value a) (value b)) ((at_most_iff (value a) (value b)).1 h)

pub one_below : value (of_whole 1) ≤ᶠ whole 1
one_below = ≈ᶠ-≤ (of_whole_exact 1 (lit≤ tt))

pub one_above : whole 1 ≤ᶠ value (of_whole 1)
one_above = ≈ᶠ-≥ (of_whole_exact 1 (lit≤ tt))

figure_holds : (f : Figure) → IsFigure 9 f → figure_test f ≡ true
figure_holds f i = go (figure_test f) refl
  where
    go : (b : Bool) → figure_test f ≡ b → figure_test f ≡ true
    go true e = e
    go false e = absurd ((tested f).failed e i)

pub inside : (p : ℤ) → power_inside p ≡ true → (negsuc 1999 ≤ℤ p) × (p ≤ℤ pos 2000)
unfolding power_inside
inside p e = let (l, h) = both (le_z (negsuc 1999) p) (le_z p (pos 2000)) e in (le_z_yes (rw l tt), le_z_yes (rw h tt))

-- a power as the code reads it, from its 32 bits
abbrev stored : ℤ → ℤ
stored p = to_z w32 (of_z w32 p)

below_least : (p : ℤ) → lt_z p (negsuc 1999) ≡ true → le_z (negsuc 1999) p ≡ false
below_least (pos n) h = sym h
below_least (negsuc n) h = lt-leb n 1999 (ltb-true 1999 n h)

from_least : (p : ℤ) → lt_z p (negsuc 1999) ≡ false → le_z (negsuc 1999) p ≡ true
from_least (pos n) h = refl
from_least (negsuc n) h = le-leb n 1999 (ltb-false 1999 n h)

inside_holds : (p : ℤ) → negsuc 1999 ≤ℤ p → p ≤ℤ pos 2000 → power_inside p ≡ true
unfolding power_inside
inside_holds p l h = rw (holds (le_z (negsuc 1999) p) l.le, holds (le_z p (pos 2000)) h.le)

-- ---- a pair

module _ (x : Pair) where
  abbrev figures : Bool
  figures = figure_test x.lower && figure_test x.upper

  abbrev powers : Bool
  powers = power_inside x.lower.power && power_inside x.upper.power

  abbrev ends : Bool
  ends = at_or_below x.lower (of_whole 1) && at_or_below x.lower x.upper

  pub pair_held : is_pair x ≡ true → IsPair x
  unfolding is_pair
  pair_held e =
      let (f, r) = both figures (powers && ends) e in
      let (p, o) = both powers ends r in
      let (fl, fu) = both (figure_test x.lower) (figure_test x.upper) f in
      let (pl, pu) = both (power_inside x.lower.power) (power_inside x.upper.power) p in
      let (ol, ou) = both (at_or_below x.lower (of_whole 1)) (at_or_below x.lower x.upper) o in
      record {
        lower_figure = (tested x.lower).held fl;
        upper_figure = (tested x.upper).held fu;
        lower_least = (inside x.lower.power pl).0;
        lower_most = (inside x.lower.power pl).1;
        upper_least = (inside x.upper.power pu).0;
        upper_most = (inside x.upper.power pu).1;
        at_most_one = ≤ᶠ_trans (below x.lower (of_whole 1) ol) one_below;
        in_order = below x.lower x.upper ou;
      }

  pair_holds : IsPair x → is_pair x ≡ true
  unfolding is_pair
  pair_holds h =
      rw (
        figure_holds x.lower h.lower_figure,
        figure_holds x.upper h.upper_figure,
        inside_holds x.lower.power h.lower_least h.lower_most,
        inside_holds x.upper.power h.upper_least h.upper_most,
        not_above x.lower (of_whole 1) (≤ᶠ_trans h.at_most_one one_above),
        not_above x.lower x.upper h.in_order,
      )

  pub pair_tested : PairTested x
  pair_tested = record { held = pair_held; failed = λ e h. true≢false (sym (pair_holds h) ∙ e) }

-- ---- the test of a pair, as the code makes it

-- a figure with its power
abbrev pub in_range : Figure → Bool
in_range f = figure_test f && power_inside f.power

pub ranged_figure : (f : Figure) → in_range f ≡ true → IsFigure 9 f
ranged_figure f e = (tested f).held (both (figure_test f) (power_inside f.power) e).0

-- each figure with its power, and then their order
pub pair_by_figures : (x : Pair) → is_pair x ≡ (in_range x.lower && in_range x.upper) && (at_or_below x.lower (of_whole 1) && at_or_below x.lower x.upper)
unfolding is_pair
pair_by_figures x = go (figure_test x.lower) (figure_test x.upper) (power_inside x.lower.power) (power_inside x.upper.power) _
  where
    go : (a b p q r : Bool) → (a && b) && ((p && q) && r) ≡ ((a && p) && (b && q)) && r
    go true true true q r = refl
    go true true false q r = refl
    go true false true q r = refl
    go true false false q r = refl
    go false b p q r = refl

-- ---- the first pair that is none

module _ (x : Pair) (xs : List Pair) (i : ℕ) (a : Answer Pair) where
  pub wrong_here : is_pair x ≡ false → first_wrong (x ∷ xs) i a ≡ refused 18 i
  unfolding first_wrong
  wrong_here e = rw (e, first_wrong)

  pub wrong_later : is_pair x ≡ true → first_wrong (x ∷ xs) i a ≡ first_wrong xs (suc i) a
  unfolding first_wrong
  wrong_later e = rw (e, first_wrong)

-- where figures are granted, all are pairs
pub all_pairs : (xs : List Pair) (i : ℕ) (a r : Pair) → first_wrong xs i (granted a) ≡ granted r → Each IsPair xs × (a ≡ r)
unfolding first_wrong Each
all_pairs [] i a r e = (tt, cc)
all_pairs (x ∷ xs) i a r e = go (is_pair x) refl (all_pairs xs (suc i) a r)
  where
    go : (b : Bool) → is_pair x ≡ b → (first_wrong xs (suc i) (granted a) ≡ granted r → Each IsPair xs × (a ≡ r)) → Each IsPair (x ∷ xs) × (a ≡ r)
    go true h rest = let (are, same) = rest (sym (wrong_later x xs i (granted a) h) ∙ e) in ((pair_held x h, are), same)
    go false h rest = absurd (refused_not_granted (sym (wrong_here x xs i (granted a) h) ∙ e))

-- where all are pairs, and where the first that is none has the index k
pub all_pass : (xs : List Pair) (i : ℕ) (a : Answer Pair) → ((j : ℕ) → j < length xs → is_pair (pair_at xs j) ≡ true) → first_wrong xs i a ≡ a
unfolding first_wrong
all_pass [] i a h = refl
all_pass (x ∷ xs) i a h = wrong_later x xs i a (h 0 (omega arith)) ∙ all_pass xs (suc i) a (λ j l. h (suc j) (omega (arith, l)))

pub found_at : (xs : List Pair) (k i : ℕ) (a : Answer Pair) → k < length xs → ((j : ℕ) → j < k → is_pair (pair_at xs j) ≡ true)
    → is_pair (pair_at xs k) ≡ false → first_wrong xs i a ≡ refused 18 (i + k)
found_at [] k i a l h e = absurd (not-suc-le-zero l)
found_at (x ∷ xs) zero i a l h e = let z : i + 0 ≡ i = omega arith in rw z (wrong_here x xs i a e)
found_at (x ∷ xs) (suc k) i a l h e =
    let z : i + suc k ≡ suc i + k = omega arith in
    rw z (wrong_later x xs i a (h 0 (omega arith)) ∙ found_at xs k (suc i) a (omega (arith, l)) (λ j m. h (suc j) (omega (arith, m))) e)
