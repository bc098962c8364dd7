-- The search for the least number whose cube or square reaches a figure. Assumes nothing.
use mathlib.Core.Path.{◌≡◌, sym, ◌∙◌, ap}
use Prim.Native.Nat.{ℕ, suc, suc-le-suc, ◌+◌, ◌*◌, ◌^◌, ◌≤◌, ◌<◌}
use native.Mathlib.Nat.{le_of_suc-le-suc, le_antisymm, lt_of_not-le, le_trans, lt_irrefl, not-le_of_lt, pow-suc, pow-zero, pow-le-pow_left}
use native.Mathlib.Decide.{dec_le}
use native.Mathlib.Omega.{arith}
use lib.Dec.{T, lit≤, le→leb, leb→le}
use Rattle.figure.specs.declared.Figure.{Figure}
use Rattle.tree.specs.Grains.{reaches, least}
use Rattle.tree.proofs.Least.{least_found}
use Rattle.figure.specs.Internal.Ceiling.{Ceiling}
use Rattle.tables.specs.declared.grains.Power.{Power}
use Rattle.tables.specs.declared.grains.Power.TheVariants.{Square, Cube}
use Rattle.tables.specs.Internal.Roots.{exponent, Below}

-- ---- cubes and squares of numbers below 1,000,000

pub square_is : (n : ℕ) → n * n ≡ n ^ 2
square_is n = sym (pow-suc n 1 ∙ rw (pow-suc n 0, pow-zero) (omega arith))

pub cube_is : (n : ℕ) → n * n * n ≡ n ^ 3
cube_is n = ap (λ m. m * n) (square_is n) ∙ sym (pow-suc n 2)

small_power : (power : Power) (n : ℕ) → n < 1000000 → n ^ exponent power < 10 ^ 18
small_power Cube n h = le_trans {m = suc (999999 ^ 3)} (omega (arith, pow-le-pow_left {n = n} {m = 999999} (omega arith) 3)) (lit≤ tt)
small_power Square n h = le_trans {m = suc (999999 ^ 2)} (omega (arith, pow-le-pow_left {n = n} {m = 999999} (omega arith) 2)) (lit≤ tt)

-- ---- a search from a close number on

-- no number from 1 on and below n will do
pub record Searched (e c n : ℕ) : Type 0 where
  pub low : 1 ≤ n
  pub high : n ≤ 1000000
  pub first : (i : ℕ) → 1 ≤ i → i < n → i ^ e < c

module _ {e c : ℕ} where
  pub searched_from : (r : ℕ) → Below e c r → Searched e c (r + 1)
  searched_from r b = record {
    low = omega arith;
    high = omega (arith, b.bounded);
    first = λ i p q. le_trans (suc-le-suc (pow-le-pow_left {n = i} {m = r} (omega arith) e)) (b.below (omega arith));
  }

  pub searched_next : {n : ℕ} → Searched e c n → n < 1000000 → n ^ e < c → Searched e c (n + 1)
  searched_next {n} s h k = record { low = omega arith; high = omega arith; first = λ i p q. go i p (le_of_suc-le-suc (omega arith)) (dec_le n i) }
    where
      go : (i : ℕ) → 1 ≤ i → i ≤ n → Dec (n ≤ i) → i ^ e < c
      go i p q (yes l) = rw (le_antisymm q l) k
      go i p q (no l) = s.first i p (lt_of_not-le l)

module _ (power : Power) (g : Figure) (c : ℕ) (ceil : Ceiling g c) (n : ℕ) (s : Searched (exponent power) c n) where
  unreached : (i : ℕ) → 1 ≤ i → i < n → T (reaches (exponent power) g i) → ⊥
  unfolding reaches
  unreached i p q t =
      not-le_of_lt (s.first i p q) (leb→le _ _ (rw (ceil.same (i ^ exponent power) (small_power power i (le_trans q s.high))) at t))

  pub searched_all : 1000000 ≤ n → 1000000 ≡ least (exponent power) g
  searched_all h = least_found (exponent power) g 1000000 (record {
    positive = lit≤ tt;
    bounded = lit≤ tt;
    passes = λ k. absurd (lt_irrefl 1000000 k);
    first = λ i p q t. unreached i p (le_trans q h) t;
  })

  pub searched_found : n < 1000000 → c ≤ n ^ exponent power → n ≡ least (exponent power) g
  unfolding reaches
  searched_found h k = least_found (exponent power) g n (record {
    positive = s.low;
    bounded = s.high;
    passes = λ _. rw (ceil.same (n ^ exponent power) (small_power power n h)) (le→leb c (n ^ exponent power) k);
    first = unreached;
  })
