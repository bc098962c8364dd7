-- The grains are what document 01 asks for: "n is the least whole number with n³ at or above g", "n² at or above g", "Either is 1,000,000 if none
-- below it will do". The least is unique, so code may search for it in another way. Assumes nothing.
use Prim.Native.Nat.{ℕ, zero, suc, ◌+◌, ◌*◌, ◌/◌, ◌^◌, ◌≤◌, ◌<◌}
use mathlib.Core.Path.{◌≡◌, refl, sym, ◌∙◌, ap₂}
use mathlib.Core.Bool.{Bool, true, false, not}
use native.Mathlib.Nat.{le_trans, le_antisymm, lt_irrefl, mul-le-mul_right, pow-succ', pow-le-pow_left}
use native.Mathlib.Omega.{arith, by_contra}
use lib.Dec.{T, leb, leb→le, le→leb, nleb→lt, lit<, lit≤}
use Rattle.fraction.specs.Fraction.{at_most}
use Rattle.fraction.proofs.Ratio.{ofℕ}
use Rattle.fraction.proofs.Signed.{signed_whole, at_most_signed}
use Rattle.figure.specs.declared.Figure.{Figure}
use Rattle.figure.proofs.Value.{val, value_is}
use Rattle.word.specs.declared.Quantity.{Quantity}
use Rattle.word.specs.Model.{Manner, slow, fast, Transition, Net, has_fast, exits}
use Rattle.tree.specs.Paths.{Path, Class, class1, class2, class3, class_of, class}
use Rattle.tree.specs.Grains.{Least, halve, reaches, least, class2_goal, class3_goal, class2_grains, class3_grains, grains_by, grains}
use Rattle.tree.specs.Faithful.{LeastIsLeast}

-- ---- the least is unique

pub least_unique : {test : ℕ → Bool} {top m n : ℕ} → Least test top m → Least test top n → m ≡ n
least_unique {test} {top} {m} {n} a b = le_antisymm (below m n a b) (below n m b a)
  where
    below : (r s : ℕ) → Least test top r → Least test top s → r ≤ s
    below r s a b = by_contra r s (λ h. a.first s b.positive h (b.passes (le_trans h a.bounded)))

-- ---- halving finds it, for a test that stays passed

module _ (test : ℕ → Bool) (top : ℕ) (stays : (m n : ℕ) → m ≤ n → T (test m) → T (test n)) where
  -- no number from 1 to `low` passes, and `high` passes or is the top
  record Between (low high : ℕ) : Type 0 where
    apart : low < high
    bounded : high ≤ top
    passes : high < top → T (test high)
    fails : (i : ℕ) → 1 ≤ i → i ≤ low → T (test i) → ⊥

  adjacent : (low high : ℕ) → high ≤ low + 1 → Between low high → Least test top high
  adjacent low high h b = record {
    positive = omega (arith, b.apart);
    bounded = b.bounded;
    passes = b.passes;
    first = λ i p q t. b.fails i p (omega arith) t;
  }

  halve_least : (fuel low high : ℕ) → high ≤ low + 2 ^ fuel → Between low high → Least test top (halve fuel test low high)
  unfolding halve
  halve_least zero low high w b = adjacent low high w b
  halve_least (suc fuel) low high w b =
      go (leb high (low + 1)) (leb→le high (low + 1)) (nleb→lt high (low + 1)) (test ((low + high) / 2)) refl
      (halve_least fuel low ((low + high) / 2)) (halve_least fuel ((low + high) / 2) high)
    where
      mid : ℕ
      mid = (low + high) / 2

      go : (c : Bool) → (T c → high ≤ low + 1) → (T (not c) → low + 1 < high) → (d : Bool) → test mid ≡ d
          → (mid ≤ low + 2 ^ fuel → Between low mid → Least test top (halve fuel test low mid))
          → (high ≤ mid + 2 ^ fuel → Between mid high → Least test top (halve fuel test mid high))
          → Least test top
          (elim c as (λ _. ℕ) [ true ↦ high | false ↦ elim d as (λ _. ℕ) [ true ↦ halve fuel test low mid | false ↦ halve fuel test mid high ] ])
      go true near far d e lower upper = adjacent low high (near tt) b
      go false near far true e lower upper = lower (omega (arith, pow-succ' 2 fuel)) (record {
        apart = omega (arith, far tt);
        bounded = omega (arith, b.apart, b.bounded);
        passes = λ _. rw e tt;
        fails = b.fails;
      })
      go false near far false e lower upper = upper (omega (arith, pow-succ' 2 fuel)) (record {
        apart = omega (arith, far tt);
        bounded = b.bounded;
        passes = b.passes;
        fails = λ i p q t. rw e at (stays i mid q t);
      })

-- ---- a larger number's power reaches what a smaller one's does

reaches_is : (e : ℕ) (g : Figure) (n : ℕ) → reaches e g n ≡ leb ((val g).num * 1) (n ^ e * (val g).den)
unfolding reaches
reaches_is e g n = ap₂ at_most (value_is g) (sym (signed_whole (n ^ e))) ∙ (unfold ofℕ in at_most_signed (val g) (ofℕ (n ^ e)))

pub reaches_stays : (e : ℕ) (g : Figure) (m n : ℕ) → m ≤ n → T (reaches e g m) → T (reaches e g n)
reaches_stays e g m n h t =
    let reached = leb→le _ _ (rw (reaches_is e g m) at t) in
    rw (reaches_is e g n) (le→leb _ _ (le_trans reached (mul-le-mul_right (val g).den (pow-le-pow_left h e))))

-- ---- the grains

pub least_is_least : LeastIsLeast
unfolding least
least_is_least e g = halve_least (reaches e g) 1000000 (reaches_stays e g) 20 0 1000000 (lit≤ tt) (record {
  apart = lit< tt;
  bounded = lit≤ tt;
  passes = λ h. absurd (lt_irrefl 1000000 h);
  fails = λ i p q t. lt_irrefl 0 (omega arith);
})

-- code that finds a number which is the least has found the grains
pub least_found : (e : ℕ) (g : Figure) (n : ℕ) → Least (reaches e g) 1000000 n → n ≡ least e g
least_found e g n h = least_unique h (least_is_least e g)

pub class2_least : (net : Net) (m d q : Quantity) → Least (reaches 3 (class2_goal net m d)) 1000000 (class2_grains net (fast m d q))
unfolding class2_grains
class2_least net m d q = least_is_least 3 (class2_goal net m d)

pub class3_least : (net : Net) (s : ℕ) → Least (reaches 2 (class3_goal net s)) 1000000 (class3_grains net s)
unfolding class3_grains
class3_least net s = least_is_least 2 (class3_goal net s)

-- the grains of a step by its class: none in class 1, else from 1 to 1,000,000
abbrev pub GrainsOf : Class → ℕ → Type 0
GrainsOf class1 n = n ≡ 0
GrainsOf class2 n = (1 ≤ n) × (n ≤ 1000000)
GrainsOf class3 n = (1 ≤ n) × (n ≤ 1000000)

pub grains_of_class : (net : Net) (p : Path) (t : Transition) → GrainsOf (class net t) (grains net p t)
unfolding grains class grains_by
grains_of_class net p t = go (has_fast (exits net t.from)) t.manner
  where
    range : {test : ℕ → Bool} {n : ℕ} → Least test 1000000 n → (1 ≤ n) × (n ≤ 1000000)
    range h = (h.positive, h.bounded)

    go : (b : Bool) (x : Manner) → GrainsOf (class_of b x) (grains_by net (class_of b x) (record { from = t.from; to = t.to; manner = x }))
    go true (slow r) = range (class3_least net t.from)
    go false (slow r) = refl
    go true (fast m d q) = range (class2_least net m d q)
    go false (fast m d q) = range (class2_least net m d q)

pub grains_low : (net : Net) (p : Path) (t : Transition) → (class net t ≡ class1 → ⊥) → 1 ≤ grains net p t
grains_low net p t h = go (class net t) h (grains net p t) (grains_of_class net p t)
  where
    go : (c : Class) → (c ≡ class1 → ⊥) → (n : ℕ) → GrainsOf c n → 1 ≤ n
    go class1 h n k = absurd (h refl)
    go class2 h n k = k.0
    go class3 h n k = k.0

pub grains_high : (net : Net) (p : Path) (t : Transition) → grains net p t ≤ 1000000
grains_high net p t = go (class net t) (grains net p t) (grains_of_class net p t)
  where
    go : (c : Class) (n : ℕ) → GrainsOf c n → n ≤ 1000000
    go class1 n k = rw k (lit≤ tt)
    go class2 n k = k.1
    go class3 n k = k.1
