-- Polynomial inequalities between signed fractions, each by one call, as `Certificate` does it for natural ones. A fraction x is split into
-- `nonnegative x` less `below_zero x`, and an expression of fractions into two polynomials with natural coefficients, `gain` less `loss`, over
-- those two parts of each variable. An order of two expressions is then an order of polynomials, which `Certificate` tests.
--
-- An expression is made of `var 0`, `var 1`, .. (the fractions of a list), numerals `lit k`, sums `⊞`, differences `⊟` and products `⊠`. A
-- hypothesis is `order c a b`, that a is at or below b, or `nonneg c i`, that the variable i is at or above 0; c is what it is multiplied by, a
-- polynomial in `up_of i`, the part of the variable i above 0, and `down_of i`, its part below 0. So x ≤ᶠ y gives z *ᶠ x ≤ᶠ z *ᶠ y for 0 ≤ᶠ z:
--
--     prove-signed (x ∷ y ∷ z ∷ []) (nonneg (down-of 0 +' up_of 1) 2 ∷ order (up_of 2) (var 0) (var 1) ∷ []) (var 2 ⊠ var 0) (var 2 ⊠ var 1) tt h p
use mathlib.Core.Path.{◌≡◌, refl, ap}
use mathlib.Core.List.{List, [], ◌∷◌}
use mathlib.Core.Logic.{◌⊎◌, inl, inr, ⊎_elim}
use Prim.Native.Nat.{ℕ, zero, suc, ◌+◌, ◌*◌}
use native.Mathlib.Nat.{mul-pos, mul-le-mul_right, le_of_mul-le-mul_right}
use native.Mathlib.Omega.{arith, P, patom, plit, flat}
use lib.Dec.{T}
use Rattle.fraction.specs.Fraction.{Fraction, ◌≤ᶠ◌, ◌≈ᶠ◌, whole, ◌+ᶠ◌, ◌-ᶠ◌, ◌*ᶠ◌}
use Rattle.fraction.proofs.Integers.{deficit, no_deficit, is_self, is_pos, is_plus, is_minus, is_times, is-≤, ≤_is, is-≡}
use Rattle.fraction.proofs.Ratio.{Ratio, ◌≼◌, ◌≈◌, ofℕ, ◌⊕◌, ◌⊗◌, ≈_refl, ≈_sym, ≈_le, ≈_ge, ≼_or, num_zero}
use Rattle.fraction.proofs.Certificate.{◌+'◌, ◌*'◌, val, nth, prove, equal, hyp, Hyp, Imp, test, covers}
use Rattle.fraction.proofs.Signed.{nonnegative}

-- ---- a fraction, split

-- how far x is below 0
unfoldable pub below_zero : Fraction → Ratio
below_zero x = record { num = deficit x.num; den = x.den; den_pos = x.den_pos }

-- x is p less n
record Split (x : Fraction) (p n : Ratio) : Type 0 where
  split : nonnegative x ⊕ n ≈ p ⊕ below_zero x

split_self : (x : Fraction) → Split x (nonnegative x) (below_zero x)
split_self x = record { split = ≈_refl _ }

split_whole : (k : ℕ) → Split (whole k) (ofℕ k) (ofℕ 0)
unfolding whole ofℕ nonnegative below_zero
split_whole k = record { split = ≈_refl _ }

-- equal numerators over a common denominator
common : (a b c d s : ℕ) → a + b ≡ c + d → (a * s + b * s) * (s * s) ≡ (c * s + d * s) * (s * s)
common a b c d s e = ap (λ t. t * (s * s)) (omega (arith, ap (λ t. t * s) e))

parts_plus : (x y : Fraction) → Split (x +ᶠ y) (nonnegative x ⊕ nonnegative y) (below_zero x ⊕ below_zero y)
unfolding ◌+ᶠ◌ nonnegative below_zero ◌⊕◌
parts_plus x y = let num-is = is_plus (is_times (is_self x.num) (is_pos y.den)) (is_times (is_self y.num) (is_pos x.den)) in
    record { split = record { eq = common _ _ _ _ (x.den * y.den) (omega (arith, num-is.is)) } }

parts_minus : (x y : Fraction) → Split (x -ᶠ y) (nonnegative x ⊕ below_zero y) (below_zero x ⊕ nonnegative y)
unfolding ◌-ᶠ◌ nonnegative below_zero ◌⊕◌
parts_minus x y = let num-is = is_minus (is_times (is_self x.num) (is_pos y.den)) (is_times (is_self y.num) (is_pos x.den)) in
    record { split = record { eq = common _ _ _ _ (x.den * y.den) (omega (arith, num-is.is)) } }

parts_times : (x y : Fraction) → Split (x *ᶠ y)
    (nonnegative x ⊗ nonnegative y ⊕ below_zero x ⊗ below_zero y) (nonnegative x ⊗ below_zero y ⊕ below_zero x ⊗ nonnegative y)
unfolding ◌*ᶠ◌ nonnegative below_zero ◌⊕◌ ◌⊗◌
parts_times x y = record { split = record { eq = go _ _ _ _ _ _ (x.den * y.den) (is_times (is_self x.num) (is_self y.num)).is } }
  where
    go : (a b c d e f s : ℕ) → a + (b + c) ≡ d + e + f
        → (a * (s * s) + (b * s + c * s) * s) * (s * s * s) ≡ ((d * s + e * s) * s + f * (s * s)) * (s * (s * s))
    go a b c d e f s h = omega (arith, ap (λ t. t * (s * s * s * s * s)) h)

-- an order of fractions is an order of their parts

own-≤ : (x y : Fraction) → nonnegative x ⊕ below_zero y ≼ nonnegative y ⊕ below_zero x → x ≤ᶠ y
unfolding nonnegative below_zero ◌⊕◌
own-≤ x y h = record {
  le = is-≤ (is_times (is_self x.num) (is_pos y.den)) (is_times (is_self y.num) (is_pos x.den))
      (le_of_mul-le-mul_right {k = x.den * y.den} (omega (arith, h.le)) (mul-pos x.den_pos y.den_pos));
}

≤_own : {x y : Fraction} → x ≤ᶠ y → nonnegative x ⊕ below_zero y ≼ nonnegative y ⊕ below_zero x
unfolding nonnegative below_zero ◌⊕◌
≤_own {x} {y} h = record {
  le = omega (
    arith,
    mul-le-mul_right (x.den * y.den)
        (≤_is (is_times (is_self x.num) (is_pos y.den)) (is_times (is_self y.num) (is_pos x.den)) h.le),
  );
}

-- ---- other parts with the same difference do as well

split-≈ : {x : Fraction} {p n p' n' : Ratio} → Split x p n → p ⊕ n' ≈ p' ⊕ n → Split x p' n'
split-≈ {x} {p} {n} {p'} {n'} h e = record {
  split = equal (nonnegative x ∷ below_zero x ∷ p ∷ n ∷ p' ∷ n' ∷ [])
      (hyp (plit 1) (patom 0 +' patom 3) (patom 2 +' patom 1) ∷ hyp (plit 1) (patom 2 +' patom 5) (patom 4 +' patom 3) ∷ [])
      (patom 0 +' patom 5) (patom 4 +' patom 1) tt tt h.split e;
}

-- so any parts go through the operations
module _ {x y : Fraction} {p n q m : Ratio} (h : Split x p n) (k : Split y q m) where
  -- atoms: 0 and 1 the parts of x itself, 2 and 3 of y, 4 and 5 the given ones of x, 6 and 7 of y
  abbrev ρ : List Ratio
  ρ = nonnegative x ∷ below_zero x ∷ nonnegative y ∷ below_zero y ∷ p ∷ n ∷ q ∷ m ∷ []

  split_plus : Split (x +ᶠ y) (p ⊕ q) (n ⊕ m)
  split_plus = split-≈ (parts_plus x y) (equal ρ
      (hyp (plit 1) (patom 0 +' patom 5) (patom 4 +' patom 1) ∷ hyp (plit 1) (patom 2 +' patom 7) (patom 6 +' patom 3) ∷ [])
      (patom 0 +' patom 2 +' (patom 5 +' patom 7)) (patom 4 +' patom 6 +' (patom 1 +' patom 3)) tt tt h.split k.split)

  split_minus : Split (x -ᶠ y) (p ⊕ m) (n ⊕ q)
  split_minus = split-≈ (parts_minus x y) (equal ρ
      (hyp (plit 1) (patom 0 +' patom 5) (patom 4 +' patom 1) ∷ hyp (plit 1) (patom 6 +' patom 3) (patom 2 +' patom 7) ∷ [])
      (patom 0 +' patom 3 +' (patom 5 +' patom 6)) (patom 4 +' patom 7 +' (patom 1 +' patom 2)) tt tt h.split (≈_sym k.split))

  split_times : Split (x *ᶠ y) (p ⊗ q ⊕ n ⊗ m) (p ⊗ m ⊕ n ⊗ q)
  split_times = split-≈ (parts_times x y) (equal ρ
      (hyp (patom 2) (patom 0 +' patom 5) (patom 4 +' patom 1) ∷ hyp (patom 3) (patom 4 +' patom 1) (patom 0 +' patom 5)
      ∷ hyp (patom 4) (patom 2 +' patom 7) (patom 6 +' patom 3) ∷ hyp (patom 5) (patom 6 +' patom 3) (patom 2 +' patom 7) ∷ [])
      (patom 0 *' patom 2 +' patom 1 *' patom 3 +' (patom 4 *' patom 7 +' patom 5 *' patom 6))
      (patom 4 *' patom 6 +' patom 5 *' patom 7 +' (patom 0 *' patom 3 +' patom 1 *' patom 2)) tt tt
      h.split (≈_sym h.split) k.split (≈_sym k.split))

  -- so does an order
  split-≤ : p ⊕ m ≼ q ⊕ n → x ≤ᶠ y
  split-≤ l = own-≤ x y (prove ρ
      (hyp (plit 1) (patom 0 +' patom 5) (patom 4 +' patom 1) ∷ hyp (plit 1) (patom 6 +' patom 3) (patom 2 +' patom 7)
      ∷ hyp (plit 1) (patom 4 +' patom 7) (patom 6 +' patom 5) ∷ [])
      (patom 0 +' patom 3) (patom 2 +' patom 1) tt (≈_le h.split) (≈_ge k.split) l)

  ≤_split : x ≤ᶠ y → p ⊕ m ≼ q ⊕ n
  ≤_split l = prove ρ
      (hyp (plit 1) (patom 4 +' patom 1) (patom 0 +' patom 5) ∷ hyp (plit 1) (patom 2 +' patom 7) (patom 6 +' patom 3)
      ∷ hyp (plit 1) (patom 0 +' patom 3) (patom 2 +' patom 1) ∷ [])
      (patom 4 +' patom 7) (patom 6 +' patom 5) tt (≈_ge h.split) (≈_le k.split) (≤_own l)

-- ---- expressions

infixl 60 ◌⊞◌ ◌⊟◌
infixl 70 ◌⊠◌
pub data Expression : Type 0 where
  var : ℕ → Expression
  lit : ℕ → Expression
  ◌⊞◌ ◌⊟◌ ◌⊠◌ : Expression → Expression → Expression

abbrev pub pick : List Fraction → ℕ → Fraction
pick [] i = whole 0
pick (x ∷ ρ) zero = x
pick (x ∷ ρ) (suc i) = pick ρ i

abbrev pub value : Expression → List Fraction → Fraction
value (var i) ρ = pick ρ i
value (lit k) ρ = whole k
value (a ⊞ b) ρ = value a ρ +ᶠ value b ρ
value (a ⊟ b) ρ = value a ρ -ᶠ value b ρ
value (a ⊠ b) ρ = value a ρ *ᶠ value b ρ

-- ---- their parts, as polynomials

abbrev pub double : ℕ → ℕ
double zero = zero
double (suc i) = suc (suc (double i))

-- the two parts of the variable i are the atoms 2·i and 2·i + 1
abbrev pub up_of : ℕ → P
up_of i = patom (double i)

abbrev pub down_of : ℕ → P
down_of i = patom (suc (double i))

abbrev pub parts : List Fraction → List Ratio
parts [] = []
parts (x ∷ ρ) = nonnegative x ∷ below_zero x ∷ parts ρ

abbrev mutual
  pub gain : Expression → P
  gain (var i) = up_of i
  gain (lit k) = plit k
  gain (a ⊞ b) = gain a +' gain b
  gain (a ⊟ b) = gain a +' loss b
  gain (a ⊠ b) = gain a *' gain b +' loss a *' loss b

  pub loss : Expression → P
  loss (var i) = down_of i
  loss (lit k) = plit 0
  loss (a ⊞ b) = loss a +' loss b
  loss (a ⊟ b) = loss a +' gain b
  loss (a ⊠ b) = gain a *' loss b +' loss a *' gain b

nth_up : (ρ : List Fraction) (i : ℕ) → nth (parts ρ) (double i) ≡ nonnegative (pick ρ i)
unfolding nonnegative whole ofℕ
nth_up [] i = refl
nth_up (x ∷ ρ) zero = refl
nth_up (x ∷ ρ) (suc i) = nth_up ρ i

nth_down : (ρ : List Fraction) (i : ℕ) → nth (parts ρ) (suc (double i)) ≡ below_zero (pick ρ i)
unfolding below_zero whole ofℕ
nth_down [] i = refl
nth_down (x ∷ ρ) zero = refl
nth_down (x ∷ ρ) (suc i) = nth_down ρ i

sound : (a : Expression) (ρ : List Fraction) → Split (value a ρ) (val (gain a) (parts ρ)) (val (loss a) (parts ρ))
sound (var i) ρ = rw (nth_up ρ i, nth_down ρ i) (split_self (pick ρ i))
sound (lit k) ρ = split_whole k
sound (a ⊞ b) ρ = split_plus (sound a ρ) (sound b ρ)
sound (a ⊟ b) ρ = split_minus (sound a ρ) (sound b ρ)
sound (a ⊠ b) ρ = split_times (sound a ρ) (sound b ρ)

-- ---- the certificate

pub data Fact : Type 0 where
  order : P → Expression → Expression → Fact
  nonneg : P → ℕ → Fact

-- G, given the facts
abbrev pub Given : List Fraction → List Fact → Type 0 → Type 0
Given ρ [] G = G
Given ρ (order c a b ∷ hs) G = value a ρ ≤ᶠ value b ρ → Given ρ hs G
Given ρ (nonneg c i ∷ hs) G = whole 0 ≤ᶠ pick ρ i → Given ρ hs G

-- the facts as orders of polynomials
abbrev pub hypotheses : List Fact → List Hyp
hypotheses [] = []
hypotheses (order c a b ∷ hs) = hyp c (gain a +' loss b) (gain b +' loss a) ∷ hypotheses hs
hypotheses (nonneg c i ∷ hs) = hyp c (down_of i) (plit 0) ∷ hypotheses hs

none_below : (ρ : List Fraction) (i : ℕ) → whole 0 ≤ᶠ pick ρ i → nth (parts ρ) (suc (double i)) ≼ ofℕ 0
none_below ρ i h = rw (nth_down ρ i) (≈_le (num_zero (below_zero (pick ρ i)) (zero_deficit (pick ρ i) h)))
  where
    zero_deficit : (x : Fraction) → whole 0 ≤ᶠ x → (below_zero x).num ≡ 0
    zero_deficit x h = unfold below_zero whole in no_deficit x.num
        (omega (arith, ≤_is (is_times (is_pos 0) (is_pos x.den)) (is_times (is_self x.num) (is_pos 1)) h.le))

given : (ρ : List Fraction) (hs : List Fact) {G K : Type 0} → (G → K) → Imp (parts ρ) (hypotheses hs) G → Given ρ hs K
given ρ [] f g = f g
given ρ (order c a b ∷ hs) f g = λ h. given ρ hs f (g (≤_split (sound a ρ) (sound b ρ) h))
given ρ (nonneg c i ∷ hs) f g = λ h. given ρ hs f (g (none_below ρ i h))

pub prove_signed : (ρ : List Fraction) (hs : List Fact) (a b : Expression)
    → T (test (hypotheses hs) (gain a +' loss b) (gain b +' loss a)) → Given ρ hs (value a ρ ≤ᶠ value b ρ)
prove_signed ρ hs a b t = given ρ hs (split-≤ (sound a ρ) (sound b ρ)) (prove (parts ρ) (hypotheses hs) (gain a +' loss b) (gain b +' loss a) t)

-- the order both ways is equality as fractions
pub ≤ᶠ_antisym : {x y : Fraction} → x ≤ᶠ y → y ≤ᶠ x → x ≈ᶠ y
≤ᶠ_antisym {x} {y} p q =
    let l = is_times (is_self x.num) (is_pos y.den) in
    let r = is_times (is_self y.num) (is_pos x.den) in
    record { eq = is-≡ l r (omega (arith, ≤_is l r p.le, ≤_is r l q.le)) }

-- of two fractions one is not above the other
pub ≤ᶠ_or : (x y : Fraction) → (x ≤ᶠ y) ⊎ (y ≤ᶠ x)
≤ᶠ_or x y = ⊎_elim (λ h. inl (own-≤ x y h)) (λ h. inr (own-≤ y x h)) (≼_or (nonnegative x ⊕ below_zero y) (nonnegative y ⊕ below_zero x))

-- two expressions with the same value, whatever the variables
pub same_signed : (ρ : List Fraction) (a b : Expression) → T (covers (flat (gain a +' loss b)) (flat (gain b +' loss a)))
    → T (covers (flat (gain b +' loss a)) (flat (gain a +' loss b))) → value a ρ ≈ᶠ value b ρ
same_signed ρ a b t u = ≤ᶠ_antisym (prove_signed ρ [] a b t) (prove_signed ρ [] b a u)
