-- A quotient with the mark that something was left over, as the code has it: what it is, and what a second division makes of it. Assumes
-- nothing.
use mathlib.Core.Path.{◌≡◌, refl, sym, ◌∙◌, ap, ap₂}
use mathlib.Core.Bool.{Bool, true, false, not, ◌||◌}
use Prim.Native.Nat.{ℕ, zero, suc, ◌+◌, ◌-◌, ◌*◌, ◌/◌, ◌%◌, ◌^◌, ◌≤◌, ◌<◌}
use native.Mathlib.Nat.{div-add-mod', mod-lt, div-eq_of_lt-le, div-lt_iff_lt-mul, zero-lt-suc}
use native.Mathlib.Nat.{pow-suc, mul-le-mul_right, mul-pos, mul-div_cancel, lt_irrefl, lt_of_lt_of_le, pow-le-pow_right}
use native.Mathlib.Omega.{arith}
use lib.Dec.{eqb, lit≤}
use lib.IntN.{ℤ, pos, ◌+ℤ◌}
use lib.Signed.{mag}
use borrow.Author.Tests.{eq-eqb, ne_eqb, lt-ltb, le-ltb}
use Rattle.figure.specs.declared.Figure.{Figure}
use Rattle.figure.specs.declared.Direction.{Direction}
use Rattle.figure.specs.declared.Direction.TheVariants.{Down, Up}
use Rattle.figure.specs.declared.division.Part.{Part}
use Rattle.figure.specs.declared.division.Width.{Width}
use Rattle.figure.specs.declared.division.Width.TheVariants.{Nine, Eighteen}
use Rattle.figure.specs.Rounding.{figure}
use Rattle.figure.specs.Internal.Steps.{Digits, digits_of, part, shorter, carry, directed, trimmed}
use Rattle.figure.proofs.Stored.{stored, kept, mag_sum, read_sum}

-- the digits that the code rounds to are a number that it works with
pub within : (w : Width) → Digits (digits_of w)
within Nine = record { some = lit≤ tt; most = lit≤ tt }
within Eighteen = record { some = lit≤ tt; most = lit≤ tt }

abbrev pub parts : ℕ → Bool → Part
parts q b = record { whole = q; rest = b }

-- something other than 0
abbrev pub some : ℕ → Bool
some r = not (eqb r 0)

pub some_left : {r : ℕ} → 0 < r → some r ≡ true
some_left {r} h = rw (ne_eqb r 0 (λ z. lt_irrefl 0 (rw z at h)))

-- ---- a quotient

left_over : (m r : ℕ) → not (eqb m (m + r)) ≡ some r
left_over m zero = rw (eq-eqb m (m + 0) (omega arith))
left_over m (suc r) = rw (ne_eqb m (m + suc r) (λ e. lt_irrefl m (omega arith)), some_left (zero-lt-suc r))

-- n as q times d and a remainder r
pub at_part : (n d q r : ℕ) → n ≡ q * d + r → r < d → part n d ≡ parts q (some r)
unfolding part
at_part n d q r e l = let w : n / d ≡ q = div-eq_of_lt-le d (omega arith) (omega arith) in
    rw w (rw e (ap (parts q) (left_over (q * d) r)))

pub part_split : (n d : ℕ) → 0 < d → part n d ≡ parts (n / d) (some (n % d))
part_split n d h = at_part n d (n / d) (n % d) (sym (div-add-mod' n d)) (mod-lt n h)

pub part_below : (n d m : ℕ) {q : Part} → q ≡ part n d → 0 < d → n < m * d → q.whole < m
part_below n d m e h l = rw e (unfold part in (div-lt_iff_lt-mul h).1 l)

-- ---- a quotient divided once more

either : (r s t : ℕ) → 0 < t → some r || some s ≡ some (s * t + r)
either (suc r) s t h =
    let e : s * t + suc r ≡ suc (s * t + r) = omega arith in rw (e, some_left (zero-lt-suc r), some_left (zero-lt-suc (s * t + r)))
either zero zero t h = let e : 0 * t + 0 ≡ 0 = omega arith in rw e
either zero (suc s) t h =
    rw (some_left (zero-lt-suc s), some_left {r = suc s * t + 0} (omega (arith, mul-pos (zero-lt-suc s) h)))

pub shorter_part : (n t d : ℕ) → 0 < t → 0 < d → shorter (part n t) d ≡ part n (t * d)
unfolding shorter
shorter_part n t d ht hd =
    rw (part_split n t ht, part_split (n / t) d hd)
    (ap (parts (n / t / d)) (either (n % t) (n / t % d) t ht) ∙ sym (at_part n (t * d) (n / t / d) (n / t % d * t + n % t)
    (split (n / t) (n / t / d) (n / t % d) (n % t) (div-add-mod' n t) (div-add-mod' (n / t) d)) (below (n / t % d) (n % t) (mod-lt (n / t) hd) (mod-lt n ht))))
  where
    split : (q p s r : ℕ) → q * t + r ≡ n → p * d + s ≡ q → n ≡ p * (t * d) + (s * t + r)
    split q p s r e f = omega (arith, ap (λ k. k * t) f)

    below : (s r : ℕ) → s < d → r < t → s * t + r < t * d
    below s r h k = omega (arith, mul-le-mul_right t h)

-- ---- digits that may be one too many

pub digits_fit : {K d : ℕ} → Digits K → d < 10 ^ K → d < 10 ^ 18
digits_fit k h = lt_of_lt_of_le h (pow-le-pow_right (zero-lt-suc 9) k.most)

pub carry_full : (K : ℕ) (e : ℤ) → carry K (10 ^ K) e ≡ figure (10 ^ (K - 1)) (e +ℤ pos 1)
unfolding carry
carry_full K e = rw (eq-eqb (10 ^ K) (10 ^ K) refl, carry)

pub carry_short : (K d : ℕ) (e : ℤ) → (d ≡ 10 ^ K → ⊥) → carry K d e ≡ figure d e
unfolding carry
carry_short K d e n = rw (ne_eqb d (10 ^ K) n, carry)

tenth : (K : ℕ) → 0 < K → 10 ^ K / 10 ≡ 10 ^ (K - 1)
tenth zero h = absurd (lt_irrefl 0 h)
tenth (suc w) h = let e : suc w - 1 ≡ w = omega arith in rw (e, pow-suc 10 w) (mul-div_cancel (10 ^ w) (zero-lt-suc 9))

-- ---- what the code answers, its powers stored and read back

module _ (e : ℤ) (h : mag e ≤ 1000000) where
  next_kept : {s : ℤ} → s ≡ stored e +ℤ pos 1 → stored s ≡ e +ℤ pos 1
  next_kept r = ap stored (read_sum e (pos 1) (omega arith) (lit≤ tt) r) ∙ kept (e +ℤ pos 1) (omega (arith, mag_sum e (pos 1)))

  pub carried_full : {K d t : ℕ} {s : ℤ} → Digits K → t ≡ 10 ^ K → d ≡ t → s ≡ stored e +ℤ pos 1 → figure (t / 10) (stored s) ≡ carry K d e
  carried_full {K} k p q r = rw (q, p) (ap₂ figure (tenth K k.some) (next_kept r) ∙ sym (carry_full K e))

  pub carried_short : (K d : ℕ) {t : ℕ} → t ≡ 10 ^ K → (d ≡ t → ⊥) → figure d (stored e) ≡ carry K d e
  carried_short K d p n = ap (figure d) (kept e (omega arith)) ∙ sym (carry_short K d e (λ q. n (q ∙ sym p)))

  module _ (to : Direction) (K : ℕ) (p : Part) where
    pub directed_more : {r : Figure} → to ≡ Up → p.rest ≡ true → r ≡ carry K (p.whole + 1) (stored e) → r ≡ directed to K p e
    unfolding directed
    directed_more u s q = q ∙ ap (carry K (p.whole + 1)) (kept e (omega arith)) ∙ sym (rw (u, directed) (rw (s, directed)))

    pub directed_exact : p.rest ≡ false → figure p.whole (stored e) ≡ directed to K p e
    directed_exact s = ap (figure p.whole) (kept e (omega arith)) ∙ sym (go to)
      where
        go : (u : Direction) → directed u K p e ≡ figure p.whole e
        go Up = unfold directed in rw (s, directed)
        go Down = unfold directed in refl

    pub directed_down : (to ≡ Up → ⊥) → figure p.whole (stored e) ≡ directed to K p e
    directed_down n = ap (figure p.whole) (kept e (omega arith)) ∙ sym (go to n)
      where
        go : (d : Direction) → (d ≡ Up → ⊥) → directed d K p e ≡ figure p.whole e
        go Up n = absurd (n refl)
        go Down n = unfold directed in refl

    pub trimmed_short : {r : Figure} → p.whole < 10 ^ K → r ≡ directed to K p (stored e) → r ≡ trimmed to K p e
    unfolding trimmed
    trimmed_short l q = q ∙ ap (directed to K p) (kept e (omega arith)) ∙ sym (rw (lt-ltb p.whole (10 ^ K) l, trimmed))

    pub trimmed_long : {r : Figure} {s : ℤ} {q : Part} → 10 ^ K ≤ p.whole → q ≡ shorter p 10 → s ≡ stored e +ℤ pos 1 → r ≡ directed to K q (stored s)
        → r ≡ trimmed to K p e
    unfolding trimmed
    trimmed_long l g f q = q ∙ ap₂ (directed to K) g (next_kept f) ∙ sym (rw (le-ltb p.whole (10 ^ K) l, trimmed))

pub shorter_small : (p : Part) (m d : ℕ) → 0 < d → p.whole < m * d → (shorter p d).whole < m
unfolding shorter
shorter_small p m d h l = (div-lt_iff_lt-mul h).1 l

pub next_near : (e : ℤ) {s : ℤ} → mag e ≤ 900000 → s ≡ stored e +ℤ pos 1 → mag (stored s) ≤ 1000000
next_near e h f = rw (next_kept e (omega arith) f) (omega (arith, mag_sum e (pos 1)))
