-- The digits printed are the number's: read from the left they are worth the number, and the nine digits of a figure are its decimal digits.
-- Assumes nothing.
use Prim.Native.Nat.{ℕ, zero, suc, ◌+◌, ◌-◌, ◌*◌, ◌/◌, ◌%◌, ◌^◌, ◌≤◌, ◌<◌}
use mathlib.Core.Path.{◌≡◌, refl, sym, ap, ◌∙◌}
use mathlib.Core.List.{List, [], ◌∷◌, ◌++◌, foldl, append_assoc, append-nil}
use native.Mathlib.Nat.{add-zero, add-suc, pow-zero, pow-succ', div-one, div-div-eq-div-mul, one-le-pow, zero-lt-suc}
use native.Mathlib.Omega.{arith}
use native.Mathlib.Decide.{dec_lt}
use native.Mathlib.Numerals.{sub-one}
use lib.Dec.{lit≤}
use Rattle.figure.specs.Rounding.{is_zero, is_whole}
use Rattle.text.specs.Text.{digits_within, decimal, last_digits}
use Rattle.text.specs.Faithful.{shifted, worth, DecimalWorth, FigureDigits}
use Rattle.text.proofs.Digits.{digits_none, digits_one, digits_more, length_last}
use Rattle.text.proofs.Figures.{eight_digits, some_text}

foldl_snoc : (ds : List ℕ) (d a : ℕ) → foldl shifted a (ds ++ (d ∷ [])) ≡ shifted (foldl shifted a ds) d
foldl_snoc [] d a = refl
foldl_snoc (x ∷ ds) d a = foldl_snoc ds d (shifted a x)

worth_snoc : (ds : List ℕ) (n : ℕ) → worth (ds ++ ((48 + n % 10) ∷ [])) ≡ 10 * worth ds + n % 10
unfolding worth
worth_snoc ds n = foldl_snoc ds (48 + n % 10) 0 ∙ omega arith

more : (most n : ℕ) → n < 10 ^ suc most → n / 10 < 10 ^ most
more most n h = omega (arith, rw pow-succ' at h)

digits_worth : (most n : ℕ) → n < 10 ^ most → worth (digits_within most n) ≡ n
unfolding worth
digits_worth zero n h = ap worth (digits_none n) ∙ omega (arith, h)
digits_worth (suc most) n h = go (dec_lt n 10) (digits_worth most (n / 10) (more most n h))
  where
    go : Dec (n < 10) → worth (digits_within most (n / 10)) ≡ n / 10 → worth (digits_within (suc most) n) ≡ n
    go (yes l) e = ap worth (digits_one (suc most) n (omega arith) l) ∙ omega arith
    go (no g) e =
        ap worth (digits_more (suc most) n (omega arith) (omega arith))
        ∙ worth_snoc (digits_within (suc most - 1) (n / 10)) n
        ∙ ap (λ (k : ℕ). 10 * worth (digits_within k (n / 10)) + n % 10) (sub-one (suc most))
        ∙ omega (arith, e)

-- a number of 64 bits
pub decimal_worth : DecimalWorth
decimal_worth n h = digits_worth 20 n (omega (arith, h))

-- ---- a figure's nine digits

last_split : (j k n : ℕ) → last_digits (j + k) n ≡ last_digits j (n / 10 ^ k) ++ last_digits k n
unfolding last_digits
last_split j zero n = rw (add-zero, pow-zero, div-one, append-nil)
last_split j (suc k) n =
    ap (λ (i : ℕ). last_digits i n) (add-suc j k)
    ∙ ap (λ (l : List ℕ). l ++ ((48 + n % 10) ∷ [])) (last_split j k (n / 10))
    ∙ append_assoc (last_digits j (n / 10 / 10 ^ k)) (last_digits k (n / 10)) ((48 + n % 10) ∷ [])
    ∙ ap (λ (m : ℕ). last_digits j m ++ last_digits (suc k) n) (div-div-eq-div-mul n 10 (10 ^ k) ∙ ap (λ (m : ℕ). n / m) (sym (pow-succ' 10 k)))

all_digits : (k most n : ℕ) → suc k ≤ most → 10 ^ k ≤ n → n < 10 ^ suc k → digits_within most n ≡ last_digits (suc k) n
unfolding last_digits
all_digits zero most n h l u = digits_one most n (omega (arith, h)) (omega (arith, u))
all_digits (suc k) most n h l u =
    let p : 0 < 10 ^ k = one-le-pow k 10 (zero-lt-suc 9) in
    let l' : 10 * 10 ^ k ≤ n = rw pow-succ' at l in
    digits_more most n (omega (arith, h)) (omega arith)
    ∙ ap (λ (ds : List ℕ). ds ++ ((48 + n % 10) ∷ [])) (all_digits k (most - 1) (n / 10) (omega (arith, h)) (omega arith) (more (suc k) n u))

nine_digits : (d : ℕ) → 10 ^ 8 ≤ d → d < 10 ^ 9 → last_digits 1 (d / 100000000) ++ last_digits 8 d ≡ decimal d
nine_digits d l u = sym (last_split 1 8 d) ∙ sym (all_digits 8 20 d (lit≤ tt) l u)

pub figure_digits : FigureDigits
unfolding last_digits
figure_digits f (is_zero e p) n = absurd (n e)
figure_digits f (is_whole l u) n =
    record {
      first = 48 + (f.digits / 100000000) % 10;
      others = eight_digits f;
      eight = length_last 8 f.digits;
      text_is = some_text f n;
      digits_are = nine_digits f.digits l u;
    }
