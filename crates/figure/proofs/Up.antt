-- Rounding up to w + 1 digits: what is computed is the least figure not below x, and is at most one part in 10^w above it. Stated over
-- fractions with natural numerators; `Rounding` has the statements over signed ones. Assumes nothing.
use mathlib.Core.Path.{◌≡◌, refl}
use mathlib.Core.List.{[], ◌∷◌}
use mathlib.Core.Bool.{Bool, true, false, not}
use mathlib.Core.Logic.{⊎_elim}
use Prim.Native.Nat.{ℕ, zero, suc, ◌+◌, ◌*◌, ◌-◌, ◌^◌, ◌≤◌, ◌<◌}
use native.Mathlib.Nat.{le_trans, pow-succ', lt_irrefl, le_of_lt, eq-or-lt_of_le}
use native.Mathlib.Omega.{arith, by_contra, patom, plit}
use lib.Dec.{T, T_not, ltb, ltb→lt, nltb→le, eqb, eqb→eq, eqb_refl}
use lib.Arith.{lt_of_le-ne}
use lib.IntN.{ℤ, pos, suc_ℤ, pred_ℤ, ◌+ℤ◌, +ℤ_idr, +ℤ-suc_ℤ, suc_ℤ-+ℤ, pred-suc, +ℤ_one}
use Rattle.fraction.proofs.Ratio.{Ratio, ◌≼◌, ofℕ, ◌⊗◌, ≼_refl, ≼_trans, ≈_le, ≈_ge, ⊗_mono, ofℕ-≼, ofℕ-⊕, ⊗_zero, zero-≼, zero_or_pos, pos-≼, not-≼, zero_below}
use Rattle.fraction.proofs.Certificate.{◌+'◌, ◌*'◌, prove, hyp}
use Rattle.fraction.proofs.PowersOfTen.{ten_to}
use Rattle.fraction.proofs.Signed.{signed}
use Rattle.figure.specs.declared.Figure.{Figure}
use Rattle.figure.specs.Rounding.{figure, none, IsFigure, is_zero, IsUp, ceiling, up_from, up}
use Rattle.figure.specs.Faithful.{UpUnique}
use Rattle.figure.proofs.Scale.{pow_pos, not_zero, multiple_pos, ten_step, ten_step_down}
use Rattle.figure.proofs.Scale.{multiple-≤, multiple-≼, Powers, same_power, lower, higher, powers, lower-≼, higher-≼}
use Rattle.figure.proofs.Counts.{ceiling_reach, ceiling_least}
use Rattle.figure.proofs.Digits.{start, start_high, start_not_low}
use Rattle.figure.proofs.Value.{val, below_value, below_val, value-≼, val-≼, low_end, figure_of, Shape, empty, full, shape, where_above, figure_same}

-- ---- a figure is the least not below x, said of its digits and its power

-- no multiple of the power before e, of at most w + 1 digits, reaches x
unfoldable pub Beyond : ℕ → Ratio → ℤ → Type 0
Beyond w x e = (c : ℕ) → c < 10 * 10 ^ w → ¬ (x ≼ ofℕ c ⊗ ten_to (pred_ℤ e))

pub record Tight (w : ℕ) (x : Ratio) (f : Figure) : Type 0 where
  pub big : 10 ^ w ≤ f.digits
  pub small : f.digits < 10 * 10 ^ w
  pub reach : x ≼ val f
  pub tight : (c : ℕ) → x ≼ ofℕ c ⊗ ten_to f.power → f.digits ≤ c
  pub beyond : Beyond w x f.power

-- then a multiple of 10^e that reaches x is large
beyond_big : (w : ℕ) (x : Ratio) (e : ℤ) → Beyond w x e → (c : ℕ) → x ≼ ofℕ c ⊗ ten_to e → 10 ^ w ≤ c
unfolding Beyond
beyond_big w x e a c h = by_contra (10 ^ w) c (λ q. a (10 * c) (omega arith) (≼_trans h (≈_le (ten_step_down c e))))

from_tight : (w k : ℕ) (x : Ratio) (e : ℤ) → Beyond w x e → x ≼ ofℕ (10 ^ w) ⊗ ten_to (e +ℤ pos k) → Tight w x (up_from (suc w) k (signed x) e)
unfolding up_from Beyond
from_tight w zero x e a h = rw (low_end w) (record {
  big = omega arith;
  small = omega (arith, pow_pos w);
  reach = rw +ℤ_idr at h;
  tight = beyond_big w x e a;
  beyond = a;
})
from_tight w (suc k) x e a h = go (ltb D (10 ^ suc w)) (λ t. rw (pow-succ' 10 w) at (ltb→lt D (10 ^ suc w) t))
    (λ t. rw (pow-succ' 10 w) at (nltb→le D (10 ^ suc w) t)) (from_tight w k x (suc_ℤ e))
  where
    D : ℕ
    D = ceiling (signed x) e

    go : (b : Bool) → (T b → D < 10 * 10 ^ w) → (T (not b) → 10 * 10 ^ w ≤ D)
        → (Beyond w x (suc_ℤ e) → x ≼ ofℕ (10 ^ w) ⊗ ten_to (suc_ℤ e +ℤ pos k) → Tight w x (up_from (suc w) k (signed x) (suc_ℤ e)))
        → Tight w x (elim b as (λ _. Figure) [ true ↦ figure D e | false ↦ up_from (suc w) k (signed x) (suc_ℤ e) ])
    go true p q f = record {
      big = beyond_big w x e a D (ceiling_reach x e);
      small = p tt;
      reach = ceiling_reach x e;
      tight = ceiling_least x e;
      beyond = a;
    }
    go false p q f = f (λ c l u. lt_irrefl _ (le_trans l (le_trans (q tt) (ceiling_least x e c (rw pred-suc at u)))))
        (rw (suc_ℤ-+ℤ, ← +ℤ-suc_ℤ e (pos k)) h)

pub up_tight : (w : ℕ) (x : Ratio) → 0 < x.num → Tight w x (up (suc w) (signed x))
unfolding up signed Beyond
up_tight w x pos_x = where_above (Tight w x) x.num pos_x (from_tight w 2 x (start w x) (start_not_low w x pos_x) high)
  where
    high : x ≼ ofℕ (10 ^ w) ⊗ ten_to (start w x +ℤ pos 2)
    high = rw (+ℤ-suc_ℤ (start w x) (pos 1), +ℤ-suc_ℤ (start w x) (pos 0), +ℤ_idr (start w x)) (start_high w x)

tight_least : (w : ℕ) (x : Ratio) (f : Figure) → Tight w x f → 0 < x.num → (g : Figure) → IsFigure (suc w) g → x ≼ val g → val f ≼ val g
unfolding Beyond
tight_least w x f t pos_x g i h = go (shape i)
  where
    by_power : 10 ^ w ≤ g.digits → g.digits < 10 * 10 ^ w → Powers g.power f.power → val f ≼ val g
    by_power b s (same_power r) = rw r (multiple-≼ f.power (t.tight g.digits (rw r at h)))
    by_power b s (lower k r) = absurd (t.beyond g.digits s (≼_trans h (rw r (lower-≼ g.digits g.power k))))
    by_power b s (higher k r) = ≼_trans (multiple-≼ f.power (le_of_lt t.small)) (rw r (higher-≼ (10 ^ w) g.digits f.power k b))

    go : Shape w g → val f ≼ val g
    go (empty z z') = absurd (not_zero x g.power pos_x (rw z at h))
    go (full b s) = by_power b s (powers g.power f.power)

pub tight_is_up : (w : ℕ) (x : Ratio) (f : Figure) → Tight w x f → 0 < x.num → IsUp (suc w) (signed x) f
tight_is_up w x f t pos_x = record {
  is_figure = figure_of w f t.big t.small;
  not_below = below_value f t.reach;
  least = λ g i h. value-≼ f g (tight_least w x f t pos_x g i (below_val g h));
}

-- ---- up is the least figure not below x, and the only one

pub up_zero : (K : ℕ) (x : Ratio) → x.num ≡ 0 → up K (signed x) ≡ none
unfolding up signed
up_zero K x z = rw (z, up)

zero_is_up : (w : ℕ) (x : Ratio) → x.num ≡ 0 → IsUp (suc w) (signed x) none
zero_is_up w x z = record {
  is_figure = is_zero refl refl;
  not_below = below_value none (zero_below _ z);
  least = λ g i h. value-≼ none g (≼_trans (≈_le (⊗_zero _)) (zero-≼ _));
}

pub natural_up : (w : ℕ) (x : Ratio) → IsUp (suc w) (signed x) (up (suc w) (signed x))
natural_up w x = ⊎_elim (λ z. rw (up_zero (suc w) x z) (zero_is_up w x z)) (λ h. tight_is_up w x _ (up_tight w x h) h) (zero_or_pos x)

pub up_unique : UpUnique
up_unique w x f g a b = figure_same w f g a.is_figure b.is_figure (val-≼ f g (a.least g b.is_figure b.not_below))
    (val-≼ g f (b.least f a.is_figure a.not_below))

-- what is below is rounded below
pub natural_up_mono : (w : ℕ) {x y : Ratio} → x ≼ y → val (up (suc w) (signed x)) ≼ val (up (suc w) (signed y))
natural_up_mono w {x} {y} h = let b = natural_up w y in
    val-≼ _ _ ((natural_up w x).least _ b.is_figure (below_value _ (≼_trans h (below_val _ b.not_below))))

pub up_pos : (w : ℕ) (x : Ratio) → 0 < x.num → 0 < (up (suc w) (signed x)).digits
up_pos w x h = le_trans (pow_pos w) (up_tight w x h).big

-- ---- code that found the digits has found the rounding

pub tight_up : (w : ℕ) (x : Ratio) (f : Figure) → 0 < x.num → Tight w x f → f ≡ up (suc w) (signed x)
tight_up w x f h t = up_unique w (signed x) _ _ (tight_is_up w x f t h) (natural_up w x)

-- d times 10^e, where d may be 10^(w + 1)
abbrev pub carried : ℕ → ℕ → ℤ → Figure
carried w d e = elim (eqb d (10 * 10 ^ w)) [ true ↦ figure (10 ^ w) (e +ℤ pos 1) | false ↦ figure d e ]

-- x is at least 10^w times 10^e, and D, of at most w + 1 digits or 10^(w + 1), is the least multiple of 10^e that reaches it
pub round_up : (w : ℕ) (x : Ratio) (D : ℕ) (e : ℤ) → ofℕ (10 ^ w) ⊗ ten_to e ≼ x → x ≼ ofℕ D ⊗ ten_to e → ((c : ℕ) → x ≼ ofℕ c ⊗ ten_to e → D ≤ c)
    → D ≤ 10 * 10 ^ w → carried w D e ≡ up (suc w) (signed x)
unfolding Beyond
round_up w x D e low reach least top = go (eqb D (10 * 10 ^ w)) (eqb→eq D (10 * 10 ^ w))
    (λ t z. T_not (eqb D (10 * 10 ^ w)) t (rw z (eqb_refl (10 * 10 ^ w))))
  where
    pos_x : 0 < x.num
    pos_x = pos-≼ low (multiple_pos (10 ^ w) e (pow_pos w))

    go : (b : Bool) → (T b → D ≡ 10 * 10 ^ w) → (T (not b) → D ≡ 10 * 10 ^ w → ⊥)
        → elim b as (λ _. Figure) [ true ↦ figure (10 ^ w) (e +ℤ pos 1) | false ↦ figure D e ] ≡ up (suc w) (signed x)
    go true p q = rw +ℤ_one (tight_up w x (figure (10 ^ w) (suc_ℤ e)) pos_x (record {
      big = omega arith;
      small = omega (arith, pow_pos w);
      reach = ≼_trans reach (rw (p tt) (≈_ge (ten_step (10 ^ w) e)));
      tight = λ c h. omega (arith, least (10 * c) (≼_trans h (≈_le (ten_step c e))), p tt);
      beyond = λ c l h. lt_irrefl c (omega (arith, least c (rw pred-suc at h), p tt));
    }))
    go false p q = tight_up w x (figure D e) pos_x (record {
      big = multiple-≤ (10 ^ w) D e (≼_trans low reach);
      small = lt_of_le-ne top (q tt);
      reach = reach;
      tight = least;
      beyond = λ c l h. lt_irrefl c (le_trans l (multiple-≤ (10 * 10 ^ w) c (pred_ℤ e) (≼_trans (≈_ge (ten_step_down (10 ^ w) e)) (≼_trans low h))));
    })

-- ---- rounding up adds at most one part in 10^w

one_part : (x y : Ratio) (c L : ℕ) → ofℕ c ⊗ y ≼ x → L ≤ c → ofℕ L ⊗ (ofℕ (c + 1) ⊗ y) ≼ ofℕ (L + 1) ⊗ x
one_part x y c L h l = prove (ofℕ c ∷ y ∷ ofℕ L ∷ x ∷ ofℕ (c + 1) ∷ ofℕ (L + 1) ∷ [])
    (hyp (patom 2 +' plit 1) (patom 0 *' patom 1) (patom 3) ∷ hyp (patom 1) (patom 2) (patom 0)
    ∷ hyp (patom 2 *' patom 1) (patom 4) (patom 0 +' plit 1) ∷ hyp (patom 3) (patom 2 +' plit 1) (patom 5) ∷ [])
    (patom 2 *' (patom 4 *' patom 1)) (patom 5 *' patom 3) tt
    h (ofℕ-≼ l) (≈_le (ofℕ-⊕ c 1)) (≈_ge (ofℕ-⊕ L 1))

tight_near : (w : ℕ) (x : Ratio) (f : Figure) → Tight w x f → ofℕ (10 ^ w) ⊗ val f ≼ ofℕ (10 ^ w + 1) ⊗ x
unfolding Beyond
tight_near w x f t = ⊎_elim one_power_lower less (eq-or-lt_of_le t.big)
  where
    e : ℤ
    e = f.power

    less : 10 ^ w < f.digits → ofℕ (10 ^ w) ⊗ val f ≼ ofℕ (10 ^ w + 1) ⊗ x
    less h = let d : f.digits - 1 + 1 ≡ f.digits = omega arith in
        rw d at (one_part x (ten_to e) (f.digits - 1) (10 ^ w) (not-≼ x _ (λ u. lt_irrefl f.digits (omega (arith, t.tight (f.digits - 1) u))))
        (omega arith))

    one_power_lower : 10 ^ w ≡ f.digits → ofℕ (10 ^ w) ⊗ val f ≼ ofℕ (10 ^ w + 1) ⊗ x
    one_power_lower h = let d : 10 * 10 ^ w - 1 + 1 ≡ 10 * 10 ^ w = omega (arith, pow_pos w) in
        let k = one_part x (ten_to (pred_ℤ e)) (10 * 10 ^ w - 1) (10 ^ w) (not-≼ x _ (λ u. t.beyond (10 * 10 ^ w - 1) (omega (arith, pow_pos w)) u))
        (omega (arith, pow_pos w)) in
        ≼_trans (⊗_mono (≼_refl _) (rw (← h) (≈_le (ten_step_down (10 ^ w) e)))) (rw d at k)

pub up_near : (w : ℕ) (x : Ratio) → ofℕ (10 ^ w) ⊗ val (up (suc w) (signed x)) ≼ ofℕ (10 ^ w + 1) ⊗ x
up_near w x = ⊎_elim none_near (λ h. tight_near w x _ (up_tight w x h)) (zero_or_pos x)
  where
    none_near : x.num ≡ 0 → ofℕ (10 ^ w) ⊗ val (up (suc w) (signed x)) ≼ ofℕ (10 ^ w + 1) ⊗ x
    none_near z = rw (up_zero (suc w) x z)
        (prove (ofℕ (10 ^ w) ∷ ten_to (pos 0) ∷ ofℕ (10 ^ w + 1) ∷ x ∷ []) [] (patom 0 *' (plit 0 *' patom 1)) (patom 2 *' patom 3) tt)
