-- What a rounding tells: it loses nothing of x exactly if x is the value of a figure, or isn't positive. So equal fractions, and a fraction times a
-- power of ten, tell the same; and nothing is lost exactly if up(x) and down(x) are the same figure. Assumes nothing.
use mathlib.Core.Path.{◌≡◌, refl, sym, ◌∙◌, ap, subst}
use mathlib.Core.Logic.{⊎_elim}
use mathlib.Core.Bool.{Bool, true, false, ◌||◌}
use Prim.Native.Nat.{ℕ, suc, ◌^◌}
use native.Mathlib.Nat.{le_refl}
use lib.Dec.{T}
use lib.IntN.{ℤ, pos, neg_ℤ, +ℤ_invr}
use Rattle.fraction.specs.Fraction.{Fraction, ◌≤ᶠ◌, ◌≈ᶠ◌, whole, at_most}
use Rattle.fraction.proofs.Ratio.{Ratio, ◌≈◌, ofℕ, ◌⊗◌, ≼_antisym, ≈_refl, ≈_sym, ≈_trans, ≈_le}
use Rattle.fraction.proofs.Ratio.{⊗_cong, ⊗_assoc, ⊗_zero, ⊗_one_right, num_zero}
use Rattle.fraction.proofs.PowersOfTen.{ten_to, ten-+, ten_zero}
use Rattle.fraction.proofs.Laws.{≤ᶠ_antisym, ≤ᶠ_trans, at_most_iff, ≤ᶠ_or, ≈ᶠ-≤, ≈ᶠ-≥}
use Rattle.fraction.proofs.Signed.{signed, signed-≼, signed-≈, signed_whole, signed_ratio}
use Rattle.fraction.proofs.Signed.{nonnegative, nonnegative_signed, signed_nonnegative, nonnegative-≼, nonnegative_none}
use Rattle.figure.specs.declared.Figure.{Figure}
use Rattle.figure.specs.Rounding.{none, value, IsFigure, is_zero, up, down}
use Rattle.figure.specs.Operations.{times_ten}
use Rattle.figure.specs.Losses.{keeps, whole_keeps, quantity_keeps}
use Rattle.figure.specs.Faithful.{UpKeeps, UpKept, DownKeeps, DownKept, NoneKept, WholeKept, QuantityKept}
use Rattle.figure.proofs.Value.{value_is, above_val, below_val}
use Rattle.figure.proofs.Up.{natural_up}
use Rattle.figure.proofs.Down.{natural_down}
use Rattle.figure.proofs.Exact.{Exact, exact-≈, exact_up, exact_down, short_exact, whole_exact, over_ten, natural_times_ten}
use Rattle.figure.proofs.Rounding.{up_is_up, up_unique, down_is_down, up_none, down_none}
use Rattle.figure.proofs.Sized.{times_ten_sized}

-- ---- tests

is_true : (t : Bool) → T t → t ≡ true
is_true true h = refl
is_true false h = absurd h

first_of : (a b : Bool) → T a → (a || b) ≡ true
first_of true b h = refl
first_of false b h = absurd h

second_of : (a b : Bool) → T b → (a || b) ≡ true
second_of true b h = refl
second_of false b h = is_true b h

pub both_ways : (a b : Bool) → (a ≡ true → b ≡ true) → (b ≡ true → a ≡ true) → a ≡ b
both_ways true b f g = sym (f refl)
both_ways false true f g = g refl
both_ways false false f g = refl

-- ---- nothing is lost of what is not positive

pub none_kept : NoneKept
unfolding keeps
none_kept K x h = first_of (at_most x (whole 0)) (at_most (value (up K x)) x) ((at_most_iff x (whole 0)).1 h)

pub keeps_none : (K : ℕ) (x : Ratio) → x.num ≡ 0 → keeps K (signed x) ≡ true
keeps_none K x z = none_kept K (signed x) (subst (λ y. signed x ≤ᶠ y) (signed_whole 0) (signed-≼ (≈_le (num_zero x z))))

-- so a fraction below 0 tells what 0 does
pub keeps_natural : (K : ℕ) (x : Fraction) → keeps K x ≡ keeps K (signed (nonnegative x))
keeps_natural K x = ⊎_elim (λ h. none_kept K x h ∙ sym (keeps_none K (nonnegative x) (nonnegative_none x h)))
    (λ h. ap (keeps K) (sym (signed_nonnegative h))) (≤ᶠ_or x (whole 0))

-- ---- nothing is lost exactly of a figure's value

pub up_kept : UpKept
unfolding keeps
up_kept w x e =
    second_of (at_most x (whole 0)) (at_most (value (up (suc w) x)) x) ((at_most_iff (value (up (suc w) x)) x).1 (≈ᶠ-≤ e))

pub exact_keeps : {w : ℕ} {x : Ratio} → Exact w x → keeps (suc w) (signed x) ≡ true
exact_keeps {w} {x} h = up_kept w (signed x) (rw (value_is (up (suc w) (signed x))) (signed-≈ (exact_up h)))

pub keeps_exact : {w : ℕ} {x : Ratio} → keeps (suc w) (signed x) ≡ true → Exact w x
unfolding keeps
keeps_exact {w} {x} k = go (at_most (signed x) (whole 0)) (at_most (value (up (suc w) (signed x))) (signed x))
    (at_most_iff (signed x) (whole 0)).0 (at_most_iff (value (up (suc w) (signed x))) (signed x)).0 k
  where
    go : (a b : Bool) → (T a → signed x ≤ᶠ whole 0) → (T b → value (up (suc w) (signed x)) ≤ᶠ signed x) → (a || b) ≡ true → Exact w x
    go true b f g e = let z : x.num ≡ 0 = rw (nonnegative_signed x) at (nonnegative_none (signed x) (f tt)) in
        record { holder = none; is_figure = is_zero refl refl; same = ≈_trans (⊗_zero _) (≈_sym (num_zero x z)) }
    go false true f g e = record {
      holder = up (suc w) (signed x);
      is_figure = (natural_up w x).is_figure;
      same = ≼_antisym (above_val _ (g tt)) (below_val _ (natural_up w x).not_below);
    }
    go false false f g e = absurd (subst (λ (t : Bool). T t) (sym e) tt)

-- two fractions of which one is a figure's value exactly if the other is
keeps_both : {w : ℕ} {x y : Ratio} → (Exact w x → Exact w y) → (Exact w y → Exact w x) → keeps (suc w) (signed x) ≡ keeps (suc w) (signed y)
keeps_both {w} {x} {y} f g = both_ways (keeps (suc w) (signed x)) (keeps (suc w) (signed y)) (λ e. exact_keeps (f (keeps_exact e)))
    (λ e. exact_keeps (g (keeps_exact e)))

pub keeps_own : (w : ℕ) (f : Figure) → IsFigure (suc w) f → keeps (suc w) (value f) ≡ true
keeps_own w f i = rw (value_is f) (exact_keeps (record { holder = f; is_figure = i; same = ≈_refl _ }))

-- ---- equal fractions tell the same

pub keeps_same : (w : ℕ) {x y : Ratio} → x ≈ y → keeps (suc w) (signed x) ≡ keeps (suc w) (signed y)
keeps_same w e = keeps_both (exact-≈ e) (exact-≈ (≈_sym e))

pub keeps_respects : (w : ℕ) (x y : Fraction) → x ≈ᶠ y → keeps (suc w) x ≡ keeps (suc w) y
keeps_respects w x y e =
    keeps_natural (suc w) x ∙ keeps_same w (≼_antisym (nonnegative-≼ (≈ᶠ-≤ e)) (nonnegative-≼ (≈ᶠ-≥ e))) ∙ sym (keeps_natural (suc w) y)

-- ---- a power of ten loses nothing

exact_ten : {w : ℕ} {x : Ratio} (p : ℤ) → Exact w x → Exact w (x ⊗ ten_to p)
exact_ten p h = record {
  holder = times_ten h.holder p;
  is_figure = (times_ten_sized p (record { is_figure = h.is_figure; near = le_refl _ })).is_figure;
  same = ≈_trans (natural_times_ten h.holder p) (⊗_cong h.same (≈_refl _));
}

pub keeps_ten : (w : ℕ) (p : ℤ) (x : Ratio) → keeps (suc w) (signed (x ⊗ ten_to p)) ≡ keeps (suc w) (signed x)
keeps_ten w p x = keeps_both (λ h. exact-≈ undone (exact_ten (neg_ℤ p) h)) (exact_ten p)
  where
    one : ten_to p ⊗ ten_to (neg_ℤ p) ≈ ofℕ 1
    one = ≈_trans (≈_sym (ten-+ p (neg_ℤ p))) (rw (+ℤ_invr p) ten_zero)

    undone : x ⊗ ten_to p ⊗ ten_to (neg_ℤ p) ≈ x
    undone = ≈_trans (⊗_assoc _ _ _) (≈_trans (⊗_cong (≈_refl x) one) (⊗_one_right x))

-- ---- where nothing is lost, either rounding is x, and the other way round

pub keeps_up : UpKeeps
keeps_up w x h = rw (signed_nonnegative h) at (natural (nonnegative x))
  where
    natural : (a : Ratio) → keeps (suc w) (signed a) ≡ true → value (up (suc w) (signed a)) ≈ᶠ signed a
    natural a e = rw (value_is (up (suc w) (signed a))) (signed-≈ (exact_up (keeps_exact e)))

pub keeps_down : DownKeeps
keeps_down w x h = rw (signed_nonnegative h) at (natural (nonnegative x))
  where
    natural : (a : Ratio) → keeps (suc w) (signed a) ≡ true → value (down (suc w) (signed a)) ≈ᶠ signed a
    natural a e = rw (value_is (down (suc w) (signed a))) (signed-≈ (exact_down (keeps_exact e)))

pub down_kept : DownKept
down_kept w x h = rw (signed_nonnegative h) at (natural (nonnegative x))
  where
    natural : (a : Ratio) → value (down (suc w) (signed a)) ≈ᶠ signed a → keeps (suc w) (signed a) ≡ true
    natural a e = exact_keeps (record {
      holder = down (suc w) (signed a);
      is_figure = (natural_down w a).is_figure;
      same = ≼_antisym (above_val _ (≈ᶠ-≤ e)) (below_val _ (≈ᶠ-≥ e));
    })

pub whole_kept : WholeKept
unfolding whole_keeps
whole_kept n h = rw (← signed_whole n) (exact_keeps (whole_exact 8 n h))

pub quantity_kept : QuantityKept
unfolding quantity_keeps
quantity_kept c p h = rw (← signed_ratio c (10 ^ p)) (exact_keeps (exact-≈ (≈_sym (over_ten c p)) (short_exact 8 c (neg_ℤ (pos p)) h)))

-- ---- and the two roundings agree exactly then: what the code looks at

pub both_agree : (w : ℕ) (x : Fraction) → keeps (suc w) x ≡ true → up (suc w) x ≡ down (suc w) x
both_agree w x e = ⊎_elim (λ h. up_none (suc w) x h ∙ sym (down_none (suc w) x h)) (λ h. same h) (≤ᶠ_or x (whole 0))
  where
    -- down(x), being x, is also the least figure not below x
    same : whole 0 ≤ᶠ x → up (suc w) x ≡ down (suc w) x
    same h = let d = down_is_down w x h in let k = keeps_down w x h e in
        up_unique w x (up (suc w) x) (down (suc w) x) (up_is_up w x h)
        (record { is_figure = d.is_figure; not_below = ≈ᶠ-≥ k; least = λ g i b. ≤ᶠ_trans (≈ᶠ-≤ k) b })

pub agree_keeps : (w : ℕ) (x : Fraction) → up (suc w) x ≡ down (suc w) x → keeps (suc w) x ≡ true
agree_keeps w x e = ⊎_elim (λ h. none_kept (suc w) x h) (λ h. up_kept w x (between h)) (≤ᶠ_or x (whole 0))
  where
    between : whole 0 ≤ᶠ x → value (up (suc w) x) ≈ᶠ x
    between h = ≤ᶠ_antisym (subst (λ f. value f ≤ᶠ x) (sym e) (down_is_down w x h).not_above) (up_is_up w x h).not_below
