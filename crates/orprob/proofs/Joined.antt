-- One subsystem more: s + p × (1 − s), rounded outward, against e + p × (1 − e). Each of the three operations costs one rounding, whatever the sign of
-- the error of s: s + p × (1 − s) is p + s × (1 − p), which does not fall as s grows. Assumes nothing.
use mathlib.Core.Path.{◌≡◌, refl, ◌∙◌}
use mathlib.Core.Bool.{Bool, true, false, true≢false}
use mathlib.Core.List.{[], ◌∷◌}
use Prim.Native.Nat.{ℕ, ◌+◌}
use native.Mathlib.Omega.{arith, patom, plit}
use lib.Dec.{lit≤}
use Rattle.fraction.proofs.Ratio.{Ratio, ◌≼◌, ◌≈◌, ofℕ, ◌⊕◌, ◌⊗◌, ◌⊖◌, ≼_trans, ≈_refl, ≈_sym, ≈_le, ≈_ge, ⊖_cong, ⊖_back, not-≼, ≼-⊗}
use Rattle.fraction.proofs.Certificate.{◌+'◌, ◌*'◌, prove, equal, hyp}
use Rattle.fraction.proofs.Within.{Within, within-≈, within-⊕, one-≼_grow}
use Rattle.fraction.specs.Fraction.{◌≤ᶠ◌, whole}
use Rattle.fraction.proofs.Laws.{≤ᶠ_trans, at_most_iff}
use Rattle.fraction.proofs.Signed.{signed_whole}
use Rattle.figure.specs.declared.Figure.{Figure}
use Rattle.figure.specs.Operations.{times_up, times_down, plus_up, plus_down, minus_up, minus_down, of_whole, at_or_below}
use Rattle.figure.specs.Rounding.{value}
use Rattle.figure.proofs.Value.{val, val-≼, above_value}
use Rattle.figure.proofs.Exact.{natural_of_whole}
use Rattle.figure.proofs.Operations.{up_minus, down_minus}
use Rattle.figure.proofs.Orders.{found_below}
use Rattle.accuracy.proofs.Roundings.{ρ, roundings_none, roundings-≤, roundings_trans, roundings_scale}
use Rattle.accuracy.proofs.Near.{Near, near_exact, near-≤, near-≈, near_times, near_plus, up_near}
use Rattle.accuracy.proofs.Under.{Under, under_exact, under-≤, under_times, under_plus, down_under}
use Rattle.orprob.specs.Combination.{at_most_one, with_upper, with_lower}
use Rattle.orprob.proofs.PairTests.{one_above}

-- e + x × (1 − e), in the form that grows with e
unfoldable pub joined : Ratio → Ratio → Ratio
joined e x = x ⊕ e ⊗ (ofℕ 1 ⊖ x)

turned : (s x : Ratio) → s ≼ ofℕ 1 → x ≼ ofℕ 1 → s ⊕ x ⊗ (ofℕ 1 ⊖ s) ≈ joined s x
unfolding joined
turned s x h k = equal (s ∷ x ∷ (ofℕ 1 ⊖ s) ∷ (ofℕ 1 ⊖ x) ∷ [])
    (hyp (patom 1) (patom 2 +' patom 0) (plit 1) ∷ hyp (patom 0) (plit 1) (patom 3 +' patom 1) ∷ [])
    (patom 0 +' patom 1 *' patom 2) (patom 1 +' patom 0 *' patom 3) tt tt (⊖_back h) (≈_sym (⊖_back k))

pub joined_one : {e x : Ratio} → e ≼ ofℕ 1 → x ≼ ofℕ 1 → joined e x ≼ ofℕ 1
unfolding joined
joined_one {e} {x} h k = prove (e ∷ x ∷ (ofℕ 1 ⊖ x) ∷ [])
    (hyp (patom 2) (patom 0) (plit 1) ∷ hyp (plit 1) (patom 2 +' patom 1) (plit 1) ∷ [])
    (patom 1 +' patom 0 *' patom 2) (plit 1) tt h (≈_le (⊖_back k))

-- what it loses is what e had lost
joined_within : (n : ℕ) {y e : Ratio} (x : Ratio) → Within (ρ n) y e → Within (ρ n) (joined y x) (joined e x)
unfolding joined
joined_within n x p = within-⊕ (roundings-≤ 0 n (omega arith) (roundings_none x)) (roundings_scale n (ofℕ 1 ⊖ x) p)

-- ---- 1, and figures that are at most 1

pub one_is : val (of_whole 1) ≈ ofℕ 1
one_is = natural_of_whole 1 (lit≤ tt)

-- at most 1: f itself, or 1 where f is above it
at_most_one_cases : (P : Figure → Type 0) (f : Figure) → (val f ≼ ofℕ 1 → P f) → (ofℕ 1 ≼ val f → P (of_whole 1)) → P (at_most_one f)
unfolding at_most_one
at_most_one_cases P f small large = go (at_or_below f (of_whole 1)) refl
  where
    go : (b : Bool) → at_or_below f (of_whole 1) ≡ b → P (elim b as (λ _. Figure) [ true ↦ f | false ↦ of_whole 1 ])
    go true e = small (≼_trans (val-≼ f (of_whole 1) ((at_most_iff _ _).0 (unfold at_or_below in rw e tt))) (≈_le one_is))
    go false e = large (≼_trans (≈_ge one_is) (not-≼ (val f) (val (of_whole 1)) (λ h. true≢false (found_below f (of_whole 1) h ∙ e))))

pub at_most_one_is : (f : Figure) → val (at_most_one f) ≼ ofℕ 1
at_most_one_is f = at_most_one_cases (λ g. val g ≼ ofℕ 1) f (λ h. h) (λ _. ≈_le one_is)

pub at_most_one_small : (f : Figure) → value (at_most_one f) ≤ᶠ whole 1
at_most_one_small f = rw (← signed_whole 1) (above_value _ (at_most_one_is f))

pub at_most_one_rises : (f g : Figure) → value f ≤ᶠ value g → value f ≤ᶠ whole 1 → value f ≤ᶠ value (at_most_one g)
at_most_one_rises f g h k = at_most_one_cases (λ u. value f ≤ᶠ value u) g (λ _. h) (λ _. ≤ᶠ_trans k one_above)

one_near : {n : ℕ} {f : Figure} {x : Ratio} → x ≼ ofℕ 1 → Near n f x → Near n (at_most_one f) x
one_near {n} {f} {x} h p = at_most_one_cases (λ g. Near n g x) f (λ _. p)
    (λ k. record { within = record { low = ≼_trans h (≈_ge one_is); high = ≼_trans (≈_le one_is) (≼_trans k p.within.high) } })

one_under : {n : ℕ} {f : Figure} {x : Ratio} → x ≼ ofℕ 1 → Under n f x → Under n (at_most_one f) x
one_under {n} {f} {x} h p = at_most_one_cases (λ g. Under n g x) f (λ _. p)
    (λ k. record {
      within = record {
        low = ≼_trans (≈_le one_is) (≼_trans k p.within.low);
        high = ≼_trans h (≼_trans (≈_ge one_is) (≼-⊗ (val (of_whole 1)) (one-≼_grow 99999998 n)));
      };
    })

-- ---- one subsystem more

module _ (s p : Figure) (s-one : val s ≼ ofℕ 1) (p-one : val p ≼ ofℕ 1) where
  abbrev x : Ratio
  x = val p

  rest_is : val (of_whole 1) ⊖ val s ≈ ofℕ 1 ⊖ val s
  rest_is = ⊖_cong one_is (≈_refl _)

  up_joined : Near 3 (plus_up s (times_up p (minus_up (of_whole 1) s))) (joined (val s) x)
  up_joined = near-≈ (turned (val s) x s-one p-one)
      (near-≤ 3 (omega arith) (near_plus (near_exact (≈_refl _)) (near_times (near_exact (≈_refl _)) rest)))
    where
      rest : Near 1 (minus_up (of_whole 1) s) (ofℕ 1 ⊖ val s)
      rest = unfold minus_up in rw (up_minus 9 (of_whole 1) s) (near-≈ rest_is (up_near _))

  down_joined : Under 3 (plus_down s (times_down p (minus_down (of_whole 1) s))) (joined (val s) x)
  down_joined = under-≈ (turned (val s) x s-one p-one)
      (under-≤ 3 (omega arith) (under_plus (under_exact (≈_refl _)) (under_times (under_exact (≈_refl _)) rest)))
    where
      under-≈ : {n : ℕ} {f : Figure} {x y : Ratio} → x ≈ y → Under n f x → Under n f y
      under-≈ e q = record { within = within-≈ e (≈_refl _) q.within }

      rest : Under 1 (minus_down (of_whole 1) s) (ofℕ 1 ⊖ val s)
      rest = unfold minus_down in rw (down_minus 9 (of_whole 1) s) (under-≈ rest_is (down_under _))

  pub upper_joined : {n : ℕ} {e : Ratio} → e ≼ ofℕ 1 → Near n s e → Near (n + 3) (with_upper s p) (joined e x)
  unfolding with_upper
  upper_joined {n} h q = one_near (joined_one h p-one)
      (record { within = roundings_trans n 3 up_joined.within (joined_within n x q.within) })

  pub lower_joined : {n : ℕ} {e : Ratio} → e ≼ ofℕ 1 → Under n s e → Under (n + 3) (with_lower s p) (joined e x)
  unfolding with_lower
  lower_joined {n} h q = one_under (joined_one h p-one)
      (under-≤ (n + 3) (omega arith) (record { within = roundings_trans 3 n (joined_within n x q.within) down_joined.within }))
