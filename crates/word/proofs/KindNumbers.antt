-- The numbers of the kinds tell them apart. Assumes nothing.
use Rattle.std.proofs.Common.{ℕ, ◌≡◌, refl, arith}
use Rattle.word.specs.declared.kinds.Kind.{Kind}
use Rattle.word.specs.declared.kinds.Kind.TheVariants.{Head, MissionTime, PruneLevel, Caps, SlowTransition, Rate, FastTransition}
use Rattle.word.specs.declared.kinds.Kind.TheVariants.{Mean, Deviation, Probability, NamedState, End, Other}
use Rattle.word.specs.Kinds.{kind_number, IsUnnamed}

-- a kind where neither a transition nor the end may stand has none of their numbers
pub neither_transition_nor_end : (k : Kind) → (k ≡ SlowTransition → ⊥) → (k ≡ FastTransition → ⊥) → (k ≡ End → ⊥)
    → ((n : ℕ) → k ≡ Other n → IsUnnamed n) → (kind_number k ≡ 5 → ⊥) × (kind_number k ≡ 7 → ⊥) × (kind_number k ≡ 15 → ⊥)
neither_transition_nor_end Head s f e u = (λ h. omega arith, λ h. omega arith, λ h. omega arith)
neither_transition_nor_end MissionTime s f e u = (λ h. omega arith, λ h. omega arith, λ h. omega arith)
neither_transition_nor_end PruneLevel s f e u = (λ h. omega arith, λ h. omega arith, λ h. omega arith)
neither_transition_nor_end Caps s f e u = (λ h. omega arith, λ h. omega arith, λ h. omega arith)
neither_transition_nor_end SlowTransition s f e u = absurd (s refl)
neither_transition_nor_end Rate s f e u = (λ h. omega arith, λ h. omega arith, λ h. omega arith)
neither_transition_nor_end FastTransition s f e u = absurd (f refl)
neither_transition_nor_end Mean s f e u = (λ h. omega arith, λ h. omega arith, λ h. omega arith)
neither_transition_nor_end Deviation s f e u = (λ h. omega arith, λ h. omega arith, λ h. omega arith)
neither_transition_nor_end Probability s f e u = (λ h. omega arith, λ h. omega arith, λ h. omega arith)
neither_transition_nor_end NamedState s f e u = (λ h. omega arith, λ h. omega arith, λ h. omega arith)
neither_transition_nor_end End s f e u = absurd (e refl)
neither_transition_nor_end (Other n) s f e u = (λ h. omega (arith, u n refl), λ h. omega (arith, u n refl), λ h. omega (arith, u n refl))
