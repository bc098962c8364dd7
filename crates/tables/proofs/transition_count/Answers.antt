-- `transition_count` meets its contract: the loop's total is the sum below s. Assumes nothing.
use mathlib.Core.Path.{◌≡◌, refl, ap, ap₂, ◌∙◌}
use Prim.Native.Nat.{ℕ, suc, ◌+◌, ◌-◌, ◌≤◌}
use native.Mathlib.Omega.{arith}
use Rattle.model.specs.declared.index.Index.{Index}
use Rattle.model.specs.Index.{exit_count}
use Rattle.tables.specs.Internal.Described.{exit_total}
use Rattle.tables.proofs.transition_count.Goals as goal

-- with the exits of the state s those up to it
more : (index : Index) (s total n : ℕ) → 1 ≤ s → total ≡ exit_total index (s - 1) → n ≡ exit_count index s → total + n ≡ exit_total index s
unfolding exit_total
more index s total n low p q =
    let back : s ≡ suc (s - 1) = omega arith in
    let forth : suc (s - 1) ≡ s = omega arith in
    ap₂ (λ x y. x + y) p (q ∙ ap (exit_count index) back) ∙ ap (exit_total index) forth

pub loop-s-init : goal.loop-s-init
unfolding exit_total
loop-s-init c = (refl, omega arith, omega arith)

pub loop-s-preserved : goal.loop-s-preserved
loop-s-preserved c =
    let same : c.loop-s.s ≡ c.loop-s.s + 1 - 1 = omega arith in (
      more c.args.index.now _ _ _ c.loop-s.auto.s c.loop-s.invariant.0 c.exit_count-total.ensures.0 ∙ ap (exit_total c.args.index.now) same,
      omega arith,
      omega (arith, c.exit_count-total.ensures),
    )

pub returns-2 : goal.returns-2
returns-2 c =
    let all : c.loop-s.s ≡ c.args.states = omega arith in
    more c.args.index.now _ _ _ c.loop-s.auto.s c.loop-s.invariant.0 c.exit_count-total.ensures.0 ∙ ap (exit_total c.args.index.now) all
