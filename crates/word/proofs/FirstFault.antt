-- Laws of the first fault of a word. Assumes nothing.
use Prim.Native.Nat.{ℕ, ◌<◌}
use mathlib.Core.Path.{◌≡◌, refl, sym, ◌∙◌}
use mathlib.Core.Bool.{Bool, true, false}
use mathlib.Core.List.{List, [], ◌∷◌}
use native.Mathlib.Omega.{arith}
use lib.ListN.{length, get_or}
use Rattle.word.specs.Faults.{Fault}
use Rattle.word.specs.Answer.{refused, granted}
use Rattle.word.specs.Internal.Tests.{first_fault, word_answer}

module _ (f : Fault) (fs : List Fault) (i : ℕ) where
  pub here : f.holds ≡ true → first_fault (f ∷ fs) i ≡ refused f.number i
  unfolding first_fault
  here e = rw (e, first_fault)

  pub later : f.holds ≡ false → first_fault (f ∷ fs) i ≡ first_fault fs i
  unfolding first_fault
  later e = rw (e, first_fault)

pub first_granted_tail : (f : Fault) (fs : List Fault) (i : ℕ) → first_fault (f ∷ fs) i ≡ granted tt
    → (f.holds ≡ false) × (first_fault fs i ≡ granted tt)
first_granted_tail f fs i e = go f.holds refl
  where
    go : (b : Bool) → f.holds ≡ b → (f.holds ≡ false) × (first_fault fs i ≡ granted tt)
    go true h = let z : ◌≡◌ {A = ℕ} 0 1 = cc (here f fs i h) in absurd (omega arith)
    go false h = (h, sym (later f fs i h) ∙ e)

-- ---- a part with a word

pub word_first : (faults : ℕ → List Fault) (i : ℕ) (part : List ℕ) → 0 < length part
    → word_answer faults i part ≡ first_fault (faults (get_or part 0 0)) i
unfolding word_answer
word_first faults i [] h = absurd (omega arith)
word_first faults i (w ∷ ws) h = refl
