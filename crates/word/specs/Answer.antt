-- An answer, as all definitions that may refuse give it. Assumes nothing: these are definitions.
use Rattle.std.specs.Prelude.{ℕ}

-- An answer: a refusal with its number and place, or what was asked for.
pub data Answer (A : Type 0) : Type 0 where
  refused : ℕ → ℕ → Answer A
  granted : A → Answer A

-- the answer of a second step, where the first was not refused
unfoldable pub then : {A B : Type 0} → Answer A → (A → Answer B) → Answer B
then (refused number place) f = refused number place
then (granted a) f = f a
