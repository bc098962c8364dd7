use Rattle.std.proofs.Common.{ℕ, ◌-◌, List, drop}
use Rattle.word.specs.Model.{Transition}
use Rattle.model.specs.declared.index.Index.{Index}
use Rattle.model.specs.Index.{exit_count, transition_at}
use Rattle.model.specs.Internal.Parts.{along, slot_place, slot_transitions}
use Rattle.model.proofs.Units.{Summed}
use Rattle.model.proofs.indexed_words.IndexedWords.fast_sum.Given as goal

-- the exits from the i-th on
abbrev pub rest : List ℕ → Index → ℕ → ℕ → List Transition
rest words index s i = along (λ k. transition_at (drop (slot_place index s k) words)) (exit_count index s - i) i

abbrev pub invariant-loop-j : goal.invariant-loop-j
invariant-loop-j l = Summed (slot_transitions l.self.words.now l.self.index.now l.s) (rest l.self.words.now l.self.index.now l.s l.j-index) l.j-index l.sum
