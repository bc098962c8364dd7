-- The documents' number and place for each case of the code's enum `Refusal`. Assumes nothing: these are definitions.
use Rattle.std.specs.Prelude.{ℕ}
use Rattle.word.specs.declared.Refusal.{Refusal}
use Rattle.word.specs.declared.Refusal.TheVariants.{TooManyWords, BudgetOutOfRange, WrongKind, BitSet, QuantityOutOfRange, FieldOutOfRange}
use Rattle.word.specs.declared.Refusal.TheVariants.{SelfTransition, DuplicateTransition, TooManyTransitions, ProbabilitiesNotOne}
use Rattle.word.specs.declared.Refusal.TheVariants.{StartWithoutExits, OverBudget, TooFewRows}
use Rattle.word.specs.declared.Refusal.TheVariants.{StateNotGreater, NamedStateWithExits}

-- the numbers of document 01's list, and of document 02's requests
abbrev pub number : Refusal → ℕ
number TooManyWords = 1
number BudgetOutOfRange = 2
number (WrongKind i) = 3
number (BitSet i) = 4
number (QuantityOutOfRange i) = 5
number (FieldOutOfRange i) = 6
number (SelfTransition i) = 7
number (DuplicateTransition i) = 8
number (TooManyTransitions i) = 9
number (ProbabilitiesNotOne s) = 10
number (StartWithoutExits s) = 11
number OverBudget = 13
number (TooFewRows n) = 14
number (StateNotGreater i) = 15
number (NamedStateWithExits s) = 16

-- "Place 0" for 1, 2 and 13; for 3 to 9 and 15 the word's; for 10, 11 and 16 the state; for 14 "the number of rows needed"
abbrev pub place : Refusal → ℕ
place TooManyWords = 0
place BudgetOutOfRange = 0
place (WrongKind i) = i
place (BitSet i) = i
place (QuantityOutOfRange i) = i
place (FieldOutOfRange i) = i
place (SelfTransition i) = i
place (DuplicateTransition i) = i
place (TooManyTransitions i) = i
place (ProbabilitiesNotOne s) = s
place (StartWithoutExits s) = s
place OverBudget = 0
place (TooFewRows n) = n
place (StateNotGreater i) = i
place (NamedStateWithExits s) = s
