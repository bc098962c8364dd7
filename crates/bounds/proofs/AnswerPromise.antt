-- From an answer that is the definition's to all that the entry point promises. Assumes nothing.
use Prim.Native.Nat.{ℕ, ◌≤◌, ◌<◌}
use mathlib.Core.Path.{◌≡◌, refl, sym, ap, ◌∙◌, subst}
use mathlib.Core.List.{List}
use native.Mathlib.Decide.{dec_le}
use native.Mathlib.Nat.{lt_of_not-le}
use lib.ListN.{length}
use Rattle.std.specs.Prelude.{Result}
use Rattle.word.specs.declared.Refusal.{Refusal}
use Rattle.word.specs.Model.{Model}
use Rattle.word.specs.Answer as answers
use Rattle.model.specs.Reading as reading
use Rattle.model.proofs.Refusals.{refused_not_granted}
use Rattle.tree.specs.Tree.{tree}
use Rattle.tree.specs.Report as definition
use Rattle.tree.proofs.Answer.{walked_over, walked_within, answer_read}
use Rattle.tree.specs.Marks.{marks_with}
use Rattle.accuracy.specs.Rule.{AccuracyRule}
use Rattle.accuracy.proofs.Theorem.{accuracy_theorem}
use Rattle.accuracy.proofs.Exactness.{mark_theorem}
use Rattle.bounds.proofs.Faithful.{faithful}
use Rattle.bounds.specs.declared.Report.{Report}
use Rattle.bounds.specs.Answers.{Promised, answer_of, marks_of_answer}

-- what was granted, or something else for a refusal
abbrev granted_or : {A : Type 0} → A → answers.Answer A → A
granted_or d (answers.refused n i) = d
granted_or d (answers.granted a) = a

granted_same : {A : Type 0} {a b : A} → answers.granted a ≡ answers.granted b → a ≡ b
granted_same {A} {a} {b} e = ap (granted_or a) e

abbrev steps_in : Model → ℕ
steps_in m = length (tree m.net m.limits)

module _ (ws : List ℕ) (budget : ℕ) (a : answers.Answer definition.Report) (is : a ≡ definition.answer ws budget) (m : Model) (read : reading.read ws budget ≡ answers.granted m) where
  answer_walked : a ≡ definition.walked budget m
  answer_walked = is ∙ answer_read ws budget m read

  over : budget < steps_in m → a ≡ answers.refused 13 0
  over h = answer_walked ∙ walked_over budget m h

  within : steps_in m ≤ budget → a ≡ answers.granted (definition.report_on m.net (tree m.net m.limits))
  within h = answer_walked ∙ walked_within budget m h

  only_over : a ≡ answers.refused 13 0 → budget < steps_in m
  only_over e = lt_of_not-le (λ h. refused_not_granted (sym e ∙ within h))

  counted : (q : definition.Report) → a ≡ answers.granted q → q.steps ≡ steps_in m
  counted q e = go (dec_le (steps_in m) budget)
    where
      go : Dec (steps_in m ≤ budget) → q.steps ≡ steps_in m
      go (yes h) = ap (λ (x : definition.Report). x.steps) (granted_same (sym e ∙ within h)) ∙ unfold definition.report_on definition.report_of in refl
      go (no h) = absurd (refused_not_granted (sym (over (lt_of_not-le h)) ∙ e))

-- an answer that is the definition's, with the words unchanged
pub promise : (ws after : List ℕ) (budget : ℕ) (r : Result Report Refusal) → after ≡ ws → answer_of r ≡ definition.answer ws budget
    → marks_of_answer r ≡ marks_with ws budget (definition.answer ws budget) → Promised ws after budget r
promise ws after budget r kept is marks = record {
  answer_is = is;
  values_are = ap definition.values is;
  accuracy = subst (AccuracyRule ws budget) (sym is) (accuracy_theorem ws budget);
  marks_are = marks;
  marks_mean = rw (is, marks) (mark_theorem ws budget);
  words_unchanged = kept;
  steps_are = λ m q read e. counted ws budget (answer_of r) is m read q e;
  refused_over = λ m read h. over ws budget (answer_of r) is m read h;
  over_refused = λ m read e. only_over ws budget (answer_of r) is m read e;
  faithful = faithful;
}
