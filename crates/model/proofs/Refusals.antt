-- What reading answers, one refusal after the other: the words' number, the budget, the words from the left, the model. Assumes nothing.
use Prim.Native.Nat.{ℕ, zero, suc, ◌+◌, ◌≤◌, ◌<◌}
use mathlib.Core.Path.{◌≡◌, refl, sym, ap, ◌∙◌}
use mathlib.Core.Bool.{Bool, true, false}
use mathlib.Core.List.{List, [], ◌∷◌}
use native.Mathlib.Omega.{arith}
use native.Mathlib.Decide.{dec_le}
use lib.Arith.{le-zero}
use lib.ListN.{length}
use lib.Dec.{ltb}
use borrow.Author.Tests.{lt-ltb, le-ltb, ltb-false, ne_eqb}
use Rattle.word.specs.Model.{Model, is_empty, exits}
use Rattle.word.specs.Words.{kind, named_field, from_field, to_field}
use Rattle.word.specs.Faults.{Fault, outside, named_faults, transition_faults, end_faults}
use Rattle.word.specs.Answer.{Answer, refused, granted, then}
use Rattle.word.specs.Internal.Lists.{Each}
use Rattle.model.specs.Reasons.{Called}
use Rattle.model.specs.Reading.{Reader, at_head, at_named, at_rate, at_mean, after_end, last_of, with_named, wrong, right, unless}
use Rattle.model.specs.Reading.{next_transition, next_named, next, read_from, uneven, leads_on, lowest, Finding, model_findings, most_words}
use Rattle.model.specs.Reading.{caller_findings, first_of, read}
use Rattle.word.proofs.Tests.{inside, inside_test}

-- ---- a refusal is no model

pub refused_not_granted : {A : Type 0} {number place : ℕ} {a : A} → ◌≡◌ {A = Answer A} (refused number place) (granted a) → ⊥
refused_not_granted e = let z : ◌≡◌ {A = ℕ} 0 1 = cc in omega arith

pub wrong_not_right : {number : ℕ} {r : Reader} → wrong number ≡ right r → ⊥
wrong_not_right e = let z : ◌≡◌ {A = ℕ} 0 1 = cc in omega arith

-- ---- the first fault that holds

pub unless_here : (f : Fault) (fs : List Fault) (r : Reader) → f.holds ≡ true → unless (f ∷ fs) r ≡ wrong f.number
unfolding unless
unless_here f fs r e = rw (e, unless)

pub unless_past : (f : Fault) (fs : List Fault) (r : Reader) → f.holds ≡ false → unless (f ∷ fs) r ≡ unless fs r
unfolding unless
unless_past f fs r e = rw (e, unless)

pub unless_right : (fs : List Fault) (r r' : Reader) → unless fs r ≡ right r' → Each (λ f. f.holds ≡ false) fs × (r ≡ r')
unfolding unless Each
unless_right [] r r' e = (tt, cc)
unless_right (f ∷ fs) r r' e = go f.holds refl (unless_right fs r r')
  where
    go : (b : Bool) → f.holds ≡ b → (unless fs r ≡ right r' → Each (λ f. f.holds ≡ false) fs × (r ≡ r'))
        → Each (λ f. f.holds ≡ false) (f ∷ fs) × (r ≡ r')
    go true h below = absurd (wrong_not_right (sym (unless_here f fs r h) ∙ e))
    go false h below = let (rest, same-reader) = below (sym (unless_past f fs r h) ∙ e) in ((h, rest), same-reader)

-- ---- a word where a transition or the end may stand

module _ (m : Model) (w : ℕ) where
  pub next_slow : kind w ≡ 5
      → next_transition m w ≡ unless (transition_faults false m.states m.net.table w) (at_rate m (from_field w) (to_field w))
  unfolding next_transition
  next_slow e = rw (e, next_transition)

  pub next_fast : kind w ≡ 7
      → next_transition m w ≡ unless (transition_faults true m.states m.net.table w) (at_mean m (from_field w) (to_field w))
  unfolding next_transition
  next_fast e = rw (e, next_transition) (rw e)

  pub next_end : kind w ≡ 15 → next_transition m w ≡ unless (end_faults w) (after_end m)
  unfolding next_transition
  next_end e = rw (e, next_transition) (rw e (rw e))

  pub next_other : (kind w ≡ 5 → ⊥) → (kind w ≡ 7 → ⊥) → (kind w ≡ 15 → ⊥) → next_transition m w ≡ wrong 3
  unfolding next_transition
  next_other p q r = rw (ne_eqb (kind w) 5 p, next_transition, ne_eqb (kind w) 7 q, ne_eqb (kind w) 15 r)

-- ---- a word where a state may be named too

module _ (m : Model) (w : ℕ) where
  pub next_state : kind w ≡ 12 → next_named m w
      ≡ unless (named_faults m.states (last_of m.net.named) (length m.net.named) w) (at_named (with_named m (named_field w)))
  unfolding next_named
  next_state e = rw (e, next_named)

  pub next_behind : (kind w ≡ 12 → ⊥) → next_named m w ≡ next_transition m w
  unfolding next_named
  next_behind p = rw (ne_eqb (kind w) 12 p, next_named)

-- ---- the word at a place

module _ (r : Reader) (i w : ℕ) (ws : List ℕ) where
  pub read_wrong : (n : ℕ) → next r w ≡ wrong n → read_from r i (w ∷ ws) ≡ refused n i
  unfolding read_from
  read_wrong n e = rw (e, read_from)

  pub read_right : (r' : Reader) → next r w ≡ right r' → read_from r i (w ∷ ws) ≡ read_from r' (suc i) ws
  unfolding read_from
  read_right r' e = rw (e, read_from)

-- ---- the first finding that holds

module _ {A : Type 0} where
  pub first_here : (f : Finding) (fs : List Finding) (a : A) → f.fault.holds ≡ true → first_of (f ∷ fs) a ≡ refused f.fault.number f.place
  unfolding first_of
  first_here f fs a e = rw (e, first_of)

  pub first_past : (f : Finding) (fs : List Finding) (a : A) → f.fault.holds ≡ false → first_of (f ∷ fs) a ≡ first_of fs a
  unfolding first_of
  first_past f fs a e = rw (e, first_of)

  pub first_none : (fs : List Finding) (a : A) → Each (λ f. f.fault.holds ≡ false) fs → first_of fs a ≡ granted a
  unfolding first_of Each
  first_none [] a h = refl
  first_none (f ∷ fs) a h = first_past f fs a h.0 ∙ first_none fs a h.1

  pub first_granted : (fs : List Finding) (a b : A) → first_of fs a ≡ granted b → Each (λ f. f.fault.holds ≡ false) fs × (a ≡ b)
  unfolding first_of Each
  first_granted [] a b e = (tt, cc)
  first_granted (f ∷ fs) a b e = go f.fault.holds refl (first_granted fs a b)
    where
      go : (t : Bool) → f.fault.holds ≡ t → (first_of fs a ≡ granted b → Each (λ f. f.fault.holds ≡ false) fs × (a ≡ b))
          → Each (λ f. f.fault.holds ≡ false) (f ∷ fs) × (a ≡ b)
      go true h below = absurd (refused_not_granted (sym (first_here f fs a h) ∙ e))
      go false h below = let (rest, same_value) = below (sym (first_past f fs a h) ∙ e) in ((h, rest), same_value)

-- ---- the lowest state that passes a test

module _ (test : ℕ → Bool) where
  pub lowest_here : (n s : ℕ) → test s ≡ true → lowest test (suc n) s ≡ s
  unfolding lowest
  lowest_here n s e = rw (e, lowest)

  pub lowest_later : (n s : ℕ) → test s ≡ false → lowest test (suc n) s ≡ lowest test n (suc s)
  unfolding lowest
  lowest_later n s e = rw (e, lowest)

  -- it is 0 exactly if no state passes
  pub lowest_none : (n s : ℕ) → 1 ≤ s → lowest test n s ≡ 0 → (k : ℕ) → s ≤ k → k < s + n → test k ≡ false
  lowest_none zero s h z k low high = absurd (omega arith)
  lowest_none (suc n) s h z k low high = go (test s) refl (dec_le (suc s) k) (lowest_none n (suc s) (omega arith))
    where
      go : (b : Bool) → test s ≡ b → Dec (suc s ≤ k)
          → (lowest test n (suc s) ≡ 0 → (j : ℕ) → suc s ≤ j → j < suc s + n → test j ≡ false)
          → test k ≡ false
      go true e d below = absurd (omega (arith, lowest_here n s e))
      go false e (yes above) below = below (sym (lowest_later n s e) ∙ z) k above (omega arith)
      go false e (no here) below = let q : k ≡ s = omega arith in rw q e

-- ---- the answer, by what was found first

-- what is read then
abbrev words_answer : List ℕ → Answer Model
words_answer ws = then (read_from at_head 0 ws) (λ m. first_of (model_findings m) m)

read_caller : (ws : List ℕ) (budget : ℕ) (x : Answer (List ℕ)) → first_of (caller_findings ws budget) ws ≡ x → read ws budget ≡ then x words_answer
unfolding read
read_caller ws budget x e = ap (λ (y : Answer (List ℕ)). then y words_answer) e

pub read_too_long : (ws : List ℕ) (budget : ℕ) → most_words < length ws → read ws budget ≡ refused 1 0
unfolding then
read_too_long ws budget h = read_caller ws budget (refused 1 0) (first_here _ _ ws (lt-ltb most_words (length ws) h))

pub read_bad_budget : (ws : List ℕ) (budget : ℕ) → length ws ≤ most_words → outside 1 1000000 budget ≡ true → read ws budget ≡ refused 2 0
unfolding then
read_bad_budget ws budget short e = read_caller ws budget (refused 2 0) (first_past _ _ ws (le-ltb most_words (length ws) short) ∙ first_here _ _ ws e)

module _ (ws : List ℕ) (budget : ℕ) (called : Called ws budget) where
  read_on : read ws budget ≡ words_answer ws
  unfolding then Each
  read_on =
      let words-pass = le-ltb most_words (length ws) called.words_few in
      let budget-passes = inside_test 1 1000000 budget called.budget_low called.budget_high in
      read_caller ws budget (granted ws) (first_none _ ws (words-pass, (budget-passes, tt)))

  pub read_bad_word : (number place : ℕ) → read_from at_head 0 ws ≡ refused number place → read ws budget ≡ refused number place
  unfolding then
  read_bad_word number place e = read_on ∙ rw e

  module _ (m : Model) (reads : read_from at_head 0 ws ≡ granted m) where
    read_whole : read ws budget ≡ first_of (model_findings m) m
    unfolding then
    read_whole = read_on ∙ rw reads

    abbrev lowest_uneven : ℕ
    lowest_uneven = lowest (uneven m.net) m.states 1

    abbrev lowest_leading_on : ℕ
    lowest_leading_on = lowest (leads_on m.net) m.states 1

    pub read_uneven : 0 < lowest_uneven → read ws budget ≡ refused 10 lowest_uneven
    read_uneven h = read_whole ∙ first_here _ _ m (lt-ltb 0 lowest_uneven h)

    module _ (even : lowest_uneven ≡ 0) where
      sums_pass : ltb 0 lowest_uneven ≡ false
      sums_pass = rw even

      pub read_leading_on : 0 < lowest_leading_on → read ws budget ≡ refused 16 lowest_leading_on
      read_leading_on h = read_whole ∙ first_past _ _ m sums_pass ∙ first_here _ _ m (lt-ltb 0 lowest_leading_on h)

      module _ (ending : lowest_leading_on ≡ 0) where
        named_pass : ltb 0 lowest_leading_on ≡ false
        named_pass = rw ending

        pub read_no_exits : is_empty (exits m.net m.net.start) ≡ true → read ws budget ≡ refused 11 m.net.start
        read_no_exits e = read_whole ∙ first_past _ _ m sums_pass ∙ first_past _ _ m named_pass ∙ first_here _ _ m e

        pub read_grants : is_empty (exits m.net m.net.start) ≡ false → read ws budget ≡ granted m
        unfolding Each
        read_grants e = read_whole ∙ first_none _ m (sums_pass, (named_pass, (e, tt)))

-- ---- what a granted model says of the words and the budget

-- all that was tested, and how it came out
pub record Granted (ws : List ℕ) (budget : ℕ) (m : Model) : Type 0 where
  pub words_few : length ws ≤ most_words
  pub budget_low : 1 ≤ budget
  pub budget_high : budget ≤ 1000000
  pub reads : read_from at_head 0 ws ≡ granted m
  pub none_uneven : lowest (uneven m.net) m.states 1 ≡ 0
  pub none_leads_on : lowest (leads_on m.net) m.states 1 ≡ 0
  pub start_exits : is_empty (exits m.net m.net.start) ≡ false

then_granted : {A B : Type 0} (x : Answer A) (f : A → Answer B) (b : B) → then x f ≡ granted b → (a : A) × (x ≡ granted a) × (f a ≡ granted b)
unfolding then
then_granted (refused number place) f b e = absurd (refused_not_granted e)
then_granted (granted a) f b e = (a, refl, e)

pub read_granted : (ws : List ℕ) (budget : ℕ) (m : Model) → read ws budget ≡ granted m → Granted ws budget m
unfolding read
read_granted ws budget m e =
    let (ws', passed, rest) = then_granted (first_of (caller_findings ws budget) ws) words_answer m e in
    let (m', reads, last) = then_granted (read_from at_head 0 ws') (λ (x : Model). first_of (model_findings x) x) m rest in
    let caller = first_granted (caller_findings ws budget) ws ws' passed in
    let model = first_granted (model_findings m') m' m last in
    from_tests ws' m' caller.0 caller.1 reads model.0 model.1
  where
    from_tests : (ws' : List ℕ) (m' : Model) → Each (λ f. f.fault.holds ≡ false) (caller_findings ws budget) → ws ≡ ws'
        → read_from at_head 0 ws' ≡ granted m' → Each (λ f. f.fault.holds ≡ false) (model_findings m') → m' ≡ m → Granted ws budget m
    from_tests ws' m' caller same-words reads model same-model = unfold Each in
        let budget-in = inside 1 1000000 budget caller.1.0 in
        let tests = rw same-model at model in
        record {
          words_few = ltb-false most_words (length ws) caller.0;
          budget_low = budget-in.0;
          budget_high = budget-in.1;
          reads = ap (read_from at_head 0) same-words ∙ reads ∙ ap granted same-model;
          none_uneven = le-zero (ltb-false 0 (lowest (uneven m.net) m.states 1) tests.0);
          none_leads_on = le-zero (ltb-false 0 (lowest (leads_on m.net) m.states 1) tests.1.0);
          start_exits = tests.1.1.0;
        }

pub read_budget : (ws : List ℕ) (budget : ℕ) (m : Model) → read ws budget ≡ granted m → (1 ≤ budget) × (budget ≤ 1000000)
read_budget ws budget m e = ((read_granted ws budget m e).budget_low, (read_granted ws budget m e).budget_high)

pub read_reads : (ws : List ℕ) (budget : ℕ) (m : Model) → read ws budget ≡ granted m → read_from at_head 0 ws ≡ granted m
read_reads ws budget m e = (read_granted ws budget m e).reads
