-- Every model that is read without a refusal is valid. The proof goes word by word: `ReadSoFar` says what holds at each place. Assumes nothing.
use Prim.Native.Nat.{ℕ, suc, ◌+◌, ◌≤◌, ◌<◌}
use mathlib.Core.Path.{◌≡◌, refl, sym, ◌∙◌, subst}
use mathlib.Core.Bool.{Bool, true, false, true≢false}
use mathlib.Core.List.{List, [], ◌∷◌, Memᴰ}
use native.Mathlib.Omega.{arith}
use native.Mathlib.Decide.{ℕ_discrete}
use Rattle.word.specs.Model.{slow, fast, Transition, Net, Model, is_empty, is_named, exits, has_fast, probability_sum}
use Rattle.word.specs.Words.{kind, named_field, quantity}
use Rattle.word.specs.Faults.{Fault, quantity_faults}
use Rattle.word.specs.Answer.{granted}
use Rattle.model.specs.Reading.{Reader, at_head, at_time, at_prune, at_caps, at_named, at_transition, at_rate, at_mean, at_deviation}
use Rattle.model.specs.Reading.{at_probability, after_end, Next, wrong, right, unless, next_transition, next_named, next, at_words_end}
use Rattle.model.specs.Reading.{read_from, uneven, leads_on, lowest, read}
use Rattle.model.specs.Internal.Valid.{InRange, ValidManner, ValidTransition, Valid}
use Rattle.word.proofs.Members.{each_member}
use Rattle.word.proofs.Exits.{exits_each, exits_leave, has_fast_member}
use Rattle.word.proofs.Tests.{differs_false}
use Rattle.model.proofs.Growing.{Head, Growing, Admitted, NoFault, name_grows, grow, quantity_range, head_in, empty_grows, admit}
use Rattle.model.proofs.Refusals.{refused_not_granted, wrong_not_right, unless_right, next_slow, next_fast}
use Rattle.model.proofs.Refusals.{next_end, next_other, next_state, next_behind, read_wrong, read_right, lowest_none, read_granted}

-- ---- what holds at each place

unfoldable pub ReadSoFar : Reader → Type 0
ReadSoFar at_head = Unit {0}
ReadSoFar (at_time n s) = Head n s
ReadSoFar (at_prune n s t) = Head n s × InRange 1 20 t
ReadSoFar (at_caps n s t p) = Head n s × (InRange 1 20 t × InRange 0 20 p)
ReadSoFar (at_named m) = Growing m
ReadSoFar (at_transition m) = Growing m
ReadSoFar (at_rate m a b) = Growing m × Admitted false m a b
ReadSoFar (at_mean m a b) = Growing m × Admitted true m a b
ReadSoFar (at_deviation m a b x) = Growing m × (Admitted true m a b × InRange 1 20 x)
ReadSoFar (at_probability m a b x d) = Growing m × (Admitted true m a b × (InRange 1 20 x × InRange 0 20 d))
ReadSoFar (after_end m) = Growing m

-- ---- one word more

-- no fault holds, so what comes next is what `unless` names
passed : (fs : List Fault) (r r' : Reader) → (NoFault fs → ReadSoFar r) → unless fs r ≡ right r' → ReadSoFar r'
passed fs r r' f e = let (none, same) = unless_right fs r r' e in subst ReadSoFar same (f none)

transition_so_far : (m : Model) (w : ℕ) (r' : Reader) → Growing m → next_transition m w ≡ right r' → ReadSoFar r'
unfolding ReadSoFar
transition_so_far m w r' g e = go (ℕ_discrete (kind w) 5) (ℕ_discrete (kind w) 7) (ℕ_discrete (kind w) 15)
  where
    go : Dec (kind w ≡ 5) → Dec (kind w ≡ 7) → Dec (kind w ≡ 15) → ReadSoFar r'
    go (yes p) q r = passed _ _ r' (λ f. (g, admit false m w f)) (sym (next_slow m w p) ∙ e)
    go (no p) (yes q) r = passed _ _ r' (λ f. (g, admit true m w f)) (sym (next_fast m w q) ∙ e)
    go (no p) (no q) (yes r) = passed _ _ r' (λ f. g) (sym (next_end m w r) ∙ e)
    go (no p) (no q) (no r) = absurd (wrong_not_right (sym (next_other m w p q r) ∙ e))

named_so_far : (m : Model) (w : ℕ) (r' : Reader) → Growing m → next_named m w ≡ right r' → ReadSoFar r'
unfolding ReadSoFar
named_so_far m w r' g e = go (ℕ_discrete (kind w) 12)
  where
    go : Dec (kind w ≡ 12) → ReadSoFar r'
    go (yes p) = passed _ _ r' (λ f. name_grows m (named_field w) g) (sym (next_state m w p) ∙ e)
    go (no p) = transition_so_far m w r' g (sym (next_behind m w p) ∙ e)

next_so_far : (r : Reader) (w : ℕ) (r' : Reader) → ReadSoFar r → next r w ≡ right r' → ReadSoFar r'
unfolding ReadSoFar next ValidManner
next_so_far at_head w r' h e = passed _ _ r' (head_in w) e
next_so_far (at_time n s) w r' h e = passed _ _ r' (λ f. (h, quantity_range 2 20 1 w f)) e
next_so_far (at_prune n s t) w r' h e = passed _ _ r' (λ f. (h.0, (h.1, quantity_range 3 20 0 w f))) e
next_so_far (at_caps n s t p) w r' h e = passed _ _ r' (λ f. empty_grows w n s t p f h.0 h.1.0 h.1.1) e
next_so_far (at_named m) w r' h e = named_so_far m w r' h e
next_so_far (at_transition m) w r' h e = transition_so_far m w r' h e
next_so_far (at_rate m a b) w r' h e =
    passed _ _ r' (λ f. grow false m a b (slow (quantity w)) refl (quantity_range 6 20 1 w f) h.0 h.1) e
next_so_far (at_mean m a b) w r' h e = passed _ _ r' (λ f. (h.0, (h.1, quantity_range 8 20 1 w f))) e
next_so_far (at_deviation m a b x) w r' h e = passed _ _ r' (λ f. (h.0, (h.1.0, (h.1.1, quantity_range 9 20 0 w f)))) e
next_so_far (at_probability m a b x d) w r' h e =
    let valid : NoFault (quantity_faults 10 12 1 w) → ValidManner (fast x d (quantity w)) = λ f. (h.1.1.0, (h.1.1.1, quantity_range 10 12 1 w f)) in
    passed _ _ r' (λ f. grow true m a b (fast x d (quantity w)) refl (valid f) h.0 h.1.0) e
next_so_far (after_end m) w r' h e = absurd (wrong_not_right e)

-- ---- all words

end_so_far : (r : Reader) (i : ℕ) (m : Model) → ReadSoFar r → at_words_end r i ≡ granted m → Growing m
unfolding ReadSoFar at_words_end
end_so_far at_head i m h e = absurd (refused_not_granted e)
end_so_far (at_time n s) i m h e = absurd (refused_not_granted e)
end_so_far (at_prune n s t) i m h e = absurd (refused_not_granted e)
end_so_far (at_caps n s t p) i m h e = absurd (refused_not_granted e)
end_so_far (at_named k) i m h e = absurd (refused_not_granted e)
end_so_far (at_transition k) i m h e = absurd (refused_not_granted e)
end_so_far (at_rate k a b) i m h e = absurd (refused_not_granted e)
end_so_far (at_mean k a b) i m h e = absurd (refused_not_granted e)
end_so_far (at_deviation k a b x) i m h e = absurd (refused_not_granted e)
end_so_far (at_probability k a b x d) i m h e = absurd (refused_not_granted e)
end_so_far (after_end k) i m h e = let same : k ≡ m = cc in subst Growing same h

from_so_far : (ws : List ℕ) (r : Reader) (i : ℕ) (m : Model) → ReadSoFar r → read_from r i ws ≡ granted m → Growing m
unfolding read_from
from_so_far [] r i m h e = end_so_far r i m h e
from_so_far (w ∷ ws) r i m h e = go (next r w) refl (λ r'. from_so_far ws r' (suc i) m)
  where
    go : (x : Next) → next r w ≡ x → ((r' : Reader) → ReadSoFar r' → read_from r' (suc i) ws ≡ granted m → Growing m) → Growing m
    go (wrong n) p below = absurd (refused_not_granted (sym (read_wrong r i w ws n p) ∙ e))
    go (right r') p below = below r' (next_so_far r w r' h p) (sym (read_right r i w ws r' p) ∙ e)

-- ---- after the end

even_of : (net : Net) (s : ℕ) → uneven net s ≡ false → has_fast (exits net s) ≡ true → probability_sum (exits net s) ≡ 1000000000000
even_of net s e h = differs_false (probability_sum (exits net s)) 1000000000000 (rw h at e)

-- a state that an exit leaves is from 1 to N
exit_range : (m : Model) → Growing m → (s : ℕ) {t : Transition} → Memᴰ t (exits m.net s) → (1 ≤ s) × (s < 1 + m.states)
exit_range m g s member =
    let leaves-s = each_member (λ u. u.from ≡ s) member (exits_leave m.net.table s) in
    let valid = each_member (ValidTransition m.states) member (exits_each (ValidTransition m.states) m.net.table s g.table) in
    (omega (arith, leaves-s, valid.from_low), omega (arith, leaves-s, valid.from_high))

first_member : {A : Type 0} (xs : List A) → is_empty xs ≡ false → (x : A) × Memᴰ x xs
first_member [] e = absurd (true≢false e)
first_member (x ∷ xs) e = (x, Memᴰ.head refl)

valid_even : (m : Model) → Growing m → lowest (uneven m.net) m.states 1 ≡ 0 → (s : ℕ) → has_fast (exits m.net s) ≡ true
    → probability_sum (exits m.net s) ≡ 1000000000000
valid_even m g none s h =
    let (t, member, goes_fast) = has_fast_member (exits m.net s) h in
    let (low, high) = exit_range m g s member in
    even_of m.net s (lowest_none (uneven m.net) m.states 1 (omega arith) none s low high) h

-- a named state has no exits
valid_named_end : (m : Model) → Growing m → lowest (leads_on m.net) m.states 1 ≡ 0 → (s : ℕ) → is_named m.net s ≡ true
    → is_empty (exits m.net s) ≡ true
valid_named_end m g none s named = go (is_empty (exits m.net s)) refl
  where
    go : (b : Bool) → is_empty (exits m.net s) ≡ b → is_empty (exits m.net s) ≡ true
    go true e = e
    go false e =
        let (t, member) = first_member (exits m.net s) e in
        let (low, high) = exit_range m g s member in
        let ends : leads_on m.net s ≡ false = lowest_none (leads_on m.net) m.states 1 (omega arith) none s low high in
        absurd (true≢false (rw (named, e) at ends))

pub read_valid : (ws : List ℕ) (budget : ℕ) (m : Model) → read ws budget ≡ granted m → Valid m
read_valid ws budget m e =
    let tested = read_granted ws budget m e in
    let g = from_so_far ws at_head 0 m (unfold ReadSoFar in tt) tested.reads in
    record {
      states_low = g.head.states_low;
      states_high = g.head.states_high;
      start_low = g.head.start_low;
      start_high = g.head.start_high;
      time = g.time;
      prune = g.prune;
      steps_low = g.steps_low;
      steps_high = g.steps_high;
      entries_low = g.entries_low;
      entries_high = g.entries_high;
      table = g.table;
      few = g.few;
      few_exits = g.few_exits;
      distinct = g.distinct;
      even = valid_even m g tested.none_uneven;
      start_exits = tested.start_exits;
      named_end = valid_named_end m g tested.none_leads_on;
    }
