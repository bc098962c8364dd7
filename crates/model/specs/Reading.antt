-- Document 01, "The model words" and "Why a model is turned away", and document 02, Item 3, "States that the generator pruned": reading a list of words
-- from the left, and refusals 1 to 11, 15 and 16. "Order: 1, 2; then words from the left, and at one word 3, 4, 5, 6, 7, 8, 9; after the end 10, 11."
-- "15 .. comes after 6 at that word", "16 .. comes after 10". Assumes nothing: these are definitions.
use Rattle.std.specs.Prelude.{ℕ, zero, suc, Bool, true, false, not, ◌&&◌, List, [], ◌∷◌, ◌++◌, length, ltb, eqb}
use Rattle.word.specs.declared.Quantity.{Quantity}
use Rattle.word.specs.Model.{Manner, slow, fast, Net, Model, is_empty, is_named, exits, has_fast, probability_sum}
use Rattle.word.specs.Words.{kind, states_field, start_field, step_limit_field, entry_limit_field, named_field, from_field, to_field, quantity}
use Rattle.word.specs.Answer.{Answer, refused, granted, then}
use Rattle.word.specs.Faults.{Fault, outside, differs, head_faults, quantity_faults, caps_faults, named_faults, transition_faults, end_faults}

-- ---- one word after the other

-- What has been read, by what the next place calls for. A model is read once its caps are: the list of its named states grows then, and its table.
pub data Reader : Type 0 where
  at_head : Reader
  at_time : (states start : ℕ) → Reader
  at_prune : (states start : ℕ) → Quantity → Reader
  at_caps : (states start : ℕ) → Quantity → Quantity → Reader
  at_named : Model → Reader
  at_transition : Model → Reader
  at_rate : Model → (from to : ℕ) → Reader
  at_mean : Model → (from to : ℕ) → Reader
  at_deviation : Model → (from to : ℕ) → Quantity → Reader
  at_probability : Model → (from to : ℕ) → Quantity → Quantity → Reader
  after_end : Model → Reader

abbrev pub empty_model : (states start : ℕ) → Quantity → Quantity → (step_limit entry_limit : ℕ) → Model
empty_model n s t p l v =
    record {
      states = n;
      net = record { start = s; time = t; named = []; table = [] };
      limits = record { step_limit = l; entry_limit = v; prune = p };
    }

-- the last of a list of states, 0 if there is none
unfoldable pub last_of : List ℕ → ℕ
last_of [] = 0
last_of (s ∷ []) = s
last_of (s ∷ r ∷ rs) = last_of (r ∷ rs)

-- one more state named, behind the others
abbrev pub with_named : Model → ℕ → Model
with_named m s =
    record {
      states = m.states;
      net = record { start = m.net.start; time = m.net.time; named = m.net.named ++ (s ∷ []); table = m.net.table };
      limits = m.limits;
    }

-- the table with one more transition, behind the others
abbrev pub with_transition : Model → ℕ → ℕ → Manner → Model
with_transition m a b x =
    record {
      states = m.states;
      net = record {
        start = m.net.start;
        time = m.net.time;
        named = m.net.named;
        table = m.net.table ++ (record { from = a; to = b; manner = x } ∷ []);
      };
      limits = m.limits;
    }

pub data Next : Type 0 where
  wrong : ℕ → Next
  right : Reader → Next

-- the first fault that holds, or else what is read next
unfoldable pub unless : List Fault → Reader → Next
unless [] r = right r
unless (f ∷ fs) r = elim f.holds [ true ↦ wrong f.number | false ↦ unless fs r ]

-- "Then transitions in any order", or the end: kind 5, 7 or 15
unfoldable pub next_transition : Model → ℕ → Next
next_transition m w =
    elim (eqb (kind w) 5) [
      | true ↦ unless (transition_faults false m.states m.net.table w) (at_rate m (from_field w) (to_field w))
      | false ↦
          elim (eqb (kind w) 7) [
            | true ↦ unless (transition_faults true m.states m.net.table w) (at_mean m (from_field w) (to_field w))
            | false ↦ elim (eqb (kind w) 15) [ true ↦ unless (end_faults w) (after_end m) | false ↦ wrong 3 ]
          ]
    ]

-- "Kind 12 words may stand between the caps and the transitions": one more of these, or the first transition, or the end
unfoldable pub next_named : Model → ℕ → Next
next_named m w =
    elim (eqb (kind w) 12) [
      | true ↦
          unless (named_faults m.states (last_of m.net.named) (length m.net.named) w) (at_named (with_named m (named_field w)))
      | false ↦ next_transition m w
    ]

-- "p is 0 to 20, for kind 10 0 to 12. c is 1 to 999,999; for P and the deviation 0 is allowed too." "Nothing follows" the end.
unfoldable pub next : Reader → ℕ → Next
next at_head w = unless (head_faults w) (at_time (states_field w) (start_field w))
next (at_time n s) w = unless (quantity_faults 2 20 1 w) (at_prune n s (quantity w))
next (at_prune n s t) w = unless (quantity_faults 3 20 0 w) (at_caps n s t (quantity w))
next (at_caps n s t p) w = unless (caps_faults w) (at_named (empty_model n s t p (step_limit_field w) (entry_limit_field w)))
next (at_named m) w = next_named m w
next (at_transition m) w = next_transition m w
next (at_rate m a b) w = unless (quantity_faults 6 20 1 w) (at_transition (with_transition m a b (slow (quantity w))))
next (at_mean m a b) w = unless (quantity_faults 8 20 1 w) (at_deviation m a b (quantity w))
next (at_deviation m a b x) w = unless (quantity_faults 9 20 0 w) (at_probability m a b x (quantity w))
next (at_probability m a b x d) w = unless (quantity_faults 10 12 1 w) (at_transition (with_transition m a b (fast x d (quantity w))))
next (after_end m) w = wrong 3

-- "where the words ran out [the place] is their number"
unfoldable pub at_words_end : Reader → ℕ → Answer Model
at_words_end at_head i = refused 3 i
at_words_end (at_time n s) i = refused 3 i
at_words_end (at_prune n s t) i = refused 3 i
at_words_end (at_caps n s t p) i = refused 3 i
at_words_end (at_named m) i = refused 3 i
at_words_end (at_transition m) i = refused 3 i
at_words_end (at_rate m a b) i = refused 3 i
at_words_end (at_mean m a b) i = refused 3 i
at_words_end (at_deviation m a b x) i = refused 3 i
at_words_end (at_probability m a b x d) i = refused 3 i
at_words_end (after_end m) i = granted m

-- the words from place i on
unfoldable pub read_from : Reader → ℕ → List ℕ → Answer Model
read_from r i [] = at_words_end r i
read_from r i (w ∷ ws) = elim (next r w) [ wrong n ↦ refused n i | right r' ↦ read_from r' (suc i) ws ]

-- ---- after the end: 10, 16 and 11

-- "a state has fast exits and their probabilities don't sum to exactly 1", in whole numbers of 10^-12; `probability_sum_iff` in
-- crates/tree/proofs/Probabilities.antt says that this is the sum of the fractions
abbrev pub uneven : Net → ℕ → Bool
uneven net s = has_fast (exits net s) && differs (probability_sum (exits net s)) 1000000000000

-- "a named state has exits"
abbrev pub leads_on : Net → ℕ → Bool
leads_on net s = is_named net s && not (is_empty (exits net s))

-- the lowest of the n states from s on that passes a test, and 0 if none does
unfoldable pub lowest : (ℕ → Bool) → ℕ → ℕ → ℕ
lowest test zero s = 0
lowest test (suc n) s = elim (test s) [ true ↦ s | false ↦ lowest test n (suc s) ]

-- a test that belongs to no word, with its refusal's number and place: of the caller, after the end word, or of the walk
pub record Finding : Type 0 where
  pub fault : Fault
  pub place : ℕ

-- a number's refusal for the lowest of a model's states that passes a test, "the lowest such state as its place"
abbrev pub lowest_finding : ℕ → (ℕ → Bool) → ℕ → Finding
lowest_finding number test states = record {
  fault = record { holds = ltb 0 (lowest test states 1); number = number };
  place = lowest test states 1;
}

-- "10: .. Place: the lowest such state." "16 when a named state has exits; it comes after 10 with the lowest such state as its place." "11: the start
-- has no exits. Place: the start."
abbrev pub model_findings : Model → List Finding
model_findings m =
    lowest_finding 10 (uneven m.net) m.states
    ∷ lowest_finding 16 (leads_on m.net) m.states
    ∷ record { fault = record { holds = is_empty (exits m.net m.net.start); number = 11 }; place = m.net.start }
    ∷ []

-- "the word limit becomes 16,105"
abbrev pub most_words : ℕ
most_words = 16105

-- "1: more than [that many] words. Place 0. 2: budget outside 1 to 1,000,000. Place 0."
abbrev pub caller_findings : List ℕ → ℕ → List Finding
caller_findings ws budget =
    record { fault = record { holds = ltb most_words (length ws); number = 1 }; place = 0 }
    ∷ record { fault = record { holds = outside 1 1000000 budget; number = 2 }; place = 0 }
    ∷ []

-- the first finding that holds, or else `a`
unfoldable pub first_of : {A : Type 0} → List Finding → A → Answer A
first_of [] a = granted a
first_of (f ∷ fs) a = elim f.fault.holds [ true ↦ refused f.fault.number f.place | false ↦ first_of fs a ]

-- refusals 1 to 11, 15 and 16, or the model
unfoldable pub read : List ℕ → ℕ → Answer Model
read ws budget = then (first_of (caller_findings ws budget) ws) (λ ws'. then (read_from at_head 0 ws') (λ m. first_of (model_findings m) m))
