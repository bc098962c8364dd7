-- Reading from the left stops at a word, or where the words ran out, exactly if it is refused there; and the state that is found lowest is the lowest
-- that passes its test. Assumes nothing.
use Prim.Native.Nat.{ℕ, zero, suc, ◌+◌, ◌≤◌, ◌<◌}
use mathlib.Core.Path.{◌≡◌, refl, sym, ap, ◌∙◌}
use mathlib.Core.Bool.{Bool, true, false}
use mathlib.Core.List.{List, [], ◌∷◌}
use native.Mathlib.Nat.{add-zero}
use native.Mathlib.Omega.{arith}
use native.Mathlib.Decide.{ℕ_discrete}
use Rattle.std.specs.Prelude.{Option, None, Some, MatchOption}
use lib.ListN.{length, get_or, drop, drop_of_length-le}
use lib.Seq.{drop-cons}
use Rattle.word.specs.Model.{Model}
use Rattle.word.specs.Answer.{refused}
use Rattle.model.specs.Reading.{Reader, at_head, at_time, at_prune, at_caps, at_named, at_transition, at_rate, at_mean, at_deviation}
use Rattle.model.specs.Reading.{at_probability, after_end, Next, wrong, right, next, at_words_end, read_from, lowest}
use Rattle.model.specs.Reasons.{Passes, none, one, Stops, wrong_word, ran_out, NoneBelow, IsLowest}
use Rattle.model.proofs.Refusals.{refused_not_granted, read_wrong, read_right, lowest_here, lowest_later, lowest_none}

-- ---- what stops is refused

-- what is read after n right words
pass_read : (ws : List ℕ) (i n : ℕ) {r s : Reader} → Passes r ws n s → read_from r i ws ≡ read_from s (i + n) (drop n ws)
pass_read ws i zero (none {r}) = ap (λ (j : ℕ). read_from r j ws) (sym (add-zero i))
pass_read [] i (suc n) {r = r} {s = s} x' = elim x' [ ]
pass_read (w ∷ ws) i (suc n) (one {r} {q} {s} e p) =
    read_right r i w ws q e ∙ pass_read ws (suc i) n p ∙ ap (λ (j : ℕ). read_from s j (drop n ws)) (omega arith)

ends_refused : (r : Reader) (i : ℕ) → ((m : Model) → r ≡ after_end m → ⊥) → at_words_end r i ≡ refused 3 i
unfolding at_words_end
ends_refused at_head i h = refl
ends_refused (at_time _ _) i h = refl
ends_refused (at_prune _ _ _) i h = refl
ends_refused (at_caps _ _ _ _) i h = refl
ends_refused (at_named m) i h = refl
ends_refused (at_transition m) i h = refl
ends_refused (at_rate m a b) i h = refl
ends_refused (at_mean m a b) i h = refl
ends_refused (at_deviation m a b x) i h = refl
ends_refused (at_probability m a b x d) i h = refl
ends_refused (after_end m) i h = absurd (h m refl)

pub stops_refused : (r : Reader) (ws : List ℕ) (n k i : ℕ) → Stops r ws n k → read_from r i ws ≡ refused n (i + k)
unfolding read_from
stops_refused r ws n k i (wrong_word {s} p inside e) =
    pass_read ws i k p ∙ ap (read_from s (i + k)) (drop-cons ws k 0 inside) ∙ read_wrong s (i + k) (get_or ws k 0) (drop (suc k) ws) n e
stops_refused r ws n k i (ran_out {s} p all three unended) =
    let no_more : length ws ≤ k = omega (arith, all) in
    pass_read ws i k p ∙ ap (read_from s (i + k)) (drop_of_length-le ws no_more) ∙ ends_refused s (i + k) unended
    ∙ ap (λ (j : ℕ). refused j (i + k)) (sym three)

-- ---- what is refused stops

-- read from place i on
pub record StopsBehind (r : Reader) (ws : List ℕ) (i number place : ℕ) : Type 0 where
  pub count : ℕ
  pub place_is : place ≡ i + count
  pub stops : Stops r ws number count

later : {r q : Reader} {w : ℕ} {ws : List ℕ} {n k : ℕ} → next r w ≡ right q → Stops q ws n k → Stops r (w ∷ ws) n (suc k)
later e (wrong_word p inside x) = wrong_word (one e p) (omega arith) x
later e (ran_out p all three unended) = ran_out (one e p) (ap suc all) three unended

unended : (r : Reader) (i n p : ℕ) → at_words_end r i ≡ refused n p → (m : Model) → r ≡ after_end m → ⊥
unfolding at_words_end
unended r i n p e m h = refused_not_granted (sym e ∙ ap (λ (x : Reader). at_words_end x i) h)

pub refused_stops : (ws : List ℕ) (r : Reader) (i n p : ℕ) → read_from r i ws ≡ refused n p → StopsBehind r ws i n p
unfolding read_from
refused_stops [] r i n p e =
    let open-end = unended r i n p e in
    let is = sym (ends_refused r i open-end) ∙ e in
    let three : n ≡ 3 = cc in
    let here : p ≡ i = cc in
    record { count = 0; place_is = here ∙ sym (add-zero i); stops = ran_out none refl three open-end }
refused_stops (w ∷ ws) r i n p e = go (next r w) refl (λ q. refused_stops ws q (suc i) n p)
  where
    go : (x : Next) → next r w ≡ x → ((q : Reader) → read_from q (suc i) ws ≡ refused n p → StopsBehind q ws (suc i) n p) → StopsBehind r (w ∷ ws) i n p
    go (wrong k) x below =
        let is = sym (read_wrong r i w ws k x) ∙ e in
        let number : k ≡ n = cc in
        let here : p ≡ i = cc in
        record { count = 0; place_is = here ∙ sym (add-zero i); stops = wrong_word none (omega arith) (x ∙ ap wrong number) }
    go (right q) x below =
        let rest = below q (sym (read_right r i w ws q x) ∙ e) in
        record { count = suc rest.count; place_is = rest.place_is ∙ omega arith; stops = later x rest.stops }

-- ---- the lowest state that passes a test

module _ (test : ℕ → Bool) where
  -- p is the lowest of the n states from s on that passes
  record Lowest (n s p : ℕ) : Type 0 where
    pub low : s ≤ p
    pub high : p < s + n
    pub passes : test p ≡ true
    pub none_before : (k : ℕ) → s ≤ k → k < p → test k ≡ false

  lowest_found : (n s : ℕ) → 0 < lowest test n s → Lowest n s (lowest test n s)
  unfolding lowest
  lowest_found zero s h = absurd (omega arith)
  lowest_found (suc n) s h = go (test s) refl (lowest_found n (suc s))
    where
      go : (b : Bool) → test s ≡ b → (0 < lowest test n (suc s) → Lowest n (suc s) (lowest test n (suc s)))
          → Lowest (suc n) s (lowest test (suc n) s)
      go true e below = rw (lowest_here test n s e)
          (record { low = omega arith; high = omega arith; passes = e; none_before = λ k l u. absurd (omega arith) })
      go false e below =
          let rest = below (rw (lowest_later test n s e) at h) in
          rw (lowest_later test n s e) (record {
            low = omega (arith, rest.low);
            high = omega (arith, rest.high);
            passes = rest.passes;
            none_before = λ k l u. first k l u (ℕ_discrete k s) (rest.none_before k);
          })
        where
          first : (k : ℕ) → s ≤ k → k < lowest test n (suc s) → Dec (k ≡ s)
              → (suc s ≤ k → k < lowest test n (suc s) → test k ≡ false) → test k ≡ false
          first k l u (yes here) rest = rw here e
          first k l u (no past) rest = rest (omega arith) u

  lowest_is : (n s p : ℕ) → Lowest n s p → lowest test n s ≡ p
  lowest_is zero s p h = absurd (omega (arith, h.low, h.high))
  lowest_is (suc n) s p h = go (ℕ_discrete p s) (lowest_is n (suc s) p)
    where
      go : Dec (p ≡ s) → (Lowest n (suc s) p → lowest test n (suc s) ≡ p) → lowest test (suc n) s ≡ p
      go (yes here) below = lowest_here test n s (rw here at h.passes) ∙ sym here
      go (no past) below =
          lowest_later test n s (h.none_before s (omega arith) (omega (arith, h.low)))
          ∙ below (record {
            low = omega (arith, h.low);
            high = omega (arith, h.high);
            passes = h.passes;
            none_before = λ k l u. h.none_before k (omega arith) u;
          })

  -- where none passes, none is found
  lowest_zero : (n s : ℕ) → ((k : ℕ) → s ≤ k → k < s + n → test k ≡ false) → lowest test n s ≡ 0
  unfolding lowest
  lowest_zero zero s h = refl
  lowest_zero (suc n) s h =
      lowest_later test n s (h s (omega arith) (omega arith)) ∙ lowest_zero n (suc s) (λ k l u. h k (omega arith) (omega arith))

  -- of the states from 1 to n
  pub found_lowest : (n : ℕ) → 0 < lowest test n 1 → IsLowest test n (lowest test n 1)
  found_lowest n h =
      let found = lowest_found n 1 h in
      record { low = found.low; high = omega (arith, found.high); passes = found.passes; none_below = found.none_before }

  pub lowest_found_is : (n p : ℕ) → IsLowest test n p → lowest test n 1 ≡ p
  lowest_found_is n p h =
      lowest_is n 1 p (record { low = h.low; high = omega (arith, h.high); passes = h.passes; none_before = h.none_below })

  pub none_found : (n : ℕ) → lowest test n 1 ≡ 0 → NoneBelow test (suc n)
  none_found n e k low high = lowest_none test n 1 (omega arith) e k low (omega arith)

  pub none_is_found : (n : ℕ) → NoneBelow test (suc n) → lowest test n 1 ≡ 0
  none_is_found n h = lowest_zero n 1 (λ k low high. h k low (omega arith))

  -- as a search through the states from 1 to n finds it
  pub lowest_of_range : (n : ℕ) (r : Option ℕ)
      → MatchOption r ((s : ℕ) → 1 ≤ s → s < n + 1 → test s ≡ false)
      (λ s. (1 ≤ s) × (s < n + 1) × (test s ≡ true) × ((k : ℕ) → 1 ≤ k → k < s → test k ≡ false))
      → MatchOption r (NoneBelow test (suc n)) (IsLowest test n)
  lowest_of_range n None h = λ s low high. h s low (omega arith)
  lowest_of_range n (Some s) h = record { low = h.0; high = omega arith; passes = h.2; none_below = h.3 }
