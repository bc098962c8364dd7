-- Pairs given as plain numbers, one after the other; and from what `probabilistic_or` promises to what `bounds_or` does. Assumes nothing.
use denote.Param.Members.{Mut, Called}
use Rattle.std.specs.Array.{IsFromFnResult, IsFromFnResultFrom}
use native.Mathlib.Decide.{dec_le}
use native.Mathlib.Nat.{lt_of_not-le}
use Rattle.std.specs.List.{slice_range}
use Rattle.std.proofs.Common.{ℤ, ℕ, zero, suc, ◌+◌, ◌-◌, ◌≤◌, ◌<◌, ◌≡◌, sym, subst, ◌∙◌, List, length, get_or, take, Result, Err, arith}
use Rattle.word.proofs.Tests.{above_test}
use Rattle.model.proofs.Refusals.{refused_not_granted}
use Rattle.orprob.specs.declared.Pair.{Pair}
use Rattle.orprob.specs.declared.OrRefusal.{OrRefusal}
use Rattle.orprob.specs.declared.OrRefusal.TheVariants.{PairCountOutOfRange}
use Rattle.orprob.specs.Combination.{answer, Encloses}
use Rattle.orprob.specs.Promise.{answer_of, Promised}
use Rattle.orprob.proofs.Enclosure.{answer_count}
use Rattle.orprob.proofs.Promising.{faithful_or}
use Rattle.embed.specs.Subsystems.{pairs_given, OrPut, OrAnswered}

-- ---- an array made by a closure that keeps its state

module _ {F B : Type 0} (g : Mut F (ℕ × Unit {0}) B) (v : ℕ → B) {f : F}
    (acts : (i : ℕ) (y : B) (q : F) → Called g f (i, tt) y q → (q ≡ f) × (y ≡ v i)) where
  made_from : (n i : ℕ) (ys : List B) → IsFromFnResultFrom g f ys i n → (k : ℕ) (d : B) → i ≤ k → k < i + n → get_or ys k d ≡ v k
  made_from zero i ys h k d low high = absurd (omega (arith, low, high))
  made_from (suc n) i ys (q, y, here, called, later) k d low high =
      go (dec_le k i) (made_from n (i + 1) ys (subst (λ p. IsFromFnResultFrom g p ys (i + 1) n) (acts i y q called).0 later) k d)
    where
      go : Dec (k ≤ i) → (i + 1 ≤ k → k < (i + 1) + n → get_or ys k d ≡ v k) → get_or ys k d ≡ v k
      go (yes h) more = let first : k ≡ i = omega arith in rw first (here.1 d ∙ (acts i y q called).1)
      go (no h) more = more (omega (arith, lt_of_not-le h)) (omega (arith, high))

  pub made_at : {ys : List B} {n : ℕ} → IsFromFnResult g f ys n → (d : B) (k : ℕ) → k < n → get_or ys k d ≡ v k
  made_at {ys} {n} h d k l = made_from n 0 ys h.each k d (omega arith) (omega (arith, l))

-- ---- the answer

module _ {digits : List ℕ} {powers : List ℤ} {count number : ℕ} {numbers : List ℕ} {figure_powers : List ℤ} where
  -- the first of the pairs given, as many as are asked for
  pub or_answered : {room given : List Pair} {a : Result Pair OrRefusal} → length given ≡ count → room ≡ pairs_given digits powers
      → given ≡ slice_range room 0 count → Promised given a → OrPut (answer_of a) number numbers figure_powers
      → OrAnswered digits powers count number numbers figure_powers
  or_answered {room} {given} {a} l e part p h =
      let same : given ≡ take count (pairs_given digits powers) = (let z : count - 0 ≡ count = omega arith in rw (z, e) at part) in
      let is : answer_of a ≡ answer count (take count (pairs_given digits powers)) = rw (l, same) at p.answer_is in
      record {
        put = subst (λ x. OrPut x number numbers figure_powers) is h;
        encloses = λ r g. subst (λ ps. Encloses ps r) same (p.encloses r (is ∙ g));
        faithful = p.faithful;
      }

  -- more than there are
  pub or_uncounted : 16 < count → OrPut (answer_of (Err PairCountOutOfRange)) number numbers figure_powers
      → OrAnswered digits powers count number numbers figure_powers
  or_uncounted long h = record {
    put = rw (answer_count count _ (above_test 1 16 count long)) h;
    encloses = λ r g. absurd (refused_not_granted (sym (answer_count count _ (above_test 1 16 count long)) ∙ g));
    faithful = faithful_or;
  }
