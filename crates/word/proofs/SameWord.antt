-- A word is its fields: a transition's word whose other bits are zero stood earlier exactly if one of its kind, from and to did. Assumes nothing.
use Prim.Native.Nat.{ℕ, ◌+◌, ◌*◌, ◌/◌, ◌%◌, ◌<◌}
use mathlib.Core.Path.{◌≡◌, refl, sym, ap₂, ◌∙◌}
use mathlib.Core.Bool.{Bool, true, false, true≢false, false≢true}
use mathlib.Core.Logic.{◌⊎◌, inl, inr}
use native.Mathlib.Nat.{div-add-mod'}
use native.Mathlib.Omega.{arith}
use lib.Dec.{eqb}
use borrow.Author.Tests.{eqb-true, eq-eqb}
use Rattle.word.specs.Model.{Transition, is_fast}
use Rattle.word.specs.Words.{kind, transition_rest, from_field, to_field}
use Rattle.word.specs.Faults.{same_test, same_transition}
use Rattle.word.specs.Internal.Tests.{TransitionWord}
use Rattle.word.proofs.Members.{both}

-- two numbers with the same quotient and remainder
rebuild : (d x y : ℕ) → x / d ≡ y / d → x % d ≡ y % d → x ≡ y
rebuild d x y q r = sym (div-add-mod' x d) ∙ ap₂ (λ (a b : ℕ). a * d + b) q r ∙ div-add-mod' y d

quotient_28 : (w : ℕ) → w < 4294967296 → kind w ≡ w / 268435456
quotient_28 w h = omega arith

quotient_24 : (w : ℕ) → w / 16777216 / 16 ≡ w / 268435456
quotient_24 w = omega arith

quotient_12 : (w : ℕ) → w / 4096 / 4096 ≡ w / 16777216
quotient_12 w = omega arith

quotient_0 : (w : ℕ) → to_field w ≡ w % 4096
quotient_0 w = omega arith

pub same_word : (w v : ℕ) → w < 4294967296 → v < 4294967296 → kind w ≡ kind v → transition_rest w ≡ transition_rest v → from_field w ≡ from_field v
    → to_field w ≡ to_field v → w ≡ v
same_word w v small-w small-v k r f t =
    let top : w / 268435456 ≡ v / 268435456 = sym (quotient_28 w small-w) ∙ k ∙ quotient_28 v small-v in
    let middle : w / 16777216 ≡ v / 16777216 = rebuild 16 _ _ (quotient_24 w ∙ top ∙ sym (quotient_24 v)) r in
    let low : w / 4096 ≡ v / 4096 = rebuild 4096 _ _ (quotient_12 w ∙ middle ∙ sym (quotient_12 v)) f in
    rebuild 4096 w v low (sym (quotient_0 w) ∙ t ∙ quotient_0 v)

both_ways : (a b : Bool) → (a ≡ true → b ≡ true) → (b ≡ true → a ≡ true) → a ≡ b
both_ways true b f g = sym (f refl)
both_ways false true f g = g refl
both_ways false false f g = refl

same_test_eq : (a b : Bool) → same_test a b ≡ true → a ≡ b
same_test_eq true b e = sym e
same_test_eq false true e = e
same_test_eq false false e = refl

pub same_test_self : (b : Bool) → same_test b b ≡ true
same_test_self true = refl
same_test_self false = refl

same_kind : (k l : ℕ) → (k ≡ 5) ⊎ (k ≡ 7) → (l ≡ 5) ⊎ (l ≡ 7) → eqb k 7 ≡ eqb l 7 → k ≡ l
same_kind k l (inl p) (inl q) e = p ∙ sym q
same_kind k l (inr p) (inr q) e = p ∙ sym q
same_kind k l (inl p) (inr q) e = absurd (false≢true (rw (p, q) at e))
same_kind k l (inr p) (inl q) e = absurd (true≢false (rw (p, q) at e))

-- test 8 by words: v is the word of the transition t
pub word_stood : (w v : ℕ) (t : Transition) → TransitionWord w → TransitionWord v → is_fast t.manner ≡ eqb (kind v) 7 → t.from ≡ from_field v
    → t.to ≡ to_field v → eqb w v ≡ same_transition (eqb (kind w) 7) (from_field w) (to_field w) t
word_stood w v t here there kind_is from_is to_is =
    both_ways (eqb w v) (same_transition (eqb (kind w) 7) (from_field w) (to_field w) t) onto back
  where
    onto : eqb w v ≡ true → same_transition (eqb (kind w) 7) (from_field w) (to_field w) t ≡ true
    onto e =
        rw (eqb-true w v e, kind_is, same_test_self (eqb (kind v) 7), eq-eqb t.from (from_field v) from_is, eq-eqb t.to (to_field v) to_is)

    back : same_transition (eqb (kind w) 7) (from_field w) (to_field w) t ≡ true → eqb w v ≡ true
    back e =
        let (fast-same, ends_same) = both (same_test (eqb (kind w) 7) (is_fast t.manner)) _ e in
        let (from-same, to_same) = both (eqb t.from (from_field w)) (eqb t.to (to_field w)) ends_same in
        let kinds = same_kind (kind w) (kind v) here.kind_is there.kind_is (same_test_eq _ _ fast-same ∙ kind_is) in
        let froms = sym (eqb-true t.from (from_field w) from-same) ∙ from_is in
        let tos = sym (eqb-true t.to (to_field w) to_same) ∙ to_is in
        eq-eqb w v (same_word w v here.below there.below kinds (here.rest ∙ sym there.rest) froms tos)
