-- A part of the words that begins at a transition: what its words are, and the figures that are read from them. Assumes nothing.
use Prim.Native.Nat.{ℕ, ◌-◌, ◌<◌}
use mathlib.Core.Path.{◌≡◌, refl, sym, ap, ◌∙◌}
use mathlib.Core.Bool.{true, false}
use mathlib.Core.List.{List}
use native.Mathlib.Omega.{arith}
use lib.Dec.{eqb, lit≤}
use lib.ListN.{length, get_or, take, drop}
use borrow.Author.Tests.{eqb-true}
use Rattle.figure.specs.declared.Rounded.{Rounded}
use Rattle.figure.specs.Operands.{Sized}
use Rattle.figure.proofs.Sized.{sized-≤}
use Rattle.word.specs.declared.Quantity.{Quantity}
use Rattle.word.specs.Model.{Manner, slow, fast, Transition}
use Rattle.word.specs.Words.{kind, from_field, coefficient_field, quantity}
use Rattle.model.specs.Index.{transition_at}
use Rattle.model.specs.Internal.Valid.{InRange, ValidManner}
use Rattle.word.proofs.Parts.{part_word}
use Rattle.model.proofs.Slots.{fast_at, slow_at, stands_from, stands_inside_fast}
use Rattle.tree.specs.States.{figure_of}
use Rattle.tree.proofs.Ranges.{quantity_sized}
use Rattle.tables.specs.Internal.Described.{StandsFirst}
use Rattle.tables.specs.declared.manner.Manner.{Manner as Coded}
use Rattle.tables.specs.declared.manner.Manner.TheVariants.{Slow, Fast}
use Rattle.tables.specs.declared.manner.Spread.{Spread}
use Rattle.tables.specs.Internal.Manners.{SpreadSized, manner_of}
use Rattle.tables.specs.Internal.Told.{exact}

-- the words from a place on
abbrev pub part_at : List ℕ → ℕ → List ℕ
part_at ws place = take (length ws - place) (drop place ws)

-- the first of them
abbrev pub word_from : List ℕ → ℕ → ℕ
word_from part k = get_or (part_at part k) 0 0

-- a fast exit and its figures
pub record FastRead (x : Manner) (e : Spread) : Type 0 where
  pub mean : Quantity
  pub deviation : Quantity
  pub probability : Quantity
  pub manner : x ≡ fast mean deviation probability
  pub is : e ≡ record { mean = exact (figure_of mean); deviation = exact (figure_of deviation); probability = exact (figure_of probability) }

-- a slow exit and its figure
pub record SlowRead (x : Manner) (r : Rounded) : Type 0 where
  pub rate : Quantity
  pub manner : x ≡ slow rate
  pub is : r ≡ exact (figure_of rate)

-- ---- by what the code has made of it

pub fast_case : (x : Manner) {e : Spread} → Fast e ≡ manner_of x → FastRead x e
fast_case (slow r) h = absurd (cc)
fast_case (fast m d q) h = record { mean = m; deviation = d; probability = q; manner = refl; is = cc }

pub slow_case : (x : Manner) {r : Rounded} → Slow r ≡ manner_of x → SlowRead x r
slow_case (slow q) h = record { rate = q; manner = refl; is = cc }
slow_case (fast m d q) h = absurd (cc)

pub spread_sized : {x : Manner} {e : Spread} → ValidManner x → FastRead x e → SpreadSized 40 e
unfolding ValidManner
spread_sized v f =
    let w = rw f.manner at v in
    rw f.is (record {
      mean = quantity_sized w.0;
      deviation = quantity_sized w.1.0;
      probability = sized-≤ (lit≤ tt) (quantity_sized w.1.1);
    })

pub rate_sized : {x : Manner} {r : Rounded} → ValidManner x → SlowRead x r → Sized 9 40 r.figure
unfolding ValidManner
rate_sized v f = let w = rw f.manner at v in rw f.is (quantity_sized w)

-- ---- in a part of the words

low_coefficient : {a b : ℕ} (w : ℕ) → InRange a b (quantity w) → coefficient_field w < 1000000
low_coefficient w h = omega (arith, h.high)

module _ {part : List ℕ} (first : StandsFirst part) where
  pub first_valid : ValidManner (transition_at part).manner
  first_valid = rw first.stands.reads first.valid

  -- the state that it leaves, by its word
  pub first_from : from_field (get_or part 0 0) ≡ (transition_at part).from
  first_from = stands_from first.stands ∙ ap (λ (u : Transition). u.from) (sym first.stands.reads)

  module _ (test : eqb (kind (get_or part 0 0)) 7 ≡ true) where
    fast_valid : InRange 1 20 (quantity (get_or part 1 0)) × (InRange 0 20 (quantity (get_or part 2 0)) × InRange 1 12 (quantity (get_or part 3 0)))
    unfolding ValidManner
    fast_valid = rw (fast_at part test) at first_valid

    pub first_long_fast : 3 < length part
    first_long_fast = stands_inside_fast first.stands (eqb-true (kind (get_or part 0 0)) 7 test)

    pub fast_1 : coefficient_field (word_from part 1) < 1000000
    fast_1 = rw (part_word part 1) (low_coefficient (get_or part 1 0) fast_valid.0)

    pub fast_2 : coefficient_field (word_from part 2) < 1000000
    fast_2 = rw (part_word part 2) (low_coefficient (get_or part 2 0) fast_valid.1.0)

    pub fast_3 : coefficient_field (word_from part 3) < 1000000
    fast_3 = rw (part_word part 3) (low_coefficient (get_or part 3 0) fast_valid.1.1)

    pub fast_is : {m d q : Rounded} → m ≡ exact (figure_of (quantity (word_from part 1))) → d ≡ exact (figure_of (quantity (word_from part 2)))
        → q ≡ exact (figure_of (quantity (word_from part 3)))
        → ◌≡◌ {A = Coded} (Fast (record { mean = m; deviation = d; probability = q })) (manner_of (transition_at part).manner)
    fast_is a b c = rw (fast_at part test, a, b, c, part_word part 1, part_word part 2, part_word part 3)

  module _ (test : eqb (kind (get_or part 0 0)) 7 ≡ false) where
    slow_valid : InRange 1 20 (quantity (get_or part 1 0))
    unfolding ValidManner
    slow_valid = rw (slow_at part test) at first_valid

    pub slow_1 : coefficient_field (word_from part 1) < 1000000
    slow_1 = rw (part_word part 1) (low_coefficient (get_or part 1 0) slow_valid)

    pub slow_is : {r : Rounded} → r ≡ exact (figure_of (quantity (word_from part 1)))
        → ◌≡◌ {A = Coded} (Slow r) (manner_of (transition_at part).manner)
    slow_is a = rw (slow_at part test, a, part_word part 1)
