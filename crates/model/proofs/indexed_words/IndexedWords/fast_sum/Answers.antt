-- `model::indexed_words::IndexedWords::fast_sum` meets its contract: a running sum over the exits. Assumes nothing.
use Rattle.std.proofs.Common.{◌≡◌, ◌<◌, ◌≤◌, sym, ap, ◌∙◌, arith, ℕ, ◌+◌, ◌-◌, ◌*◌, ◌^◌, ◌∷◌, List, get_or, drop}
use borrow.Author.Tests.{eqb-true, eqb-false}
use Rattle.word.specs.Words.{kind, coefficient_field, scale_field}
use Rattle.word.proofs.Parts.{part_word}
use Rattle.model.specs.Index.{exit_count, place_of, transition_at}
use Rattle.model.specs.Internal.Parts.{slot_place, slot_transitions}
use Rattle.model.proofs.Along.{along_turn, along_none}
use Rattle.model.proofs.Slots.{exits_slot}
use Rattle.model.proofs.Units.{Summed, summed_fast_word, summed_slow_word, summed_all}
use Rattle.model.proofs.indexed_words.IndexedWords.fast_sum.Invariants.{rest}
use Rattle.model.proofs.indexed_words.IndexedWords.fast_sum.Goals as goal
use Rattle.model.proofs.indexed_words.IndexedWords.fast_sum.Goals.{then-is_fast, else-is_fast}

pub loop-j-preserved : goal.loop-j-preserved
loop-j-preserved c =
    let i = c.loop-j.j-index in
    let more : i < exit_count c.args.self.index.now c.args.s = omega (arith, c.loop-j-test.true, c.exits-j-items.ensures.len (c.args.self.leads c.args.s c.requires).few) in
    let at_is : c.place_of-at.result ≡ slot_place c.args.self.index.now c.args.s i = c.place_of-at.ensures.0 ∙ ap (place_of c.args.self.index.now)
    (c.from.ensures ∙ ap (λ (l : List ℕ). get_or l i 0) c.exits-j-items.ensures.value ∙ exits_slot c.args.self.index.now c.args.s i more) in
    let turn : Summed (slot_transitions c.args.self.words.now c.args.self.index.now c.args.s)
    (transition_at (drop c.place_of-at.result c.args.self.words.now) ∷ rest c.args.self.words.now c.args.self.index.now c.args.s (i + 1)) i c.loop-j.sum =
    rw at_is (rw (along_turn _ (exit_count c.args.self.index.now c.args.s) i more) at c.loop-j.invariant) in
    let word_is = c.word_at.ensures ∙ part_word c.args.self.words.now c.place_of-at.result in
    elim c.if-is_fast.branch [
      | then-is_fast w ↦ rw (w.sum-is, w.unwrap_or.ensures) (summed_fast_word c.args.self.words.now c.place_of-at.result _ _ i c.loop-j.sum turn
          (ap kind (sym word_is) ∙ eqb-true _ 7 (sym c.is_fast.ensures ∙ w.if-is_fast.true)) w.units.result
          (w.units.ensures.value ∙ ap (λ x. coefficient_field x * 10 ^ (12 - scale_field x)) (part_word c.args.self.words.now (c.place_of-at.result + 3)))
          w.units.ensures.upper_bound)
      | else-is_fast w ↦ rw w.sum-is (summed_slow_word c.args.self.words.now c.place_of-at.result _ _ i c.loop-j.sum turn
          (λ e. eqb-false _ 7 (sym c.is_fast.ensures ∙ w.if-is_fast.false) (ap kind word_is ∙ e)))
    ]

pub returns : goal.returns
returns c =
    let none : exit_count c.args.self.index.now c.args.s ≤ c.loop-j.j-index = omega (arith, c.loop-j-test.false, c.exits-j-items.ensures.len (c.args.self.leads c.args.s c.requires).few) in
    summed_all _ c.loop-j.j-index c.loop-j.sum (rw (along_none _ (exit_count c.args.self.index.now c.args.s) c.loop-j.j-index none) at c.loop-j.invariant)
