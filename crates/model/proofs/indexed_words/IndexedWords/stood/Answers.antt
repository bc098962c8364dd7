-- `model::indexed_words::IndexedWords::stood` meets its contract: it asks of each exit's word whether it is w. Assumes nothing.
use Rattle.std.proofs.Common.{◌≡◌, ◌<◌, ◌+◌, length, ℕ, ap, ◌∙◌, sym, get_or, arith, rules, tests}
use Rattle.std.proofs.iter.Serving.{serving}
use Rattle.std.proofs.lemmas.Iterator.{YieldsList-from_slice}
use Rattle.std.proofs.lemmas.Iterator.Search.{any_from_yields_List}
use native.Mathlib.Nat.{zero-add}
use lib.Dec.{eqb}
use Rattle.word.specs.Model.{any}
use Rattle.model.specs.Index.{place_of, exits_of, exit_count}
use Rattle.model.specs.Internal.Parts.{along, slot_place}
use Rattle.model.proofs.Along.{any_listed}
use Rattle.model.proofs.Slots.{items_slot}
use Rattle.model.proofs.indexed_words.IndexedWords.stood.Goals as goal

pub any-requires-clause-callable : goal.any-requires-clause-callable
any-requires-clause-callable c =
    let leads = c.args.self.leads c.args.s c.requires in
    let items = c.iter.result.rest.now in
    let same : items ≡ exits_of c.args.self.index.now c.args.s = cc in
    let count : length items ≡ exit_count c.args.self.index.now c.args.s = ap length c.iter.ensures.rest ∙ c.exits.ensures.len leads.few in
    let each : (k d : ℕ) → k < length items → (get_or items k d < 4000) × (place_of c.args.self.index.now (get_or items k d) < length c.args.self.words.now) =
    (λ k d h. let more : k < exit_count c.args.self.index.now c.args.s = omega arith in
    rw (items_slot c.args.self.index.now c.args.s items same count k d h) (leads.low k more, leads.inside k more)) in
    grind (arith, serving, each)

pub returns : goal.returns
returns c =
    let leads = c.args.self.leads c.args.s c.requires in
    let word : ℕ → ℕ = λ j. get_or c.args.self.words.now (place_of c.args.self.index.now j) 0 in
    let from_slot : ℕ → ℕ = λ i. get_or c.args.self.words.now (slot_place c.args.self.index.now c.args.s i) 0 in
    let items = c.exits.result.now in
    let each : (k : ℕ) → k < length items → from_slot (0 + k) ≡ word (get_or items k 0) =
    (λ k h. ap from_slot (zero-add k) ∙ sym (ap word (items_slot c.args.self.index.now c.args.s items c.exits.ensures.value (c.exits.ensures.len leads.few) k 0 h))) in
    any_from_yields_List (λ (j : ℕ). eqb c.args.w (word j)) _ _ _ c.any.ensures.ran (YieldsList-from_slice items cc) (λ x b q k. search (rules, tests))
    ∙ any_listed (eqb c.args.w) from_slot word items 0 each
    ∙ ap (λ (n : ℕ). any (eqb c.args.w) (along from_slot n 0)) (c.exits.ensures.len leads.few)
