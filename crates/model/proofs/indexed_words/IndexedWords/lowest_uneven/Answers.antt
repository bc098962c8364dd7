-- `model::indexed_words::IndexedWords::lowest_uneven` meets its contract. Assumes nothing.
use Rattle.std.proofs.Common.{◌≡◌, true, false, rules}
use Rattle.std.proofs.lemmas.Iterator.{first_from_Range}
use Rattle.model.specs.Internal.Parts.{uneven_by}
use Rattle.model.proofs.Stopping.{lowest_of_range}
use Rattle.model.proofs.indexed_words.IndexedWords.lowest_uneven.Goals as goal

pub returns : goal.returns
returns c =
    let test = uneven_by c.args.self.words.now c.args.self.index.now in
    lowest_of_range test _ _ (first_from_Range _ _ _ _ (λ s. test s ≡ true) (λ s. test s ≡ false) c.find.ensures.ran
    (λ x q k. search rules) (λ x q k. (search rules, search rules)))
