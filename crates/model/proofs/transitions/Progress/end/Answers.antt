-- `model::transitions::Progress::end` meets its contract. Assumes nothing.
use Rattle.std.proofs.Common.{sym, ◌≡◌, drop}
use Rattle.std.proofs.lemmas.Result.{err_from_is_err_and, MatchResult-weaker}
use borrow.Author.Tests.{leb-true, leb-false}
use Rattle.word.specs.Faults.{end_faults}
use Rattle.word.specs.Answer.{granted}
use Rattle.word.specs.Internal.Tests.{word_answer}
use Rattle.word.proofs.Parts.{part_from}
use Rattle.model.proofs.TheEnd.{end_wrong, end_followed, end_last}
use Rattle.model.proofs.transitions.Progress.end.Goals as goal

pub returns-in_err-end : goal.returns-in_err-end
returns-in_err-end c =
    let p = err_from_is_err_and c.from_residual.result c.from_residual.ensures.1 in
    rw (p.1, p.2) (λ m fifteen. end_wrong c.args.self.now.words.now c.args.self.now.at c.args.self.now.inside m fifteen _ _ (rw part_from at (sym c.in_err-end.ensures.fault)))

pub returns : goal.returns
returns c = λ m fifteen.
    let fine : word_answer end_faults c.args.self.now.at (drop c.args.self.now.at c.args.self.now.words.now) ≡ granted tt = rw part_from at (sym c.in_ok-end.ensures.fault) in
    MatchResult-weaker c.ensure.result c.ensure.ensures
    (λ x h. end_last c.args.self.now.words.now c.args.self.now.at c.args.self.now.inside m fifteen fine (leb-true _ _ h))
    (λ f h. rw h.1 (end_followed c.args.self.now.words.now c.args.self.now.at c.args.self.now.inside m fifteen fine (leb-false _ _ h.0)))
