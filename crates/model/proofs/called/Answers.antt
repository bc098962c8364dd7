-- `model::called` meets its contract. Assumes nothing.
use Rattle.std.proofs.lemmas.Result.{err_from_is_err_and, MatchResult-weaker}
use Rattle.std.proofs.Common.{rules}
use borrow.Author.Tests.{leb-true, leb-false}
use Rattle.model.proofs.Refusals.{read_too_long, read_bad_budget}
use Rattle.model.proofs.called.Goals as goal

pub returns-in_err-ensure : goal.returns-in_err-ensure
returns-in_err-ensure c =
    let p = err_from_is_err_and c.from_residual.result c.from_residual.ensures.1 in
    rw (p.1, p.2, c.in_err-ensure.ensures.1) (read_too_long _ _ (leb-false _ _ c.in_err-ensure.ensures.0))

pub returns : goal.returns
returns c =
    let few = leb-true _ _ c.in_ok-ensure.ensures in
    MatchResult-weaker c.ensure-2.result c.ensure-2.ensures
    (λ x h. record { words_few = few; budget_low = search rules; budget_high = search rules })
    (λ f h. rw h.1 (read_bad_budget _ _ few (search rules)))
