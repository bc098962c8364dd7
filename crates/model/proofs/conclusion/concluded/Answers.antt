-- `model::conclusion::concluded` meets its contract. Assumes nothing.
use Rattle.std.proofs.Common.{sym, ◌∙◌, arith}
use Rattle.std.proofs.lemmas.Result.{err_from_is_err_and}
use borrow.Author.Tests.{eqb-true, not-false}
use Rattle.model.proofs.Filled.{leads}
use Rattle.model.proofs.Concluding.{states_small, start_small}
use Rattle.model.proofs.Concluding.{concludes_uneven, concludes_leading_on, concludes_stuck, concludes_accepted}
use Rattle.model.proofs.conclusion.concluded.Goals as goal

pub invariant_of-exits : goal.invariant_of-exits
invariant_of-exits c = record { leads = leads _ _ _ _ c.requires }

pub lowest_uneven-requires : goal.lowest_uneven-requires
lowest_uneven-requires c = states_small _ _ _ c.requires

pub returns-in-Some : goal.returns-in-Some
returns-in-Some c = concludes_uneven _ _ _ c.requires _ c.in-Some.ensures

pub lowest_leading_on-requires : goal.lowest_leading_on-requires
lowest_leading_on-requires c = states_small _ _ _ c.requires

pub returns-in-Some-lowest_leading_on : goal.returns-in-Some-lowest_leading_on
returns-in-Some-lowest_leading_on c = concludes_leading_on _ _ _ c.requires c.in_default.ensures _ c.in-Some-lowest_leading_on.ensures

pub exit_count-goes_on-requires : goal.exit_count-goes_on-requires
exit_count-goes_on-requires c = start_small _ _ _ c.requires

pub returns-in_err-ensure : goal.returns-in_err-ensure
returns-in_err-ensure c =
    let p = err_from_is_err_and c.from_residual.result c.from_residual.ensures.1 in
    rw (p.1, p.2, c.in_err-ensure.ensures.1)
    (concludes_stuck _ _ _ c.requires c.in_default.ensures c.in_default-lowest_leading_on.ensures
    (sym c.exit_count-goes_on.ensures.0 ∙ eqb-true _ _ (not-false _ c.in_err-ensure.ensures.0)))

pub returns : goal.returns
returns c =
    concludes_accepted _ _ _ c.requires c.in_default.ensures c.in_default-lowest_leading_on.ensures
    (λ e. grind (arith, c.exit_count-goes_on.ensures.0, c.in_ok-ensure.ensures))
