-- `model::read` meets its contract: the first of the tests that holds is the definition's. Assumes nothing.
use Rattle.std.proofs.Common.{refl}
use Rattle.std.proofs.lemmas.Result.{err_from_is_err_and}
use Rattle.model.proofs.Refusals.{read_bad_word}
use Rattle.model.proofs.read.Goals as goal

pub returns-in_err-called : goal.returns-in_err-called
returns-in_err-called c =
    let p = err_from_is_err_and c.from_residual.result c.from_residual.ensures.1 in
    rw (p.1, p.2) (record { words_unchanged = refl; answer = record { reads = c.in_err-called.ensures } })

pub returns-in_err-a : goal.returns-in_err-a
returns-in_err-a c =
    let p = err_from_is_err_and c.from_residual-in_err-a.result c.from_residual-in_err-a.ensures.1 in
    rw (p.1, p.2) (record { words_unchanged = refl; answer = record { reads = read_bad_word _ _ c.in_ok-called.ensures _ _ c.in_err-a.ensures } })

pub returns-in_err-first : goal.returns-in_err-first
returns-in_err-first c =
    let p = err_from_is_err_and c.from_residual-in_err-first.result c.from_residual-in_err-first.ensures.1 in
    rw (p.1, p.2) (record { words_unchanged = refl; answer = record { reads = read_bad_word _ _ c.in_ok-called.ensures _ _ c.in_err-first.ensures } })

pub returns-in_err-list : goal.returns-in_err-list
returns-in_err-list c =
    let p = err_from_is_err_and c.from_residual-in_err-list.result c.from_residual-in_err-list.ensures.1 in
    rw (p.1, p.2) (record { words_unchanged = refl; answer = record { reads = read_bad_word _ _ c.in_ok-called.ensures _ _ c.in_err-list.ensures } })

pub returns : goal.returns
returns c = record { words_unchanged = refl; answer = c.concluded.ensures c.args.budget c.in_ok-called.ensures }
