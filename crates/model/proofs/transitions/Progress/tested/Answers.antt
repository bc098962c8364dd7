-- `model::transitions::Progress::tested` meets its contract. Assumes nothing.
use Rattle.std.proofs.Common.{sym, ◌∙◌, arith, ◌<◌, get_or}
use Rattle.std.proofs.lemmas.Result.{err_from_is_err_and}
use Rattle.model.proofs.Filled.{leads}
use Rattle.model.proofs.Turn.{fields_stop, from_small, room_stop, tested_is}
use Rattle.model.proofs.transitions.Progress.tested.Goals as goal

pub returns-in_err-transition : goal.returns-in_err-transition
returns-in_err-transition c =
    let p = err_from_is_err_and c.from_residual.result c.from_residual.ensures.1 in
    rw (p.1, p.2) (fields_stop _ _ _ _ _ c.args.self.now.inside c.requires _ _ (sym c.in_err-transition.ensures))

pub invariant_of-exits : goal.invariant_of-exits
invariant_of-exits c = record { leads = leads _ _ _ _ c.requires.begun }

pub room-requires : goal.room-requires
room-requires c =
    let small : get_or c.args.self.now.words.now c.args.self.now.at 0 < 4294967296 = omega arith in
    from_small _ _ _ _ _ c.args.self.now.inside c.requires small (sym c.in_ok-transition.ensures)

pub returns-in_err-room : goal.returns-in_err-room
returns-in_err-room c =
    let p = err_from_is_err_and c.from_residual-in_err-room.result c.from_residual-in_err-room.ensures.1 in
    let small : get_or c.args.self.now.words.now c.args.self.now.at 0 < 4294967296 = omega arith in
    rw (p.1, p.2) (room_stop _ _ _ _ _ c.args.self.now.inside c.requires small (sym c.in_ok-transition.ensures) _ _ (sym c.in_err-room.ensures))

pub returns-then-is_fast : goal.returns-then-is_fast
returns-then-is_fast c =
    let small : get_or c.args.self.now.words.now c.args.self.now.at 0 < 4294967296 = omega arith in
    tested_is _ _ _ _ _ c.args.self.now.inside c.requires small (sym c.in_ok-transition.ensures) (sym c.in_ok-room.ensures) c.spread.result
    (c.spread.ensures ∙ rw (sym c.is_fast.ensures, c.if-is_fast.true))

pub returns-else-is_fast : goal.returns-else-is_fast
returns-else-is_fast c =
    let small : get_or c.args.self.now.words.now c.args.self.now.at 0 < 4294967296 = omega arith in
    tested_is _ _ _ _ _ c.args.self.now.inside c.requires small (sym c.in_ok-transition.ensures) (sym c.in_ok-room.ensures) c.rate.result
    (c.rate.ensures ∙ rw (sym c.is_fast.ensures, c.if-is_fast.false))
