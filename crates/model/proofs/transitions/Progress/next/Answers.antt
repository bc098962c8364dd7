-- `model::transitions::Progress::next` meets its contract. Assumes nothing.
use Rattle.std.proofs.Common.{◌∙◌}
use Rattle.word.proofs.KindNumbers.{neither_transition_nor_end}
use Rattle.model.proofs.Turn.{turn_other}
use Rattle.model.proofs.transitions.Progress.next.Goals as goal

pub returns-in_default : goal.returns-in_default
returns-in_default c =
    let no = neither_transition_nor_end _ c.in_default.not-SlowTransition c.in_default.not-FastTransition c.in_default.not-End c.of.ensures.other in
    turn_other _ _ _ _ _ c.requires c.args.self.now.inside
    (λ e. no.0 (c.of.ensures.number ∙ e)) (λ e. no.1 (c.of.ensures.number ∙ e)) (λ e. no.2 (c.of.ensures.number ∙ e))
