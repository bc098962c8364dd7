-- `model::named::name_states` meets its contract: the words up to 4 + `count` are read, with the flags of the states that they name. Assumes nothing.
use Rattle.std.proofs.Common.{refl, sym, ◌∙◌, arith, ◌≡◌, ◌+◌, length, length-drop}
use Rattle.std.proofs.lemmas.Result.{err_from_is_err_and}
use native.Mathlib.Nat.{add_assoc}
use lib.ListN.{get_or-eq_default}
use borrow.Author.Tests.{eqb-true, eqb-false}
use Rattle.word.proofs.Parts.{part_from, part_at}
use Rattle.model.proofs.Naming.{naming_begins, name_stops, state_small, name_passes, naming_ends}
use Rattle.model.proofs.named.name_states.Goals as goal

pub loop-count-init : goal.loop-count-init
loop-count-init c = naming_begins _ _ _ c.requires.opened c.clear.ensures

pub returns-then-not-is_of : goal.returns-then-not-is_of
returns-then-not-is_of c =
    naming_ends _ _ _ _ _ _ c.loop-count.invariant _ (part_at c.args.words.now 4 c.loop-count.count)
    (eqb-false _ _ (sym c.is_of.ensures ∙ c.if-not-is_of.true))

pub returns-in_err-named : goal.returns-in_err-named
returns-in_err-named c =
    let p = err_from_is_err_and c.from_residual.result c.from_residual.ensures.1 in
    rw (p.1, p.2) (name_stops _ _ _ _ _ _ c.loop-count.invariant _ (part_at c.args.words.now 4 c.loop-count.count)
    (eqb-true _ _ (sym c.is_of.ensures ∙ c.if-not-is_of.false)) _ refl _ _ (sym c.in_err-named.ensures))

pub name-requires : goal.name-requires
name-requires c =
    rw c.named_state-last.ensures.value (state_small _ _ _ _ _ _ c.loop-count.invariant _ (part_at c.args.words.now 4 c.loop-count.count)
    (eqb-true _ _ (sym c.is_of.ensures ∙ c.if-not-is_of.false)) _ refl (sym c.in_ok-named.ensures))

pub loop-count-preserved : goal.loop-count-preserved
loop-count-preserved c =
    rw (← add_assoc 4 c.loop-count.count 1, c.named_state-last.ensures.value) (name_passes _ _ _ _ _ _ c.loop-count.invariant _
    (part_at c.args.words.now 4 c.loop-count.count) (eqb-true _ _ (sym c.is_of.ensures ∙ c.if-not-is_of.false)) _ refl (sym c.in_ok-named.ensures) _
    (rw c.named_state-last.ensures.value at c.name.ensures))

pub returns : goal.returns
returns c =
    let behind : 4 + c.loop-count.count ≡ length c.args.words.now =
    omega (arith, rw (part_from, length-drop) at c.loop-count-test.false, c.loop-count.invariant.inside) in
    rw behind at (naming_ends _ _ _ _ _ _ c.loop-count.invariant 0 (sym (get_or-eq_default c.args.words.now 0 (omega arith))) (λ e. omega arith))
