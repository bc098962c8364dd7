-- `name_rows` meets its contract: each turn lists the state s if it has a row. Assumes nothing.
use Rattle.std.proofs.Common.{arith, sym, ◌∙◌, ◌≡◌, ◌+◌, ◌-◌, suc}
use Rattle.tables.specs.Internal.Described.{described}
use Rattle.tables.proofs.Summaries.{states_few, states_are, transitions_are}
use Rattle.rows.proofs.RowNames.{naming_none, naming_more, naming_same, named}
use Rattle.rows.proofs.names.name_rows.Goals as goal
use Rattle.rows.proofs.names.name_rows.Goals.{then-has_row, else-has_row}

pub transition_count-requires : goal.transition_count-requires
transition_count-requires c = states_few c.args.model.indexes c.args.model.accepted_is

pub targets-targets-requires : goal.targets-targets-requires
targets-targets-requires c = transitions_are c.args.model.indexes c.args.model.accepted_is c.transition_count.ensures

pub loop-s-init : goal.loop-s-init
loop-s-init c = (omega arith, naming_none c.empty.ensures)

pub loop-s-preserved : goal.loop-s-preserved
loop-s-preserved c =
    let back : c.loop-s.s ≡ suc (c.loop-s.s - 1) = omega arith in
    let next : c.loop-s.s + 1 - 1 ≡ c.loop-s.s = omega arith in (
      omega arith,
      rw next (elim c.if-has_row.branch [
        | then-has_row w ↦ rw w.table-is (naming_more c.loop-s.invariant.1 back (sym c.has_row.ensures ∙ w.if-has_row.true) w.add_row.ensures)
        | else-has_row w ↦ rw w.table-is (naming_same c.loop-s.invariant.1 back (sym c.has_row.ensures ∙ w.if-has_row.false))
      ]),
    )

pub returns-after-has_row : goal.returns-after-has_row
returns-after-has_row c =
    let all = rw (transitions_are c.args.model.indexes c.args.model.accepted_is c.transition_count.ensures) at c.targets-targets.ensures in
    let back : c.loop-s.s ≡ suc (c.loop-s.s - 1) = omega arith in
    let last : (described c.args.model.words.now).states ≡ c.loop-s.s = omega (arith, states_are c.args.model.indexes c.args.model.accepted_is) in
    named c.args.model.indexes all (rw last (elim c.if-has_row.branch [
      | then-has_row w ↦ rw w.table-is (naming_more c.loop-s.invariant.1 back (sym c.has_row.ensures ∙ w.if-has_row.true) w.add_row.ensures)
      | else-has_row w ↦ rw w.table-is (naming_same c.loop-s.invariant.1 back (sym c.has_row.ensures ∙ w.if-has_row.false))
    ]))

pub returns : goal.returns
returns c =
    let all = rw (transitions_are c.args.model.indexes c.args.model.accepted_is c.transition_count.ensures) at c.targets-targets.ensures in
    let last : (described c.args.model.words.now).states ≡ c.loop-s.s - 1 = omega (arith, states_are c.args.model.indexes c.args.model.accepted_is) in
    named c.args.model.indexes all (rw last c.loop-s.invariant.1)
