-- `note_death` meets its contract: the totals have one term more, the report's and those of the state. Assumes nothing.
use Rattle.std.proofs.Common.{refl, arith, rules, length, ◌≡◌}
use Rattle.rows.specs.Internal.Table.{totals_in}
use Rattle.rows.proofs.RowTotals.{totals_noted}
use Rattle.rows.proofs.table.RowTable.note_death.Goals as goal

pub with-self-requires : goal.with-self-requires
with-self-requires c = (record { lower = c.requires.1.lower; upper = c.requires.1.death }, c.requires.2, c.requires.3)

pub with-requires : goal.with-requires
unfolding totals_in
with-requires c =
    let row = c.requires.1.each_row c.args.s in
    (record { lower = row.lower; upper = row.upper }, c.requires.2, c.requires.3)

pub returns : goal.returns
returns c =
    let size : length c.args.self.now.by_state ≡ 1001 = search rules in
    record {
      lower_is = c.with-self.ensures.lower_is;
      death_is = c.with-self.ensures.upper_is;
      cut_same = refl;
      rows_are = totals_noted c.args.self.now _ (omega (arith, size, c.requires.0)) refl c.with.ensures;
      marks_same = refl;
      names_kept = record { count_same = refl; states_same = refl };
    }
