-- `add_row` meets its contract. Assumes nothing.
use Rattle.std.proofs.Common.{refl, arith, add-one, rules, length, ◌≡◌, ◌<◌}
use lib.Seq.{take-suc-set}
use Rattle.rows.specs.Internal.Table.{totals_in}
use Rattle.rows.proofs.table.RowTable.add_row.Goals as goal

pub returns : goal.returns
unfolding totals_in
returns c =
    let size : length c.args.self.now.states ≡ 1000 = search rules in
    let inside : c.args.self.now.count < length c.args.self.now.states = omega (arith, size, c.requires.0) in
    record {
      count_is = refl;
      names_are = rw add-one (take-suc-set c.args.self.now.states c.args.self.now.count c.args.state inside);
      totals_kept = λ h.
          record { lower_is = h.lower_is; death_is = h.death_is; cut_is = h.cut_is; rows_are = h.rows_are; marks_are = h.marks_are };
    }
