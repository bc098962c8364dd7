-- `Table::empty` meets its contract: the derived defaults are the entries without a bit. Assumes nothing.
use Rattle.std.specs.Prelude.{replicate}
use Rattle.tables.proofs.table.Table.empty.Goals as goal

pub returns : goal.returns
returns c =
    let s = c.default.ensures in
    let t = c.default-2.ensures in
    λ i. record {
      states = replicate 1001 (record {
        rate = record { bits = s.0 i };
        mean_up = record { bits = s.1.0 i };
        mean_down = record { bits = s.1.1.0 i };
        moment = record { bits = s.1.1.1 i };
      });
      steps = replicate 4000 (record { share = record { bits = t.0 i }; factor = record { bits = t.1.0 i }; grains = record { bits = t.1.1 i } });
    }
