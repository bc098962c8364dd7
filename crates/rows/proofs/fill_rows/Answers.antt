-- `rows::fill_rows` meets its contract: each turn stores the next row. Assumes nothing.
use Rattle.std.proofs.Common.{arith, rules, length, ◌≡◌, ◌≤◌, ◌∙◌, ap, set}
use lib.Seq.{length-take-le}
use Rattle.rows.specs.Internal.Table.{named_states}
use Rattle.rows.proofs.RowsStored.{made_more, made_all}
use Rattle.rows.proofs.fill_rows.Goals as goal

pub loop-i-preserved : goal.loop-i-preserved
loop-i-preserved c =
    let size : length c.args.table.now.states ≡ 1000 = search rules in
    let room : length (named_states c.args.table.now) ≤ length c.args.rows.now = omega
    (arith, length-take-le c.args.table.now.count c.args.table.now.states (omega (arith, size, c.requires.few)), c.requires.room) in
    ap (λ rows. set rows c.loop-i.i c.row.result) c.loop-i.invariant ∙ made_more _ _ _ c.loop-i-test.true room c.row.ensures

pub returns : goal.returns
returns c = c.loop-i.invariant ∙ made_all _ _ _ (omega arith)
