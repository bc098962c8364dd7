-- `spent_on` meets its contract. The loop's invariant: N', A and k are those of the path so far. Assumes nothing.
use native.Mathlib.Omega.{arith}
use lib.Dec.{lit≤}
use Rattle.figure.proofs.Sized.{sized-≤}
use Rattle.tables.specs.Internal.Described.{net_of}
use Rattle.path.proofs.PathSums.{path_more, known_take, entry_inside, grains_fit, rates_fine, ones_room, spent_start}
use Rattle.path.proofs.lower.spent_on.Goals as goal

pub loop-x-init : goal.loop-x-init
loop-x-init g c = spent_start g.A.Arithmetic.Is _ c.zero.ensures c.exact.ensures.mark_value

pub with_step-spent-requires : goal.with_step-spent-requires
with_step-spent-requires g c =
    let known = c.args.walked.now.known in let so_far = c.loop-x.invariant in
    let before = known_take c.loop-x.x-index known in
    record {
      leaves = record {
        inside = entry_inside known c.loop-x-test.true c.from-j.ensures;
        class_is = c.leaving.ensures.class_value;
        state_is = c.leaving.ensures.state_value;
      };
      room = (
        rw (g.met.A.Arithmetic.figure_is c.loop-x.spent.rates _ _ so_far.rates)
            (sized-≤ (lit≤ tt) (rates_fine c.args.walked.now.prepared.now.filled.indexes.valid before)),
        ones_room known c.loop-x-test.true so_far.ones,
        omega (arith, so_far.grains, grains_fit before),
      );
    }

pub loop-x-preserved : goal.loop-x-preserved
loop-x-preserved g c =
    rw (path_more (net_of c.args.walked.now.prepared.now.words.now) c.args.walked.now.path.now c.loop-x.x-index c.loop-x-test.true c.from-j.ensures)
    (c.with_step-spent.ensures _ c.loop-x.invariant)
