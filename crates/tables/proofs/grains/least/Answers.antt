-- `grains::least` meets its contract. The loop's invariant: no number below n will do; the measure is what is left up to 1,000,000. Assumes
-- nothing.
use native.Mathlib.Omega.{arith}
use lib.Dec.{lit≤}
use Rattle.tables.proofs.Search.{searched_from, searched_next, searched_all, searched_found}
use Rattle.tables.proofs.grains.least.Goals as goal

pub overflow_add-n : goal.overflow_add-n
overflow_add-n c = omega (arith, c.close_below-n.ensures.bounded)

pub loop-n-init : goal.loop-n-init
loop-n-init c = searched_from c.close_below-n.result c.close_below-n.ensures

pub loop-n-preserved : goal.loop-n-preserved
loop-n-preserved c = searched_next c.loop-n.invariant c.if-n-ge1000000.false (rw c.of.ensures at c.if-c-of.false)

pub returns-then-n-ge1000000 : goal.returns-then-n-ge1000000
returns-then-n-ge1000000 c =
    record {
      value = searched_all c.args.power c.args.g c.ceiling-c.result c.ceiling-c.ensures c.loop-n.n c.loop-n.invariant c.if-n-ge1000000.true;
      upper_bound = lit≤ tt;
    }

pub returns-then-c-of : goal.returns-then-c-of
returns-then-c-of c =
    record {
      value = searched_found c.args.power c.args.g c.ceiling-c.result c.ceiling-c.ensures c.loop-n.n c.loop-n.invariant c.if-n-ge1000000.false
          (rw c.of.ensures at c.if-c-of.true);
      upper_bound = c.loop-n.invariant.high;
    }
