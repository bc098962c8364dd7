-- `bounds_or` meets its contract: the numbers are those of the combination. Assumes nothing.
use Rattle.std.proofs.Common.{arith, rules, length, ◌≡◌, ◌<◌}
use Rattle.embed.proofs.Given.{or_answered, or_uncounted}
use Rattle.embed.proofs.bounds_or.Goals as goal
use Rattle.embed.proofs.bounds_or.Goals.{in-Some, in-None}

pub returns-clause-or_answered : goal.returns-clause-or_answered
returns-clause-or_answered c = elim c.match-get.branch [
  | in-Some w ↦
      let (from, to, part, long) = w.in-Some.ensures.lookup.0 in
      or_answered (omega (arith, long)) c.pairs_given-room.ensures part w.probabilistic_or-combined.ensures
      (rw w.combined-is at c.put_combined.ensures)
  | in-None w ↦
      let size : length c.pairs_given-room.result ≡ 16 = search rules in
      let long : 16 < c.args.pairs = omega (arith, w.in-None.ensures.lookup) in
      or_uncounted long (rw w.combined-is at c.put_combined.ensures)
]
