use Rattle.std.proofs.Common.{◌+◌}
use Rattle.model.specs.Internal.Parts.{NamedUpTo}
use Rattle.model.proofs.named.name_states.Given as goal

abbrev pub invariant-loop-count : goal.invariant-loop-count
invariant-loop-count l = NamedUpTo l.fn.a l.words (4 + l.count) l.last l.count l.index
