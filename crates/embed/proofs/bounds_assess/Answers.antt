-- `bounds_assess` meets its contract: the numbers are those of the answer. Assumes nothing.
use Rattle.embed.proofs.Exports.{assessed}
use Rattle.embed.proofs.bounds_assess.Goals as goal

pub returns : goal.returns
returns c = assessed _ c.unreliability.ensures c.put_answer.ensures
