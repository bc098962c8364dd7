-- `lower` meets its contract: the lower follows from the stem, which leaves every figure on the way in range, and the stem that was kept is that of every
-- slow exit. Assumes nothing.
use mathlib.Core.Path.{sym, ◌∙◌}
use Rattle.path.proofs.DeathStems.{operands, death_at}
use Rattle.path.proofs.DeathCache.{cached_some, slow_stem_for}
use Rattle.path.proofs.deaths.Cache.lower.Goals as goal

pub lower_of-requires : goal.lower_of-requires
lower_of-requires c =
    let share = rw c.from-j.ensures at c.share-share.ensures in let factor = rw c.from-j.ensures at c.factor-factor.ensures in
    operands c.args.walked.now.prepared.now.filled c.requires.last_step.0 _ c.new_stem-stem.ensures.stem_sized share factor c.requires.last_step.1

pub returns-then-not-is_slow-clause-lower_value : goal.returns-then-not-is_slow-clause-lower_value
returns-then-not-is_slow-clause-lower_value c =
    let h = c.requires.last_step.0 in let share = rw c.from-j.ensures at c.share-share.ensures in
    let factor = rw c.from-j.ensures at c.factor-factor.ensures in
    death_at c.args.walked.now.prepared.now.filled h c.new_stem-stem.ensures.stem_is share factor c.requires.last_step.1 c.lower_of.ensures

pub lower_of-requires-in-Some : goal.lower_of-requires-in-Some
lower_of-requires-in-Some c =
    let share = rw c.from-j.ensures at c.share-share.ensures in let factor = rw c.from-j.ensures at c.factor-factor.ensures in
    operands c.args.walked.now.prepared.now.filled c.requires.last_step.0 _ (c.requires.cached.sized _ c.in-Some.is) share factor c.requires.last_step.1

pub lower_of-requires-in-None : goal.lower_of-requires-in-None
lower_of-requires-in-None c =
    let share = rw c.from-j.ensures at c.share-share.ensures in let factor = rw c.from-j.ensures at c.factor-factor.ensures in
    operands c.args.walked.now.prepared.now.filled c.requires.last_step.0 _ c.new_stem-stem-in-None.ensures.stem_sized share factor c.requires.last_step.1

pub returns-in-Some-clause-lower_value : goal.returns-in-Some-clause-lower_value
returns-in-Some-clause-lower_value c =
    let h = c.requires.last_step.0 in let share = rw c.from-j.ensures at c.share-share.ensures in
    let factor = rw c.from-j.ensures at c.factor-factor.ensures in
    death_at c.args.walked.now.prepared.now.filled h (c.requires.cached.stem_is _ c.in-Some.is ∙ sym (slow_stem_for h c.is_slow.ensures c.if-not-is_slow.false)) share factor c.requires.last_step.1 c.lower_of-in-Some.ensures

pub returns-in-None-clause-lower_value : goal.returns-in-None-clause-lower_value
returns-in-None-clause-lower_value c =
    let h = c.requires.last_step.0 in let share = rw c.from-j.ensures at c.share-share.ensures in
    let factor = rw c.from-j.ensures at c.factor-factor.ensures in
    death_at c.args.walked.now.prepared.now.filled h c.new_stem-stem-in-None.ensures.stem_is share factor c.requires.last_step.1 c.lower_of-in-None.ensures

pub returns-in-None-clause-cached_still : goal.returns-in-None-clause-cached_still
returns-in-None-clause-cached_still c =
    let h = c.requires.last_step.0 in
    cached_some (c.new_stem-stem-in-None.ensures.stem_is ∙ slow_stem_for h c.is_slow.ensures c.if-not-is_slow.false) c.new_stem-stem-in-None.ensures.stem_sized
