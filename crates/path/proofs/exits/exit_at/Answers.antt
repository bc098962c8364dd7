-- `exit_at` meets its contract. Assumes nothing.
use mathlib.Core.Bool.{true}
use mathlib.Core.Path.{refl}
use native.Mathlib.Omega.{arith}
use Rattle.path.proofs.ExitReading.{state_small, time_sized, mean_sized, exit_inside, exit_share_sized, exit_of}
use Rattle.path.proofs.ExitTips.{divisor, tip_made}
use Rattle.path.proofs.exits.exit_at.Goals as goal

pub offset_bounds-prepared-tip : goal.offset_bounds-prepared-tip
offset_bounds-prepared-tip c = omega (arith, state_small c.args.prepared.now.filled c.args.prepared.now.time_is c.requires.0)

pub bounds-prepared-tip : goal.bounds-prepared-tip
bounds-prepared-tip c = omega (arith, state_small c.args.prepared.now.filled c.args.prepared.now.time_is c.requires.0)

pub share-share-requires : goal.share-share-requires
share-share-requires c = exit_inside c.args.prepared.now.filled c.args.prepared.now.time_is c.requires.0 c.from-j.ensures

pub further-requires : goal.further-requires
further-requires c =
    let filled = c.args.prepared.now.filled in let time_is = c.args.prepared.now.time_is in let h = c.requires.0 in
    let d = divisor _ (omega arith) (omega (arith, h.ones)) c.requires.1 in (
      h.upper,
      exit_share_sized filled time_is h c.from-j.ensures c.share-share.ensures,
      mean_sized filled time_is h c.figure-mean.ensures,
      time_sized filled time_is h,
      d.0,
      d.1,
    )

pub returns : goal.returns
returns c =
    exit_of c.args.prepared.now.filled c.args.prepared.now.time_is c.requires.0 c.from-j.ensures c.word_of-w.ensures refl
    c.is_fast.ensures c.of-class.ensures c.to.ensures.value c.share-share.ensures c.figure-mean.ensures
    (tip_made _ _ _ _ _ _ c.requires.1 (c.further.ensures _ _ _ _ _ true true refl refl refl refl refl) c.counts_1.ensures.0)
