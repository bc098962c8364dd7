-- `stem_of` meets its contract: t, rounded, is worked out by operations on figures. Assumes nothing.
use mathlib.Core.Path.{◌≡◌}
use lib.Dec.{lit≤}
use Rattle.figure.specs.Rounding.{down}
use Rattle.figure.proofs.Sized.{sized-≤, times_up_sized, times_down_sized}
use Rattle.tree.specs.Lower.{remaining_time}
use Rattle.tables.specs.Internal.Described.{net_of}
use Rattle.path.specs.Internal.Deaths.{last_by}
use Rattle.path.proofs.DeathStems.{time_fine, rest_fine, down_is, up_is, keeps_is, down_fine, up_fine}
use Rattle.path.proofs.deaths.stem_of.Goals as goal

pub times-requires : goal.times-requires
times-requires g c =
    let valid = c.args.walked.now.prepared.now.filled.indexes.valid in let time_is = c.args.walked.now.prepared.now.time_is in let inside = c.if-spent-ge1000000.false in (
      rw c.exact-mission.ensures.figure_value (sized-≤ (lit≤ tt) (time_fine valid inside time_is c.of_whole.ensures)),
      rw c.exact-rest.ensures.figure_value
          (sized-≤ (lit≤ tt) (rest_fine valid inside time_is c.of_whole.ensures)),
    )

pub times_ten-requires : goal.times_ten-requires
times_ten-requires g c =
    let valid = c.args.walked.now.prepared.now.filled.indexes.valid in let time_is = c.args.walked.now.prepared.now.time_is in let inside = c.if-spent-ge1000000.false in (
      rw (c.times.ensures.figure_value, c.exact-mission.ensures.figure_value, c.exact-rest.ensures.figure_value)
          (sized-≤ (lit≤ tt) (times_down_sized (time_fine valid inside time_is c.of_whole.ensures) (rest_fine valid inside time_is c.of_whole.ensures))),
      lit≤ tt,
    )

pub times-requires-2 : goal.times-requires-2
times-requires-2 g c =
    let valid = c.args.walked.now.prepared.now.filled.indexes.valid in let time_is = c.args.walked.now.prepared.now.time_is in let inside = c.if-spent-ge1000000.false in (
      rw c.exact-mission.ensures.figure_value (sized-≤ (lit≤ tt) (time_fine valid inside time_is c.of_whole.ensures)),
      rw c.exact-rest.ensures.figure_value
          (sized-≤ (lit≤ tt) (rest_fine valid inside time_is c.of_whole.ensures)),
    )

pub times_ten-above-requires : goal.times_ten-above-requires
times_ten-above-requires g c =
    let valid = c.args.walked.now.prepared.now.filled.indexes.valid in let time_is = c.args.walked.now.prepared.now.time_is in let inside = c.if-spent-ge1000000.false in (
      rw (c.times-2.ensures.figure_value, c.exact-mission.ensures.figure_value, c.exact-rest.ensures.figure_value)
          (sized-≤ (lit≤ tt) (times_up_sized (time_fine valid inside time_is c.of_whole.ensures) (rest_fine valid inside time_is c.of_whole.ensures))),
      lit≤ tt,
    )

pub product-requires : goal.product-requires
product-requires g c =
    let valid = c.args.walked.now.prepared.now.filled.indexes.valid in let time_is = c.args.walked.now.prepared.now.time_is in let inside = c.if-spent-ge1000000.false in
    rw (
      c.figure-time.ensures,
      c.times_ten.ensures.figure_value,
      c.times.ensures.figure_value,
      c.exact-mission.ensures.figure_value,
      c.exact-rest.ensures.figure_value,
      down_is valid inside time_is c.of_whole.ensures,
    )
    (down_fine valid inside time_is c.of_whole.ensures)

pub last_factor-requires : goal.last_factor-requires
last_factor-requires g c =
    let valid = c.args.walked.now.prepared.now.filled.indexes.valid in let time_is = c.args.walked.now.prepared.now.time_is in let inside = c.if-spent-ge1000000.false in (
      rw (
        c.times_ten-above.ensures.figure_value,
        c.times-2.ensures.figure_value,
        c.exact-mission.ensures.figure_value,
        c.exact-rest.ensures.figure_value,
        up_is valid inside time_is c.of_whole.ensures,
      )
          (up_fine valid inside time_is c.of_whole.ensures),
      sized-≤ (lit≤ tt) c.requires.0,
      c.requires.1,
    )

pub returns : goal.returns
unfolding last_by
returns g c = λ a b rates.
    let valid = c.args.walked.now.prepared.now.filled.indexes.valid in let time_is = c.args.walked.now.prepared.now.time_is in let inside = c.if-spent-ge1000000.false in
    let net = net_of c.args.walked.now.prepared.now.words.now in let left : c.figure-time.result ≡ down 9 (remaining_time net c.args.spent.grains) = rw (
      c.figure-time.ensures,
      c.times_ten.ensures.figure_value,
      c.times.ensures.figure_value,
      c.exact-mission.ensures.figure_value,
      c.exact-rest.ensures.figure_value,
    )
    (down_is valid inside time_is c.of_whole.ensures) in let above =
    rw (up_is valid inside time_is c.of_whole.ensures, keeps_is valid inside time_is c.of_whole.ensures) at (c.times_ten-above.ensures.mark_value _ _
    (c.times-2.ensures.mark_value _ _ _ _ c.exact-mission.ensures.mark_value c.exact-rest.ensures.mark_value)) in
    record {
      inside = inside;
      time_is = left;
      product_is = rw left at c.product.ensures;
      last_is = c.last_factor.ensures _ _ _ _ above rates;
    }
