-- `whole::fitted` meets its contract. Assumes nothing.
use mathlib.Core.Path.{refl, ◌∙◌}
use native.Mathlib.Omega.{arith}
use Rattle.figure.proofs.Wholes.{digits_counted, nothing_rounded, padded_below, padding_answer, divisor_pos, whole_below, whole_power, whole_answer}
use Rattle.figure.proofs.whole.fitted.Goals as goal

pub returns-then-n-eq0 : goal.returns-then-n-eq0
returns-then-n-eq0 c = c.zero.ensures ∙ nothing_rounded c.args.to c.args.n c.args.power c.if-n-eq0.true

pub overflow_mul-result : goal.overflow_mul-result
overflow_mul-result c =
    omega (
      arith,
      padded_below (digits_counted c.ilog10.ensures.power_le c.ilog10.ensures.next_power_gt c.ilog10.ensures.bound) c.if-count-le9.true c.ten_to.ensures,
    )

pub returns-then-count-le9 : goal.returns-then-count-le9
returns-then-count-le9 c =
    padding_answer (digits_counted c.ilog10.ensures.power_le c.ilog10.ensures.next_power_gt c.ilog10.ensures.bound) c.if-count-le9.true c.ten_to.ensures c.args.power c.requires refl c.args.to refl

pub of-requires : goal.of-requires
of-requires c = divisor_pos (digits_counted c.ilog10.ensures.power_le c.ilog10.ensures.next_power_gt c.ilog10.ensures.bound) c.if-count-le9.false c.ten_to-2.ensures

pub directed-requires : goal.directed-requires
directed-requires c = (
  whole_below (digits_counted c.ilog10.ensures.power_le c.ilog10.ensures.next_power_gt c.ilog10.ensures.bound) c.if-count-le9.false c.ten_to-2.ensures c.of.ensures,
  whole_power (digits_counted c.ilog10.ensures.power_le c.ilog10.ensures.next_power_gt c.ilog10.ensures.bound) c.if-count-le9.false c.ten_to-2.ensures c.args.power c.requires refl refl,
)

pub returns : goal.returns
returns c =
    whole_answer (digits_counted c.ilog10.ensures.power_le c.ilog10.ensures.next_power_gt c.ilog10.ensures.bound) c.if-count-le9.false c.ten_to-2.ensures c.args.power c.requires refl refl c.args.to
    c.of.ensures c.directed.ensures
