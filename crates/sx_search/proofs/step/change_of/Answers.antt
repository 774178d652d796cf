use Rattle.std.proofs.Common.{◌-◌, ◌*◌, ◌/◌, ◌^◌, ◌∙◌, arith}
use Rattle.std.proofs.Math.Nat.{div-le_self}
use Rattle.std.proofs.lemmas.Nat.{mul-le}
use Rattle.sx_search.proofs.Steps.{cut_below, cut_positive, shifted_first}
use Rattle.sx_search.proofs.step.change_of.Goals as goal

pub overflow_mul-result : goal.overflow_mul-result
overflow_mul-result c =
    let dropped = c.dropped_digits-dropped in
    let net = cut_below c.args.net c.args.volume dropped.result c.requires.net dropped.ensures.most in
    omega (arith, mul-le c.from.result (c.args.net / 2 ^ dropped.result) (2 ^ 40) (2 ^ 64) (omega arith) (omega arith))

pub nonzero_div-result : goal.nonzero_div-result
nonzero_div-result c =
    let dropped = c.dropped_digits-dropped in
    cut_positive c.args.volume dropped.result (dropped.ensures.least c.requires.volume)

pub returns-clause-value : goal.returns-clause-value
returns-clause-value c =
    let dropped = c.dropped_digits-dropped in
    shifted_first (c.from.result * (c.args.net / 2 ^ dropped.result)) (c.args.volume / 2 ^ dropped.result) c.args.exponent
    ∙ (λ i. c.from.ensures i * (c.args.net / 2 ^ dropped.ensures.value i)
    / (c.args.volume / 2 ^ dropped.ensures.value i * 2 ^ c.args.exponent))

pub returns-clause-in_range : goal.returns-clause-in_range
returns-clause-in_range c =
    let dropped = c.dropped_digits-dropped in
    let net = cut_below c.args.net c.args.volume dropped.result c.requires.net dropped.ensures.most in
    let product = mul-le c.from.result (c.args.net / 2 ^ dropped.result) (2 ^ 40) (2 ^ 64 - 1)
    (omega arith) (omega arith) in
    let whole = c.from.result * (c.args.net / 2 ^ dropped.result) in
    omega (
      arith,
      div-le_self whole (2 ^ c.args.exponent),
      div-le_self (whole / 2 ^ c.args.exponent) (c.args.volume / 2 ^ dropped.result),
    )
