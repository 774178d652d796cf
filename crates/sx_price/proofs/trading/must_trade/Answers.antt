use Rattle.std.proofs.Common.{◌≡◌, ℕ, ◌*◌, ◌%◌, ◌^◌, ◌<◌, ◌≤◌, arith, lit<}
use Rattle.std.proofs.Math.Nat.{pow-le-pow_right}
use Rattle.std.proofs.lemmas.Nat.{mul-le, one_shl}
use Rattle.sx_price.proofs.trading.must_trade.Goals as goal

-- what the offer asks, in the parts of μ, is at most 2^116
asked_fits :
    (limit buy j : ℕ) → limit < 2 ^ 56 → buy ≤ 2 ^ 40 → j ≤ 20 →
    limit * buy * ((1 * 2 ^ j) % 2 ^ 128) < 2 ^ 128
asked_fits limit buy j limit_in_range buy_in_range j_in_range =
    let shifted : (1 * 2 ^ j) % 2 ^ 128 ≡ 2 ^ j = one_shl j 128 (omega arith) in
    let parts : 2 ^ j ≤ 2 ^ 20 = pow-le-pow_right (lit< tt) j_in_range in
    let limit_at_most : limit ≤ 2 ^ 56 = omega arith in
    let rate : limit * buy ≤ 2 ^ 56 * 2 ^ 40 =
    mul-le limit buy (2 ^ 56) (2 ^ 40) limit_at_most buy_in_range
    in
    let whole : limit * buy * 2 ^ j ≤ 2 ^ 56 * 2 ^ 40 * 2 ^ 20 =
    mul-le (limit * buy) (2 ^ j) (2 ^ 56 * 2 ^ 40) (2 ^ 20) rate parts
    in
    rw shifted (omega arith)

pub overflow_mul-asked-2 : goal.overflow_mul-asked-2
overflow_mul-asked-2 c =
    omega (
      arith,
      asked_fits c.from.result c.from-2.result c.get.result (omega arith) (omega arith)
          c.get.ensures.in_range,
    )
