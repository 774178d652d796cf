-- What a pair trades is worth no more than the most units of what it buys.
use Rattle.std.proofs.Common.{◌≡◌, ◌≢◌, ℕ, zero, suc, ◌*◌, ◌^◌, ◌<◌, ◌≤◌, List, inl, inr, arith}
use Rattle.std.proofs.Math.Nat.{mul-le-mul_left}
use Rattle.std.proofs.lemmas.Bool.{cases_lt}
use Rattle.sx_block.specs.Effects.{IsTradable}
use Rattle.sx_dual.specs.Circulation.{bought}
use Rattle.sx_dual.specs.Sums.{between, sum_below}
use Rattle.sx_dual.proofs.SumLaws.{between-other}
use Rattle.sx_block.proofs.FillLaws.{bought_within}
use Rattle.sx_block.proofs.TradeTotals.{given_there}
use Rattle.sx_ledger.specs.declared.parts.Parts.{Parts}
use Rattle.sx_ledger.specs.Bounds.{price_of}
use Rattle.sx_ledger.specs.Fills.{given}
use Rattle.sx_ledger.specs.Ledger.{IsLedger, assets_of}

part_within : (f : ℕ → ℕ) (n k : ℕ) → k < n → f k ≤ sum_below n f
unfolding sum_below
part_within f zero k lt = absurd (omega arith)
part_within f (suc n) k lt =
    elim (cases_lt k n) [
      | inl below ↦ let rest = part_within f n k below in omega arith
      | inr at ↦ let same : k ≡ n = omega arith in rw same (omega arith)
    ]

pub pair_worth : (parts : Parts) (prices : List ℕ) (flow : ℕ → ℕ → ℕ) (sell buy : ℕ) → IsLedger parts
    → IsTradable parts prices flow → sell < assets_of parts → buy < assets_of parts → sell ≢ buy
    → flow sell buy ≤ price_of prices buy * 2 ^ 62
pair_worth parts prices flow sell buy is fits sold below differ =
    let n = assets_of parts in
    let one : between flow sell buy ≤ bought n flow buy = part_within (λ s. between flow s buy) n sell sold in
    let all = bought_within parts prices flow is fits buy below in
    let there : given prices flow parts.offers buy ≤ 2 ^ 62 =
    omega (arith, given_there parts prices flow buy is fits, is.totals buy below) in
    let most : price_of prices buy * given prices flow parts.offers buy ≤ price_of prices buy * 2 ^ 62 =
    mul-le-mul_left (price_of prices buy) there in
    omega (arith, between-other flow sell buy differ)
