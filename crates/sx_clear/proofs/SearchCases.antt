-- How many searches a block of one asset may take, which has no pair and so upper bounds of no digits.
use Rattle.std.proofs.Common.{◌+◌, ◌*◌, ◌≤◌, arith}
use Rattle.sx_block.specs.declared.header.Block.{Block}
use Rattle.sx_clear.specs.Searches.{IsCounted}
use Rattle.sx_ledger.proofs.CaseWords.{opening}
use Rattle.sx_level.specs.Solved.{most_searches}

-- from a count of 5 on, twice 18
twice_eighteen : (block : Block) → IsCounted opening 5 41 block
twice_eighteen block b digits =
    let more : 41 ≤ 5 + 2 * most_searches 1 b = omega arith in more

not_one_more : (block : Block) → IsCounted opening 5 42 block → ⊥
not_one_more block is =
    let most : 42 ≤ 5 + 2 * most_searches 1 0 = is 0 (λ s b s_lt b_lt differ. absurd (differ (omega arith))) in
    omega (arith, most)
