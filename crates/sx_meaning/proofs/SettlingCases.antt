-- Blocks that do not settle, each for one reason, and what a settled block excludes. Two accounts have each an offer,
-- of 5 units of the first asset and of 8 of the second, at the limit 1/4.
use Rattle.std.proofs.Common.{◌≡◌, ℕ, zero, suc, ◌*◌, ◌+◌, ◌-◌, ◌^◌, ◌<◌, ◌≤◌, List, [], ◌∷◌, length, Option, None}
use Rattle.std.proofs.Common.{Some, Contains, refl, ap, arith}
use Rattle.std.specs.Prelude.{slice_index}
use Rattle.sx_block.specs.declared.header.Block.{Block}
use Rattle.sx_block.specs.Effects.{IsInPart, circulating, gets_in, gives_in, value_in}
use Rattle.sx_block.specs.Validity.{IsValid, flow_of_block, high_in, ledger_after, low_in, offers_of, undropped_low_in}
use Rattle.sx_block.proofs.Cases.{offer, two_pairs}
use Rattle.sx_dual.specs.declared.cut.Cut.{Cut}
use Rattle.sx_dual.specs.Circulation.{IsBalanced, IsWithin}
use Rattle.sx_dual.specs.Sums.{EachPair, sum_below}
use Rattle.sx_dual.specs.Tables.{FlowTable}
use Rattle.sx_block.specs.Chain.{AreValid, ledger_after_all}
use Rattle.sx_block.proofs.ValidCase.{before, block}
use Rattle.sx_ledger.specs.declared.offer.Offer.{Offer}
use Rattle.sx_ledger.specs.declared.parts.Parts.{Parts}
use Rattle.sx_ledger.specs.Bounds.{price_of}
use Rattle.sx_ledger.specs.Ledger.{IsLedger, assets_of, total_of}
use Rattle.sx_meaning.specs.Items as item
use Rattle.sx_meaning.specs.Items.{Item}
use Rattle.sx_meaning.specs.Laws.{AreChain, ChainConserves}
use Rattle.sx_meaning.specs.Replays.{blocks_of}
use Rattle.sx_meaning.specs.Settling.{EachBlock, Settles}
use Rattle.sx_tx.specs.declared.kind.Kind.TheVariants as kind
use Rattle.sx_tx.specs.Window.{bit_length}

-- the block with other trades, and with lower bounds kept or dropped
abbrev trading : FlowTable → Option Cut → Block
trading trades dropped = record block { header = record block.header { trades = trades; dropped = dropped } }

-- ---- the first offer, which must trade, gives 1 unit of 5

abbrev partly : Block
partly = trading (two_pairs (2 * 2 ^ 20) (2 * 2 ^ 20)) None

not_in_full : Settles before partly → ⊥
not_in_full is =
    let full = is.in_full refl (offer 0 1 (2 ^ 22) 1 1 5) (0, omega arith, refl) (omega arith) in omega (arith, full)

-- ---- an offer trades a value of 1 at a rate of 1 to 8, below its limit

abbrev dear : Block
dear = record block { header = record block.header { prices = 2 ^ 20 ∷ 2 ^ 23 ∷ []; trades = two_pairs 1 1 } }

not_within_limits : Settles before dear → ⊥
not_within_limits is =
    let may = is.within_limits (offer 0 1 (2 ^ 22) 1 1 5) (0, omega arith, refl) (omega arith) in omega (arith, may)

-- ---- account 1 pays 1 unit and has none

abbrev unpaid : Block
unpaid = record block {
  txs = record { account = record { 0 = 1 }; seq = 2; kind = kind.Pay 0 (record { 0 = 2 }) 1 } ∷ [];
}

not_covered : Settles before unpaid → ⊥
not_covered is = let debited = is.covered 1 0 in omega (arith, debited)

-- ---- the block says that rounding keeps 5 units of the first asset, of which it keeps none

abbrev misrounded : Block
misrounded = record block { header = record block.header { rounding = 5 ∷ 1 ∷ [] } }

still_five : (circulating before 0 ≡ 5) × (circulating (ledger_after before misrounded) 0 ≡ 5)
unfolding bit_length
still_five = (refl, refl)

not_rounded : Settles before misrounded → ⊥
not_rounded is = let falls = is.falls 0 (omega arith) in omega (arith, falls, still_five.0, still_five.1)

-- ---- nothing trades, where 15 may trade each way

abbrev idle : Block
idle = trading (two_pairs 0 0) (Some (record { 0 = 1 }))

within : EachPair 2 (IsWithin (low_in before idle) (high_in before idle) (flow_of_block block))
within zero zero s b differ = absurd (differ refl)
within zero (suc zero) s b differ = record { at_least = omega arith; at_most = omega arith }
within zero (suc (suc buy)) s b differ = absurd (omega arith)
within (suc zero) zero s b differ = record { at_least = omega arith; at_most = omega arith }
within (suc zero) (suc zero) s b differ = absurd (differ refl)
within (suc zero) (suc (suc buy)) s b differ = absurd (omega arith)
within (suc (suc sell)) buy s b differ = absurd (omega arith)

balanced : (asset : ℕ) → asset < 2 → IsBalanced 2 (flow_of_block block) asset
unfolding sum_below
balanced zero lt = refl
balanced (suc zero) lt = refl
balanced (suc (suc asset)) lt = absurd (omega arith)

not_greatest : Settles before idle → ⊥
unfolding sum_below
not_greatest is =
    let less : 30 * 2 ^ 20 ≤ 0 =
    is.greatest.greatest (flow_of_block block) (record { within = within; balanced = balanced }) in
    omega (arith, less)

-- ---- a cut, where there is no offer and so nothing must trade

abbrev without : Parts
without = record before { offers = [] }

none_within : EachPair 2 (IsWithin (undropped_low_in without block) (high_in without block) (λ sell buy. 0))
none_within zero zero s b differ = absurd (differ refl)
none_within zero (suc zero) s b differ = record { at_least = omega arith; at_most = omega arith }
none_within zero (suc (suc buy)) s b differ = absurd (omega arith)
none_within (suc zero) zero s b differ = record { at_least = omega arith; at_most = omega arith }
none_within (suc zero) (suc zero) s b differ = absurd (differ refl)
none_within (suc zero) (suc (suc buy)) s b differ = absurd (omega arith)
none_within (suc (suc sell)) buy s b differ = absurd (omega arith)

none_balanced : (asset : ℕ) → asset < 2 → IsBalanced 2 (λ sell buy. 0) asset
unfolding sum_below
none_balanced zero lt = refl
none_balanced (suc zero) lt = refl
none_balanced (suc (suc asset)) lt = absurd (omega arith)

no_cut : Settles without block → ⊥
no_cut is =
    is.cut (record { 0 = 1 }) refl (λ sell buy. 0) (record { within = none_within; balanced = none_balanced })

-- ---- what holds of all blocks

module _ (parts : Parts) (some : Block) (is : Settles parts some) where
  -- what a block leaves is a ledger, so that none settles at the greatest height
  no_last_height : parts.height ≡ 2 ^ 63 - 1 → ⊥
  no_last_height last = let height = is.ledger.height in omega (arith, height, last)

  -- no offer gives a whole unit more than its value
  no_unit_more : (one : Offer) → Contains (offers_of parts some) one →
      price_of some.header.prices one.sell * gives_in parts some one
      ≡ value_in parts some one + price_of some.header.prices one.sell → ⊥
  no_unit_more one there e = let gives = is.gives one there in omega (arith, gives.1, e)

  -- and none gets a whole unit less
  no_unit_less : (one : Offer) → Contains (offers_of parts some) one →
      value_in parts some one
      ≡ price_of some.header.prices one.buy * gets_in parts some one + price_of some.header.prices one.buy → ⊥
  no_unit_less one there e = let gets = is.gets one there in omega (arith, gets.1, e)

  -- two offers of a pair that trade in part have one limit, as they are one
  one_limit : (one other : Offer) → Contains (offers_of parts some) one → Contains (offers_of parts some) other →
      one.sell ≡ other.sell → one.buy ≡ other.buy →
      IsInPart some.header.prices (flow_of_block some) (offers_of parts some) one →
      IsInPart some.header.prices (flow_of_block some) (offers_of parts some) other → one.limit ≡ other.limit
  one_limit one other there too sell buy part again =
      ap (λ (offer : Offer). offer.limit) (is.one_in_part one other there too sell buy part again)

  -- the ledger keeps no unit less than the block says
  no_unit_lost : (asset : ℕ) → asset < assets_of parts →
      slice_index (ledger_after parts some).rounding asset + 1
      ≡ slice_index parts.rounding asset + slice_index some.header.rounding asset → ⊥
  no_unit_lost asset there e = let rises = is.rises asset there in omega (arith, rises, e)

-- ---- chains

-- the second block is judged on the ledger that the first one left
second_on_the_next : (Fact : Parts → Block → Type 0) (parts : Parts) (one other : Block)
    → EachBlock Fact parts (one ∷ other ∷ []) → Fact (ledger_after parts one) other
second_on_the_next Fact parts one other each = each.1.0

module _ (parts : Parts) where
  -- the blocks of a chain are valid, each on the ledger that the one before it left
  second_is_valid : (one other : Block) → AreChain parts (item.block one ∷ item.block other ∷ [])
      → IsValid (ledger_after parts one) other
  second_is_valid one other chain = chain.valid.1.0

  not_one_more : (items : List Item) → AreChain parts items → length (blocks_of items) ≡ 1000001 → ⊥
  not_one_more items chain long = let few = chain.few in omega (arith, few, long)

  -- no unit is made
  no_unit_made : ChainConserves → (blocks : List Block) (asset : ℕ) → IsLedger parts → AreValid parts blocks →
      asset < assets_of parts → total_of (ledger_after_all parts blocks) asset ≡ total_of parts asset + 1 → ⊥
  no_unit_made conserves blocks asset ledger valid there e =
      let same = conserves parts blocks asset ledger valid there in omega (arith, same, e)
