-- What a candidate asks for, on any number of shards: the bit of its sequence number, and then a bit or an amount out of
-- a purse.
use Rattle.std.specs.Prelude.{◌≡◌, ℕ, ◌-◌, ◌<◌, ◌≤◌, length, slice_index}
use Rattle.std.specs.Int.{bit_at}
use Rattle.sx_layout.specs.declared.asked.Wanted.{Wanted}
use Rattle.sx_layout.specs.declared.asked.Wanted.TheVariants as wanted
use Rattle.sx_layout.specs.declared.spot.Spot.{Spot}
use Rattle.sx_layout.specs.Plan.{Plan, account_place, offer_place, place_in, words_of}
use Rattle.sx_layout.specs.Plan.{purse_spot, offer_spot, name_spot}
use Rattle.sx_layout.specs.PlanLaws.{Thing, Number, spot_of}
use Rattle.sx_ledger.specs.declared.key.Key.{Key}
use Rattle.sx_ledger.specs.declared.parts.Parts.{Parts}
use Rattle.sx_ledger.specs.Static.{window_of}
use Rattle.sx_tx.specs.declared.kind.Kind.{Kind}
use Rattle.sx_tx.specs.declared.kind.Kind.TheVariants as kind
use Rattle.sx_tx.specs.declared.tx.Tx.{Tx}

-- ---- its number

-- its sequence number, as a thing that has a bit
abbrev pub number_of : Parts → Tx → Thing
number_of parts tx =
    Number (account_place parts tx.account.0) (tx.seq - (window_of parts.accounts tx.account.0).last - 1)

-- the word and the bit of its sequence number
abbrev pub number_spot : Parts → Plan → Tx → Spot × ℕ
number_spot parts plan tx = spot_of plan (number_of parts tx)

-- ---- what it asks for once its number is claimed

-- an amount out of the purse of an account
abbrev pub purse_wanted : Parts → Plan → ℕ → ℕ → ℕ → Wanted
purse_wanted parts plan account asset need =
    wanted.Units (purse_spot plan (account_place parts account) asset) need

abbrev pub bit_wanted : Spot × ℕ → Wanted
bit_wanted at = wanted.Bit at.0 at.1

-- a payment and an offer ask for their amount, a creation for the bit of the new id, and a cancellation for that of its
-- offer
abbrev pub wanted_by : Parts → Plan → ℕ → Kind → Wanted
wanted_by parts plan account (kind.Pay asset to amount) = purse_wanted parts plan account asset amount
wanted_by parts plan account (kind.Create id) = bit_wanted (name_spot plan (place_in plan.names id.0))
wanted_by parts plan account (kind.Offer sell buy limit amount) = purse_wanted parts plan account sell amount
wanted_by parts plan account (kind.Cancel sell buy limit seq) =
    let key : Key = record { sell = sell; buy = buy; limit = limit; account = record { 0 = account }; seq = seq } in
    bit_wanted (offer_spot plan (offer_place parts key))

abbrev pub wanted_of : Parts → Plan → Tx → Wanted
wanted_of parts plan tx = wanted_by parts plan tx.account.0 tx.kind

-- ---- in range

-- there is a bit word at the spot, and the bit is one of its 64
pub record IsBitSpot (plan : Plan) (at : Spot) (bit : ℕ) : Type 0 where
  pub shard : at.shard < plan.shards
  pub word : at.word < length (words_of plan.bits at.shard)
  pub below : bit < 64

-- there is a purse at the spot
pub record IsPurseSpot (plan : Plan) (at : Spot) : Type 0 where
  pub shard : at.shard < plan.shards
  pub word : at.word < length (words_of plan.purses at.shard)

-- the word of what is wanted is there
abbrev pub IsWanted : Plan → Wanted → Type 0
IsWanted plan (wanted.Bit at bit) = IsBitSpot plan at bit
IsWanted plan (wanted.Units purse need) = IsPurseSpot plan purse

-- an amount is wanted, where units are
abbrev pub IsSomeUnits : Wanted → Type 0
IsSomeUnits (wanted.Bit at bit) = Unit {0}
IsSomeUnits (wanted.Units purse need) = 1 ≤ need

-- ---- at the opening

-- the bit is clear in the words that the plan begins with
abbrev pub IsClear : Plan → Spot → ℕ → Type 0
IsClear plan at bit = bit_at (slice_index (words_of plan.bits at.shard) at.word) bit ≡ 0

abbrev pub IsWantedClear : Plan → Wanted → Type 0
IsWantedClear plan (wanted.Bit at bit) = IsClear plan at bit
IsWantedClear plan (wanted.Units purse need) = Unit {0}
