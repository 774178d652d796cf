-- Laws of layouts: what each word is at the opening, and that no two things share a purse or a bit.
use Rattle.std.specs.Prelude.{◌≡◌, ◌↔◌, None, Contains, ℕ, ◌+◌, ◌^◌, ◌<◌, ◌≤◌, List, length, map, slice_get}
use Rattle.std.specs.Prelude.{slice_index, Some}
use Rattle.sx_layout.specs.declared.spot.Spot.{Spot}
use Rattle.sx_layout.specs.NewIds.{new_ids}
use Rattle.sx_layout.specs.Plan.{Plan, name_found, plan_of, purse_spot, window_spot, offer_spot, name_spot, words_of}
use Rattle.sx_ledger.specs.declared.account.Account.{Account}
use Rattle.sx_ledger.specs.declared.parts.Parts.{Parts}
use Rattle.sx_ledger.specs.Body.{created}
use Rattle.sx_ledger.specs.Ledger.{IsLedger, assets_of, balance_at}
use Rattle.sx_tx.specs.declared.tx.Tx.{Tx}
use Rattle.sx_tx.specs.Transactions.{most_transactions}

-- the layouts that there are
pub record IsLaidOut (parts : Parts) (candidates : List Tx) (shards : ℕ) : Type 0 where
  pub ledger : IsLedger parts
  pub few_candidates : length candidates ≤ most_transactions
  pub some_shard : 1 ≤ shards
  pub few_shards : shards ≤ 64

-- ---- bits

-- what has a bit: a sequence number of the account at a place, by its place in the account's window, an offer, by its
-- place, and a new id, by its place among the new ids
pub data Thing : Type 0 where
  Number : ℕ → ℕ → Thing
  AnOffer : ℕ → Thing
  AName : ℕ → Thing

-- there is such a thing
abbrev pub IsThing : Plan → Thing → Type 0
IsThing plan (Number place number) = (place < plan.accounts) × (number < 64)
IsThing plan (AnOffer place) = place < plan.offers
IsThing plan (AName index) = index < length plan.names

-- its word, and its place in the word
abbrev pub spot_of : Plan → Thing → Spot × ℕ
spot_of plan (Number place number) = (window_spot plan place, number)
spot_of plan (AnOffer place) = offer_spot plan place
spot_of plan (AName index) = name_spot plan index

-- two things that share a bit are one thing
abbrev pub BitsApart : Type 0
BitsApart =
    (parts : Parts) (candidates : List Tx) (shards : ℕ) (one other : Thing) → IsLaidOut parts candidates shards
    → IsThing (plan_of parts candidates shards) one → IsThing (plan_of parts candidates shards) other
    → spot_of (plan_of parts candidates shards) one ≡ spot_of (plan_of parts candidates shards) other → one ≡ other

-- the word of a thing at the opening: what the account has used of its sequence numbers, or clear bits
abbrev pub opening_of : Parts → Thing → ℕ
opening_of parts (Number place number) = slice_index (map (λ account. account.window.used) parts.accounts) place
opening_of parts (AnOffer place) = 0
opening_of parts (AName index) = 0

-- there is a word at the spot of each thing, and the bit is one of its 64
pub record HasBit (parts : Parts) (plan : Plan) (thing : Thing) : Type 0 where
  pub shard : (spot_of plan thing).0.shard < plan.shards
  pub word : (spot_of plan thing).0.word < length (words_of plan.bits (spot_of plan thing).0.shard)
  pub bit : (spot_of plan thing).1 < 64
  pub opening :
      slice_index (words_of plan.bits (spot_of plan thing).0.shard) (spot_of plan thing).0.word ≡ opening_of parts thing

abbrev pub BitsThere : Type 0
BitsThere =
    (parts : Parts) (candidates : List Tx) (shards : ℕ) (thing : Thing) → IsLaidOut parts candidates shards
    → IsThing (plan_of parts candidates shards) thing → HasBit parts (plan_of parts candidates shards) thing

-- ---- purses

-- two balances that share a purse are one balance
abbrev pub PursesApart : Type 0
PursesApart =
    (parts : Parts) (candidates : List Tx) (shards place asset place' asset' : ℕ) → IsLaidOut parts candidates shards
    → asset < assets_of parts → asset' < assets_of parts
    → purse_spot (plan_of parts candidates shards) place asset ≡ purse_spot (plan_of parts candidates shards) place'
    asset'
    → (place ≡ place') × (asset ≡ asset')

-- there is a purse at the spot of each balance, and it has the balance at the opening
pub record HasPurse (plan : Plan) (place asset : ℕ) (account : Account) : Type 0 where
  pub shard : (purse_spot plan place asset).shard < plan.shards
  pub word : (purse_spot plan place asset).word < length (words_of plan.purses (purse_spot plan place asset).shard)
  pub balance :
      slice_index (words_of plan.purses (purse_spot plan place asset).shard) (purse_spot plan place asset).word
      ≡ balance_at asset account

abbrev pub PursesThere : Type 0
PursesThere =
    (parts : Parts) (candidates : List Tx) (shards place asset : ℕ) (account : Account)
    → IsLaidOut parts candidates shards → slice_get parts.accounts place ≡ Some account → asset < assets_of parts
    → HasPurse (plan_of parts candidates shards) place asset account

-- ---- how many words

-- a shard has fewer than 2 ^ 31 words
abbrev pub WordsFit : Type 0
WordsFit =
    (parts : Parts) (candidates : List Tx) (shards shard : ℕ) → IsLaidOut parts candidates shards → shard < shards
    → length (words_of (plan_of parts candidates shards).purses shard)
    + length (words_of (plan_of parts candidates shards).bits shard) < 2 ^ 31

-- ---- new ids

-- an id stands at this place among the new ids
pub record IsNew (candidates : List Tx) (id : ℕ) : Type 0 where
  pub index : ℕ
  pub stands : slice_get (new_ids candidates) index ≡ Some id

-- the new ids are exactly those that candidates create
abbrev pub NewIdsAreCreated : Type 0
NewIdsAreCreated = (candidates : List Tx) (id : ℕ) → Contains (created candidates) id ↔ IsNew candidates id

-- each is found, at the bit of its place
abbrev pub NewIdsAreFound : Type 0
NewIdsAreFound =
    (parts : Parts) (candidates : List Tx) (shards id index : ℕ) → slice_get (new_ids candidates) index ≡ Some id
    → name_found (plan_of parts candidates shards) id ≡ Some (name_spot (plan_of parts candidates shards) index)

-- and no other id is
abbrev pub OtherIdsAreNot : Type 0
OtherIdsAreNot =
    (parts : Parts) (candidates : List Tx) (shards id : ℕ) → (Contains (created candidates) id → ⊥)
    → name_found (plan_of parts candidates shards) id ≡ None
