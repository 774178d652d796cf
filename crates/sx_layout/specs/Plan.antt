-- Which word of which shard holds what, and what the words are at the opening.
use Rattle.std.specs.Prelude.{◌≡◌, ℕ, ◌+◌, ◌*◌, ◌/◌, ◌%◌, ◌≤◌, List, [], ◌++◌, length, map, replicate, slice_index_or}
use Rattle.std.specs.Prelude.{Option, Some, None, ◌==◌, if◌then◌else◌}
use Rattle.std.specs.List.{flat_map, list_any, position_or_len}
use Rattle.std.specs.List.Sorted.{IsStrictlyIncreasing}
use Rattle.sx_base.specs.Ranges.{most_assets}
use Rattle.sx_layout.specs.declared.spot.Spot.{Spot}
use Rattle.sx_layout.specs.Dealing.{share_of, dealt, words_for, for_each_shard}
use Rattle.sx_layout.specs.NewIds.{new_ids}
use Rattle.sx_ledger.specs.declared.key.Key.{Key}
use Rattle.sx_ledger.specs.declared.parts.Parts.{Parts}
use Rattle.sx_ledger.specs.Ledger.{assets_of, ids, keys, most_accounts, most_offers}
use Rattle.sx_ledger.specs.Order.{same_key}
use Rattle.sx_tx.specs.declared.tx.Tx.{Tx}
use Rattle.sx_tx.specs.Transactions.{most_transactions}

-- how many assets, accounts and offers there are, the new ids in order, the number of shards, and the opening words of
-- each shard
pub record Plan : Type 0 where
  pub assets : ℕ
  pub accounts : ℕ
  pub offers : ℕ
  pub names : List ℕ
  pub shards : ℕ
  pub purses : List (List ℕ)
  pub bits : List (List ℕ)

-- ---- which word

-- the purse of an account's balance of an asset, among the purses of its shard
abbrev pub purse_spot : Plan → ℕ → ℕ → Spot
purse_spot plan place asset =
    record { shard = place % plan.shards; word = place / plan.shards * plan.assets + asset }

-- the word of an account's sequence numbers, among the bit words of its shard, where these words come first
abbrev pub window_spot : Plan → ℕ → Spot
window_spot plan place = record { shard = place % plan.shards; word = place / plan.shards }

-- how many bit words of a shard are of sequence numbers, and how many of offers, which come after them
abbrev pub window_words : Plan → ℕ → ℕ
window_words plan shard = share_of plan.shards shard plan.accounts

abbrev pub offer_words : Plan → ℕ → ℕ
offer_words plan shard = share_of plan.shards shard (words_for plan.offers)

-- and how many of new ids, which come last
abbrev pub name_words : Plan → ℕ → ℕ
name_words plan shard = share_of plan.shards shard (words_for (length plan.names))

-- the word of a bit and its place in the word: 64 bits in a row are one word, and words are dealt out in turn. In each
-- shard other words come before
abbrev pub bit_spot : ℕ → (ℕ → ℕ) → ℕ → Spot × ℕ
bit_spot shards before bit =
    let word = bit / 64 in
    let shard = word % shards in
    (record { shard = shard; word = before shard + word / shards }, bit % 64)

abbrev pub offer_spot : Plan → ℕ → Spot × ℕ
offer_spot plan place = bit_spot plan.shards (window_words plan) place

abbrev pub name_spot : Plan → ℕ → Spot × ℕ
name_spot plan index = bit_spot plan.shards (λ shard. window_words plan shard + offer_words plan shard) index

-- where a number stands in a list
abbrev pub place_in : List ℕ → ℕ → ℕ
place_in ids id = position_or_len (λ other. other == id) ids

-- where the account of an id stands, and the offer of a key
abbrev pub account_place : Parts → ℕ → ℕ
account_place parts id = place_in (ids parts.accounts) id

abbrev pub offer_place : Parts → Key → ℕ
offer_place parts key = position_or_len (same_key key) (keys parts.offers)

-- the bit of an id, if it is a new one
abbrev pub name_found : Plan → ℕ → Option (Spot × ℕ)
name_found plan id =
    if list_any (λ other. other == id) plan.names then Some (name_spot plan (place_in plan.names id)) else None

-- ---- the words at the opening

-- the balances of a shard's accounts, account by account
abbrev pub purses_at : Parts → ℕ → ℕ → List ℕ
purses_at parts shards shard = flat_map (λ account. account.balances) (dealt shards shard parts.accounts)

-- what its accounts have used of their sequence numbers, then a clear bit for each offer and each new id
abbrev pub bits_at : Parts → List ℕ → ℕ → ℕ → List ℕ
bits_at parts names shards shard =
    map (λ account. account.window.used) (dealt shards shard parts.accounts)
    ++ replicate
    (share_of shards shard (words_for (length parts.offers)) + share_of shards shard (words_for (length names)))
    0

-- the plan for the candidates of a ledger
abbrev pub plan_of : Parts → List Tx → ℕ → Plan
plan_of parts candidates shards = record {
  assets = assets_of parts;
  accounts = length parts.accounts;
  offers = length parts.offers;
  names = new_ids candidates;
  shards = shards;
  purses = for_each_shard (purses_at parts shards) shards;
  bits = for_each_shard (bits_at parts (new_ids candidates) shards) shards;
}

-- the words of a shard
abbrev pub words_of : List (List ℕ) → ℕ → List ℕ
words_of lists shard = slice_index_or lists shard []

-- ---- what a plan keeps

pub record IsPlan (plan : Plan) : Type 0 where
  pub few_assets : plan.assets ≤ most_assets
  pub few_accounts : plan.accounts ≤ most_accounts
  pub few_offers : plan.offers ≤ most_offers
  pub few_names : length plan.names ≤ most_transactions
  pub in_order : IsStrictlyIncreasing plan.names
  pub some_shard : 1 ≤ plan.shards
  pub few_shards : plan.shards ≤ 64
  pub purses : length plan.purses ≡ plan.shards
  pub bits : length plan.bits ≡ plan.shards
