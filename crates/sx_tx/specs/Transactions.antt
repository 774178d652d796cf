-- Transactions, and their encoding.
use Rattle.std.specs.Prelude.{ℕ, ◌+◌, ◌*◌, ◌^◌, ◌<◌, ◌≤◌, List, ◌++◌, length, All}
use Rattle.std.specs.List.{flat_map}
use Rattle.byteorder.specs.Endian.{big_bytes}
use Rattle.sx_base.specs.Ranges.{most_amount, most_assets, most_seq}
use Rattle.sx_price.specs.Limits.{IsLimit}
use Rattle.sx_tx.specs.declared.kind.Kind.{Kind}
use Rattle.sx_tx.specs.declared.kind.Kind.TheVariants as kind
use Rattle.sx_tx.specs.declared.tx.Tx.{Tx}

-- how many transactions a list may have
abbrev pub most_transactions : ℕ
most_transactions = 1000000

-- how many bytes a transaction takes at least
abbrev pub least_tx_bytes : ℕ
least_tx_bytes = 25

-- how many bytes a list of transactions takes at most
abbrev pub most_list_bytes : ℕ
most_list_bytes = 4 + 35 * most_transactions

-- what is sold, what is bought, and the limit
abbrev pub terms_bytes : ℕ → ℕ → ℕ → List ℕ
terms_bytes sell buy limit = big_bytes 1 sell ++ (big_bytes 1 buy ++ big_bytes 8 limit)

-- the number of the kind, then its fields
abbrev pub kind_bytes : Kind → List ℕ
kind_bytes (kind.Pay asset to amount) = big_bytes 1 1 ++ (big_bytes 8 to.0 ++ (big_bytes 1 asset ++ big_bytes 8 amount))
kind_bytes (kind.Create id) = big_bytes 1 2 ++ big_bytes 8 id.0
kind_bytes (kind.Offer sell buy limit amount) = big_bytes 1 3 ++ (terms_bytes sell buy limit ++ big_bytes 8 amount)
kind_bytes (kind.Cancel sell buy limit seq) = big_bytes 1 4 ++ (terms_bytes sell buy limit ++ big_bytes 8 seq)

abbrev pub tx_bytes : Tx → List ℕ
tx_bytes tx = big_bytes 8 tx.account.0 ++ (big_bytes 8 tx.seq ++ kind_bytes tx.kind)

-- a list of transactions, its length first
abbrev pub list_bytes : List Tx → List ℕ
list_bytes txs = big_bytes 4 (length txs) ++ flat_map tx_bytes txs

-- ---- the ranges of the fields

abbrev pub IsId : ℕ → Type 0
IsId id = id < 2 ^ 64

abbrev pub IsSeq : ℕ → Type 0
IsSeq seq = (1 ≤ seq) × (seq ≤ most_seq)

abbrev pub IsAsset : ℕ → Type 0
IsAsset asset = asset < most_assets

abbrev pub IsAmount : ℕ → Type 0
IsAmount amount = (1 ≤ amount) × (amount ≤ most_amount)

abbrev pub AreTerms : ℕ → ℕ → ℕ → Type 0
AreTerms sell buy limit = IsAsset sell × IsAsset buy × IsLimit limit

abbrev pub IsKind : Kind → Type 0
IsKind (kind.Pay asset to amount) = IsId to.0 × IsAsset asset × IsAmount amount
IsKind (kind.Create id) = IsId id.0
IsKind (kind.Offer sell buy limit amount) = AreTerms sell buy limit × IsAmount amount
IsKind (kind.Cancel sell buy limit seq) = AreTerms sell buy limit × IsSeq seq

pub record IsTx (tx : Tx) : Type 0 where
  pub account : IsId tx.account.0
  pub seq : IsSeq tx.seq
  pub kind : IsKind tx.kind

pub record IsTxList (txs : List Tx) : Type 0 where
  pub few : length txs ≤ most_transactions
  pub each : All IsTx txs
