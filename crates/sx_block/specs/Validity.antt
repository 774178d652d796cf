-- What a block leaves of a ledger, and which blocks are valid for one.
pub use Rattle.sx_block.specs.Rule.{Rule, rank}
use Rattle.std.specs.Prelude.{◌≡◌, ◌≢◌, ℕ, ◌+◌, ◌<◌, ◌≤◌, false, List, length, Option, None, Some, Ok, is_some}
use Rattle.std.specs.Prelude.{nat_eq, slice_index}
use Rattle.std.specs.List.{All, IsDistinct}
use Rattle.sha2.specs.Sha256.{sha256}
use Rattle.sx_block.specs.declared.header.Block.{Block}
use Rattle.sx_block.specs.Block.{IsBlock}
use Rattle.sx_block.specs.Rule as rule
use Rattle.sx_dual.specs.declared.cut.Cut.{Cut}
use Rattle.sx_dual.specs.Circulation.{IsBalanced, IsWithin}
use Rattle.sx_dual.specs.Cuts.{IsCut}
use Rattle.sx_dual.specs.Fit.{IsTight}
use Rattle.sx_dual.specs.Sums.{EachPair}
use Rattle.sx_dual.specs.Tables.{potential_of, value_of}
use Rattle.sx_ledger.specs.declared.offer.Offer.{Offer}
use Rattle.sx_ledger.specs.declared.parts.Parts.{Parts}
use Rattle.sx_ledger.specs.Body.{body_after, cancelled, created, made, spendable}
use Rattle.sx_ledger.specs.Bounds.{high_of, low_of}
use Rattle.sx_ledger.specs.Effects.{debits}
use Rattle.sx_state.specs.Encoding.{state_bytes}
use Rattle.sx_ledger.specs.Fills.{IsRounding}
use Rattle.sx_ledger.specs.Ledger.{assets_of, most_accounts, most_height, most_offers}
use Rattle.sx_ledger.specs.Order.{same_key}
use Rattle.sx_ledger.specs.Static.{static_of}
use Rattle.sx_ledger.specs.Trade.{traded}
use Rattle.sx_record.specs.Frame.{record_bytes}
use Rattle.sx_tx.specs.Transactions.{list_bytes}

-- SHA-256 of the whole state record, whose tag is 1
abbrev pub digest_of_ledger : Parts → List ℕ
digest_of_ledger parts = sha256 (record_bytes 1 (state_bytes parts))

-- the value that each pair of assets trades in the block
abbrev pub flow_of_block : Block → ℕ → ℕ → ℕ
flow_of_block block = value_of block.header.trades

-- ---- the ledger after the block

-- the transactions first, then the trade
abbrev pub ledger_after : Parts → Block → Parts
ledger_after parts block =
    traded (body_after parts block.txs) block.header.prices (flow_of_block block) block.header.rounding

-- the offers that trade: those after the transactions
abbrev pub offers_of : Parts → Block → List Offer
offers_of parts block = (body_after parts block.txs).offers

-- ---- the bounds of its trade

-- the greatest value of a pair
abbrev pub high_in : Parts → Block → ℕ → ℕ → ℕ
high_in parts block sell buy = high_of block.header.prices (offers_of parts block) sell buy

-- the least value of a pair, before any lower bound is dropped
abbrev pub undropped_low_in : Parts → Block → ℕ → ℕ → ℕ
undropped_low_in parts block sell buy =
    low_of block.header.prices block.header.mu false (offers_of parts block) sell buy

-- the least value of a pair, which is 0 where the header has a cut
abbrev pub low_in : Parts → Block → ℕ → ℕ → ℕ
low_in parts block sell buy =
    low_of block.header.prices block.header.mu (is_some block.header.dropped) (offers_of parts block) sell buy

-- a cut, where there is one, shows that no circulation keeps the bounds
abbrev pub CutHolds : ℕ → (ℕ → ℕ → ℕ) → (ℕ → ℕ → ℕ) → Option Cut → Type 0
CutHolds n low high None = Unit {0}
CutHolds n low high (Some cut) = IsCut n low high cut.0

-- this is what rounding keeps of an asset
abbrev pub Rounds : Parts → Block → ℕ → ℕ → Type 0
Rounds parts block asset units =
    IsRounding block.header.prices (flow_of_block block) (offers_of parts block) asset units

-- ---- the rules

-- what each rule asks
abbrev pub Holds : Rule → Parts → Block → Type 0
-- the header against the ledger and the transactions
Holds rule.BelowLast parts block = parts.height < most_height
Holds rule.NextHeight parts block = block.header.height ≡ parts.height + 1
Holds rule.Parent parts block = block.header.parent ≡ digest_of_ledger parts
Holds rule.Body parts block = block.header.body ≡ sha256 (list_bytes block.txs)
Holds rule.Assets parts block = length block.header.prices ≡ assets_of parts
-- the transactions, which are a body by the rule of the block's version
Holds rule.Passes parts block = All (λ tx. static_of parts tx ≡ Ok tt) block.txs
Holds rule.CancelsOnce parts block = IsDistinct same_key (cancelled block.txs)
Holds rule.CreatesOnce parts block = IsDistinct nat_eq (created block.txs)
Holds rule.Room parts block =
    (length parts.accounts + length (created block.txs) ≤ most_accounts)
    × (length parts.offers + length (made block.txs) ≤ most_offers)
Holds rule.Covered parts block =
    (account asset : ℕ) →
    debits block.txs account asset ≤ spendable block.header.version parts block.txs account asset
-- what trades: the flow and the potentials fit the bounds
Holds rule.Within parts block =
    EachPair (assets_of parts) (IsWithin (low_in parts block) (high_in parts block) (flow_of_block block))
Holds rule.Balanced parts block = (asset : ℕ) → asset < assets_of parts → IsBalanced (assets_of parts)
    (flow_of_block block) asset
Holds rule.Tight parts block =
    EachPair (assets_of parts)
    (IsTight (low_in parts block) (high_in parts block) (flow_of_block block) (potential_of block.header.potentials))
Holds rule.Cut parts block =
    CutHolds (assets_of parts) (undropped_low_in parts block) (high_in parts block) block.header.dropped
-- what it leaves
Holds rule.Rounded parts block =
    (asset : ℕ) → asset < assets_of parts → Rounds parts block asset (slice_index block.header.rounding asset)
Holds rule.After parts block = block.header.after ≡ digest_of_ledger (ledger_after parts block)

-- all rules before this one hold
abbrev pub HoldsBefore : Rule → Parts → Block → Type 0
HoldsBefore next parts block = (earlier : Rule) → rank earlier < rank next → Holds earlier parts block

-- all rules before this one hold, but for the one on the digest of the ledger
abbrev pub HoldsButParent : Rule → Parts → Block → Type 0
HoldsButParent next parts block =
    (earlier : Rule) → rank earlier < rank next → earlier ≢ rule.Parent → Holds earlier parts block

-- ---- validity

-- the block has the form of one, and is valid for the ledger but for the digest of the ledger that it leaves
pub record IsSound (parts : Parts) (block : Block) : Type 0 where
  pub form : IsBlock block
  pub rules : HoldsBefore rule.After parts block

-- the block has the form of one, and can be applied to the ledger: it is valid for it but for the digests that its
-- header says of the ledger before and after
pub record IsApplicable (parts : Parts) (block : Block) : Type 0 where
  pub form : IsBlock block
  pub rules : HoldsButParent rule.After parts block

-- the block has the form of one, and is valid for the ledger
pub record IsValid (parts : Parts) (block : Block) : Type 0 where
  pub form : IsBlock block
  pub rules : (each : Rule) → Holds each parts block
