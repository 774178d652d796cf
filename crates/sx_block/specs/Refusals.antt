-- The first reason why a block is refused on a ledger: the rules before its own hold, and its own is broken.
use Rattle.std.specs.Prelude.{◌≡◌, ◌≢◌, ℕ, ◌+◌, ◌<◌, ◌≤◌, ◌⊎◌, List, length, Some, slice_index}
use Rattle.sha2.specs.Sha256.{sha256}
use Rattle.sx_base.specs.declared.account_id.AccountId.{AccountId}
use Rattle.sx_block.specs.declared.header.Block.{Block}
use Rattle.sx_block.specs.Rule.{Rule}
use Rattle.sx_block.specs.Rule as rule
use Rattle.sx_block.specs.Validity.{HoldsBefore, HoldsButParent, Rounds, digest_of_ledger, flow_of_block, high_in}
use Rattle.sx_block.specs.Validity.{ledger_after, low_in, undropped_low_in}
use Rattle.sx_ledger.specs.Overdraft.{IsFirstOverdrawn}
use Rattle.sx_ledger.specs.FirstRefusal.{IsFirstRefused}
use Rattle.sx_ledger.specs.Repeats.{IsFirstRepeat, cancels, creates}
use Rattle.sx_block.specs.declared.invalid.Invalid.{Invalid}
use Rattle.sx_block.specs.declared.invalid.Invalid.TheVariants.{Ended, WrongHeight, WrongParent, WrongBody}
use Rattle.sx_block.specs.declared.invalid.Invalid.TheVariants.{WrongAssets, Tx, TwoCancels, TwoNames, Crowded}
use Rattle.sx_block.specs.declared.invalid.Invalid.TheVariants.{Overdrawn, Overspent, Outside, Unbalanced, Slack, NoCut}
use Rattle.sx_block.specs.declared.invalid.Invalid.TheVariants.{Rounding, WrongAfter}
use Rattle.sx_dual.specs.Cuts.{IsCut}
use Rattle.sx_dual.specs.declared.misfit.Misfit.{Misfit}
use Rattle.sx_dual.specs.declared.misfit.Misfit.TheVariants as misfit
use Rattle.sx_dual.specs.Misfit.{IsMisfit}
use Rattle.sx_dual.specs.Tables.{potential_of}
use Rattle.sx_ledger.specs.declared.parts.Parts.{Parts}
use Rattle.sx_ledger.specs.Body.{created, made}
use Rattle.sx_ledger.specs.Effects.{credits as credits_of}
use Rattle.sx_ledger.specs.Ledger.{assets_of, most_accounts, most_height, most_offers}
use Rattle.sx_tx.specs.declared.tx.Tx.{Tx as Transaction}
use Rattle.sx_tx.specs.Transactions.{list_bytes}

-- ---- more than there may be

-- what is there and what comes are together above the limit
pub record IsAbove (there coming most have more limit : ℕ) : Type 0 where
  pub is_there : have ≡ there
  pub is_coming : more ≡ coming
  pub is_most : limit ≡ most
  pub above : limit < have + more

-- too many accounts; else too many offers
abbrev pub IsCrowded : Parts → List Transaction → ℕ → ℕ → ℕ → Type 0
IsCrowded parts txs have more limit =
    IsAbove (length parts.accounts) (length (created txs)) most_accounts have more limit
    ⊎ ((length parts.accounts + length (created txs) ≤ most_accounts)
    × IsAbove (length parts.offers) (length (made txs)) most_offers have more limit)

-- the first account and asset that are overdrawn by the rule of the block's version
abbrev pub IsBlockOverdraft : Parts → Block → AccountId → ℕ → ℕ → ℕ → ℕ → Type 0
IsBlockOverdraft parts block account asset opening credits debits =
    IsFirstOverdrawn block.header.version parts block.txs
    (record { account = account; asset = asset; opening = opening; credits = credits; debits = debits })

-- ---- what trades

-- the first misfit of the flow, within the bounds of the offers
abbrev pub IsBlockMisfit : Parts → Block → Misfit → Type 0
IsBlockMisfit parts block misfit =
    IsMisfit (assets_of parts) (low_in parts block) (high_in parts block) (flow_of_block block)
    (potential_of block.header.potentials) misfit

-- the first asset of which other units are said to be kept than rounding keeps
pub record IsMisrounded (parts : Parts) (block : Block) (asset said real : ℕ) : Type 0 where
  pub there : asset < assets_of parts
  pub is_said : said ≡ slice_index block.header.rounding asset
  pub is_real : Rounds parts block asset real
  pub differ : said ≢ real
  pub earlier : (other : ℕ) → other < asset → Rounds parts block other (slice_index block.header.rounding other)

-- ---- the reasons

-- the rule that is broken
abbrev pub rule_of : Invalid → Rule
rule_of Ended = rule.BelowLast
rule_of (WrongHeight have said) = rule.NextHeight
rule_of (WrongParent said real) = rule.Parent
rule_of (WrongBody said real) = rule.Body
rule_of (WrongAssets have said) = rule.Assets
rule_of (Tx index why) = rule.Passes
rule_of (TwoCancels index) = rule.CancelsOnce
rule_of (TwoNames index) = rule.CreatesOnce
rule_of (Crowded have more limit) = rule.Room
rule_of (Overdrawn account asset opening debits) = rule.Covered
rule_of (Overspent account asset opening credits debits) = rule.Covered
rule_of (Outside sell buy low high y) = rule.Within
rule_of (Unbalanced asset out into) = rule.Balanced
rule_of (Slack sell buy gain y) = rule.Tight
rule_of (NoCut cut) = rule.Cut
rule_of (Rounding asset said real) = rule.Rounded
rule_of (WrongAfter said real) = rule.After

-- how it is broken
abbrev pub Breaks : Parts → Block → Invalid → Type 0
Breaks parts block Ended = parts.height ≡ most_height
Breaks parts block (WrongHeight have said) =
    (have ≡ parts.height) × (said ≡ block.header.height) × (said ≢ have + 1)
Breaks parts block (WrongParent said real) =
    (said ≡ block.header.parent) × (real ≡ digest_of_ledger parts) × (said ≢ real)
Breaks parts block (WrongBody said real) =
    (said ≡ block.header.body) × (real ≡ sha256 (list_bytes block.txs)) × (said ≢ real)
Breaks parts block (WrongAssets have said) =
    (have ≡ assets_of parts) × (said ≡ length block.header.prices) × (said ≢ have)
Breaks parts block (Tx index why) = IsFirstRefused parts block.txs index why
Breaks parts block (TwoCancels index) = IsFirstRepeat cancels block.txs index
Breaks parts block (TwoNames index) = IsFirstRepeat creates block.txs index
Breaks parts block (Crowded have more limit) = IsCrowded parts block.txs have more limit
Breaks parts block (Overdrawn account asset opening debits) =
    (block.header.version ≡ 1)
    × IsBlockOverdraft parts block account asset opening (credits_of parts.offers block.txs account.0 asset) debits
Breaks parts block (Overspent account asset opening credits debits) =
    (block.header.version ≡ 2) × IsBlockOverdraft parts block account asset opening credits debits
Breaks parts block (Outside sell buy low high y) = IsBlockMisfit parts block (misfit.Outside sell buy low high y)
Breaks parts block (Unbalanced asset out into) = IsBlockMisfit parts block (misfit.Unbalanced asset out into)
Breaks parts block (Slack sell buy gain y) = IsBlockMisfit parts block (misfit.Slack sell buy gain y)
Breaks parts block (NoCut cut) =
    (block.header.dropped ≡ Some cut)
    × ¬ IsCut (assets_of parts) (undropped_low_in parts block) (high_in parts block) cut.0
Breaks parts block (Rounding asset said real) = IsMisrounded parts block asset said real
Breaks parts block (WrongAfter said real) =
    (said ≡ block.header.after) × (real ≡ digest_of_ledger (ledger_after parts block)) × (said ≢ real)

-- this is the first reason
pub record Refuses (parts : Parts) (block : Block) (why : Invalid) : Type 0 where
  pub before : HoldsBefore (rule_of why) parts block
  pub breaks : Breaks parts block why

-- ---- what a check answers in place of Ok

-- the first reason, and not the one for which the ledger after the block is needed
pub record RefusesEarly (parts : Parts) (block : Block) (why : Invalid) : Type 0 where
  pub refuses : Refuses parts block why
  pub early : (said real : List ℕ) → why ≢ WrongAfter said real

-- ---- what a check answers that does not know the digest of the ledger

-- the first reason but for the one on that digest, and not the one for which the ledger after the block is needed
pub record RefusesButParent (parts : Parts) (block : Block) (why : Invalid) : Type 0 where
  pub before : HoldsButParent (rule_of why) parts block
  pub breaks : Breaks parts block why
  pub early : (said real : List ℕ) → why ≢ WrongAfter said real
  pub other : (said real : List ℕ) → why ≢ WrongParent said real
