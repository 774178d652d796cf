-- The form of a block, whatever ledger it is for.
use Rattle.std.specs.Prelude.{◌≡◌, ℕ, ◌^◌, ◌<◌, ◌≤◌, length, All, IsTrue, Option, None, Some}
use Rattle.sx_block.specs.declared.header.Header.{Header}
use Rattle.sx_block.specs.declared.header.Block.{Block}
use Rattle.sx_block.specs.Digest.{IsDigest}
use Rattle.sx_base.specs.Ranges.{most_amount, most_assets}
use Rattle.sx_bytes.specs.Grammar.{in_order}
use Rattle.sx_dual.specs.declared.cut.Cut.{Cut}
use Rattle.sx_dual.specs.Tables.{IsFlow}
use Rattle.sx_ledger.specs.Body.{tx_before}
use Rattle.sx_ledger.specs.Ledger.{most_height}
use Rattle.sx_price.specs.Limits.{IsPrice}
use Rattle.sx_tx.specs.Transactions.{IsTx, most_transactions}

-- a cut, where there is one, is a set of some of n assets
abbrev pub CutFits : ℕ → Option Cut → Type 0
CutFits n None = Unit {0}
CutFits n (Some cut) = cut.0 < 2 ^ n

-- how many assets the header speaks of
abbrev pub assets_of : Header → ℕ
assets_of header = length header.prices

-- the versions of a block are 1 and 2
abbrev pub most_version : ℕ
most_version = 2

pub record IsHeader (header : Header) : Type 0 where
  pub some_version : 1 ≤ header.version
  pub few_versions : header.version ≤ most_version
  pub height : header.height ≤ most_height
  pub parent : IsDigest header.parent
  pub body : IsDigest header.body
  pub some_mu : 1 ≤ header.mu
  pub most_mu : header.mu ≤ 20
  pub some_asset : 1 ≤ assets_of header
  pub few_assets : assets_of header ≤ most_assets
  pub prices : All IsPrice header.prices
  pub same_assets : header.trades.assets ≡ assets_of header
  pub trades : IsFlow header.trades
  pub cut : CutFits (assets_of header) header.dropped
  pub one_potential : length header.potentials ≡ assets_of header
  pub potentials : All (λ potential. potential < 2 ^ 32) header.potentials
  pub one_rounding : length header.rounding ≡ assets_of header
  pub rounding : All (λ units. units ≤ most_amount) header.rounding
  pub after : IsDigest header.after

pub record IsBlock (block : Block) : Type 0 where
  pub header : IsHeader block.header
  pub few : length block.txs ≤ most_transactions
  pub each : All IsTx block.txs
  pub ordered : IsTrue (in_order tx_before None block.txs)
