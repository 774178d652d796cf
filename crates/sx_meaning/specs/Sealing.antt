-- What a seal and a demonstration may write.
use Rattle.std.specs.Prelude.{◌≡◌, ℕ, List, ◌++◌}
use Rattle.sx_block.specs.declared.header.Block.{Block}
use Rattle.sx_block.specs.Validity.{IsValid, flow_of_block, high_in, low_in}
use Rattle.sx_block.specs.Checked.{checked_of}
use Rattle.sx_block.specs.Dropping.{DropsExactly}
use Rattle.sx_multi.specs.Quotes.{posted_at}
use Rattle.sx_dual.specs.Circulation.{IsGreatest}
use Rattle.sx_gen.specs.Candidates.{demo_txs}
use Rattle.sx_gen.specs.State.{demo_parts}
use Rattle.sx_outcome.specs.declared.outcome.Outcome.{Outcome}
use Rattle.sx_outcome.specs.Gathering.{IsGathered}
use Rattle.sx_ledger.specs.declared.parts.Parts.{Parts}
use Rattle.sx_ledger.specs.Ledger.{assets_of}
use Rattle.sx_meaning.specs.Items.{block, item_record, outcomes}
use Rattle.sx_text.specs.Demonstration.{demo_text}
use Rattle.sx_tx.specs.declared.tx.Tx.{Tx}
use Rattle.sx_words.specs.declared.setting.Setting.TheVariants.{Mu, Rounds, Searches}
use Rattle.sx_words.specs.Settings.{default_of}

-- a block of version 1 that is valid for the ledger, at this margin, these rounds of a search for prices and so many
-- searches
pub record IsClearedFor (parts : Parts) (mu rounds searches : ℕ) (said : Block) : Type 0 where
  pub valid : IsValid parts said
  pub version : said.header.version ≡ 1
  pub margin : said.header.mu ≡ mu
  -- its prices are those of the best search from the ledger's prices
  pub prices : said.header.prices ≡ posted_at parts said.txs mu rounds searches
  -- no circulation within its bounds trades more, and bounds are dropped exactly where no circulation keeps them
  pub greatest : IsGreatest (assets_of parts) (low_in parts said) (high_in parts said) (flow_of_block said)
  pub dropped : DropsExactly parts said

-- A block of candidates, and what became of each. It is free which of two candidates that exclude each other is
-- accepted, and which of several greatest flows trades, with which potentials.
pub record IsMadeOf (parts : Parts) (txs : List Tx) (mu rounds searches : ℕ) (said : Block) (told : List Outcome)
    : Type 0 where
  -- the outcomes and the transactions of the block are those of a gathering of the candidates
  pub gathered : IsGathered parts txs told said.txs
  pub cleared : IsClearedFor parts mu rounds searches said

-- the record of a block, and then that of the outcomes of the candidates
pub record IsSealed (parts : Parts) (txs : List Tx) (mu rounds searches : ℕ) (text : List ℕ) : Type 0 where
  pub said : Block
  pub told : List Outcome
  pub encoded : text ≡ item_record (block said) ++ item_record (outcomes told)
  pub made : IsMadeOf parts txs mu rounds searches said told

-- The summary of a block of the candidates of the demonstration, at the margin, the rounds and the searches that a
-- seal has by default.
pub record IsDemonstrated (number : ℕ) (text : List ℕ) : Type 0 where
  pub said : Block
  pub told : List Outcome
  pub made : IsMadeOf demo_parts (demo_txs number) (default_of Mu) (default_of Rounds) (default_of Searches) said told
  pub summed : text ≡ demo_text number told (checked_of said) said.header
