-- What holds of each seal, each filter and each demonstration.
use Rattle.std.specs.Prelude.{◌≡◌, ℕ, List, [], ◌∷◌, ◌++◌, length}
use Rattle.sx_block.specs.declared.header.Block.{Block}
use Rattle.sx_block.specs.Validity.{ledger_after}
use Rattle.sx_block.specs.Checked.{checked_of}
use Rattle.sx_multi.specs.Quotes.{posted_at}
use Rattle.sx_gen.specs.State.{demo_parts}
use Rattle.sx_outcome.specs.declared.outcome.Outcome.{Outcome}
use Rattle.sx_outcome.specs.Gathering.{body_of, decisions}
use Rattle.sx_ledger.specs.declared.parts.Parts.{Parts}
use Rattle.sx_meaning.specs.Items.{block, candidates, item_record, outcomes, records, state, state_record}
use Rattle.sx_meaning.specs.Outputs.{MayWrite}
use Rattle.sx_meaning.specs.Sealing.{IsDemonstrated}
use Rattle.sx_meaning.specs.Settling.{Settles}
use Rattle.sx_text.specs.Texts.{checked_text}
use Rattle.sx_tx.specs.declared.tx.Tx.{Tx}
use Rattle.sx_words.specs.declared.command.Command.TheVariants.{Check, Demo, Filter, Replay, Seal}

-- a state and candidates were read, and what was written is a block, with outcomes after it, that leaves exactly what
-- its transactions and its header mean
pub record LeavesItsMeaning (mu rounds searches : ℕ) (bytes text : List ℕ) : Type 0 where
  pub parts : Parts
  pub txs : List Tx
  pub read : bytes ≡ records (state parts ∷ candidates txs ∷ [])
  pub said : Block
  pub told : List Outcome
  pub encoded : text ≡ item_record (block said) ++ item_record (outcomes told)
  -- each candidate is told one outcome, and the transactions are the accepted candidates, in the order of a body
  pub one_each : length told ≡ length txs
  pub accepted_are : said.txs ≡ body_of (decisions txs told)
  -- the version, the margin and the prices are those that were asked for
  pub version : said.header.version ≡ 1
  pub margin : said.header.mu ≡ mu
  pub prices : said.header.prices ≡ posted_at parts said.txs mu rounds searches
  -- a check of the state and the block tells that it is valid
  pub checks : MayWrite Check (records (state parts ∷ block said ∷ [])) (checked_text (checked_of said)) []
  -- a replay of the state and of what was written, by any number of workers, writes the ledger after the block
  pub replays : (workers : ℕ) →
      MayWrite (Replay workers) (state_record parts ++ text) (state_record (ledger_after parts said)) []
  pub settles : Settles parts said

-- so it is with all that a seal may write, however many workers and shards there are
abbrev pub SealsLeaveTheirMeaning : Type 0
SealsLeaveTheirMeaning =
    (workers shards mu rounds searches : ℕ) (bytes text left : List ℕ)
    → MayWrite (Seal workers shards mu rounds searches) bytes text left → LeavesItsMeaning mu rounds searches bytes text

-- how many workers and shards there are does not change what may be written
abbrev pub SealsAlike : Type 0
SealsAlike =
    (workers others shards more mu rounds searches : ℕ) (bytes text left : List ℕ)
    → MayWrite (Seal workers shards mu rounds searches) bytes text left
    → MayWrite (Seal others more mu rounds searches) bytes text left

-- so it is with a filter
abbrev pub FiltersAlike : Type 0
FiltersAlike =
    (workers others : ℕ) (bytes text left : List ℕ) → MayWrite (Filter workers) bytes text left
    → MayWrite (Filter others) bytes text left

-- and with a demonstration
abbrev pub DemosAlike : Type 0
DemosAlike =
    (number workers others : ℕ) (bytes text left : List ℕ) → MayWrite (Demo number workers) bytes text left
    → MayWrite (Demo number others) bytes text left

-- what a demonstration tells is the summary of a block that settles
abbrev pub DemosSettle : Type 0
DemosSettle =
    (number workers : ℕ) (bytes text left : List ℕ) → MayWrite (Demo number workers) bytes text left
    → (demonstrated : IsDemonstrated number text) × Settles demo_parts demonstrated.said
