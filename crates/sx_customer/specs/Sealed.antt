-- What a seal wrote.
use Rattle.std.specs.Prelude.{◌≡◌, ◌⊎◌, ℕ, ◌+◌, ◌-◌, ◌^◌, ◌<◌, ◌≤◌, List, [], ◌∷◌, ◌++◌, length, codes, is_some, Ok}
use Rattle.std.specs.Fmt.{decimal}
use Rattle.sx_block.specs.declared.header.Block.{Block}
use Rattle.sx_block.specs.Validity.{flow_of_block, ledger_after}
use Rattle.sx_block.specs.declared.invalid.Invalid.{Invalid}
use Rattle.sx_block.specs.declared.invalid.Invalid.TheVariants as invalid
use Rattle.sx_customer.specs.Fairness.{IsFair, value_of_all}
use Rattle.sx_customer.specs.Made.{IsMade}
use Rattle.sx_ledger.specs.declared.parts.Parts.{Parts}
use Rattle.sx_ledger.specs.Body.{created, holding_of, made}
use Rattle.sx_ledger.specs.Effects.{debits}
use Rattle.sx_ledger.specs.Ledger.{IsLedger}
use Rattle.sx_meaning.specs.Items.{block, candidates, item_record, outcomes, state_record}
use Rattle.sx_meaning.specs.Outputs.{MayWrite}
use Rattle.sx_multi.specs.Quotes.{posted_at}
use Rattle.sx_outcome.specs.declared.outcome.Outcome.{Outcome}
use Rattle.sx_outcome.specs.Gathering.{body_of, decisions}
use Rattle.sx_outcome.specs.Room.{room_for}
use Rattle.sx_text.specs.Texts.{bounds_text}
use Rattle.sx_tx.specs.declared.tx.Tx.{Tx}
use Rattle.sx_words.specs.declared.command.Command.TheVariants.{Check, Replay}

-- ---- the line of a valid block

-- the height, the value that is traded, and what became of the lower bounds
abbrev pub valid_line : Block → List ℕ
valid_line said =
    codes "valid height " ++ (decimal said.header.height ++ (codes " value "
    ++ (decimal (value_of_all (length said.header.prices) (flow_of_block said)) ++ (codes " bounds "
    ++ (bounds_text (is_some said.header.dropped) ++ 10 ∷ [])))))

-- ---- a seal

-- A state and candidates were read, and this was written.
pub record Sealed (mu rounds searches : ℕ) (input text : List ℕ) : Type 0 where
  pub parts : Parts
  pub txs : List Tx
  pub said : Block
  pub told : List Outcome
  pub read : input ≡ state_record parts ++ item_record (candidates txs)
  -- the record of a block, and then that of an outcome for each candidate
  pub written : text ≡ item_record (block said) ++ item_record (outcomes told)
  pub one_each : length told ≡ length txs
  -- the transactions of the block are the accepted candidates
  pub accepted : said.txs ≡ body_of (decisions txs told)
  -- a check of the state and the block says that it is valid
  pub checks : MayWrite Check (state_record parts ++ item_record (block said)) (valid_line said) []
  -- a replay of the state and of all that was written, by any number of workers, writes the state after the block
  pub replays : (workers : ℕ) →
      MayWrite (Replay workers) (state_record parts ++ text) (state_record (ledger_after parts said)) []
  -- nothing is spent that the block itself credits
  pub covered : (account asset : ℕ) → debits said.txs account asset ≤ holding_of parts.accounts account asset
  pub fair : IsFair parts said
  -- the version, the margin and the prices are those that were asked for
  pub version : said.header.version ≡ 1
  pub margin : said.header.mu ≡ mu
  pub prices : said.header.prices ≡ posted_at parts said.txs mu rounds searches

-- the same state and candidates, and a block and outcomes that a gathering and a clearing make of them
pub record Gathered (mu rounds searches : ℕ) (input text : List ℕ) : Type 0 where
  pub parts : Parts
  pub txs : List Tx
  pub said : Block
  pub told : List Outcome
  pub read : input ≡ state_record parts ++ item_record (candidates txs)
  pub written : text ≡ item_record (block said) ++ item_record (outcomes told)
  pub ledger : IsLedger parts
  -- a block may follow, and has room for all that the candidates create and make
  pub room : room_for parts txs ≡ Ok tt
  pub made : IsMade parts txs mu rounds searches said told
  pub fair : IsFair parts said

-- ---- no seal

-- why a block that takes all candidates cannot follow: the last height is reached, or there would be too many accounts
-- or offers
abbrev pub LacksRoom : Parts → List Tx → Invalid → Type 0
LacksRoom parts txs why =
    ((why ≡ invalid.Ended) × (parts.height ≡ 2 ^ 63 - 1))
    ⊎ (((why ≡ invalid.Crowded (length parts.accounts) (length (created txs)) 65536)
    × (65536 < length parts.accounts + length (created txs)))
    ⊎ ((why ≡ invalid.Crowded (length parts.offers) (length (made txs)) 262144)
    × (262144 < length parts.offers + length (made txs))))

-- a state and candidates were read, for which there is no room
pub record HasNoRoom (input : List ℕ) (number : ℕ) (why : Invalid) : Type 0 where
  pub parts : Parts
  pub txs : List Tx
  pub read : input ≡ state_record parts ++ item_record (candidates txs)
  pub first : number ≡ 0
  pub lacks : LacksRoom parts txs why
