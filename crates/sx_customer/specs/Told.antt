-- What was written of a state, of a record, and of candidates that a script orders.
use Rattle.std.specs.Prelude.{◌≡◌, ℕ, List, ◌++◌, Ok}
use Rattle.sx_ledger.specs.declared.parts.Parts.{Parts}
use Rattle.sx_meaning.specs.Items.{Item, block, candidates, item_record, outcomes, proof, script, state, state_record}
use Rattle.sx_outcome.specs.declared.script.Script.{Script}
use Rattle.sx_outcome.specs.Room.{room_for}
use Rattle.sx_script.specs.Running.{outcomes_of_run}
use Rattle.sx_text.specs.Blocks.{block_text}
use Rattle.sx_text.specs.Gathering.{outcomes_text, script_text}
use Rattle.sx_text.specs.States.{state_text}
use Rattle.sx_text.specs.Transactions.{candidates_text}
use Rattle.sx_tx.specs.declared.tx.Tx.{Tx}

-- a state was read, and the same state was written in version 2
pub record Migrated (input text : List ℕ) : Type 0 where
  pub parts : Parts
  pub after : Parts
  pub read : input ≡ state_record parts
  pub written : text ≡ state_record after
  pub version : after.version ≡ 2
  pub height : after.height ≡ parts.height
  pub prices : after.prices ≡ parts.prices
  pub rounding : after.rounding ≡ parts.rounding
  pub accounts : after.accounts ≡ parts.accounts
  pub offers : after.offers ≡ parts.offers

-- the text of what a record holds
abbrev pub IsTextOf : Item → List ℕ → Type 0
IsTextOf (state parts) text = text ≡ state_text parts
IsTextOf (candidates txs) text = text ≡ candidates_text txs
IsTextOf (block said) text = text ≡ block_text said
IsTextOf (outcomes told) text = text ≡ outcomes_text told
IsTextOf (script turns) text = text ≡ script_text turns
IsTextOf (proof claim) text = ⊥

-- a record was read, and its text was written
pub record Shown (input text : List ℕ) : Type 0 where
  pub item : Item
  pub read : input ≡ item_record item
  pub written : IsTextOf item text

-- a state, candidates and a script were read, and what becomes of each candidate was written
pub record Interleaved (input text : List ℕ) : Type 0 where
  pub parts : Parts
  pub txs : List Tx
  pub turns : Script
  pub read : input ≡ state_record parts ++ (item_record (candidates txs) ++ item_record (script turns))
  pub room : room_for parts txs ≡ Ok tt
  pub written : text ≡ item_record (outcomes (outcomes_of_run parts txs turns.actors turns.turns))
