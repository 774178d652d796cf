-- What the records of an input hold, how they are encoded, and how a payload is decoded.
use Rattle.std.specs.Prelude.{ℕ, List, Result, Ok, Err, ◌==◌, if◌then◌else◌}
use Rattle.std.specs.List.{flat_map}
use Rattle.sx_block.specs.declared.header.Block.{Block}
use Rattle.sx_block.specs.Block.{IsBlock}
use Rattle.sx_block.specs.Decoding.{block_at}
use Rattle.sx_block.specs.Encoding.{block_bytes}
use Rattle.sx_bytes.specs.declared.fault.FormFault.{FormFault}
use Rattle.sx_commit.specs.Claim.{Claim, IsClaim}
use Rattle.sx_commit.specs.Decoding.{proof_at}
use Rattle.sx_commit.specs.Encoding.{claim_bytes}
use Rattle.sx_outcome.specs.declared.outcome.Outcome.{Outcome}
use Rattle.sx_outcome.specs.declared.script.Script.{Script}
use Rattle.sx_outcome.specs.OutcomeDecoding.{outcomes_at}
use Rattle.sx_outcome.specs.Outcomes.{AreOutcomes, outcomes_bytes}
use Rattle.sx_outcome.specs.ScriptDecoding.{script_at}
use Rattle.sx_outcome.specs.Scripts.{IsScript, script_bytes}
use Rattle.sx_ledger.specs.declared.parts.Parts.{Parts}
use Rattle.sx_state.specs.Decoding.{state_at}
use Rattle.sx_state.specs.Encoding.{state_bytes}
use Rattle.sx_ledger.specs.Ledger.{IsLedger}
use Rattle.sx_record.specs.Frame.{record_bytes}
use Rattle.sx_record.specs.Tags.{block_tag, candidates_tag, outcomes_tag, proof_tag, script_tag, state_tag}
use Rattle.sx_tx.specs.declared.tx.Tx.{Tx}
use Rattle.sx_tx.specs.TransactionDecoding.{candidates_at}
use Rattle.sx_tx.specs.Transactions.{IsTxList, list_bytes}

-- what a record holds
pub data Item : Type 0 where
  state : (parts : Parts) → Item
  candidates : (txs : List Tx) → Item
  block : (said : Block) → Item
  outcomes : (told : List Outcome) → Item
  script : (turns : Script) → Item
  proof : (claim : Claim) → Item

-- it has its form
abbrev pub IsItem : Item → Type 0
IsItem (state parts) = IsLedger parts
IsItem (candidates txs) = IsTxList txs
IsItem (block said) = IsBlock said
IsItem (outcomes told) = AreOutcomes told
IsItem (script turns) = IsScript turns
IsItem (proof claim) = IsClaim claim

-- ---- encoding

abbrev pub tag_of : Item → ℕ
tag_of (state parts) = state_tag
tag_of (candidates txs) = candidates_tag
tag_of (block said) = block_tag
tag_of (outcomes told) = outcomes_tag
tag_of (script turns) = script_tag
tag_of (proof claim) = proof_tag

abbrev pub payload_of : Item → List ℕ
payload_of (state parts) = state_bytes parts
payload_of (candidates txs) = list_bytes txs
payload_of (block said) = block_bytes said
payload_of (outcomes told) = outcomes_bytes told
payload_of (script turns) = script_bytes turns
payload_of (proof claim) = claim_bytes claim

abbrev pub item_record : Item → List ℕ
item_record item = record_bytes (tag_of item) (payload_of item)

abbrev pub state_record : Parts → List ℕ
state_record parts = item_record (state parts)

-- one record after the other
abbrev pub records : List Item → List ℕ
records items = flat_map item_record items

-- ---- decoding

-- what was decoded, as an item
abbrev pub as_item : {X : Type 0} → (X → Item) → Result X FormFault → Result Item FormFault
as_item make (Ok x) = Ok (make x)
as_item make (Err fault) = Err fault

-- what the payload of a record of this tag holds
abbrev pub payload_at : ℕ → List ℕ → Result Item FormFault
payload_at tag payload =
    if tag == state_tag then as_item state (state_at payload) else
    if tag == candidates_tag then as_item candidates (candidates_at payload) else
    if tag == block_tag then as_item block (block_at payload) else
    if tag == outcomes_tag then as_item outcomes (outcomes_at payload) else
    if tag == script_tag then as_item script (script_at payload) else
    as_item proof (proof_at payload)
