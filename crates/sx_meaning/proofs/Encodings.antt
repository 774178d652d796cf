-- The encodings of a state, a block, outcomes, candidates, a script and a proof decode to them, wherever their records stand.
use Rattle.std.proofs.Common.{◌≡◌, ◌≤◌, List, length, Result, Ok, Err, refl, sym, arith}
use Rattle.sx_block.specs.declared.header.Block.{Block}
use Rattle.sx_block.specs.Block.{IsBlock}
use Rattle.sx_block.specs.Decoding.{block_at}
use Rattle.sx_block.specs.Encoding.{block_bytes}
use Rattle.sx_block.proofs.BlockLaws.{only_in as block_only_in}
use Rattle.sx_block.proofs.Lengths.{block_fits}
use Rattle.sx_bytes.specs.declared.fault.FormFault.{FormFault}
use Rattle.sx_bytes.specs.declared.fault.ReadError.TheVariants as read_error
use Rattle.sx_commit.specs.Claim.{Claim, IsClaim}
use Rattle.sx_commit.specs.Decoding.{proof_at}
use Rattle.sx_commit.specs.Encoding.{claim_bytes}
use Rattle.sx_commit.proofs.Lengths.{proof_most}
use Rattle.sx_commit.proofs.Payload.{only_in as proof_only_in}
use Rattle.sx_outcome.specs.declared.outcome.Outcome.{Outcome}
use Rattle.sx_outcome.specs.declared.script.Script.{Script}
use Rattle.sx_outcome.specs.OutcomeDecoding.{outcomes_at}
use Rattle.sx_outcome.specs.Outcomes.{AreOutcomes, outcomes_bytes}
use Rattle.sx_outcome.specs.ScriptDecoding.{script_at}
use Rattle.sx_outcome.specs.Scripts.{IsScript, script_bytes}
use Rattle.sx_outcome.proofs.OutcomeListLaws.{only_in as outcomes_only_in, outcomes_fit}
use Rattle.sx_outcome.proofs.ScriptLaws.{only_in as script_only_in, scripts_fit}
use Rattle.sx_ledger.specs.declared.parts.Parts.{Parts}
use Rattle.sx_state.specs.Encoding.{state_bytes}
use Rattle.sx_ledger.specs.Ledger.{IsLedger}
use Rattle.sx_state.proofs.Lengths.{state_fits}
use Rattle.sx_record.specs.Frame.{most_bytes}
use Rattle.sx_tx.specs.declared.tx.Tx.{Tx}
use Rattle.sx_tx.specs.Transactions.{IsTxList, list_bytes}
use Rattle.sx_tx.proofs.ListLaws.{fits_record}

-- ---- payloads

block_is : (x : Block) → IsBlock x → (d : Result Block FormFault) → block_at (block_bytes x) ≡ d → d ≡ Ok x
block_is x is (Ok y) e = sym (block_only_in (block_bytes x) (Ok y) x e is refl)
block_is x is (Err fault) e =
    absurd (let none : Ok x ≡ Err fault = block_only_in (block_bytes x) (Err (read_error.Form fault)) x e is refl in cc)

pub block_again : (x : Block) → IsBlock x → block_at (block_bytes x) ≡ Ok x
block_again x is = block_is x is (block_at (block_bytes x)) refl

outcomes_are : (x : List Outcome) → AreOutcomes x → (d : Result (List Outcome) FormFault) →
    outcomes_at (outcomes_bytes x) ≡ d
    → d ≡ Ok x
outcomes_are x are (Ok y) e = sym (outcomes_only_in (outcomes_bytes x) (Ok y) x e are refl)
outcomes_are x are (Err fault) e =
    absurd (let none : Ok x ≡ Err fault =
    outcomes_only_in (outcomes_bytes x) (Err (read_error.Form fault)) x e are refl in cc)

pub outcomes_again : (x : List Outcome) → AreOutcomes x → outcomes_at (outcomes_bytes x) ≡ Ok x
outcomes_again x are = outcomes_are x are (outcomes_at (outcomes_bytes x)) refl

script_is : (x : Script) → IsScript x → (d : Result Script FormFault) → script_at (script_bytes x) ≡ d → d ≡ Ok x
script_is x is (Ok y) e = sym (script_only_in (script_bytes x) (Ok y) x e is refl)
script_is x is (Err fault) e =
    absurd (let none : Ok x ≡ Err fault =
    script_only_in (script_bytes x) (Err (read_error.Form fault)) x e is refl in cc)

pub script_again : (x : Script) → IsScript x → script_at (script_bytes x) ≡ Ok x
script_again x is = script_is x is (script_at (script_bytes x)) refl

proof_is : (x : Claim) → IsClaim x → (d : Result Claim FormFault) → proof_at (claim_bytes x) ≡ d → d ≡ Ok x
proof_is x is (Ok y) e = sym (proof_only_in (claim_bytes x) (Ok y) x e is refl)
proof_is x is (Err fault) e =
    absurd (let none : Ok x ≡ Err fault = proof_only_in (claim_bytes x) (Err (read_error.Form fault)) x e is refl in cc)

pub proof_again : (x : Claim) → IsClaim x → proof_at (claim_bytes x) ≡ Ok x
proof_again x is = proof_is x is (proof_at (claim_bytes x)) refl

-- ---- their lengths

pub state_short : (x : Parts) → IsLedger x → length (state_bytes x) ≤ most_bytes
state_short x is = omega (arith, state_fits x is)

pub block_short : (x : Block) → IsBlock x → length (block_bytes x) ≤ most_bytes
block_short x is = block_fits x is

pub outcomes_short : (x : List Outcome) → AreOutcomes x → length (outcomes_bytes x) ≤ most_bytes
outcomes_short x are = omega (arith, outcomes_fit x are.few)

pub candidates_short : (x : List Tx) → IsTxList x → length (list_bytes x) ≤ most_bytes
candidates_short x is = omega (arith, fits_record x is.few)

pub script_short : (x : Script) → IsScript x → length (script_bytes x) ≤ most_bytes
script_short x is = omega (arith, scripts_fit x is.few_turns)

pub proof_short : (x : Claim) → IsClaim x → length (claim_bytes x) ≤ most_bytes
proof_short x is = omega (arith, proof_most x is)
