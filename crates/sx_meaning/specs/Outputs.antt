-- What each command may write, where it finds no fault.
use Rattle.std.specs.Prelude.{◌≡◌, ℕ, Bool, true, false, List, [], ◌∷◌, Option, None, Some}
use Rattle.sx_block.specs.Checked.{checked_of}
use Rattle.sx_block.specs.Chain.{ledger_after_all}
use Rattle.sx_filter.specs.Kept.{kept_of}
use Rattle.sx_script.specs.Running.{outcomes_of_run}
use Rattle.sx_ledger.specs.Ledger.{migrated}
use Rattle.sx_meaning.specs.Findings.{Finds, no_fault}
use Rattle.sx_meaning.specs.Items.{Item, block, candidates, item_record, outcomes, proof, script, state, state_record}
use Rattle.sx_meaning.specs.Proving.{IsFollowed, IsVerdict, proved}
use Rattle.sx_meaning.specs.Replays.{blocks_of}
use Rattle.sx_meaning.specs.Sealing.{IsDemonstrated, IsSealed}
use Rattle.sx_text.specs.declared.shown.Shown.{Shown}
use Rattle.sx_text.specs.declared.shown.Shown.TheVariants as shown
use Rattle.sx_text.specs.Shown.{shown_text}
use Rattle.sx_text.specs.Texts.{checked_text}
use Rattle.sx_words.specs.declared.command.Command.{Command}
use Rattle.sx_words.specs.declared.command.Command.TheVariants.{Check, Demo, Filter, Follow, Interleave, Migrate, Prove}
use Rattle.sx_words.specs.declared.command.Command.TheVariants.{Replay, Seal, Show, Verify}

-- what a record holds, where a text shows it
abbrev pub shown_of : Item → Option Shown
shown_of (state parts) = Some (shown.State parts)
shown_of (candidates txs) = Some (shown.Candidates txs)
shown_of (block said) = Some (shown.Block said)
shown_of (outcomes told) = Some (shown.Outcomes told)
shown_of (script turns) = Some (shown.Script turns)
shown_of (proof claim) = None

-- the text that shows it
abbrev pub IsShown : Option Shown → List ℕ → Type 0
IsShown None text = ⊥
IsShown (Some held) text = text ≡ shown_text held

-- what may be written of the items of an input: how many workers there are is said nowhere
abbrev pub Writes : Command → List Item → List ℕ → Type 0
-- a block and what became of each candidate
Writes (Seal workers shards mu rounds searches) (state parts ∷ candidates txs ∷ []) text =
    IsSealed parts txs mu rounds searches text
-- the line of a valid block
Writes Check (state parts ∷ block said ∷ []) text = text ≡ checked_text (checked_of said)
-- the record of the ledger after all blocks
Writes (Replay workers) (state parts ∷ others) text =
    text ≡ state_record (ledger_after_all parts (blocks_of others))
-- the record of what becomes of the candidates where the script says who makes the next step
Writes Interleave (state parts ∷ candidates txs ∷ script turns ∷ []) text =
    text ≡ item_record (outcomes (outcomes_of_run parts txs turns.actors turns.turns))
-- the record of the state in version 2
Writes Migrate (state parts ∷ []) text = text ≡ state_record (migrated parts)
-- the text of what the record holds
Writes Show (item ∷ []) text = IsShown (shown_of item) text
-- the record of the candidates that are kept
Writes (Filter workers) (state parts ∷ candidates txs ∷ []) text =
    text ≡ item_record (candidates (kept_of parts txs))
-- the record of a proof of the account, or nothing where the state has none of this id
Writes (Prove id) (state parts ∷ []) text = text ≡ proved parts id
-- the line that tells whether the proof is good
Writes Verify (proof claim ∷ []) text = IsVerdict claim text
-- the record of the ledger after the chain that the blocks make
Writes Follow (state parts ∷ others) text = IsFollowed parts (blocks_of others) text
-- the summary of a block of the demonstration
Writes (Demo number workers) [] text = IsDemonstrated number text
Writes _ items text = ⊥

-- the commands whose output is a function of the input
abbrev pub writes_one : Command → Bool
writes_one Check = true
writes_one (Replay workers) = true
writes_one Interleave = true
writes_one Migrate = true
writes_one Show = true
writes_one (Filter workers) = true
writes_one (Prove id) = true
writes_one Verify = true
writes_one Follow = true
writes_one (Seal workers shards mu rounds searches) = false
writes_one (Demo number workers) = false

-- no fault is found of an input, this may be written of its items, and this is left of it
pub record MayWrite (command : Command) (bytes text left : List ℕ) : Type 0 where
  pub found : Finds command bytes no_fault left
  pub writes : Writes command found.items text
