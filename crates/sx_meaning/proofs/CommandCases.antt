-- What is said of each command, and what is written of single accounts.
use Rattle.std.proofs.Common.{◌≡◌, ℕ, true, false, List, [], ◌∷◌, Some, None, refl}
use Rattle.sx_block.specs.declared.header.Block.{Block}
use Rattle.sx_block.specs.declared.invalid.Invalid.{Invalid}
use Rattle.sx_commit.specs.Claim.{Claim}
use Rattle.sx_commit.specs.Commitments.{root_of, siblings_of}
use Rattle.sx_block.specs.Chain.{IsChain, ledger_after_all}
use Rattle.sx_ledger.specs.declared.account.Account.{Account}
use Rattle.sx_ledger.specs.declared.parts.Parts.{Parts}
use Rattle.sx_meaning.specs.Answers.{takes_no_input}
use Rattle.sx_meaning.specs.Findings.{GoesOn, StopsAt, shown_tags}
use Rattle.sx_meaning.specs.Items.{Item, item_record, proof, state_record}
use Rattle.sx_meaning.specs.Outputs.{Writes, shown_of, writes_one}
use Rattle.sx_meaning.specs.Proving.{IsFollowed, account_from, proved, shown_account}
use Rattle.sx_words.specs.declared.command.Command.TheVariants.{Check, Demo, Filter, Follow, Interleave, Migrate, Prove}
use Rattle.sx_words.specs.declared.command.Command.TheVariants.{Replay, Seal, Show, Verify}

-- ---- each command

module _ (number workers shards mu rounds searches id : ℕ) where
  -- each but a seal and a demonstration writes one text of an input
  one_text : (writes_one Check ≡ true) × (writes_one (Replay workers) ≡ true) × (writes_one Interleave ≡ true)
      × (writes_one Migrate ≡ true) × (writes_one Show ≡ true) × (writes_one (Filter workers) ≡ true)
      × (writes_one (Prove id) ≡ true) × (writes_one Verify ≡ true) × (writes_one Follow ≡ true)
  one_text = (refl, refl, refl, refl, refl, refl, refl, refl, refl)

  many_texts : (writes_one (Seal workers shards mu rounds searches) ≡ false) × (writes_one (Demo number workers) ≡ false)
  many_texts = (refl, refl)

  -- each but a demonstration reads an input
  with_input : (takes_no_input Check ≡ false) × (takes_no_input (Replay workers) ≡ false)
      × (takes_no_input Interleave ≡ false) × (takes_no_input Migrate ≡ false) × (takes_no_input Show ≡ false)
      × (takes_no_input (Filter workers) ≡ false) × (takes_no_input (Prove id) ≡ false)
      × (takes_no_input Verify ≡ false) × (takes_no_input Follow ≡ false)
      × (takes_no_input (Seal workers shards mu rounds searches) ≡ false)
  with_input = (refl, refl, refl, refl, refl, refl, refl, refl, refl, refl)

  without_input : takes_no_input (Demo number workers) ≡ true
  without_input = refl

-- a follower takes each block, and stops at none
module _ (items : List Item) (item : Item) (said : Block) (number : ℕ) (why : Invalid) where
  takes_each : GoesOn Follow items item
  takes_each = tt

  stops_at_none : StopsAt Follow items said number why → ⊥
  stops_at_none stops = stops

-- no text shows a proof, and nothing is written of an input without one
module _ (claim : Claim) (text : List ℕ) where
  not_shown : shown_of (proof claim) ≡ None
  not_shown = refl

  no_verdict : Writes Verify [] text → ⊥
  no_verdict wrote = wrote

-- a follower writes the state after the chain, whatever else stands among the blocks
module _ (parts : Parts) (blocks chain : List Block) where
  after_chain : IsChain parts blocks chain → IsFollowed parts blocks (state_record (ledger_after_all parts chain))
  after_chain is = record { chain = chain; is = is; written = refl }

-- the tags of the records that are shown
tags : shown_tags ≡ 1 ∷ 2 ∷ 3 ∷ 4 ∷ 5 ∷ []
tags = refl

-- ---- one account

module _ (any : Account) where
  abbrev of_id : ℕ → Account
  of_id id = record any { id = record { 0 = id } }

  -- among accounts 5 and 9
  places : (account_from 5 0 (of_id 5 ∷ of_id 9 ∷ []) ≡ Some (0, of_id 5))
      × (account_from 9 0 (of_id 5 ∷ of_id 9 ∷ []) ≡ Some (1, of_id 9))
      × (account_from 7 0 (of_id 5 ∷ of_id 9 ∷ []) ≡ None)
  places = (refl, refl, refl)

  -- of a ledger of these
  module _ (parts : Parts) where
    abbrev of_two : Parts
    of_two = record parts { accounts = of_id 5 ∷ of_id 9 ∷ [] }

    account_9 : proved of_two 9 ≡ item_record (proof (
      root_of of_two,
      record {
        version = parts.version;
        place = 1;
        account = of_id 9;
        siblings = siblings_of of_two 1;
      },
    ))
    account_9 = refl

    account_7 : proved of_two 7 ≡ []
    account_7 = refl
