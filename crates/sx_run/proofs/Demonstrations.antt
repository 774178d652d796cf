-- The demonstration: there is room for its candidates, and what it writes is found of no input.
use Rattle.std.proofs.Common.{◌≡◌, ℕ, ◌+◌, ◌≤◌, Bool, false, List, [], length, Option, Some, None, Result, Ok, Err}
use Rattle.std.proofs.Common.{refl, ap, subst, ◌∙◌, arith}
use Rattle.std.specs.Prelude.{◌==◌, nat_lt, if◌then◌else◌}
use Rattle.sx_block.specs.declared.header.Block.{Block}
use Rattle.sx_block.specs.Rule as rule
use Rattle.sx_block.specs.Validity.{IsValid}
use Rattle.sx_block.specs.declared.checked.Checked.{Checked}
use Rattle.sx_block.specs.Checked.{checked_of}
use Rattle.sx_gather.specs.declared.fault.GatherFault.{GatherFault}
use Rattle.sx_gather.specs.Start.{IsFaultOf}
use Rattle.sx_gen.specs.Candidates.{demo_txs}
use Rattle.sx_gen.specs.Laws.{HasAllCandidates}
use Rattle.sx_gen.specs.State.{account_at, demo_parts}
use Rattle.sx_gen.proofs.Ranges.{length-listed}
use Rattle.sx_outcome.specs.declared.outcome.Outcome.{Outcome}
use Rattle.sx_outcome.specs.declared.space.NoRoom.{NoRoom}
use Rattle.sx_outcome.specs.declared.space.NoRoom.TheVariants.{Crowded, Ended}
use Rattle.sx_outcome.specs.Room.{room_for}
use Rattle.sx_outcome.proofs.Counts.{length-filter_map}
use Rattle.sx_ledger.specs.declared.parts.Parts.{Parts}
use Rattle.sx_ledger.specs.Body.{created, created_by, made, made_by}
use Rattle.sx_ledger.specs.Ledger.{most_accounts, most_height, most_offers}
use Rattle.sx_meaning.specs.Answers.{MayWriteIn}
use Rattle.sx_meaning.specs.Outputs.{MayWrite}
use Rattle.sx_meaning.specs.Sealing.{IsDemonstrated, IsMadeOf}
use Rattle.sx_text.specs.Demonstration.{demo_text}
use Rattle.sx_tx.specs.declared.tx.Tx.{Tx}
use Rattle.sx_words.specs.declared.command.Command.TheVariants.{Demo}
use Rattle.sx_words.specs.declared.setting.Setting.TheVariants.{Mu, Rounds, Searches}
use Rattle.sx_words.specs.Settings.{default_of}

-- ---- room

is_below : (most n : ℕ) → n ≤ most → nat_lt most n ≡ false
is_below most n few = grind (arith, few)

few_created : (txs : List Tx) → length (created txs) ≤ length txs
few_created txs = length-filter_map (λ (tx : Tx). created_by tx.kind) txs

few_made : (txs : List Tx) → length (made txs) ≤ length txs
few_made txs = length-filter_map (λ (tx : Tx). made_by tx tx.kind) txs

has_room : (parts : Parts) (txs : List Tx) → (parts.height == most_height) ≡ false
    → length parts.accounts + length (created txs) ≤ most_accounts
    → length parts.offers + length (made txs) ≤ most_offers → room_for parts txs ≡ Ok tt
has_room parts txs below few_accounts few_offers =
    let accounts = length parts.accounts in
    let creations = length (created txs) in
    let offers = length parts.offers in
    let new_offers = length (made txs) in
    ap (λ (b : Bool). if b then Err Ended else
    (if nat_lt most_accounts (accounts + creations) then Err (Crowded accounts creations most_accounts) else
    (if nat_lt most_offers (offers + new_offers) then Err (Crowded offers new_offers most_offers) else Ok tt))) below
    ∙ ap (λ (b : Bool). if b then Err (Crowded accounts creations most_accounts) else
    (if nat_lt most_offers (offers + new_offers) then Err (Crowded offers new_offers most_offers) else Ok tt))
    (is_below most_accounts (accounts + creations) few_accounts)
    ∙ ap (λ (b : Bool). if b then Err (Crowded offers new_offers most_offers) else Ok tt)
    (is_below most_offers (offers + new_offers) few_offers)

low : (demo_parts.height == most_height) ≡ false
unfolding demo_parts
low = refl

many_accounts : length demo_parts.accounts ≡ 1000
unfolding demo_parts
many_accounts = length-listed account_at 1000

no_offers : length demo_parts.offers ≡ 0
unfolding demo_parts
no_offers = refl

demo_room : HasAllCandidates → (number : ℕ) → room_for demo_parts (demo_txs number) ≡ Ok tt
demo_room all number =
    has_room demo_parts (demo_txs number) low
    (omega (arith, many_accounts, all number, few_created (demo_txs number)))
    (omega (arith, no_offers, all number, few_made (demo_txs number)))

pub room_there : HasAllCandidates → (number : ℕ) (parts : Parts) (txs : List Tx) (fault : GatherFault)
    → parts ≡ demo_parts → txs ≡ demo_txs number → IsFaultOf (room_for parts txs) fault → IsFaultOf (Ok tt) fault
room_there all number parts txs fault same are is =
    subst (λ (r : Result (Unit {0}) NoRoom). IsFaultOf r fault)
    (ap (λ (p : Parts). room_for p txs) same ∙ ap (λ (l : List Tx). room_for demo_parts l) are
    ∙ demo_room all number) is

-- ---- the block

pub eight_assets : (said : Block) → IsValid demo_parts said → length said.header.prices ≡ 8
unfolding demo_parts
eight_assets said valid = valid.rules rule.Assets

pub summed_up : (number mu rounds searches : ℕ) (said : Block) (told : List Outcome) (checked : Checked)
    (text : List ℕ)
    → mu ≡ default_of Mu → rounds ≡ default_of Rounds → searches ≡ default_of Searches
    → IsMadeOf demo_parts (demo_txs number) mu rounds searches said told → checked ≡ checked_of said
    → text ≡ demo_text number told checked said.header → IsDemonstrated number text
summed_up number mu rounds searches said told checked text margin most count made is summed = record {
  said = said;
  told = told;
  made = subst (λ (n : ℕ). IsMadeOf demo_parts (demo_txs number) (default_of Mu) (default_of Rounds) n said told) count
      (subst (λ (n : ℕ). IsMadeOf demo_parts (demo_txs number) (default_of Mu) n searches said told) most
      (subst (λ (n : ℕ). IsMadeOf demo_parts (demo_txs number) n rounds searches said told) margin made));
  summed = summed ∙ ap (λ (c : Checked). demo_text number told c said.header) is;
}

-- ---- nothing is read

at_once : (number workers : ℕ) (bytes text : List ℕ) → IsDemonstrated number text
    → MayWrite (Demo number workers) bytes text bytes
at_once number workers bytes text is = record {
  found = record {
    items = [];
    rest = bytes;
    each = tt;
    read = refl;
    finds = record { done = refl; may = refl; concludes = record { are = refl; finds = refl } };
  };
  writes = is;
}

pub demonstrates : (number workers : ℕ) (before : Option (List ℕ)) (text : List ℕ) → IsDemonstrated number text
    → MayWriteIn (Demo number workers) before before text
demonstrates number workers None text is = ([], [], at_once number workers [] text is)
demonstrates number workers (Some bytes) text is = (bytes, at_once number workers bytes text is, refl)
