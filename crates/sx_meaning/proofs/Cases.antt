-- Definitions at single answers, and what is found of worked inputs.
use Rattle.std.proofs.Common.{◌≡◌, ℕ, zero, suc, true, List, [], ◌∷◌, Some, None, inl}
use Rattle.std.proofs.Common.{inr, refl, arith}
use Rattle.std.specs.Prelude.{◌⊎◌}
use Rattle.sx_base.specs.Outside.{AppendsPrefix}
use Rattle.sx_block.specs.Validity.{high_in, undropped_low_in}
use Rattle.sx_bytes.specs.declared.fault.Form.TheVariants as form
use Rattle.sx_bytes.specs.declared.fault.FormFault.{FormFault}
use Rattle.sx_block.specs.declared.invalid.Invalid.{Invalid}
use Rattle.sx_multi.specs.Quotes.{posted_at}
use Rattle.sx_dual.specs.Circulation.{HaveNoCirculation}
use Rattle.sx_ledger.specs.declared.parts.Parts.{Parts}
use Rattle.sx_ledger.specs.Ledger.{assets_of}
use Rattle.sx_meaning.specs.Answers.{Completes, FitsWords}
use Rattle.sx_meaning.specs.Expected.{item_at}
use Rattle.sx_meaning.specs.Findings.{Finds, malformed, no_fault}
use Rattle.sx_meaning.specs.Sealing.{IsSealed}
use Rattle.sx_meaning.specs.Status.{UnlessReadFails, UnlessWriteFails, is_silent}
use Rattle.sx_record.specs.Decoding.{after_tag, length_at, record_at}
use Rattle.sx_text.specs.declared.status.Status.TheVariants.{Done, Usage, ReadFault, WriteFault, Malformed, Refused}
use Rattle.sx_text.specs.declared.status.Status.TheVariants.{NoMemory}
use Rattle.sx_tx.specs.declared.tx.Tx.{Tx}
use Rattle.sx_words.specs.declared.command.Command.{Command}
use Rattle.sx_words.specs.declared.command.Command.TheVariants.{Check, Interleave, Replay}

-- ---- what holds at which answer

module _ (fault : FormFault) (number : ℕ) (why : Invalid) where
  silent_usage : is_silent Usage ≡ true
  silent_usage = refl

  silent_read_fault : is_silent ReadFault ≡ true
  silent_read_fault = refl

  silent_malformed : is_silent (Malformed fault) ≡ true
  silent_malformed = refl

  silent_refused : is_silent (Refused number why) ≡ true
  silent_refused = refl

  silent_no_memory : is_silent NoMemory ≡ true
  silent_no_memory = refl

module _ (fact : Type 0) (fault : FormFault) (number : ℕ) (why : Invalid) where
  read_at_done : UnlessReadFails Done fact → fact
  read_at_done it = it

  read_at_usage : UnlessReadFails Usage fact → fact
  read_at_usage it = it

  read_at_write_fault : UnlessReadFails WriteFault fact → fact
  read_at_write_fault it = it

  read_at_malformed : UnlessReadFails (Malformed fault) fact → fact
  read_at_malformed it = it

  read_at_refused : UnlessReadFails (Refused number why) fact → fact
  read_at_refused it = it

  read_at_no_memory : UnlessReadFails NoMemory fact → fact
  read_at_no_memory it = it

  written_at_done : UnlessWriteFails Done fact → fact
  written_at_done it = it

  written_at_read_fault : UnlessWriteFails ReadFault fact → fact
  written_at_read_fault it = it

  written_at_malformed : UnlessWriteFails (Malformed fault) fact → fact
  written_at_malformed it = it

  written_at_refused : UnlessWriteFails (Refused number why) fact → fact
  written_at_refused it = it

  written_at_no_memory : UnlessWriteFails NoMemory fact → fact
  written_at_no_memory it = it

-- where words are no command, Usage is the answer or memory ran out, and Usage is no answer to a command
module _ (command : Command) (fault : FormFault) (number : ℕ) (why : Invalid) where
  not_done : FitsWords None Done → ⊥
  not_done fits = fits

  not_read_fault : FitsWords None ReadFault → ⊥
  not_read_fault fits = fits

  not_malformed : FitsWords None (Malformed fault) → ⊥
  not_malformed fits = fits

  not_refused : FitsWords None (Refused number why) → ⊥
  not_refused fits = fits

  not_usage : FitsWords (Some command) Usage → ⊥
  not_usage fits = fits

-- an answer is complete only where it is that of what was found
module _ (command : Command) (bytes text left : List ℕ) (fault : FormFault) where
  wrong : (Malformed fault ≡ Done) ⊎ (Malformed fault ≡ NoMemory) → ⊥
  wrong (inl e) = cc
  wrong (inr e) = cc

  found_is_told : Finds command bytes no_fault left → Completes command (Some bytes) (Malformed fault) → ⊥
  found_is_told finds completes = wrong (completes no_fault left finds)

-- a prefix is a beginning
not_any_bytes : AppendsPrefix (Some []) (Some (1 ∷ [])) (2 ∷ []) → ⊥
not_any_bytes (zero, few, is) = cc
not_any_bytes (suc zero, few, is) = cc
not_any_bytes (suc (suc n), few, is) = absurd (omega (arith, few))

-- ---- seals

-- what a seal writes is of version 1, at the margin and the rounds of the words, and drops no bound without need
module _ (parts : Parts) (txs : List Tx) (mu rounds searches : ℕ) (text : List ℕ)
    (wrote : IsSealed parts txs mu rounds searches text) where
  has_version_1 : wrote.said.header.version ≡ 1
  has_version_1 = wrote.made.cleared.version

  has_margin : wrote.said.header.mu ≡ mu
  has_margin = wrote.made.cleared.margin

  has_searched_prices : wrote.said.header.prices ≡ posted_at parts wrote.said.txs mu rounds searches
  has_searched_prices = wrote.made.cleared.prices

  kept_bounds_can_be_kept : HaveNoCirculation (assets_of parts) (undropped_low_in parts wrote.said)
      (high_in parts wrote.said) → wrote.said.header.dropped ≡ None → ⊥
  kept_bounds_can_be_kept none kept =
      let is = wrote.made.cleared.dropped.1 none in
      let wrong = rw kept at is in absurd cc

-- ---- worked inputs

-- nothing at all: the state is missing
nothing : Finds Check [] (malformed (record { at = 0; fault = form.Short })) []
unfolding item_at record_at
nothing = record { items = []; rest = []; each = tt; read = refl; finds = refl }

-- a tag that no record has; the byte after it is left
no_tag : (workers : ℕ) → Finds (Replay workers) (9 ∷ 7 ∷ []) (malformed (record { at = 0; fault = form.Tag })) (7 ∷ [])
unfolding item_at record_at
no_tag workers = record { items = []; rest = 9 ∷ 7 ∷ []; each = tt; read = refl; finds = refl }

-- a frame that ends inside its length
short_frame : Finds Interleave (1 ∷ 0 ∷ 0 ∷ []) (malformed (record { at = 3; fault = form.Short })) []
unfolding item_at record_at after_tag length_at
short_frame = record { items = []; rest = 1 ∷ 0 ∷ 0 ∷ []; each = tt; read = refl; finds = refl }

-- a length above the limit, told at its first byte; what comes after it is left
too_long : Finds Check (1 ∷ 4 ∷ 0 ∷ 0 ∷ 1 ∷ 8 ∷ []) (malformed (record { at = 1; fault = form.TooLong })) (8 ∷ [])
unfolding item_at record_at after_tag length_at
too_long = record { items = []; rest = 1 ∷ 4 ∷ 0 ∷ 0 ∷ 1 ∷ 8 ∷ []; each = tt; read = refl; finds = refl }
