-- What may come next in an input, and the first fault where something else comes.
use Rattle.std.specs.Prelude.{◌≡◌, ℕ, ◌+◌, Bool, true, false, List, [], ◌∷◌, Option, None, Some, Result, Ok, Err}
use Rattle.std.specs.Prelude.{Contains, ◌==◌, ◌&&◌, if◌then◌else◌}
use Rattle.sx_bytes.specs.declared.fault.Form.TheVariants as form
use Rattle.sx_bytes.specs.declared.fault.FormFault.{FormFault}
use Rattle.sx_meaning.specs.Items.{Item, payload_at}
use Rattle.sx_record.specs.declared.frame.Record.{Record}
use Rattle.sx_record.specs.Decoding.{StreamDecoding, ◌>>=◌, done, fails, record_at}
use Rattle.sx_record.specs.Tags.{block_tag}

-- Nothing is read; or the end of the input and nothing else; or a record of one of these tags, or the end where it may
-- come there too. Where the input is full, a block is one too many.
pub data Expected : Type 0 where
  unread : Expected
  end_only : Expected
  record_of : (tags : List ℕ) → (end_too : Bool) → (full : Bool) → Expected

-- a record of this tag, which has to be there
abbrev pub needed : ℕ → Expected
needed tag = record_of (tag ∷ []) false false

-- no more has to come
abbrev pub may_end : Expected → Bool
may_end unread = true
may_end end_only = true
may_end (record_of tags end_too full) = end_too

-- a record of this tag may come
abbrev pub IsExpected : Expected → ℕ → Type 0
IsExpected unread tag = ⊥
IsExpected end_only tag = ⊥
IsExpected (record_of tags end_too full) tag = Contains tags tag × ((full && (tag == block_tag)) ≡ false)

-- where no more comes, the input was at its end, or nothing of it was read
abbrev pub IsDoneWith : Expected → List ℕ → List ℕ → Type 0
IsDoneWith unread bytes left = left ≡ bytes
IsDoneWith end_only bytes left = (bytes ≡ []) × (left ≡ [])
IsDoneWith (record_of tags end_too full) bytes left = (bytes ≡ []) × (left ≡ [])

-- ---- decoding

-- a fault of a payload, which begins at this offset
abbrev pub fault_in : ℕ → FormFault → FormFault
fault_in at fault = record { at = at + fault.at; fault = fault.fault }

abbrev pub shifted : {X : Type 0} → ℕ → Result X FormFault → Result X FormFault
shifted at (Ok x) = Ok x
shifted at (Err fault) = Err (fault_in at fault)

-- the item of a record, whose tag is at this offset: one block too many is told before its payload is decoded
abbrev pub item_in : Bool → ℕ → Record → StreamDecoding Item
item_in full at found bytes =
    if full && (found.tag == block_tag)
    then (Err (record { at = at; fault = form.TooMany }), bytes)
    else (shifted found.at (payload_at found.tag found.payload), bytes)

abbrev pub as_some : {X : Type 0} → X → StreamDecoding (Option X)
as_some x = done (Some x)

-- the item of a record that was found, or none at the end, where that may come
abbrev pub item_of : Bool → Bool → ℕ → Option Record → StreamDecoding (Option Item)
item_of end_too full at None = if end_too then done None else fails form.Short at
item_of end_too full at (Some found) = item_in full at found >>= as_some

-- the next item, where this may come and its tag is at this offset, or none at the end
unfoldable pub item_at : Expected → ℕ → StreamDecoding (Option Item)
item_at unread at bytes = done None bytes
item_at end_only at [] = done None []
item_at end_only at (byte ∷ bytes) = fails form.Rest at bytes
item_at (record_of tags end_too full) at bytes = (record_at tags at >>= item_of end_too full at) bytes
