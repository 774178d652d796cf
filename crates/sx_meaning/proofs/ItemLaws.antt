-- The record of an item decodes to it, wherever it stands, and what decodes is the record of an item.
use Rattle.std.proofs.Common.{◌≡◌, ℕ, ◌+◌, ◌<◌, ◌≤◌, Bool, false, List, [], ◌++◌, length}
use Rattle.std.proofs.Common.{Option, Some, Result, Ok, Err, ap, ◌∙◌, arith}
use Rattle.std.proofs.lemmas.List.{length-append}
use Rattle.std.specs.Prelude.{◌&&◌, ◌==◌, if◌then◌else◌}
use Rattle.byteorder.specs.Endian.{big_bytes}
use Rattle.sx_block.specs.declared.header.Block.{Block}
use Rattle.sx_bytes.specs.declared.fault.Form.TheVariants as form
use Rattle.sx_bytes.specs.declared.fault.FormFault.{FormFault}
use Rattle.sx_bytes.proofs.Field.{length-big_bytes}
use Rattle.sx_commit.specs.Claim.{Claim}
use Rattle.sx_outcome.specs.declared.outcome.Outcome.{Outcome}
use Rattle.sx_outcome.specs.declared.script.Script.{Script}
use Rattle.sx_ledger.specs.declared.parts.Parts.{Parts}
use Rattle.sx_state.proofs.Payload.{state_again}
use Rattle.sx_meaning.specs.Expected.{Expected, IsExpected, as_some, end_only, item_at, item_in, item_of, record_of}
use Rattle.sx_meaning.specs.Expected.{unread, shifted}
use Rattle.sx_meaning.specs.Items.{IsItem, Item, as_item, block, candidates, item_record, outcomes, payload_at}
use Rattle.sx_meaning.specs.Items.{payload_of, proof, script, state, tag_of}
use Rattle.sx_meaning.proofs.Encodings.{block_again, block_short, candidates_short, outcomes_again, outcomes_short}
use Rattle.sx_meaning.proofs.Encodings.{proof_again, proof_short, script_again, script_short, state_short}
use Rattle.sx_record.specs.declared.frame.Record.{Record}
use Rattle.sx_record.specs.Decoding.{go_on}
use Rattle.sx_record.specs.Frame.{frame_bytes, most_bytes, record_bytes}
use Rattle.sx_record.specs.Tags.{block_tag}
use Rattle.sx_record.proofs.Encoding.{decodes_every_record}
use Rattle.sx_tx.specs.declared.tx.Tx.{Tx}
use Rattle.sx_tx.proofs.ListLaws.{candidates_again}

-- ---- one item

pub small_tag : (item : Item) → tag_of item < 256
small_tag (state parts) = omega arith
small_tag (candidates txs) = omega arith
small_tag (block said) = omega arith
small_tag (outcomes told) = omega arith
small_tag (script turns) = omega arith
small_tag (proof claim) = omega arith

pub short : (item : Item) → IsItem item → length (payload_of item) ≤ most_bytes
short (state parts) is = state_short parts is
short (candidates txs) is = candidates_short txs is
short (block said) is = block_short said is
short (outcomes told) is = outcomes_short told is
short (script turns) is = script_short turns is
short (proof claim) is = proof_short claim is

pub length-record : (tag : ℕ) (payload : List ℕ) → length (record_bytes tag payload) ≡ frame_bytes + length payload
length-record tag payload =
    let front = big_bytes 1 tag ++ big_bytes 4 (length payload) in
    omega (
      arith,
      length-append front payload,
      length-append (big_bytes 1 tag) (big_bytes 4 (length payload)),
      length-big_bytes 1 tag,
      length-big_bytes 4 (length payload),
    )

pub payload_again : (item : Item) → IsItem item → payload_at (tag_of item) (payload_of item) ≡ Ok item
payload_again (state parts) is = ap (λ (d : Result Parts FormFault). as_item state d) (state_again parts is)
payload_again (candidates txs) is =
    ap (λ (d : Result (List Tx) FormFault). as_item candidates d) (candidates_again txs is)
payload_again (block said) is = ap (λ (d : Result Block FormFault). as_item block d) (block_again said is)
payload_again (outcomes told) is =
    ap (λ (d : Result (List Outcome) FormFault). as_item outcomes d) (outcomes_again told is)
payload_again (script turns) is = ap (λ (d : Result Script FormFault). as_item script d) (script_again turns is)
payload_again (proof claim) is = ap (λ (d : Result Claim FormFault). as_item proof d) (proof_again claim is)

-- the record that an item has at an offset
abbrev pub framed : ℕ → Item → Record
framed at item = record { tag = tag_of item; at = at + frame_bytes; payload = payload_of item }

-- the record of an item holds it, where it may come
in_again : (full : Bool) (at : ℕ) (item : Item) (left : List ℕ) → IsItem item
    → (full && (tag_of item == block_tag)) ≡ false → item_in full at (framed at item) left ≡ (Ok item, left)
in_again full at item left is fits =
    ap (λ (b : Bool). if b then (Err (record { at = at; fault = form.TooMany }), left) else
    (shifted (at + frame_bytes) (payload_at (tag_of item) (payload_of item)), left)) fits
    ∙ ap (λ (d : Result Item FormFault). (shifted (at + frame_bytes) d, left)) (payload_again item is)

pub item_again : (e : Expected) (at : ℕ) (item : Item) (more : List ℕ) → IsExpected e (tag_of item) → IsItem item
    → item_at e at (item_record item ++ more) ≡ (Ok (Some item), more)
unfolding item_at
item_again unread at item more may is = absurd may
item_again end_only at item more may is = absurd may
item_again (record_of tags end_too full) at item more may is =
    ap (λ (p : Result (Option Record) FormFault × List ℕ). go_on p (item_of end_too full at))
    (decodes_every_record tags (payload_of item) more (tag_of item) at (small_tag item) may.0 (short item is))
    ∙ ap (λ (p : Result Item FormFault × List ℕ). go_on p as_some) (in_again full at item more is may.1)

-- an item is not nothing
pub not_nothing : (item : Item) (more : List ℕ) → item_record item ++ more ≡ [] → ⊥
not_nothing item more e =
    let long = ap length e in
    omega (arith, long, length-append (item_record item) more, length-record (tag_of item) (payload_of item))
