-- What decodes is the record of an item, and nothing decodes at the end alone.
use Rattle.std.proofs.Common.{◌≡◌, ℕ, Bool, true, false, cond, List, [], ◌∷◌, ◌++◌}
use Rattle.std.proofs.Common.{length}
use Rattle.std.proofs.Common.{take, drop, Contains, Option, Some, None, Result, Ok, Err, inl, inr, refl, sym, ap}
use Rattle.std.proofs.Common.{subst, ◌∙◌}
use Rattle.std.proofs.lemmas.List.{drop_at, take_at}
use Rattle.std.specs.Prelude.{IsTrue, ◌&&◌, ◌==◌, ◌⊎◌}
use Rattle.sx_block.specs.declared.header.Block.{Block}
use Rattle.sx_block.specs.Decoding.{block_at}
use Rattle.sx_block.proofs.BlockLaws.{found_in as block_found}
use Rattle.sx_bytes.specs.declared.fault.FormFault.{FormFault}
use Rattle.sx_bytes.specs.Field.{AreBytes}
use Rattle.sx_bytes.proofs.Grammar.{AreBytes-drop, AreBytes-take}
use Rattle.sx_commit.specs.Claim.{Claim}
use Rattle.sx_commit.specs.Decoding.{proof_at}
use Rattle.sx_commit.proofs.Payload.{found_in as proof_found}
use Rattle.sx_outcome.specs.declared.outcome.Outcome.{Outcome}
use Rattle.sx_outcome.specs.declared.script.Script.{Script}
use Rattle.sx_outcome.specs.OutcomeDecoding.{outcomes_at}
use Rattle.sx_outcome.specs.ScriptDecoding.{script_at}
use Rattle.sx_outcome.proofs.OutcomeListLaws.{found_in as outcomes_found}
use Rattle.sx_outcome.proofs.ScriptLaws.{found_in as script_found}
use Rattle.sx_ledger.specs.declared.parts.Parts.{Parts}
use Rattle.sx_state.specs.Decoding.{state_at}
use Rattle.sx_state.proofs.Payload.{state_takes}
use Rattle.sx_meaning.specs.Expected.{Expected, IsDoneWith, IsExpected, as_some, end_only, item_at, item_in, item_of}
use Rattle.sx_meaning.specs.Expected.{may_end, record_of, shifted, unread}
use Rattle.sx_meaning.specs.Items.{IsItem, Item, as_item, block, candidates, item_record, outcomes, payload_at}
use Rattle.sx_meaning.specs.Items.{payload_of, proof, script, state, tag_of}
use Rattle.sx_record.specs.declared.frame.Record.{Record}
use Rattle.sx_record.specs.Decoding.{StreamDecoding, go_on, record_at}
use Rattle.sx_record.specs.Frame.{frame, record_bytes}
use Rattle.sx_record.specs.Tags.{block_tag, candidates_tag, outcomes_tag, proof_tag, script_tag, state_tag}
use Rattle.sx_record.proofs.Encoding.{decodes_only_records, ends_only_at_end}
use Rattle.sx_tx.specs.declared.tx.Tx.{Tx}
use Rattle.sx_tx.specs.TransactionDecoding.{candidates_at}
use Rattle.sx_tx.proofs.ListLaws.{candidates_take}

-- ---- payloads

-- the tag of an item
abbrev pub IsKnown : ℕ → Type 0
IsKnown tag =
    (tag ≡ state_tag) ⊎ (tag ≡ candidates_tag) ⊎ (tag ≡ block_tag) ⊎ (tag ≡ outcomes_tag) ⊎ (tag ≡ script_tag)
    ⊎ (tag ≡ proof_tag)

-- the item that a payload encodes
record Encodes (tag : ℕ) (payload : List ℕ) (item : Item) : Type 0 where
  form : IsItem item
  tagged : tag_of item ≡ tag
  encoded : payload ≡ payload_of item

made : {X : Type 0} (make : X → Item) (d : Result X FormFault) (item : Item) → as_item make d ≡ Ok item
    → (x : X) × (d ≡ Ok x) × (make x ≡ item)
made make (Ok x) item e = (x, refl, cc)
made make (Err fault) item e = absurd cc

module _ (payload : List ℕ) (item : Item) (are : AreBytes payload) where
  a_state : as_item state (state_at payload) ≡ Ok item → Encodes state_tag payload item
  a_state e =
      let m = made (λ (p : Parts). state p) (state_at payload) item e in
      let is = state_takes payload m.0 are m.1 in
      subst (Encodes state_tag payload) m.2 (record { form = is.0; tagged = refl; encoded = is.1 })

  are_candidates : as_item candidates (candidates_at payload) ≡ Ok item → Encodes candidates_tag payload item
  are_candidates e =
      let m = made (λ (txs : List Tx). candidates txs) (candidates_at payload) item e in
      let is = candidates_take payload m.0 are m.1 in
      subst (Encodes candidates_tag payload) m.2 (record { form = is.0; tagged = refl; encoded = is.1 })

  a_block : as_item block (block_at payload) ≡ Ok item → Encodes block_tag payload item
  a_block e =
      let m = made (λ (b : Block). block b) (block_at payload) item e in
      let is = block_found payload (Ok m.0) are m.1 in
      subst (Encodes block_tag payload) m.2 (record { form = is.0; tagged = refl; encoded = is.1 })

  are_outcomes : as_item outcomes (outcomes_at payload) ≡ Ok item → Encodes outcomes_tag payload item
  are_outcomes e =
      let m = made (λ (told : List Outcome). outcomes told) (outcomes_at payload) item e in
      let is = outcomes_found payload (Ok m.0) are m.1 in
      subst (Encodes outcomes_tag payload) m.2 (record { form = is.0; tagged = refl; encoded = is.1 })

  a_script : as_item script (script_at payload) ≡ Ok item → Encodes script_tag payload item
  a_script e =
      let m = made (λ (s : Script). script s) (script_at payload) item e in
      let is = script_found payload (Ok m.0) are m.1 in
      subst (Encodes script_tag payload) m.2 (record { form = is.0; tagged = refl; encoded = is.1 })

  a_proof : as_item proof (proof_at payload) ≡ Ok item → Encodes proof_tag payload item
  a_proof e =
      let m = made (λ (c : Claim). proof c) (proof_at payload) item e in
      let is = proof_found payload (Ok m.0) are m.1 in
      subst (Encodes proof_tag payload) m.2 (record { form = is.0; tagged = refl; encoded = is.1 })

  encodes : (tag : ℕ) → IsKnown tag → payload_at tag payload ≡ Ok item → Encodes tag payload item
  encodes tag (inl is) e = rw is (a_state (rw is at e))
  encodes tag (inr (inl is)) e = rw is (are_candidates (rw is at e))
  encodes tag (inr (inr (inl is))) e = rw is (a_block (rw is at e))
  encodes tag (inr (inr (inr (inl is)))) e = rw is (are_outcomes (rw is at e))
  encodes tag (inr (inr (inr (inr (inl is))))) e = rw is (a_script (rw is at e))
  encodes tag (inr (inr (inr (inr (inr is))))) e = rw is (a_proof (rw is at e))

-- ---- records

went : {X Y : Type 0} (p : Result X FormFault × List ℕ) (next : X → StreamDecoding Y) (y : Y) (rest : List ℕ)
    → go_on p next ≡ (Ok y, rest)
    → (x : X) × (mid : List ℕ) × (p ≡ (Ok x, mid)) × (next x mid ≡ (Ok y, rest))
went (Ok x, mid) next y rest e = (x, mid, refl, e)
went {X} {Y} (Err fault, mid) next y rest e = absurd (let f = ap (λ (a : Result Y FormFault × List ℕ). a.0) e in cc)

unshifted : (at : ℕ) (d : Result Item FormFault) (item : Item) → shifted at d ≡ Ok item → d ≡ Ok item
unshifted at (Ok y) item e = e
unshifted at (Err fault) item e = absurd cc

parts_of_bytes : (bytes text rest : List ℕ) → AreBytes bytes → bytes ≡ text ++ rest → AreBytes text × AreBytes rest
parts_of_bytes bytes text rest are e = (
  subst AreBytes (ap (take (length text)) e ∙ take_at text rest (length text) refl)
      (AreBytes-take (length text) bytes are),
  subst AreBytes (ap (drop (length text)) e ∙ drop_at text rest (length text) refl)
      (AreBytes-drop (length text) bytes are),
)

-- an item that was there
pub record IsThere (e : Expected) (bytes rest : List ℕ) (item : Item) : Type 0 where
  pub may : IsExpected e (tag_of item)
  pub form : IsItem item
  pub read : bytes ≡ item_record item ++ rest
  pub rest_are : AreBytes rest

-- what a record holds that is not one block too many
held_in : (b : Bool) (at : ℕ) (fault : FormFault) (d : Result Item FormFault) (left rest : List ℕ) (item : Item)
    → ◌≡◌ {A = Result Item FormFault × List ℕ} (cond b (Err fault, left) (shifted at d, left)) (Ok item, rest)
    → (b ≡ false) × (d ≡ Ok item) × (left ≡ rest)
held_in true at fault d left rest item e =
    absurd (let f = ap (λ (a : Result Item FormFault × List ℕ). a.0) e in cc)
held_in false at fault d left rest item e = (
  refl,
  unshifted at d item (ap (λ (a : Result Item FormFault × List ℕ). a.0) e),
  ap (λ (a : Result Item FormFault × List ℕ). a.1) e,
)

module _ (tags : List ℕ) (end_too full : Bool) (known : (tag : ℕ) → Contains tags tag → IsKnown tag) where
  held : (at : ℕ) (bytes mid rest : List ℕ) (found : Record) (item : Item) → AreBytes bytes
      → record_at tags at bytes ≡ (Ok (Some found), mid) → item_in full at found mid ≡ (Ok item, rest)
      → IsThere (record_of tags end_too full) bytes rest item
  held at bytes mid rest found item are one two =
      let only = decodes_only_records tags bytes mid at found are one in
      let h = held_in (full && (found.tag == block_tag)) found.at _ (payload_at found.tag found.payload) mid rest item
      two in
      let both = parts_of_bytes bytes (record_bytes found.tag found.payload) mid are only.0 in
      let payload = parts_of_bytes (record_bytes found.tag found.payload) (frame found.tag (length found.payload))
      found.payload both.0 refl in
      let is = encodes found.payload item payload.1 found.tag (known found.tag only.1.listed) h.1 in
      record {
        may = subst (λ (t : ℕ). IsExpected (record_of tags end_too full) t) (sym is.tagged) (only.1.listed, h.0);
        form = is.form;
        read = only.0 ∙ ap (λ (t : ℕ). record_bytes t found.payload ++ mid) (sym is.tagged)
            ∙ ap (λ (p : List ℕ). record_bytes (tag_of item) p ++ mid) is.encoded
            ∙ ap (λ (r : List ℕ). item_record item ++ r) h.2;
        rest_are = subst AreBytes h.2 both.1;
      }

  some_record : (at : ℕ) (bytes mid rest : List ℕ) (found : Option Record) (item : Item) → AreBytes bytes
      → record_at tags at bytes ≡ (Ok found, mid) → item_of end_too full at found mid ≡ (Ok (Some item), rest)
      → IsThere (record_of tags end_too full) bytes rest item
  some_record at bytes mid rest None item are one two =
      absurd (elim end_too as (λ (b : Bool). item_of b full at None mid ≡ (Ok (Some item), rest) → ⊥) [
        | true ↦ λ e. let f = ap (λ (a : Result (Option Item) FormFault × List ℕ). a.0) e in cc
        | false ↦ λ e. let f = ap (λ (a : Result (Option Item) FormFault × List ℕ). a.0) e in cc
      ] two)
  some_record at bytes mid rest (Some found) item are one two =
      let w = went (item_in full at found mid) as_some (Some item) rest two in
      let answer = ap (λ (a : Result (Option Item) FormFault × List ℕ). a.0) w.3 in
      let same : w.0 ≡ item = cc in
      let left : w.1 ≡ rest = ap (λ (a : Result (Option Item) FormFault × List ℕ). a.1) w.3 in
      held at bytes mid rest found item are one (w.2 ∙ ap (λ (i : Item). (Ok i, w.1)) same
      ∙ ap (λ (r : List ℕ). (Ok item, r)) left)

  no_record : (at : ℕ) (bytes mid rest : List ℕ) (found : Option Record)
      → record_at tags at bytes ≡ (Ok found, mid) → item_of end_too full at found mid ≡ (Ok None, rest)
      → ((bytes ≡ []) × (rest ≡ [])) × IsTrue end_too
  no_record at bytes mid rest None one two = (
    (
      (ends_only_at_end tags bytes mid at one).0,
      elim end_too as (λ (b : Bool). item_of b full at None mid ≡ (Ok None, rest) → rest ≡ []) [
        | true ↦ λ e. sym (ap (λ (a : Result (Option Item) FormFault × List ℕ). a.1) e)
            ∙ (ends_only_at_end tags bytes mid at one).1
        | false ↦ λ e. absurd (let f = ap (λ (a : Result (Option Item) FormFault × List ℕ). a.0) e in cc)
      ] two,
    ),
    elim end_too as (λ (b : Bool). item_of b full at None mid ≡ (Ok None, rest) → IsTrue b) [
      | true ↦ λ e. refl
      | false ↦ λ e. absurd (let f = ap (λ (a : Result (Option Item) FormFault × List ℕ). a.0) e in cc)
    ] two,
  )
  no_record at bytes mid rest (Some found) one two =
      let w = went (item_in full at found mid) as_some None rest two in
      absurd (let f = ap (λ (a : Result (Option Item) FormFault × List ℕ). a.0) w.3 in cc)

-- ---- the next item

-- each tag that may come is that of an item
abbrev pub KnowsTags : Expected → Type 0
KnowsTags unread = Unit {0}
KnowsTags end_only = Unit {0}
KnowsTags (record_of tags end_too full) = (tag : ℕ) → Contains tags tag → IsKnown tag

pub some_item : (e : Expected) (at : ℕ) (bytes rest : List ℕ) (item : Item) → KnowsTags e → AreBytes bytes
    → item_at e at bytes ≡ (Ok (Some item), rest) → IsThere e bytes rest item
unfolding item_at
some_item unread at bytes rest item known are e =
    absurd (let f = ap (λ (a : Result (Option Item) FormFault × List ℕ). a.0) e in cc)
some_item end_only at [] rest item known are e =
    absurd (let f = ap (λ (a : Result (Option Item) FormFault × List ℕ). a.0) e in cc)
some_item end_only at (byte ∷ bytes) rest item known are e =
    absurd (let f = ap (λ (a : Result (Option Item) FormFault × List ℕ). a.0) e in cc)
some_item (record_of tags end_too full) at bytes rest item known are e =
    let w = went (record_at tags at bytes) (item_of end_too full at) (Some item) rest e in
    some_record tags end_too full known at bytes w.1 rest w.0 item are w.2 w.3

pub no_item : (e : Expected) (at : ℕ) (bytes rest : List ℕ) → KnowsTags e → item_at e at bytes ≡ (Ok None, rest)
    → IsDoneWith e bytes rest × IsTrue (may_end e)
unfolding item_at
no_item unread at bytes rest known is = (
  sym (ap (λ (a : Result (Option Item) FormFault × List ℕ). a.1) is),
  refl,
)
no_item end_only at [] rest known is = (
  (refl, sym (ap (λ (a : Result (Option Item) FormFault × List ℕ). a.1) is)),
  refl,
)
no_item end_only at (byte ∷ bytes) rest known is =
    absurd (let f = ap (λ (a : Result (Option Item) FormFault × List ℕ). a.0) is in cc)
no_item (record_of tags end_too full) at bytes rest known is =
    let w = went (record_at tags at bytes) (item_of end_too full at) None rest is in
    no_record tags end_too full known at bytes w.1 rest w.0 w.2 w.3
