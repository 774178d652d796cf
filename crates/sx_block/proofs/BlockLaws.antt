-- A whole block: what is read is encoded so, and what is encoded so is read.
use Rattle.std.proofs.Common.{◌≡◌, ℕ, ◌≤◌, true, cond, eqb, List, [], ◌++◌, length, None, Result, Ok, Err, refl, sym}
use Rattle.std.proofs.Common.{ap, subst, ◌∙◌, append_assoc, arith}
use Rattle.std.specs.Prelude.{IfOk}
use Rattle.std.specs.List.{flat_map, AllByRecursion}
use Rattle.std.proofs.lemmas.Bool.{eqb-true, eq-eqb}
use Rattle.std.proofs.lemmas.List.{append-nil, nil_from_length}
use Rattle.std.proofs.lemmas.List.Elements.{All-from_recursion, recursion_from_All}
use Rattle.byteorder.specs.Endian.{big_bytes}
use Rattle.sx_block.specs.declared.header.Block.{Block}
use Rattle.sx_block.specs.declared.header.Header.{Header}
use Rattle.sx_block.specs.Block.{IsBlock, IsHeader}
use Rattle.sx_block.specs.Decoding.{header_at, body_at, fields_at, block_at}
use Rattle.sx_block.specs.Encoding.{header_bytes, block_bytes}
use Rattle.sx_block.proofs.HeaderLaws.{header_takes, header_again}
use Rattle.sx_bytes.specs.declared.fault.Form.TheVariants as form
use Rattle.sx_bytes.specs.declared.fault.FormFault.{FormFault}
use Rattle.sx_bytes.specs.declared.fault.ReadError.{ReadError}
use Rattle.sx_bytes.specs.Field.{AreBytes}
use Rattle.sx_bytes.specs.Cursor.{Cursor, rest, left}
use Rattle.sx_bytes.specs.Grammar.{Gives, between, field_at, ordered_at, in_order}
use Rattle.sx_bytes.specs.Laws.{IsInjective, IsPrefixFree}
use Rattle.sx_bytes.proofs.Grammar.{bind_ok, guard_ok, length-rest, Takes, Takes-then}
use Rattle.sx_bytes.proofs.Ordered.{ordered_takes, ordered_again}
use Rattle.sx_bytes.proofs.Parts.{TakesAll, ReadsAgain, two_take, two_again, is_injective, is_prefix_free}
use Rattle.sx_bytes.proofs.DecodingSteps.{bytes_after, range_takes, range_again, again_then}
use Rattle.sx_ledger.specs.Body.{tx_before}
use Rattle.sx_tx.specs.declared.tx.Tx.{Tx}
use Rattle.sx_tx.specs.Transactions.{tx_bytes, list_bytes, IsTx}
use Rattle.sx_tx.specs.TransactionDecoding.{tx_at}
use Rattle.sx_tx.proofs.TxLaws.{tx_takes, tx_again}

-- ---- the transactions

abbrev at_count : ℕ × Cursor → Result (List Tx × Cursor) FormFault
at_count count = ordered_at tx_at tx_before form.Order count.0 None count.1

record IsBody (txs : List Tx) : Type 0 where
  few : length txs ≤ 1000000
  each : AllByRecursion IsTx txs
  ordered : in_order tx_before None txs ≡ true

body_takes : TakesAll body_at list_bytes IsBody
unfolding body_at
body_takes c next x bytes e =
    let n = bind_ok (field_at 4 (between 0 1000000) form.TooMany c) at_count (x, next) e in
    let t0 = range_takes 4 0 1000000 form.TooMany c n.0.1 n.0.0 bytes n.1 in
    let bytes1 = bytes_after c n.0.1 (big_bytes 4 n.0.0) t0.0 bytes in
    let t1 = ordered_takes tx_at tx_bytes IsTx tx_before form.Order tx_takes n.0.0 None n.0.1 next x bytes1 n.2 in
    let count : Takes c (big_bytes 4 (length x)) n.0.1 =
    subst (λ (m : ℕ). Takes c (big_bytes 4 m) n.0.1) (sym t1.1) t0.0 in
    let few : length x ≤ 1000000 = subst (λ (m : ℕ). m ≤ 1000000) (sym t1.1) t0.2 in (
      Takes-then c n.0.1 next (big_bytes 4 (length x)) (flat_map tx_bytes x) count t1.0,
      record { few = few; each = t1.2; ordered = t1.3 },
    )

body_again : ReadsAgain body_at list_bytes IsBody
unfolding body_at
body_again c x after is within e =
    let n =
    range_again 4 0 1000000 form.TooMany c (length x) (flat_map tx_bytes x ++ after) (omega arith) (omega arith)
    is.few within (e ∙ append_assoc (big_bytes 4 (length x)) (flat_map tx_bytes x) after) in
    let t =
    ordered_again tx_at tx_bytes IsTx tx_before form.Order tx_again x None n.next after is.each is.ordered n.within
    n.rest_is in
    again_then (field_at 4 (between 0 1000000) form.TooMany c) at_count c (length x) x
    (flat_map tx_bytes x ++ after) after n t

-- ---- header and transactions

abbrev made : Header → List Tx → Block
made header txs = record { header = header; txs = txs }

fields_take : TakesAll fields_at block_bytes IsBlock
unfolding fields_at
fields_take c next x bytes e =
    let t =
    two_take header_at body_at made header_bytes list_bytes IsHeader IsBody header_takes body_takes c next x bytes e in
    let is : IsBlock (made t.0 t.1) =
    record { header = t.4; few = t.5.few; each = All-from_recursion IsTx t.1 t.5.each; ordered = t.5.ordered } in
    subst (λ (y : Block). Takes c (block_bytes y) next × IsBlock y) t.2 (t.3, is)

fields_again : ReadsAgain fields_at block_bytes IsBlock
unfolding fields_at
fields_again c x after is within e =
    let body : IsBody x.txs =
    record { few = is.few; each = recursion_from_All IsTx x.txs is.each; ordered = is.ordered } in
    two_again header_at body_at made header_bytes list_bytes IsHeader IsBody header_again body_again c x.header
    x.txs after is.header body within e

pub blocks_of_one_encoding : IsInjective block_bytes IsBlock
blocks_of_one_encoding = is_injective fields_at block_bytes IsBlock fields_again

pub blocks_no_prefix : IsPrefixFree block_bytes IsBlock
blocks_no_prefix = is_prefix_free fields_at block_bytes IsBlock fields_again

-- ---- a whole payload

abbrev start : List ℕ → Cursor
start bytes = record { bytes = bytes; place = 0 }

abbrev at_end : Block × Cursor → Result Block FormFault
at_end block = cond (eqb (left block.1) 0) (Ok block.0) (Err (record { at = block.1.place; fault = form.Rest }))

block_takes : (bytes : List ℕ) (x : Block) → AreBytes bytes → block_at bytes ≡ Ok x
    → IsBlock x × (bytes ≡ block_bytes x)
unfolding block_at
block_takes bytes x are e =
    let a = bind_ok (fields_at (start bytes)) at_end x e in
    let t = fields_take (start bytes) a.0.1 a.0.0 are a.1 in
    let g = guard_ok (eqb (left a.0.1) 0) a.0.0 x (record { at = a.0.1.place; fault = form.Rest }) a.2 in
    let ended : left a.0.1 ≡ 0 = eqb-true (left a.0.1) 0 g.0 in
    let none : rest a.0.1 ≡ [] = nil_from_length (rest a.0.1) (length-rest a.0.1 ∙ ended) in
    let text : bytes ≡ block_bytes a.0.0 =
    t.0.parts ∙ ap (λ (r : List ℕ). block_bytes a.0.0 ++ r) none ∙ append-nil (block_bytes a.0.0) in
    subst (λ (y : Block). IsBlock y × (bytes ≡ block_bytes y)) g.1 (t.1, text)

block_again : (x : Block) → IsBlock x → block_at (block_bytes x) ≡ Ok x
unfolding block_at
block_again x is =
    let a = fields_again (start (block_bytes x)) x [] is (omega arith) (sym (append-nil (block_bytes x))) in
    let ended : left a.next ≡ 0 = sym (length-rest a.next) ∙ ap length a.rest_is in
    rw a.is (rw (eq-eqb (left a.next) 0 ended) refl)

-- ---- what the reader answers

pub found_in : (bytes : List ℕ) (r : Result Block ReadError) → AreBytes bytes
    → Gives (λ block. block) r (block_at bytes) → IfOk r (λ block. IsBlock block × (bytes ≡ block_bytes block))
found_in bytes (Ok block) are e = block_takes bytes block are e
found_in bytes (Err error) are e = tt

pub only_in : (bytes : List ℕ) (r : Result Block ReadError) (x : Block) → Gives (λ block. block) r (block_at bytes)
    → IsBlock x → bytes ≡ block_bytes x → Gives (λ block. block) r (Ok x)
only_in bytes r x given is e =
    subst (λ (read : Result Block FormFault). Gives (λ block. block) r read) (ap block_at e ∙ block_again x is) given
