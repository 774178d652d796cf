-- A block whose transactions are decoded in parts, and found to be in order then.
use Rattle.std.proofs.Common.{◌≡◌, ℕ, zero, suc, Bool, true, List, ◌∷◌, length, Option, Some, None, Result, Ok}
use Rattle.std.proofs.Common.{refl, sym, ap, subst, ◌∙◌, arith}
use Rattle.std.proofs.lemmas.Bool.{eq-eqb}
use Rattle.sx_block.specs.declared.header.Header.{Header}
use Rattle.sx_block.specs.Decoding.{block_at, body_at, fields_at, header_at}
use Rattle.sx_block.proofs.HeaderLaws.{header_takes}
use Rattle.sx_bytes.specs.declared.fault.Form.{Form}
use Rattle.sx_bytes.specs.declared.fault.Form.TheVariants as form
use Rattle.sx_bytes.specs.declared.fault.FormFault.{FormFault}
use Rattle.sx_bytes.specs.Cursor.{Cursor, left}
use Rattle.sx_bytes.specs.Field.{AreBytes}
use Rattle.sx_bytes.specs.Grammar.{◌>>=◌, between, field_at, in_order, many_at, may_follow, ordered_at}
use Rattle.sx_bytes.proofs.Grammar.{bind_ok}
use Rattle.sx_bytes.proofs.Ordered.{and_parts}
use Rattle.sx_bytes.proofs.Parts.{made_is}
use Rattle.sx_ledger.specs.Body.{tx_before}
use Rattle.sx_parts.specs.Decoded.{IsListAt}
use Rattle.sx_tx.specs.declared.tx.Tx.{Tx}
use Rattle.sx_tx.specs.TransactionDecoding.{list_at, tx_at}

-- n entries that are in order
ordered_is : {X : Type 0} (entry : Cursor → Result (X × Cursor) FormFault) (precedes : X → X → Bool) (fault : Form)
    (n : ℕ) (before : Option X) (c next : Cursor) (xs : List X) → many_at entry n c ≡ Ok (xs, next)
    → in_order precedes before xs ≡ true → ordered_at entry precedes fault n before c ≡ Ok (xs, next)
unfolding many_at ordered_at
ordered_is entry precedes fault zero before c next xs many ordered = many
ordered_is {X} entry precedes fault (suc n) before c next xs many ordered =
    let a = bind_ok (entry c) (λ first. many_at entry n first.1 >>= λ others. Ok (first.0 ∷ others.0, others.1))
    (xs, next) many in
    let b = bind_ok (many_at entry n a.0.1) (λ others. Ok (a.0.0 ∷ others.0, others.1)) (xs, next) a.2 in
    let is = made_is (a.0.0 ∷ b.0.0) xs b.0.1 next b.2 in
    let whole : in_order precedes before (a.0.0 ∷ b.0.0) ≡ true =
    subst (λ (ys : List X). in_order precedes before ys ≡ true) (sym is.0) ordered in
    let o = and_parts (may_follow precedes before a.0.0) (in_order precedes (Some a.0.0) b.0.0) whole in
    let others = ordered_is entry precedes fault n (Some a.0.0) a.0.1 b.0.1 b.0.0 b.1 o.1 in
    rw (a.1, o.0, others) b.2

body_is : (c next : Cursor) (txs : List Tx) → list_at c ≡ Ok (txs, next) → in_order tx_before None txs ≡ true
    → body_at c ≡ Ok (txs, next)
unfolding list_at body_at
body_is c next txs read ordered =
    let n = bind_ok (field_at 4 (between 0 1000000) form.TooMany c) (λ count. many_at tx_at count.0 count.1) (txs, next)
    read in
    rw n.1 (ordered_is tx_at tx_before form.Order n.0.0 None n.0.1 next txs n.2 ordered)

block_is : (payload : List ℕ) (header : Header) (mid : Cursor) (txs : List Tx)
    → header_at (record { bytes = payload; place = 0 }) ≡ Ok (header, mid)
    → body_at mid ≡ Ok (txs, record { bytes = payload; place = length payload })
    → block_at payload ≡ Ok (record { header = header; txs = txs })
unfolding block_at fields_at
block_is payload header mid txs head body =
    let ended : left (record { bytes = payload; place = length payload }) ≡ 0 = omega arith in
    rw (head, body) (rw (eq-eqb (left (record { bytes = payload; place = length payload })) 0 ended) refl)

-- a header, and then a list of transactions in order that ends with the payload
pub in_parts : (payload : List ℕ) (from mid : Cursor) (header : Header) (place end : ℕ) (txs : List Tx)
    → AreBytes payload → from ≡ record { bytes = payload; place = 0 } → header_at from ≡ Ok (header, mid)
    → place ≡ mid.place → IsListAt payload place txs end → end ≡ length payload
    → in_order tx_before None txs ≡ true → block_at payload ≡ Ok (record { header = header; txs = txs })
in_parts payload from mid header place end txs bytes from_is head place_is list end_is ordered =
    let start : Cursor = record { bytes = payload; place = 0 } in
    let read : header_at start ≡ Ok (header, mid) =
    subst (λ (c : Cursor). header_at c ≡ Ok (header, mid)) from_is head in
    let same : mid.bytes ≡ payload = (header_takes start mid header bytes read).0.same in
    let begins : record { bytes = payload; place = place } ≡ mid =
    ap (λ (xs : List ℕ). record { bytes = xs; place = place }) (sym same)
    ∙ ap (λ (p : ℕ). record { bytes = mid.bytes; place = p }) place_is in
    let whole : IsListAt payload place txs (length payload) = subst (IsListAt payload place txs) end_is list in
    let at_mid : list_at mid ≡ Ok (txs, record { bytes = payload; place = length payload }) =
    subst (λ (c : Cursor). list_at c ≡ Ok (txs, record { bytes = payload; place = length payload })) begins whole in
    block_is payload header mid txs read
    (body_is mid (record { bytes = payload; place = length payload }) txs at_mid ordered)
