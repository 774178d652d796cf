-- Decoding a list of transactions, or a payload of them, inverts encoding it.
use Rattle.std.proofs.Common.{◌≡◌, ℕ, ◌*◌, ◌≤◌, cond, eqb, List, [], ◌∷◌, ◌++◌, length, Result, Ok, Err, refl, sym}
use Rattle.std.proofs.Common.{ap, subst, ◌∙◌, append_assoc, arith}
use Rattle.std.specs.Prelude.{IfOk}
use Rattle.std.specs.List.{flat_map}
use Rattle.std.proofs.lemmas.Bool.{eqb-true, eq-eqb}
use Rattle.std.proofs.lemmas.List.{append-nil, nil_from_length, length-append}
use Rattle.std.proofs.lemmas.List.Elements.{All-from_recursion, recursion_from_All}
use Rattle.byteorder.specs.Endian.{big_bytes}
use Rattle.sx_bytes.specs.declared.fault.Form.TheVariants as form
use Rattle.sx_bytes.specs.declared.fault.FormFault.{FormFault}
use Rattle.sx_bytes.specs.declared.fault.ReadError.{ReadError}
use Rattle.sx_bytes.specs.Field.{AreBytes}
use Rattle.sx_bytes.specs.Cursor.{Cursor, rest, left}
use Rattle.sx_bytes.specs.Grammar.{Gives, between, field_at, many_at}
use Rattle.sx_bytes.proofs.Grammar.{bind_ok, guard_ok, length-rest, Takes, Takes-then, many_takes, many_again}
use Rattle.sx_bytes.proofs.DecodingSteps.{bytes_after, range_takes, range_again, again_then}
use Rattle.sx_bytes.proofs.Parts.{TakesAll, ReadsAgain}
use Rattle.sx_tx.specs.declared.kind.Kind.{Kind}
use Rattle.sx_tx.specs.declared.kind.Kind.TheVariants as kind
use Rattle.sx_tx.specs.declared.tx.Tx.{Tx}
use Rattle.sx_tx.specs.Transactions.{most_transactions, tx_bytes, list_bytes, IsTx, IsTxList}
use Rattle.sx_tx.specs.TransactionDecoding.{tx_at, list_at, candidates_at}
use Rattle.sx_tx.specs.Laws.{length_of, EveryListFits}
use Rattle.sx_tx.proofs.TxLaws.{tx_takes, tx_again, length-tx_bytes}

pub list_takes : TakesAll list_at list_bytes IsTxList
unfolding list_at
list_takes c next x bytes e =
    let n = bind_ok (field_at 4 (between 0 most_transactions) form.TooMany c)
    (λ count. many_at tx_at count.0 count.1) (x, next) e in
    let t0 = range_takes 4 0 most_transactions form.TooMany c n.0.1 n.0.0 bytes n.1 in
    let t1 = many_takes tx_at tx_bytes IsTx tx_takes n.0.0 n.0.1 next x
    (bytes_after c n.0.1 (big_bytes 4 n.0.0) t0.0 bytes) n.2 in
    let count : Takes c (big_bytes 4 (length x)) n.0.1 =
    subst (λ (m : ℕ). Takes c (big_bytes 4 m) n.0.1) (sym t1.1) t0.0 in
    let few : length x ≤ most_transactions = subst (λ (m : ℕ). m ≤ most_transactions) (sym t1.1) t0.2 in (
      Takes-then c n.0.1 next (big_bytes 4 (length x)) (flat_map tx_bytes x) count t1.0,
      record { few = few; each = All-from_recursion IsTx x t1.2 },
    )

pub list_again : ReadsAgain list_at list_bytes IsTxList
unfolding list_at
list_again c x after is within e =
    let few = is.few in
    let a = range_again 4 0 most_transactions form.TooMany c (length x) (flat_map tx_bytes x ++ after) (omega arith)
    (omega arith) few within (e ∙ append_assoc (big_bytes 4 (length x)) (flat_map tx_bytes x) after) in
    again_then (field_at 4 (between 0 most_transactions) form.TooMany c) (λ count. many_at tx_at count.0 count.1) c
    (length x) x (flat_map tx_bytes x ++ after) after a
    (many_again tx_at tx_bytes IsTx tx_again x a.next after (recursion_from_All IsTx x is.each) a.within a.rest_is)

-- ---- a whole payload

abbrev start : List ℕ → Cursor
start bytes = record { bytes = bytes; place = 0 }

abbrev at_end : List Tx × Cursor → Result (List Tx) FormFault
at_end txs = cond (eqb (left txs.1) 0) (Ok txs.0) (Err (record { at = txs.1.place; fault = form.Rest }))

pub candidates_take : (bytes : List ℕ) (x : List Tx) → AreBytes bytes → candidates_at bytes ≡ Ok x → IsTxList x ×
    (bytes ≡ list_bytes x)
unfolding candidates_at
candidates_take bytes x are e =
    let a = bind_ok (list_at (start bytes)) at_end x e in
    let t = list_takes (start bytes) a.0.1 a.0.0 are a.1 in
    let g = guard_ok (eqb (left a.0.1) 0) a.0.0 x (record { at = a.0.1.place; fault = form.Rest }) a.2 in
    let ended : left a.0.1 ≡ 0 = eqb-true (left a.0.1) 0 g.0 in
    let none : rest a.0.1 ≡ [] = nil_from_length (rest a.0.1) (length-rest a.0.1 ∙ ended) in
    let text : bytes ≡ list_bytes a.0.0 = t.0.parts ∙ ap (λ (r : List ℕ). list_bytes a.0.0 ++ r) none ∙
    append-nil (list_bytes a.0.0) in
    subst (λ (y : List Tx). IsTxList y × (bytes ≡ list_bytes y)) g.1 (t.1, text)

pub candidates_again : (x : List Tx) → IsTxList x → candidates_at (list_bytes x) ≡ Ok x
unfolding candidates_at
candidates_again x is =
    let a = list_again (start (list_bytes x)) x [] is (omega arith) (sym (append-nil (list_bytes x))) in
    let ended : left a.next ≡ 0 = sym (length-rest a.next) ∙ ap length a.rest_is in
    rw a.is (rw (eq-eqb (left a.next) 0 ended) refl)

-- ---- what the reader answers

pub found_in : (bytes : List ℕ) (r : Result (List Tx) ReadError) → AreBytes bytes →
    Gives (λ txs. txs) r (candidates_at bytes) → IfOk r (λ txs. IsTxList txs × (bytes ≡ list_bytes txs))
found_in bytes (Ok txs) are e = candidates_take bytes txs are e
found_in bytes (Err error) are e = tt

pub only_in : (bytes : List ℕ) (r : Result (List Tx) ReadError) (txs : List Tx) →
    Gives (λ txs. txs) r (candidates_at bytes) → IsTxList txs → bytes ≡ list_bytes txs → Gives (λ txs. txs) r (Ok txs)
only_in bytes r txs given is e =
    subst (λ (read : Result (List Tx) FormFault). Gives (λ txs. txs) r read)
    (ap candidates_at e ∙ candidates_again txs is) given

-- ---- lengths

length_most : (what : Kind) → length_of what ≤ 35
length_most (kind.Pay asset to amount) = omega arith
length_most (kind.Create id) = omega arith
length_most (kind.Offer sell buy limit amount) = omega arith
length_most (kind.Cancel sell buy limit seq) = omega arith

length_texts : (txs : List Tx) → length (flat_map tx_bytes txs) ≤ 35 * length txs
length_texts [] = omega arith
length_texts (tx ∷ txs) =
    let others : length (flat_map tx_bytes txs) ≤ 35 * length txs = length_texts txs in
    let first : length (tx_bytes tx) ≡ length_of tx.kind = length-tx_bytes tx in
    omega (arith, length_most tx.kind, length-append (tx_bytes tx) (flat_map tx_bytes txs))

pub fits_record : EveryListFits
fits_record txs few = omega (arith, length_texts txs)
