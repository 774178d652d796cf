-- A count and so many transactions after it are a list, and a list that ends with the bytes is a payload.
use Rattle.std.proofs.Common.{◌≡◌, ℕ, List, length, Ok, refl, sym, ap, subst, ◌∙◌, arith}
use Rattle.std.proofs.lemmas.Bool.{eq-eqb}
use Rattle.sx_bytes.specs.declared.fault.Form.TheVariants as form
use Rattle.sx_bytes.specs.Cursor.{Cursor, left}
use Rattle.sx_bytes.specs.Grammar.{between, field_at, many_at}
use Rattle.sx_parts.specs.Decoded.{AreDecoded, IsListAt}
use Rattle.sx_tx.specs.declared.tx.Tx.{Tx}
use Rattle.sx_tx.specs.Transactions.{most_transactions}
use Rattle.sx_tx.specs.TransactionDecoding.{candidates_at, list_at, tx_at}

abbrev at_place : List ℕ → ℕ → Cursor
at_place bytes place = record { bytes = bytes; place = place }

list_is : (from mid next : Cursor) (count : ℕ) (txs : List Tx)
    → field_at 4 (between 0 most_transactions) form.TooMany from ≡ Ok (count, mid)
    → many_at tx_at count mid ≡ Ok (txs, next) → list_at from ≡ Ok (txs, next)
unfolding list_at
list_is from mid next count txs read many = rw read many

-- the count, and so many transactions after it
pub listed_is : (payload : List ℕ) (from mid : Cursor) (count n place begin end : ℕ) (txs : List Tx)
    → from ≡ at_place payload place → field_at 4 (between 0 most_transactions) form.TooMany from ≡ Ok (count, mid)
    → mid.bytes ≡ from.bytes → begin ≡ mid.place → n ≡ count → AreDecoded payload begin n txs end
    → IsListAt payload place txs end
listed_is payload from mid count n place begin end txs from_is read same begin_is n_is decoded =
    let bytes : payload ≡ mid.bytes = sym (same ∙ ap (λ (c : Cursor). c.bytes) from_is) in
    let begins : at_place payload begin ≡ mid =
    ap (λ (xs : List ℕ). at_place xs begin) bytes ∙ ap (λ (p : ℕ). at_place mid.bytes p) begin_is in
    let all : AreDecoded payload begin count txs end =
    subst (λ (k : ℕ). AreDecoded payload begin k txs end) n_is decoded in
    let many : many_at tx_at count mid ≡ Ok (txs, at_place payload end) =
    subst (λ (c : Cursor). many_at tx_at count c ≡ Ok (txs, at_place payload end)) begins all in
    subst (λ (c : Cursor). list_at c ≡ Ok (txs, at_place payload end)) from_is
    (list_is from mid (at_place payload end) count txs read many)

pub ends_whole : (payload : List ℕ) (txs : List Tx) → IsListAt payload 0 txs (length payload)
    → candidates_at payload ≡ Ok txs
unfolding candidates_at
ends_whole payload txs read =
    let ended : left (at_place payload (length payload)) ≡ 0 = omega arith in
    rw read (rw (eq-eqb (left (at_place payload (length payload))) 0 ended) refl)
