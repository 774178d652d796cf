-- Decoding a transaction inverts encoding it.
use Rattle.std.proofs.Common.{◌≡◌, ℕ, zero, suc, ◌≤◌, List, ◌++◌, length, Ok, refl, subst, ◌∙◌, append_assoc, arith}
use Rattle.byteorder.specs.Endian.{big_bytes}
use Rattle.sx_bytes.specs.declared.fault.Form.TheVariants as form
use Rattle.sx_bytes.specs.Field.{AreBytes}
use Rattle.sx_bytes.specs.Cursor.{Cursor, rest}
use Rattle.sx_bytes.specs.Grammar.{between, field_at}
use Rattle.sx_bytes.proofs.Grammar.{bind_ok, Takes, Takes-then, Again}
use Rattle.sx_bytes.proofs.DecodingSteps.{bytes_after, range_takes, range_again, again_then}
use Rattle.sx_bytes.proofs.Parts.{TakesAll, ReadsAgain, made_is, two_take, two_again, three_take, three_again}
use Rattle.sx_tx.specs.declared.kind.Kind.{Kind}
use Rattle.sx_tx.specs.declared.kind.Kind.TheVariants as kind
use Rattle.sx_tx.specs.declared.tx.Tx.{Tx}
use Rattle.sx_price.specs.Limits.{IsLimit}
use Rattle.sx_tx.specs.Transactions.{least_tx_bytes, terms_bytes, kind_bytes, tx_bytes, IsId, IsSeq, IsAsset}
use Rattle.sx_tx.specs.Transactions.{IsAmount, AreTerms, IsKind, IsTx}
use Rattle.sx_tx.specs.Laws.{length_of, KindIsLength, NoneIsShorter}
use Rattle.sx_tx.proofs.FieldLaws.{id_takes, id_again, seq_takes, seq_again, asset_takes, asset_again, amount_takes}
use Rattle.sx_tx.proofs.FieldLaws.{amount_again, limit_takes, limit_again}
use Rattle.sx_tx.specs.TransactionDecoding.{id_at, seq_at, asset_at, amount_at, limit_at, terms_at, pay_at, create_at}
use Rattle.sx_tx.specs.TransactionDecoding.{offer_at, cancel_at, fields_at, kind_at, tx_at}

-- ---- the terms of an offer

abbrev Terms : Type 0
Terms = ℕ × ℕ × ℕ

abbrev terms_text : Terms → List ℕ
terms_text terms = terms_bytes terms.0 terms.1 terms.2

abbrev AreInRange : Terms → Type 0
AreInRange terms = AreTerms terms.0 terms.1 terms.2

terms_take : TakesAll terms_at terms_text AreInRange
unfolding terms_at
terms_take c next x bytes e =
    let t = three_take asset_at asset_at limit_at (λ sell buy limit. (sell, buy, limit)) (big_bytes 1) (big_bytes 1)
    (big_bytes 8) IsAsset IsAsset IsLimit asset_takes asset_takes limit_takes c next x bytes e in
    subst (λ (y : Terms). Takes c (terms_text y) next × AreInRange y) t.3 (t.4, (t.5, t.6, t.7))

terms_again : ReadsAgain terms_at terms_text AreInRange
unfolding terms_at
terms_again c x after is within e =
    three_again asset_at asset_at limit_at (λ sell buy limit. (sell, buy, limit)) (big_bytes 1) (big_bytes 1)
    (big_bytes 8) IsAsset IsAsset IsLimit asset_again asset_again limit_again c x.0 x.1 x.2 after is.0 is.1 is.2
    within e

-- ---- a kind

abbrev pay : ℕ → ℕ → ℕ → Kind
pay to asset amount = kind.Pay asset (record { 0 = to }) amount

abbrev create : ℕ → Kind
create id = kind.Create (record { 0 = id })

abbrev offer : Terms → ℕ → Kind
offer terms amount = kind.Offer terms.0 terms.1 terms.2 amount

abbrev cancel : Terms → ℕ → Kind
cancel terms seq = kind.Cancel terms.0 terms.1 terms.2 seq

-- after its byte n the fields of a kind stand
abbrev AreFields : ℕ → Cursor → Cursor → Kind → Type 0
AreFields n c next x = (text : List ℕ) × (big_bytes 1 n ++ text ≡ kind_bytes x) × Takes c text next × IsKind x

fields_take : (n : ℕ) (c next : Cursor) (x : Kind) → AreBytes c.bytes → 1 ≤ n → n ≤ 4 →
    fields_at n c ≡ Ok (x, next) → AreFields n c next x
unfolding pay_at create_at offer_at cancel_at
fields_take zero c next x bytes some few e = absurd (omega arith)
fields_take (suc zero) c next x bytes some few e =
    let t = three_take id_at asset_at amount_at pay (big_bytes 8) (big_bytes 1) (big_bytes 8) IsId IsAsset IsAmount
    id_takes asset_takes amount_takes c next x bytes e in
    subst (AreFields 1 c next) t.3 (big_bytes 8 t.0 ++ (big_bytes 1 t.1 ++ big_bytes 8 t.2), refl, t.4, (t.5, t.6, t.7))
fields_take (suc (suc zero)) c next x bytes some few e =
    let a = bind_ok (id_at c) (λ id. Ok (create id.0, id.1)) (x, next) e in
    let t = id_takes c a.0.1 a.0.0 bytes a.1 in
    let is = made_is (create a.0.0) x a.0.1 next a.2 in
    subst (AreFields 2 c next) is.0
    (big_bytes 8 a.0.0, refl, subst (λ (d : Cursor). Takes c (big_bytes 8 a.0.0) d) is.1 t.0, t.1)
fields_take (suc (suc (suc zero))) c next x bytes some few e =
    let t = two_take terms_at amount_at offer terms_text (big_bytes 8) AreInRange IsAmount terms_take amount_takes c
    next x bytes e in
    subst (AreFields 3 c next) t.2 (terms_text t.0 ++ big_bytes 8 t.1, refl, t.3, (t.4, t.5))
fields_take (suc (suc (suc (suc zero)))) c next x bytes some few e =
    let t = two_take terms_at seq_at cancel terms_text (big_bytes 8) AreInRange IsSeq terms_take seq_takes c next x
    bytes e in
    subst (AreFields 4 c next) t.2 (terms_text t.0 ++ big_bytes 8 t.1, refl, t.3, (t.4, t.5))
fields_take (suc (suc (suc (suc (suc n))))) c next x bytes some few e = absurd (omega arith)

kind_takes : TakesAll kind_at kind_bytes IsKind
unfolding kind_at
kind_takes c next x bytes e =
    let n = bind_ok (field_at 1 (between 1 4) form.Tag c) (λ n. fields_at n.0 n.1) (x, next) e in
    let t0 = range_takes 1 1 4 form.Tag c n.0.1 n.0.0 bytes n.1 in
    let t1 = fields_take n.0.0 n.0.1 next x (bytes_after c n.0.1 (big_bytes 1 n.0.0) t0.0 bytes) t0.1 t0.2 n.2 in (
      subst (λ (text : List ℕ). Takes c text next) {x = big_bytes 1 n.0.0 ++ t1.0} {y = kind_bytes x} t1.1
          (Takes-then c n.0.1 next (big_bytes 1 n.0.0) t1.0 t0.0 t1.2),
      t1.3,
    )

-- the byte of a kind, and its fields after it
number_again : (n : ℕ) (c : Cursor) (x : Kind) (text after : List ℕ) → 1 ≤ n → n ≤ 4 →
    ((mid : Cursor) → mid.place ≤ length mid.bytes → rest mid ≡ text ++ after → Again (fields_at n mid) mid x after)
    → c.place ≤ length c.bytes → rest c ≡ (big_bytes 1 n ++ text) ++ after → Again (kind_at c) c x after
unfolding kind_at
number_again n c x text after some few again within e =
    let a = range_again 1 1 4 form.Tag c n (text ++ after) (omega arith) some few within
    (e ∙ append_assoc (big_bytes 1 n) text after) in
    again_then (field_at 1 (between 1 4) form.Tag c) (λ n. fields_at n.0 n.1) c n x (text ++ after) after a
    (again a.next a.within a.rest_is)

kind_again : ReadsAgain kind_at kind_bytes IsKind
unfolding pay_at create_at offer_at cancel_at
kind_again c (kind.Pay asset to amount) after is within e =
    number_again 1 c (kind.Pay asset to amount) (big_bytes 8 to.0 ++ (big_bytes 1 asset ++ big_bytes 8 amount))
    after (omega arith) (omega arith)
    (λ mid h f. three_again id_at asset_at amount_at pay (big_bytes 8) (big_bytes 1) (big_bytes 8) IsId IsAsset
    IsAmount id_again asset_again amount_again mid to.0 asset amount after is.0 is.1 is.2 h f) within e
kind_again c (kind.Create id) after is within e =
    number_again 2 c (kind.Create id) (big_bytes 8 id.0) after (omega arith) (omega arith)
    (λ mid h f. let a = id_again mid id.0 after is h f in
    record { next = a.next; is = rw a.is refl; rest_is = a.rest_is; same = a.same; within = a.within }) within e
kind_again c (kind.Offer sell buy limit amount) after is within e =
    number_again 3 c (kind.Offer sell buy limit amount) (terms_bytes sell buy limit ++ big_bytes 8 amount) after
    (omega arith) (omega arith)
    (λ mid h f. two_again terms_at amount_at offer terms_text (big_bytes 8) AreInRange IsAmount terms_again
    amount_again mid (sell, buy, limit) amount after is.0 is.1 h f) within e
kind_again c (kind.Cancel sell buy limit seq) after is within e =
    number_again 4 c (kind.Cancel sell buy limit seq) (terms_bytes sell buy limit ++ big_bytes 8 seq) after
    (omega arith) (omega arith)
    (λ mid h f. two_again terms_at seq_at cancel terms_text (big_bytes 8) AreInRange IsSeq terms_again seq_again mid
    (sell, buy, limit) seq after is.0 is.1 h f) within e

-- ---- a transaction

abbrev made : ℕ → ℕ → Kind → Tx
made account seq what = record { account = record { 0 = account }; seq = seq; kind = what }

pub tx_takes : TakesAll tx_at tx_bytes IsTx
unfolding tx_at
tx_takes c next x bytes e =
    let t = three_take id_at seq_at kind_at made (big_bytes 8) (big_bytes 8) kind_bytes IsId IsSeq IsKind id_takes
    seq_takes kind_takes c next x bytes e in
    subst (λ (y : Tx). Takes c (tx_bytes y) next × IsTx y) t.3 (t.4, record { account = t.5; seq = t.6; kind = t.7 })

pub tx_again : ReadsAgain tx_at tx_bytes IsTx
unfolding tx_at
tx_again c x after is within e =
    three_again id_at seq_at kind_at made (big_bytes 8) (big_bytes 8) kind_bytes IsId IsSeq IsKind id_again
    seq_again kind_again c x.account.0 x.seq x.kind after is.account is.seq is.kind within e

-- ---- lengths

length_is : (account seq : ℕ) (what : Kind) → length (tx_bytes (made account seq what)) ≡ length_of what
length_is account seq (kind.Pay asset to amount) = refl
length_is account seq (kind.Create id) = refl
length_is account seq (kind.Offer sell buy limit amount) = refl
length_is account seq (kind.Cancel sell buy limit seq') = refl

pub length-tx_bytes : KindIsLength
length-tx_bytes tx = length_is tx.account.0 tx.seq tx.kind

least_of : (what : Kind) → least_tx_bytes ≤ length_of what
least_of (kind.Pay asset to amount) = omega arith
least_of (kind.Create id) = omega arith
least_of (kind.Offer sell buy limit amount) = omega arith
least_of (kind.Cancel sell buy limit seq) = omega arith

pub none_is_shorter : NoneIsShorter
none_is_shorter tx = rw (length-tx_bytes tx) (least_of tx.kind)
