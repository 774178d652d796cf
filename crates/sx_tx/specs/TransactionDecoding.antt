-- Decoding a transaction, or a list of them, from left to right, with the first fault.
use Rattle.std.specs.Prelude.{ℕ, ◌-◌, ◌^◌, true, List, Result, Ok, Err, ◌==◌, if◌then◌else◌}
use Rattle.sx_base.specs.Ranges.{most_amount, most_assets, most_seq}
use Rattle.sx_bytes.specs.declared.fault.Form.TheVariants as form
use Rattle.sx_bytes.specs.declared.fault.FormFault.{FormFault}
use Rattle.sx_bytes.specs.Cursor.{Cursor, left}
use Rattle.sx_bytes.specs.Grammar.{◌>>=◌, between, field_at, many_at}
use Rattle.sx_tx.specs.declared.kind.Kind.{Kind}
use Rattle.sx_tx.specs.declared.kind.Kind.TheVariants as kind
use Rattle.sx_tx.specs.declared.tx.Tx.{Tx}
use Rattle.sx_tx.specs.Transactions.{most_transactions}

-- any account
abbrev pub id_at : Cursor → Result (ℕ × Cursor) FormFault
id_at = field_at 8 (λ _. true) form.Short

abbrev pub seq_at : Cursor → Result (ℕ × Cursor) FormFault
seq_at = field_at 8 (between 1 most_seq) form.SeqRange

abbrev pub asset_at : Cursor → Result (ℕ × Cursor) FormFault
asset_at = field_at 1 (between 0 (most_assets - 1)) form.AssetRange

abbrev pub amount_at : Cursor → Result (ℕ × Cursor) FormFault
amount_at = field_at 8 (between 1 most_amount) form.AmountRange

abbrev pub limit_at : Cursor → Result (ℕ × Cursor) FormFault
limit_at = field_at 8 (between 1 (2 ^ 56 - 1)) form.LimitRange

-- what is sold, what is bought, and the limit
unfoldable pub terms_at : Cursor → Result ((ℕ × ℕ × ℕ) × Cursor) FormFault
terms_at c = do
  sell ← asset_at c
  buy ← asset_at sell.1
  limit ← limit_at buy.1
  Ok ((sell.0, buy.0, limit.0), limit.1)

unfoldable pub pay_at : Cursor → Result (Kind × Cursor) FormFault
pay_at c = do
  to ← id_at c
  asset ← asset_at to.1
  amount ← amount_at asset.1
  Ok (kind.Pay asset.0 (record { 0 = to.0 }) amount.0, amount.1)

unfoldable pub create_at : Cursor → Result (Kind × Cursor) FormFault
create_at c = do
  id ← id_at c
  Ok (kind.Create (record { 0 = id.0 }), id.1)

unfoldable pub offer_at : Cursor → Result (Kind × Cursor) FormFault
offer_at c = do
  terms ← terms_at c
  amount ← amount_at terms.1
  Ok (kind.Offer terms.0.0 terms.0.1 terms.0.2 amount.0, amount.1)

unfoldable pub cancel_at : Cursor → Result (Kind × Cursor) FormFault
cancel_at c = do
  terms ← terms_at c
  seq ← seq_at terms.1
  Ok (kind.Cancel terms.0.0 terms.0.1 terms.0.2 seq.0, seq.1)

-- the fields after the byte of a kind
abbrev pub fields_at : ℕ → Cursor → Result (Kind × Cursor) FormFault
fields_at byte c =
    if byte == 1 then pay_at c else
    (if byte == 2 then create_at c else
    (if byte == 3 then offer_at c else cancel_at c))

unfoldable pub kind_at : Cursor → Result (Kind × Cursor) FormFault
kind_at c = do
  byte ← field_at 1 (between 1 4) form.Tag c
  fields_at byte.0 byte.1

unfoldable pub tx_at : Cursor → Result (Tx × Cursor) FormFault
tx_at c = do
  account ← id_at c
  seq ← seq_at account.1
  kind ← kind_at seq.1
  Ok (record { account = record { 0 = account.0 }; seq = seq.0; kind = kind.0 }, kind.1)

unfoldable pub list_at : Cursor → Result (List Tx × Cursor) FormFault
list_at c = do
  count ← field_at 4 (between 0 most_transactions) form.TooMany c
  many_at tx_at count.0 count.1

-- a whole payload, from its first byte
unfoldable pub candidates_at : List ℕ → Result (List Tx) FormFault
candidates_at bytes = do
  txs ← list_at (record { bytes = bytes; place = 0 })
  if left txs.1 == 0 then Ok txs.0 else Err (record { at = txs.1.place; fault = form.Rest })
