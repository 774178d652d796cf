-- Decoding a field inverts encoding it.
use Rattle.std.proofs.Common.{◌-◌, ◌^◌, true, refl, arith}
use Rattle.byteorder.specs.Endian.{big_bytes}
use Rattle.sx_bytes.specs.declared.fault.Form.TheVariants as form
use Rattle.sx_bytes.proofs.Grammar.{field_takes, field_again}
use Rattle.sx_bytes.proofs.DecodingSteps.{range_takes, range_again}
use Rattle.sx_bytes.proofs.Parts.{TakesAll, ReadsAgain}
use Rattle.sx_price.specs.Limits.{IsLimit}
use Rattle.sx_tx.specs.Transactions.{IsId, IsSeq, IsAsset, IsAmount}
use Rattle.sx_tx.specs.TransactionDecoding.{id_at, seq_at, asset_at, amount_at, limit_at}

pub id_takes : TakesAll id_at (big_bytes 8) IsId
id_takes c next x bytes e = let t = field_takes 8 (λ _. true) form.Short c next x bytes e in (t.0, t.2)

pub id_again : ReadsAgain id_at (big_bytes 8) IsId
id_again c x after is within e = field_again 8 (λ _. true) form.Short c x after is refl within e

pub seq_takes : TakesAll seq_at (big_bytes 8) IsSeq
seq_takes c next x bytes e = let t = range_takes 8 1 (2 ^ 63 - 1) form.SeqRange c next x bytes e in
    (t.0, (t.1, omega (arith, t.2)))

pub seq_again : ReadsAgain seq_at (big_bytes 8) IsSeq
seq_again c x after is within e =
    range_again 8 1 (2 ^ 63 - 1) form.SeqRange c x after (omega arith) is.0 (omega (arith, is.1)) within e

pub asset_takes : TakesAll asset_at (big_bytes 1) IsAsset
asset_takes c next x bytes e = let t = range_takes 1 0 31 form.AssetRange c next x bytes e in (t.0, omega (arith, t.2))

pub asset_again : ReadsAgain asset_at (big_bytes 1) IsAsset
asset_again c x after is within e =
    range_again 1 0 31 form.AssetRange c x after (omega arith) (omega arith) (omega arith) within e

pub amount_takes : TakesAll amount_at (big_bytes 8) IsAmount
amount_takes c next x bytes e = let t = range_takes 8 1 (2 ^ 62) form.AmountRange c next x bytes e in (t.0, (t.1, t.2))

pub amount_again : ReadsAgain amount_at (big_bytes 8) IsAmount
amount_again c x after is within e =
    range_again 8 1 (2 ^ 62) form.AmountRange c x after (omega arith) is.0 is.1 within e

pub limit_takes : TakesAll limit_at (big_bytes 8) IsLimit
limit_takes c next x bytes e = let t = range_takes 8 1 (2 ^ 56 - 1) form.LimitRange c next x bytes e in
    (t.0, (t.1, omega (arith, t.2)))

pub limit_again : ReadsAgain limit_at (big_bytes 8) IsLimit
limit_again c x after is within e =
    range_again 8 1 (2 ^ 56 - 1) form.LimitRange c x after (omega arith) is.0 (omega (arith, is.1)) within e
