-- A fault of a block is not after the end of its payload.
use Rattle.std.proofs.Common.{ℕ, ◌-◌, ◌*◌, ◌^◌, true, eqb, List, None, refl, arith}
use Rattle.sx_base.specs.Ranges.{most_assets}
use Rattle.sx_block.specs.Block.{most_version}
use Rattle.sx_block.specs.Decoding.{block_at, body_at, cut_at, digest_at, fields_at, flow_at, front_at, header_at}
use Rattle.sx_block.specs.Decoding.{market_at, outcome_at, potential_at, set_at, trade_at, trades_at}
use Rattle.sx_block.specs.Trades.{trade_before}
use Rattle.sx_bytes.specs.declared.fault.Form.TheVariants as form
use Rattle.sx_bytes.specs.Cursor.{left}
use Rattle.sx_bytes.specs.FaultPlaces.{PayloadFaultsWithin}
use Rattle.sx_bytes.specs.Grammar.{between, field_at, many_at}
use Rattle.sx_bytes.proofs.FaultPlaces.{IsAny, IsOn, Keeps, Stays, either, field_stays, many_stays, ordered_stays}
use Rattle.sx_bytes.proofs.FaultPlaces.{payload_faults_within, raw_stays, tested, then}
use Rattle.sx_ledger.specs.Body.{tx_before}
use Rattle.sx_state.specs.Decoding.{buy_at, price_at, sell_at, units_field_at}
use Rattle.sx_ledger.specs.Ledger.{most_height}
use Rattle.sx_state.proofs.FaultPlaces.{buy_stays, price_stays, sell_stays, units_stay}
use Rattle.sx_tx.specs.TransactionDecoding.{tx_at}
use Rattle.sx_tx.specs.Transactions.{most_transactions}
use Rattle.sx_tx.proofs.FaultPlaces.{tx_stays}

-- ---- trades

trade_stays : (n : ℕ) → Stays (trade_at n)
unfolding trade_at
trade_stays n bytes c same place =
    then bytes (IsOn bytes) (IsOn bytes) (sell_at n c) _ (sell_stays n bytes c same place) (λ sell a.
    then bytes (IsOn bytes) (IsOn bytes) (buy_at n sell.0 sell.1) _ (buy_stays n sell.0 bytes sell.1 a.0 a.1) (λ buy b.
    then bytes (IsOn bytes) (IsOn bytes) (field_at 16 (between 1 (2 ^ 102)) form.ValueRange buy.1) _
    (field_stays 16 (between 1 (2 ^ 102)) form.ValueRange bytes buy.1 b.0 b.1) (λ value after. after)))

flow_stays : (n : ℕ) → Stays (flow_at n)
unfolding flow_at
flow_stays n bytes c same place =
    then bytes (IsOn bytes) (IsOn bytes) (field_at 2 (between 0 (n * (n - 1))) form.TooMany c) _
    (field_stays 2 (between 0 (n * (n - 1))) form.TooMany bytes c same place) (λ count a.
    then bytes (IsOn bytes) (IsOn bytes) (trades_at n count.0 count.1) _
    (ordered_stays (trade_at n) trade_before form.TradeOrder (trade_stays n) count.0 None bytes count.1 a.0 a.1)
    (λ trades after. after))

set_stays : (n : ℕ) → Stays (set_at n)
set_stays n bytes c same place =
    then bytes (IsOn bytes) (IsOn bytes) (field_at 4 (between 0 (2 ^ n - 1)) form.CutRange c) _
    (field_stays 4 (between 0 (2 ^ n - 1)) form.CutRange bytes c same place) (λ set after. after)

cut_stays : (n : ℕ) → Stays (cut_at n)
unfolding cut_at
cut_stays n bytes c same place =
    then bytes (IsOn bytes) (IsOn bytes) (field_at 1 (between 0 1) form.Tag c) _
    (field_stays 1 (between 0 1) form.Tag bytes c same place) (λ dropped on.
    either bytes (eqb dropped.0 0) _ _ on (set_stays n bytes dropped.1 on.0 on.1))

-- ---- the header

digest_stays : Stays digest_at
digest_stays = raw_stays 32

potential_stays : Stays potential_at
potential_stays = field_stays 4 (λ _. true) form.Short

front_stays : Stays front_at
unfolding front_at
front_stays bytes c same place =
    then bytes (IsOn bytes) (IsOn bytes) (field_at 1 (between 1 most_version) form.Version c) _
    (field_stays 1 (between 1 most_version) form.Version bytes c same place) (λ version a.
    then bytes (IsOn bytes) (IsOn bytes) (field_at 8 (between 0 most_height) form.HeightRange version.1) _
    (field_stays 8 (between 0 most_height) form.HeightRange bytes version.1 a.0 a.1) (λ height b.
    then bytes (IsOn bytes) (IsOn bytes) (digest_at height.1) _ (digest_stays bytes height.1 b.0 b.1) (λ parent d.
    then bytes (IsOn bytes) (IsOn bytes) (digest_at parent.1) _ (digest_stays bytes parent.1 d.0 d.1) (λ body e.
    then bytes (IsOn bytes) (IsOn bytes) (field_at 1 (between 1 20) form.MuRange body.1) _
    (field_stays 1 (between 1 20) form.MuRange bytes body.1 e.0 e.1) (λ mu after. after)))))

market_stays : (n : ℕ) → Stays (market_at n)
unfolding market_at
market_stays n bytes c same place =
    then bytes (IsOn bytes) (IsOn bytes) (many_at price_at n c) _ (many_stays price_at price_stays n bytes c same place)
    (λ prices a.
    then bytes (IsOn bytes) (IsOn bytes) (flow_at n prices.1) _ (flow_stays n bytes prices.1 a.0 a.1) (λ trades b.
    then bytes (IsOn bytes) (IsOn bytes) (cut_at n trades.1) _ (cut_stays n bytes trades.1 b.0 b.1)
    (λ dropped after. after)))

outcome_stays : (n : ℕ) → Stays (outcome_at n)
unfolding outcome_at
outcome_stays n bytes c same place =
    then bytes (IsOn bytes) (IsOn bytes) (many_at potential_at n c) _
    (many_stays potential_at potential_stays n bytes c same place) (λ potentials a.
    then bytes (IsOn bytes) (IsOn bytes) (many_at units_field_at n potentials.1) _
    (many_stays units_field_at units_stay n bytes potentials.1 a.0 a.1) (λ rounding b.
    then bytes (IsOn bytes) (IsOn bytes) (digest_at rounding.1) _ (digest_stays bytes rounding.1 b.0 b.1)
    (λ after end. end)))

header_stays : Stays header_at
unfolding header_at
header_stays bytes c same place =
    then bytes (IsOn bytes) (IsOn bytes) (front_at c) _ (front_stays bytes c same place) (λ front a.
    then bytes (IsOn bytes) (IsOn bytes) (field_at 1 (between 1 most_assets) form.AssetCount front.1) _
    (field_stays 1 (between 1 most_assets) form.AssetCount bytes front.1 a.0 a.1) (λ assets b.
    then bytes (IsOn bytes) (IsOn bytes) (market_at assets.0 assets.1) _
    (market_stays assets.0 bytes assets.1 b.0 b.1) (λ market d.
    then bytes (IsOn bytes) (IsOn bytes) (outcome_at assets.0 market.1) _
    (outcome_stays assets.0 bytes market.1 d.0 d.1) (λ outcome after. after))))

-- ---- the payload

body_stays : Stays body_at
unfolding body_at
body_stays bytes c same place =
    then bytes (IsOn bytes) (IsOn bytes) (field_at 4 (between 0 most_transactions) form.TooMany c) _
    (field_stays 4 (between 0 most_transactions) form.TooMany bytes c same place) (λ count on.
    ordered_stays tx_at tx_before form.Order tx_stays count.0 None bytes count.1 on.0 on.1)

all_stay : Stays fields_at
unfolding fields_at
all_stay bytes c same place =
    then bytes (IsOn bytes) (IsOn bytes) (header_at c) _ (header_stays bytes c same place) (λ header a.
    then bytes (IsOn bytes) (IsOn bytes) (body_at header.1) _ (body_stays bytes header.1 a.0 a.1) (λ txs after. after))

pub block_within : (bytes : List ℕ) → Keeps bytes IsAny (block_at bytes)
unfolding block_at
block_within bytes =
    then bytes (IsOn bytes) IsAny (fields_at (record { bytes = bytes; place = 0 })) _
    (all_stay bytes (record { bytes = bytes; place = 0 }) refl (omega arith)) (λ block on.
    tested bytes IsAny (eqb (left block.1) 0) block.0 (record { at = block.1.place; fault = form.Rest }) tt on.1)

pub faults_within : PayloadFaultsWithin block_at
faults_within = payload_faults_within block_at block_within
