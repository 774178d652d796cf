-- What trades at given prices, and what follows of a valid block.
use Rattle.std.proofs.Common.{◌≡◌, ℕ, ◌<◌, ◌≤◌, List, length, Option, Some, None, refl, sym, subst, ◌∙◌, arith}
use Rattle.std.specs.Prelude.{All, ◌↔◌, IsTrue, is_some, slice_index}
use Rattle.std.proofs.lemmas.List.Elements.{All-from_get_or}
use Rattle.sx_apply.specs.Trading.{CanTrade}
use Rattle.sx_base.specs.Ranges.{most_amount}
use Rattle.sx_block.specs.declared.header.Block.{Block}
use Rattle.sx_block.specs.Effects.{IsRounded, IsTradable}
use Rattle.sx_block.specs.Validity.{IsValid, flow_of_block, high_in, offers_of, undropped_low_in}
use Rattle.sx_clear.specs.declared.trade.Trade.{Trade}
use Rattle.sx_block.specs.Dropping.{DropsExactly}
use Rattle.sx_clear.specs.Traded.{IsTradeAt}
use Rattle.sx_dual.specs.declared.cut.Cut.{Cut}
use Rattle.sx_dual.specs.Circulation.{HaveNoCirculation, IsCirculation}
use Rattle.sx_dual.specs.Tables.{value_of}
use Rattle.sx_block.proofs.Rules.{sound_fits, valid_is_sound}
use Rattle.sx_block.proofs.TradeKeeps.{trade_keeps_ledger}
use Rattle.sx_block.proofs.TradeTotals.{added_at, added_length}
use Rattle.sx_block.proofs.ValidBlocks.{drops_the_impossible}
use Rattle.sx_ledger.specs.declared.offer.Offer.{Offer}
use Rattle.sx_ledger.specs.declared.parts.Parts.{Parts}
use Rattle.sx_ledger.specs.Body.{body_after}
use Rattle.sx_ledger.specs.Bounds.{low_of}
use Rattle.sx_ledger.specs.Fills.{IsRounding}
use Rattle.sx_ledger.specs.Ledger.{IsLedger, assets_of, most_height}
use Rattle.sx_price.specs.Limits.{IsPrice}
use Rattle.sx_tx.specs.declared.tx.Tx.{Tx}

-- ---- what trades

module _ (parts : Parts) (txs : List Tx) (prices : List ℕ) (j : ℕ) (trade : Trade)
    (is : IsLedger (body_after parts txs)) (same : length prices ≡ assets_of parts) (in_range : All IsPrice prices)
    (traded : IsTradeAt parts txs prices j trade) where
  pub tradable : IsTradable (body_after parts txs) prices (value_of trade.flow)
  tradable = record {
    same_assets = same;
    in_range = in_range;
    within = λ sell buy s b differ. (traded.best.fits.circulation.within sell buy s b differ).at_most;
    balanced = traded.best.fits.circulation.balanced;
  }

  pub can_trade : (offers : List Offer) → offers ≡ (body_after parts txs).offers
      → CanTrade offers prices (value_of trade.flow)
  can_trade offers are = record {
    parts = body_after parts txs;
    ledger = is;
    same = sym are;
    tradable = tradable;
  }

  -- what is kept is part of what there is
  pub rounding_small : (rounding : List ℕ) → parts.height < most_height
      → IsRounded (body_after parts txs) prices (value_of trade.flow) rounding
      → All (λ units. units ≤ most_amount) rounding
  rounding_small rounding below rounded =
      let after = trade_keeps_ledger (body_after parts txs) prices (value_of trade.flow) rounding is below tradable
      rounded in
      let long : length rounding ≡ length parts.rounding = rounded.one_each ∙ sym is.one_rounding in
      All-from_get_or (λ units. units ≤ most_amount) rounding 0
      (λ k lt. omega (
        arith,
        after.rounding k 0 (omega (arith, added_length parts.rounding rounding long, long)),
        added_at k parts.rounding rounding (omega (arith, long)) long,
      ))

-- what rounding keeps of the offers after the transactions
pub rounded_by : (parts : Parts) (txs : List Tx) (prices : List ℕ) (flow : ℕ → ℕ → ℕ) (rounding : List ℕ)
    (offers : List Offer) → length prices ≡ assets_of parts → offers ≡ (body_after parts txs).offers
    → length rounding ≡ length prices
    → ((asset : ℕ) → asset < length prices → IsRounding prices flow offers asset (slice_index rounding asset))
    → IsRounded (body_after parts txs) prices flow rounding
rounded_by parts txs prices flow rounding offers same are long each = record {
  one_each = long ∙ same;
  is = λ asset lt.
      subst (λ (os : List Offer). IsRounding prices flow os asset (slice_index rounding asset)) are
      (each asset (omega (arith, lt, same)));
}

-- ---- what follows of validity

drops_as : (parts : Parts) (block : Block) (o : Option Cut) → IsValid parts block → block.header.dropped ≡ o
    → IsTrue (is_some o)
    ↔ HaveNoCirculation (assets_of parts) (undropped_low_in parts block) (high_in parts block)
drops_as parts block None valid is =
    let flow : IsCirculation (assets_of parts) (undropped_low_in parts block) (high_in parts block)
    (flow_of_block block) =
    subst (λ (o : Option Cut). IsCirculation (assets_of parts)
    (λ sell buy. low_of block.header.prices block.header.mu (is_some o) (offers_of parts block) sell buy)
    (high_in parts block) (flow_of_block block)) is (sound_fits parts block (valid_is_sound parts block valid)).circulation in
    (λ never. absurd cc, λ none. absurd (none (flow_of_block block) flow))
drops_as parts block (Some cut) valid is = (λ _. drops_the_impossible parts block cut valid is, λ _. refl)

pub drops_exactly : (parts : Parts) (block : Block) → IsValid parts block → DropsExactly parts block
drops_exactly parts block valid = drops_as parts block block.header.dropped valid refl
