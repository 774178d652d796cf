-- What follows of a header that clears a ledger.
use Rattle.std.proofs.Common.{◌≡◌, ℕ, suc, ◌+◌, ◌^◌, ◌<◌, ◌≤◌, false, List, [], ◌∷◌, get_or, length, map, Option}
use Rattle.std.proofs.Common.{refl, sym, ap, ap₂, subst, ◌∙◌, arith}
use Rattle.std.specs.Prelude.{All, is_some, slice_index}
use Rattle.std.specs.List.{Contains}
use Rattle.std.proofs.lemmas.List.{get_or-map, length-map}
use Rattle.std.proofs.lemmas.List.Elements.{All-contains}
use Rattle.sx_apply.specs.FillSums.{balances_paid, paid_by, proceeds_by}
use Rattle.sx_apply.specs.Paying.{CanPay}
use Rattle.sx_apply.specs.Trading.{CanTrade, Clears, GetsItsValue, GivesItsValue, TradesInFull, TradesWithinLimits}
use Rattle.sx_apply.proofs.FillPlaces.{proceeds_is}
use Rattle.sx_apply.proofs.FillTotals.{places_of}
use Rattle.sx_apply.proofs.PaidAccounts.{paid_at, paid_length}
use Rattle.sx_block.specs.declared.header.Header.{Header}
use Rattle.sx_block.specs.Effects.{IsRounded, IsTradable}
use Rattle.sx_dual.specs.declared.cut.Cut.{Cut}
use Rattle.sx_dual.specs.Sums.{EachPair}
use Rattle.sx_dual.specs.Tables.{value_of as flow_of}
use Rattle.sx_fill.specs.AllFills.{all_fills}
use Rattle.sx_block.proofs.FillLaws.{gets_less, gives_more, price_above}
use Rattle.sx_block.proofs.LimitLaws.{must_in_full, only_within_limit}
use Rattle.sx_block.proofs.TradeKeeps.{trade_keeps_ledger}
use Rattle.sx_block.proofs.TradeTotals.{added_at, added_length}
use Rattle.sx_ledger.specs.declared.account.Account.{Account}
use Rattle.sx_ledger.specs.declared.fill.Fill.{Fill}
use Rattle.sx_ledger.specs.declared.offer.Offer.{Offer}
use Rattle.sx_ledger.specs.declared.parts.Parts.{Parts}
use Rattle.sx_ledger.specs.Bounds.{low_of}
use Rattle.sx_ledger.specs.Fills.{Flow}
use Rattle.sx_ledger.specs.Ledger.{IsLedger, IsOffer, assets_of, balance_at, most_height}
use Rattle.sx_ledger.specs.Trade.{account_traded, balances_traded, proceeds, traded}

-- ---- accounts

paid_balances : (f : ℕ → ℕ) (prices : List ℕ) (flow : Flow) (offers : List Offer) (account asset : ℕ) (bs : List ℕ)
    → ((x : ℕ) → f x ≡ proceeds prices flow offers account x)
    → balances_paid f asset bs ≡ balances_traded prices flow offers account asset bs
paid_balances f prices flow offers account asset [] same = refl
paid_balances f prices flow offers account asset (b ∷ bs) same =
    ap₂ (λ (n : ℕ) (ns : List ℕ). (b + n) ∷ ns) (same asset)
    (paid_balances f prices flow offers account (suc asset) bs same)

paid_is : (prices : List ℕ) (flow : Flow) (offers : List Offer) (fills : List Fill) →
    fills ≡ all_fills prices flow offers
    → (a : Account) → paid_by offers fills a ≡ account_traded prices flow offers a
paid_is prices flow offers fills are a =
    ap (λ (bs : List ℕ). record a { balances = bs })
    (paid_balances (proceeds_by offers fills a.id.0) prices flow offers a.id.0 0 a.balances
    (λ x. ap (λ (fs : List Fill). proceeds_by offers fs a.id.0 x) are ∙ proceeds_is prices flow offers a.id.0 x))

pub all_paid : (prices : List ℕ) (flow : Flow) (offers : List Offer) (fills : List Fill) →
    fills ≡ all_fills prices flow offers
    → (accounts : List Account) → map (paid_by offers fills) accounts ≡ map (account_traded prices flow offers) accounts
all_paid prices flow offers fills are [] = refl
all_paid prices flow offers fills are (a ∷ accounts) =
    ap₂ (λ (x : Account) (xs : List Account). x ∷ xs) (paid_is prices flow offers fills are a)
    (all_paid prices flow offers fills are accounts)

-- ---- a ledger that trades

module _ (parts : Parts) (prices : List ℕ) (flow : Flow) (rounding : List ℕ) (is : IsLedger parts)
    (below : parts.height < most_height) (tradable : IsTradable parts prices flow)
    (rounded : IsRounded parts prices flow rounding) where
  pub can_trade : CanTrade parts.offers prices flow
  can_trade = record { parts = parts; ledger = is; same = refl; tradable = tradable }

  pub after_is : IsLedger (traded parts prices flow rounding)
  after_is = trade_keeps_ledger parts prices flow rounding is below tradable rounded

  rounding_long : length rounding ≡ length parts.rounding
  rounding_long = rounded.one_each ∙ sym is.one_rounding

  -- the rounding of the ledger with that of the block is in range
  pub rounding_fits : (k : ℕ) → k < length parts.rounding
      → slice_index parts.rounding k + slice_index rounding k < 2 ^ 64
  rounding_fits k lt =
      let at = added_at k parts.rounding rounding lt rounding_long in
      let most = after_is.rounding k 0 (omega (arith, added_length parts.rounding rounding rounding_long)) in
      omega arith

  -- and so are the balances with the proceeds
  balances_fit : (fills : List Fill) → fills ≡ all_fills prices flow parts.offers
      → All (λ account. (asset : ℕ) → asset < length account.balances →
      balance_at asset account + proceeds_by parts.offers fills account.id.0 asset < 2 ^ 64) parts.accounts
  balances_fit fills are k d lt asset below_all =
      let account = get_or parts.accounts k d in
      let paid = paid_by parts.offers fills in
      let at : get_or (map (account_traded prices flow parts.offers) parts.accounts) k (paid d) ≡ paid account =
      ap (λ (xs : List Account). get_or xs k (paid d))
      (sym (all_paid prices flow parts.offers fills are parts.accounts))
      ∙ get_or-map paid parts.accounts k d (paid d) lt in
      let range : All (λ balance. balance ≤ 2 ^ 62) (paid account).balances =
      subst (λ (a : Account). All (λ balance. balance ≤ 2 ^ 62) a.balances) at
      (after_is.accounts k (paid d) (omega
      (arith, length-map parts.accounts (account_traded prices flow parts.offers)))).in_range in
      let one = range asset 0 (omega (
        arith,
        paid_length (proceeds_by parts.offers fills account.id.0) 0 account.balances,
      )) in
      let read : get_or (paid account).balances asset 0 ≡ balance_at asset account + proceeds_by parts.offers fills
      account.id.0 asset =
      paid_at (proceeds_by parts.offers fills account.id.0) 0 asset account.balances below_all
      ∙ ap (λ (n : ℕ). balance_at asset account + proceeds_by parts.offers fills account.id.0 n)
      (let e : 0 + asset ≡ asset = omega arith in e) in
      omega arith

  buys_known : All (λ offer. All (λ account. offer.buy < length account.balances) parts.accounts) parts.offers
  buys_known k d lt i e within =
      let offer = is.offers k d lt in let account = is.accounts i e within in omega (arith, offer.buy, account.balances)

  -- so the sellers can be credited
  pub can_pay : (fills : List Fill) → fills ≡ all_fills prices flow parts.offers
      → CanPay parts.offers fills parts.accounts
  can_pay fills are = record {
    by_id = is.by_id;
    few = is.few_accounts;
    places = places_of prices flow parts.offers fills are;
    assets = buys_known;
    fits = balances_fit fills are;
  }

-- ---- a header that clears a ledger

module _ (parts : Parts) (header : Header) (is : IsLedger parts) (clears : Clears parts header) where
  abbrev n : ℕ
  n = assets_of parts

  pub tradable_of : IsTradable parts header.prices (flow_of header.trades)
  tradable_of = record {
    same_assets = clears.same_assets;
    in_range = clears.prices;
    within = λ sell buy s b d. (clears.fits.circulation.within sell buy s b d).at_most;
    balanced = clears.fits.circulation.balanced;
  }

  pub within_limits : TradesWithinLimits parts header
  within_limits offer has some = only_within_limit parts header.prices (flow_of header.trades) offer is tradable_of
      has some

  pub in_full : TradesInFull parts header
  in_full none offer has must =
      let least : EachPair n (λ sell buy. low_of header.prices header.mu false parts.offers sell buy ≤ flow_of
      header.trades sell buy) =
      λ sell buy s b d.
      subst (λ (o : Option Cut). low_of header.prices header.mu (is_some o) parts.offers sell buy ≤ flow_of
      header.trades sell buy) none
      (clears.fits.circulation.within sell buy s b d).at_least in
      must_in_full parts header.prices (flow_of header.trades) header.mu offer is tradable_of least has must

  one_is : (offer : Offer) → Contains parts.offers offer → IsOffer n parts.accounts offer
  one_is offer has = All-contains (IsOffer n parts.accounts) parts.offers offer is.offers has

  pub gives_its_value : GivesItsValue parts header
  gives_its_value offer has =
      gives_more header.prices (flow_of header.trades) parts.offers offer
      (price_above parts header.prices (flow_of header.trades) is tradable_of offer.sell (one_is offer has).sell)

  pub gets_its_value : GetsItsValue parts header
  gets_its_value offer has =
      gets_less header.prices (flow_of header.trades) parts.offers offer
      (price_above parts header.prices (flow_of header.trades) is tradable_of offer.buy (one_is offer has).buy)

-- ---- parts, field by field

abbrev pub build : ℕ → ℕ → List ℕ → List ℕ → List Account → List Offer → Parts
build version height prices rounding accounts offers = record {
  version = version;
  height = height;
  prices = prices;
  rounding = rounding;
  accounts = accounts;
  offers = offers;
}

pub parts_same : (version version' height height' : ℕ) (prices prices' rounding rounding' : List ℕ)
    (accounts accounts' : List Account) (offers offers' : List Offer) → version ≡ version' → height ≡ height'
    → prices ≡ prices' → rounding ≡ rounding' → accounts ≡ accounts' → offers ≡ offers'
    → build version height prices rounding accounts offers
    ≡ build version' height' prices' rounding' accounts' offers'
parts_same v v' h h' p p' r r' a a' o o' ve he pe re ae oe =
    ap₂ (λ (x y : ℕ). build x y p r a o) ve he ∙ ap₂ (λ (x y : List ℕ). build v' h' x y a o) pe re
    ∙ ap₂ (λ (x : List Account) (y : List Offer). build v' h' p' r' x y) ae oe
