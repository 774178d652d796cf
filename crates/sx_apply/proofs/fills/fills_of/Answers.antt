use Rattle.std.proofs.Common.{◌≡◌, ℕ, ◌-◌, ◌<◌, false, ◌++◌, List, length, get_or, Some, sym, ap, ap₂, subst, ◌∙◌}
use Rattle.std.proofs.Common.{arith}
use Rattle.std.specs.Prelude.{slice_get}
use Rattle.std.specs.List.{AllByRecursion}
use Rattle.std.proofs.lemmas.List.{get_or_default, length-append}
use Rattle.std.proofs.lemmas.List.Elements.{recursion_from_All}
use Rattle.sx_apply.proofs.Pairs.{of_pair, rising_front}
use Rattle.sx_apply.proofs.Runs.{first_is, pair_done}
use Rattle.sx_apply.proofs.Worth.{pair_worth}
use Rattle.sx_apply.proofs.fills.fills_of.Goals as goal
use Rattle.sx_dual.specs.Tables.{value_of}
use Rattle.sx_ledger.specs.declared.offer.Offer.{Offer}
use Rattle.sx_ledger.specs.declared.parts.Parts.{Parts}
use Rattle.sx_ledger.specs.Bounds.{price_of}
use Rattle.sx_ledger.specs.Ledger.{IsLedger, IsOffer, assets_of}
use Rattle.sx_ledger.proofs.OfferOrder.{Rising, order_is, rising_back, rising_is}

pub split_pair-requires-clause-ordered : goal.split_pair-requires-clause-ordered
split_pair-requires-clause-ordered c =
    let t = c.requires.tradable in
    let done = c.loop-first.invariant in
    let up : Rising c.args.offers.now = subst Rising t.same (rising_is t.parts.offers t.ledger.by_key) in
    order_is c.loop-first.left.now (rising_back done.front c.loop-first.left.now (subst Rising (sym done.whole) up))

-- the first offer that is left is one of the ledger
offer_of : (parts : Parts) (offers left front : List Offer) (first : Offer) → IsLedger parts → parts.offers ≡ offers
    → front ++ left ≡ offers → slice_get left 0 ≡ Some first → IsOffer (assets_of parts) parts.accounts first
offer_of parts offers left front first is same whole there =
    first_is (IsOffer (assets_of parts) parts.accounts) front left offers first whole there
    (subst (AllByRecursion (IsOffer (assets_of parts) parts.accounts)) same
    (recursion_from_All (IsOffer (assets_of parts) parts.accounts) parts.offers is.offers))

pub bounds-items-from : goal.bounds-items-from
bounds-items-from c =
    let t = c.requires.tradable in
    let done = c.loop-first.invariant in
    let o = offer_of t.parts c.args.offers.now c.loop-first.left.now done.front c.in-Some.first.now t.ledger t.same
    done.whole (sym c.in-Some.ensures.value) in
    let same = ap length c.items.ensures in
    omega (arith, o.sell, t.tradable.same_assets)

pub bounds-items-from-in-Some : goal.bounds-items-from-in-Some
bounds-items-from-in-Some c =
    let t = c.requires.tradable in
    let done = c.loop-first.invariant in
    let o = offer_of t.parts c.args.offers.now c.loop-first.left.now done.front c.in-Some.first.now t.ledger t.same
    done.whole (sym c.in-Some.ensures.value) in
    let same = ap length c.items-in-Some.ensures in
    omega (arith, o.buy, t.tradable.same_assets)

pub at-value-requires-clause-sell : goal.at-value-requires-clause-sell
at-value-requires-clause-sell c =
    let t = c.requires.tradable in
    let done = c.loop-first.invariant in
    let o = offer_of t.parts c.args.offers.now c.loop-first.left.now done.front c.in-Some.first.now t.ledger t.same
    done.whole (sym c.in-Some.ensures.value) in
    omega (arith, o.sell, t.tradable.same_assets, c.requires.assets)

pub at-value-requires-clause-buy : goal.at-value-requires-clause-buy
at-value-requires-clause-buy c =
    let t = c.requires.tradable in
    let done = c.loop-first.invariant in
    let o = offer_of t.parts c.args.offers.now c.loop-first.left.now done.front c.in-Some.first.now t.ledger t.same
    done.whole (sym c.in-Some.ensures.value) in
    omega (arith, o.buy, t.tradable.same_assets, c.requires.assets)

pub push_fills-requires-clause-in_book_order : goal.push_fills-requires-clause-in_book_order
push_fills-requires-clause-in_book_order c =
    let t = c.requires.tradable in
    let done = c.loop-first.invariant in
    let up : Rising c.args.offers.now = subst Rising t.same (rising_is t.parts.offers t.ledger.by_key) in
    let left : Rising c.loop-first.left.now =
    rising_back done.front c.loop-first.left.now (subst Rising (sym done.whole) up) in
    order_is c.split_pair.result.0.now
    (rising_front c.split_pair.result.0.now c.split_pair.result.1.now
    (subst Rising (sym c.split_pair.ensures.all) left))

-- the price that stands at an asset
price_read : (prices items : List ℕ) (at asset price : ℕ) → items ≡ prices → at ≡ asset → at < length items
    → price ≡ get_or items at price → price ≡ price_of prices asset
price_read prices items at asset price same is lt read =
    read ∙ get_or_default items at price 0 lt ∙ ap₂ (λ (xs : List ℕ) (k : ℕ). get_or xs k 0) same is

pub push_fills-requires-clause-worth_an_amount : goal.push_fills-requires-clause-worth_an_amount
push_fills-requires-clause-worth_an_amount c =
    let t = c.requires.tradable in
    let done = c.loop-first.invariant in
    let first = c.in-Some.first.now in
    let o = offer_of t.parts c.args.offers.now c.loop-first.left.now done.front first t.ledger t.same done.whole
    (sym c.in-Some.ensures.value) in
    let long = ap length c.items-in-Some.ensures in
    let at : c.from-in-Some.result ≡ first.buy = c.from-in-Some.ensures ∙ c.get-in-Some.ensures.value in
    let price = price_read c.args.prices.now c.items-in-Some.result.now c.from-in-Some.result first.buy
    c.index-items-from-in-Some.result c.items-in-Some.ensures at
    (omega (arith, o.buy, t.tradable.same_assets)) c.index-items-from-in-Some.is in
    let worth = pair_worth t.parts c.args.prices.now (value_of c.args.flow.now) first.sell first.buy t.ledger
    t.tradable o.sell o.buy (λ e. o.differ (sym e)) in
    rw (price, c.at-value.ensures.value) worth

pub loop-first-preserved : goal.loop-first-preserved
loop-first-preserved c =
    let t = c.requires.tradable in
    let done = c.loop-first.invariant in
    let first = c.in-Some.first.now in
    let prices = c.args.prices.now in
    let flow = value_of c.args.flow.now in
    let there = sym c.in-Some.ensures.value in
    let o = offer_of t.parts c.args.offers.now c.loop-first.left.now done.front first t.ledger t.same done.whole
    there in
    let sell_at : c.from.result ≡ first.sell = c.from.ensures ∙ c.get.ensures.value in
    let buy_at : c.from-in-Some.result ≡ first.buy = c.from-in-Some.ensures ∙ c.get-in-Some.ensures.value in
    let sell_long = ap length c.items.ensures in
    let buy_long = ap length c.items-in-Some.ensures in
    let sell = price_read prices c.items.result.now c.from.result first.sell c.index-items-from.result
    c.items.ensures sell_at (omega (arith, o.sell, t.tradable.same_assets)) c.index-items-from.is in
    let buy = price_read prices c.items-in-Some.result.now c.from-in-Some.result first.buy
    c.index-items-from-in-Some.result c.items-in-Some.ensures buy_at
    (omega (arith, o.buy, t.tradable.same_assets)) c.index-items-from-in-Some.is in
    let apart = recursion_from_All (λ o. of_pair first.sell first.buy o ≡ false) c.split_pair.result.1.now
    c.split_pair.ensures.apart in
    let place : length c.args.offers.now - length c.loop-first.left.now ≡ length done.front =
    omega (arith, ap length done.whole, length-append done.front c.loop-first.left.now) in
    pair_done prices flow c.args.offers.now c.loop-first.left.now c.split_pair.result.0.now
    c.split_pair.result.1.now first c.loop-first.fills.items done there c.split_pair.ensures.own
    c.split_pair.ensures.all apart
    (length c.args.offers.now - length c.loop-first.left.now) c.index-items-from.result
    c.index-items-from-in-Some.result c.at-value.result c.push_fills.new.fills.items place sell buy
    c.at-value.ensures.value c.in_ok-push_fills.ensures.appended
