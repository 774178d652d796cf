-- The offers after a body, and their quotes.
use Rattle.std.proofs.Common.{◌≡◌, ℕ, ◌+◌, List, [], ◌∷◌, sum_by, inl, inr, refl, sym, subst, arith}
use Rattle.std.specs.Prelude.{All, ◌==◌, length}
use Rattle.std.proofs.lemmas.Bool.{cases_Bool}
use Rattle.std.proofs.lemmas.List.Elements.{All-map}
use Rattle.std.proofs.lemmas.List.Sums.{sum_by-cons}
use Rattle.sx_fill.specs.Bounds.{AreOffers}
use Rattle.sx_fill.proofs.BoundLaws.{ledger_offers}
use Rattle.sx_tally.specs.OfferChanges.{changed_by}
use Rattle.sx_clear.specs.declared.prices.body.Body.{Body}
use Rattle.sx_clear.specs.Found.{IsBodyOf}
use Rattle.sx_multi.specs.Quotes.{quote_of, quotes_of}
use Rattle.sx_curve.specs.declared.quote.Quote.{Quote}
use Rattle.sx_curve.specs.Curves.{AreQuotes, IsAmong}
use Rattle.sx_curve.specs.Quotes.{amounts, sellers_of}
use Rattle.sx_dual.specs.Tables.{IsAssetCount}
use Rattle.sx_ledger.specs.declared.offer.Offer.{Offer}
use Rattle.sx_ledger.specs.declared.parts.Parts.{Parts}
use Rattle.sx_ledger.specs.Body.{IsAdmissible, body_after}
use Rattle.sx_ledger.specs.Ledger.{IsLedger, assets_of, offered}
use Rattle.sx_ledger.proofs.BodyKeepsLedger.{body_keeps_ledger}
use Rattle.sx_ledger.proofs.LaterBodies.{later_admits_more}
use Rattle.sx_tx.specs.declared.tx.Tx.{Tx}
use Rattle.sx_tx.specs.Transactions.{IsTx}

-- as much is quoted of an asset as is on offer
quoted : (asset : ℕ) (offers : List Offer)
    → amounts (sellers_of asset (quotes_of offers)) ≡ sum_by (offered asset) offers
quoted asset [] = refl
quoted asset (offer ∷ offers) =
    let rest = quoted asset offers in
    let first : amounts (sellers_of asset (quotes_of (offer ∷ offers)))
    ≡ offered asset offer + amounts (sellers_of asset (quotes_of offers)) =
    elim (cases_Bool (offer.sell == asset)) [
      | inl sells ↦ rw sells
          (sum_by-cons (λ (quote : Quote). quote.amount) (quote_of offer) (sellers_of asset (quotes_of offers)))
      | inr other ↦ rw other (omega arith)
    ] in
    omega (arith, first, rest, sum_by-cons (offered asset) offer offers)

pub quotes_are : (n : ℕ) (offers : List Offer) → IsAssetCount n → AreOffers n offers → AreQuotes n (quotes_of offers)
quotes_are n offers count are = record {
  some = count.some;
  few = count.few;
  among = All-map (IsAmong n) quote_of offers
      (λ k d lt.
      let pair = are.pairs k d lt in
      record { sell = pair.sell; buy = pair.buy; different = λ same. pair.differ (sym same) });
  for_sale = λ asset lt. omega (arith, quoted asset offers, are.in_range asset lt);
}

-- the ledger after a body is one, and so are its offers
pub middle_is : (parts : Parts) (txs : List Tx) (body : Body) → IsLedger parts → IsAdmissible parts txs
    → IsBodyOf parts txs body → IsLedger (body_after parts txs)
middle_is parts txs body is admissible found = body_keeps_ledger 1 parts txs is found.tally.in_range admissible

-- the offers that were found are those after the transactions
pub offers_is : (parts : Parts) (txs : List Tx) (body : Body) → IsAdmissible parts txs → IsBodyOf parts txs body
    → changed_by body.offers parts.offers ≡ (body_after parts txs).offers
offers_is parts txs body admissible found =
    found.offers txs (later_admits_more 2 parts txs admissible) found.tally

pub offers_are : (parts : Parts) (txs : List Tx) (body : Body) → IsLedger parts → IsAdmissible parts txs
    → IsBodyOf parts txs body → AreOffers (assets_of parts) (changed_by body.offers parts.offers)
offers_are parts txs body is admissible found =
    subst (AreOffers (assets_of parts)) (sym (offers_is parts txs body admissible found))
    (ledger_offers (body_after parts txs) (middle_is parts txs body is admissible found))

pub asset_count : (parts : Parts) → IsLedger parts → IsAssetCount (assets_of parts)
asset_count parts is = record { some = is.some_asset; few = is.few_assets }

-- the offers of an admissible body, for as many assets as there are prices
pub offers_at : (parts : Parts) (txs : List Tx) (prices : List ℕ) (offers : List Offer) → IsLedger parts
    → All IsTx txs → IsAdmissible parts txs → length prices ≡ assets_of parts
    → offers ≡ (body_after parts txs).offers → AreOffers (length prices) offers
offers_at parts txs prices offers is each admissible same are =
    subst (λ (n : ℕ). AreOffers n offers) (sym same)
    (subst (AreOffers (assets_of parts)) (sym are)
    (ledger_offers (body_after parts txs) (body_keeps_ledger 1 parts txs is each admissible)))
