-- The ledger after the body of a block is a ledger.
use Rattle.std.proofs.Common.{◌≡◌, ℕ, ◌+◌, ◌^◌, ◌<◌, ◌≤◌, true, not, List, [], ◌∷◌, length, get_or, map, All}
use Rattle.std.proofs.Common.{None, inl, inr, sym, ap, ◌∙◌, subst, arith}
use Rattle.std.specs.List.{AllByRecursion, list_any}
use Rattle.std.proofs.lemmas.Bool.{cases_Bool}
use Rattle.std.proofs.lemmas.List.{length-map}
use Rattle.std.proofs.lemmas.List.Elements.{All-filter, All-from_get_or, All-from_recursion, recursion_from_All}
use Rattle.std.proofs.lemmas.List.Sums.{get_or-le-sum_by}
use Rattle.sx_bytes.specs.Grammar.{in_order}
use Rattle.sx_ledger.specs.declared.offer.Offer.{Offer}
use Rattle.sx_ledger.specs.declared.parts.Parts.{Parts}
use Rattle.sx_ledger.specs.Body.{IsAdmissibleIn, account_after, accounts_after, body_after, cancelled, created}
use Rattle.sx_ledger.specs.Body.{kept_offers, made, new_account, offers_after, uses}
use Rattle.sx_ledger.specs.EffectLaws.{BodyKeepsLedger}
use Rattle.sx_ledger.specs.Ledger.{IsAccount, IsLedger, IsOffer, assets_of, balance_at, keys, total_of}
use Rattle.sx_ledger.specs.Order.{key_before, key_of, same_key}
use Rattle.sx_ledger.proofs.AccountsAfter.{HasShape, by_id_after, owner_after, shapes, uses_own}
use Rattle.sx_ledger.proofs.BodyConserves.{body_conserves}
use Rattle.sx_ledger.proofs.Insertion.{all_put_all, filter_in_order, id_of, length-put_all}
use Rattle.sx_ledger.proofs.Insertion.{put_accounts_are, put_all_in_order, put_all, put_offers_are}
use Rattle.sx_ledger.proofs.KeyOrder.{before_both}
use Rattle.sx_ledger.proofs.OffersAfter.{IsMade, all_made, made_apart, owner_there, owner_used}
use Rattle.sx_ledger.proofs.PostingTotals.{Passes, passes}
use Rattle.sx_tx.specs.declared.tx.Tx.{Tx}
use Rattle.sx_tx.specs.Transactions.{IsTx}
use Rattle.std.specs.Prelude.{nat_lt}

kept_few : (offers : List Offer) (txs : List Tx) → length (kept_offers offers txs) ≤ length offers
kept_few [] txs = omega arith
kept_few (offer ∷ offers) txs =
    elim (cases_Bool (list_any (same_key (key_of offer)) (cancelled txs))) [
      | inl ended ↦ rw ended (omega (arith, kept_few offers txs))
      | inr kept ↦ rw kept (omega (arith, kept_few offers txs))
    ]

module _ (version : ℕ) (parts : Parts) (txs : List Tx) (keeps : IsLedger parts)
    (body : IsAdmissibleIn version parts txs) where
  passing : All (Passes parts) txs
  passing = λ k d below. passes parts (get_or txs k d) (body.passes k d below)

  offers_put : offers_after parts txs ≡ put_all key_of key_before (made txs) (kept_offers parts.offers txs)
  offers_put = put_offers_are (made txs) (kept_offers parts.offers txs)

  kept_are : All (IsOffer (assets_of parts) parts.accounts) (kept_offers parts.offers txs)
  kept_are = All-filter (λ offer. not (list_any (same_key (key_of offer)) (cancelled txs)))
      (IsOffer (assets_of parts) parts.accounts) parts.offers keeps.offers

  pub keys_in_order : in_order key_before None (keys (offers_after parts txs)) ≡ true
  keys_in_order =
      let ordered = filter_in_order key_of key_before before_both
      (λ offer. not (list_any (same_key (key_of offer)) (cancelled txs))) None parts.offers keeps.by_key in
      let whole = put_all_in_order key_of key_before (made txs) (kept_offers parts.offers txs)
      (made_apart parts keeps.by_id (kept_offers parts.offers txs) kept_are None txs body.ordered passing)
      ordered in
      rw offers_put whole

module _ (version : ℕ) (parts : Parts) (txs : List Tx) (keeps : IsLedger parts) (in_range : All IsTx txs)
    (body : IsAdmissibleIn version parts txs) where
  all_pass : All (Passes parts) txs
  all_pass = passing version parts txs keeps body

  totals : (asset : ℕ) → asset < assets_of parts → total_of (body_after parts txs) asset ≤ 2 ^ 62
  totals asset lt = omega (arith, body_conserves version parts txs asset keeps body lt, keeps.totals asset lt)

  -- ---- accounts

  few_accounts : length (accounts_after parts txs) ≤ 65536
  few_accounts =
      let news = map (new_account parts txs) (created txs) in
      let olds = map (account_after parts txs) parts.accounts in
      let is : length (accounts_after parts txs) ≡ length news + length olds = ap length (put_accounts_are news olds)
      ∙ length-put_all id_of nat_lt news olds in
      omega (
        arith,
        is,
        length-map (created txs) (new_account parts txs),
        length-map parts.accounts (account_after parts txs),
        body.accounts_fit,
      )

  accounts : All (IsAccount parts.version (assets_of parts)) (accounts_after parts txs)
  accounts k d lt =
      let after = accounts_after parts txs in
      let account = get_or after k d in
      let shape : HasShape parts.version (assets_of parts) account = shapes parts txs keeps in_range all_pass k d lt in
      record {
        id = shape.id;
        window = shape.window;
        balances = shape.balances;
        in_range = All-from_get_or (λ balance. balance ≤ 2 ^ 62) account.balances 0
            (λ asset below. omega (
              arith,
              get_or-le-sum_by (balance_at asset) after k d lt,
              totals asset (omega (arith, shape.balances)),
            ));
      }

  -- ---- offers

  few_offers : length (offers_after parts txs) ≤ 262144
  few_offers =
      let is : length (offers_after parts txs) ≡ length (made txs) + length (kept_offers parts.offers txs) =
      ap length (offers_put version parts txs keeps body)
      ∙ length-put_all key_of key_before (made txs) (kept_offers parts.offers txs) in
      omega (arith, is, kept_few parts.offers txs, body.offers_fit)

  kept_offer : (offer : Offer) → IsOffer (assets_of parts) parts.accounts offer
      → IsOffer (assets_of parts) (accounts_after parts txs) offer
  kept_offer offer is = record {
    sell = is.sell;
    buy = is.buy;
    differ = is.differ;
    limit = is.limit;
    account = is.account;
    seq = is.seq;
    amount = is.amount;
    owner = owner_after parts txs keeps in_range all_pass offer (owner_there parts.accounts offer is.owner)
        (inl (owner_used parts.accounts keeps.by_id offer is.owner));
  }

  all_used : AllByRecursion (λ tx. uses txs tx.account.0 tx.seq ≡ true) txs
  all_used = recursion_from_All (λ tx. uses txs tx.account.0 tx.seq ≡ true) txs (uses_own txs)

  made_offers : (offers : List Offer) → AllByRecursion (IsMade parts txs) offers
      → AllByRecursion (IsOffer (assets_of parts) (accounts_after parts txs)) offers
  made_offers [] all = tt
  made_offers (offer ∷ offers) all = (
    all.0.fields (accounts_after parts txs)
        (owner_after parts txs keeps in_range all_pass offer all.0.there (inr all.0.used)),
    made_offers offers all.1,
  )

  offers : All (IsOffer (assets_of parts) (accounts_after parts txs)) (offers_after parts txs)
  offers =
      All-from_recursion (IsOffer (assets_of parts) (accounts_after parts txs)) (offers_after parts txs)
      (subst (AllByRecursion (IsOffer (assets_of parts) (accounts_after parts txs)))
      (sym (offers_put version parts txs keeps body))
      (all_put_all key_of key_before (IsOffer (assets_of parts) (accounts_after parts txs)) (made txs)
      (kept_offers parts.offers txs)
      (made_offers (made txs) (all_made parts txs txs in_range all_pass all_used))
      (recursion_from_All (IsOffer (assets_of parts) (accounts_after parts txs)) (kept_offers parts.offers txs)
      (λ k d lt. kept_offer (get_or (kept_offers parts.offers txs) k d)
      (kept_are version parts txs keeps body k d lt)))))

  ledger_after : IsLedger (body_after parts txs)
  ledger_after = record {
    some_version = keeps.some_version;
    few_versions = keeps.few_versions;
    height = keeps.height;
    some_asset = keeps.some_asset;
    few_assets = keeps.few_assets;
    prices = keeps.prices;
    one_rounding = keeps.one_rounding;
    rounding = keeps.rounding;
    few_accounts = few_accounts;
    accounts = accounts;
    by_id = by_id_after parts txs keeps in_range all_pass body.creates_once;
    few_offers = few_offers;
    offers = offers;
    by_key = keys_in_order version parts txs keeps body;
    totals = totals;
  }

pub body_keeps_ledger : BodyKeepsLedger
body_keeps_ledger version parts txs keeps in_range body = ledger_after version parts txs keeps in_range body
