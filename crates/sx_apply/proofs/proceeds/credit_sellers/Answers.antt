use Rattle.std.proofs.Common.{◌≡◌, ℕ, ◌<◌, List, get_or, length, Contains, Some, refl, sym, ap, subst, ◌∙◌, arith}
use Rattle.std.specs.Prelude.{All, slice_get}
use Rattle.std.specs.List.Sorted.{IsStrictlyIncreasing}
use Rattle.std.proofs.lemmas.Option.{slice_get_read}
use Rattle.sx_apply.proofs.PaidAccounts.{nothing_paid, slice_get_within_ids, step_asset, step_fits, step_none}
use Rattle.sx_apply.proofs.PaidAccounts.{step_paid}
use Rattle.sx_apply.proofs.proceeds.credit_sellers.Goals as goal
use Rattle.sx_apply.proofs.proceeds.credit_sellers.Goals.{in-Some, in_default}
use Rattle.sx_ledger.specs.declared.account.Account.{Account}
use Rattle.sx_ledger.specs.declared.fill.Fill.{Fill}
use Rattle.sx_ledger.specs.declared.offer.Offer.{Offer}
use Rattle.sx_ledger.specs.Ledger.{ids}

none : Fill
none = record { place = 0; value = 0; gives = 0; gets = 0 }

-- the assets that an offer buys are among those of each account
buys_of : (offers : List Offer) (accounts : List Account) (at : ℕ) (o : Offer) → at < length offers
    → All (λ (offer : Offer). All (λ (account : Account). offer.buy < length account.balances) accounts) offers
    → o ≡ get_or offers at o → All (λ (account : Account). o.buy < length account.balances) accounts
buys_of offers accounts at o lt all is =
    subst (λ (x : Offer). All (λ (account : Account). x.buy < length account.balances) accounts) (sym is) (all at o lt)

pub loop-fill-init : goal.loop-fill-init
loop-fill-init c = nothing_paid c.args.offers.now c.args.accounts.now

pub bounds-accounts-place : goal.bounds-accounts-place
unfolding none
bounds-accounts-place c =
    let offers = c.args.offers.now in
    let accounts = c.args.accounts.now in
    let k = c.loop-fill.fill-index in
    let o = c.index-offers-fill.result in
    let at = (get_or c.args.fills.now k none).place in
    let lt = c.requires.places k none c.loop-fill-test.true in
    let there = slice_get_read offers (length offers) at o refl lt c.index-offers-fill.is in
    let here : slice_get (ids accounts) c.in-Some.place ≡ Some o.account.0 =
    ap (λ (xs : List ℕ). slice_get xs c.in-Some.place) (sym c.requires.index) ∙ c.in-Some.ensures.found in
    let up : IsStrictlyIncreasing (ids accounts) =
    subst IsStrictlyIncreasing c.requires.index c.in-Some.ensures.by_id in
    let in_range : c.in-Some.place < length accounts = slice_get_within_ids accounts c.in-Some.place o.account.0 here in
    omega (arith, c.loop-fill.auto.accounts)

pub credit-requires-clause-asset : goal.credit-requires-clause-asset
unfolding none
credit-requires-clause-asset c =
    let offers = c.args.offers.now in
    let accounts = c.args.accounts.now in
    let k = c.loop-fill.fill-index in
    let o = c.index-offers-fill.result in
    let at = (get_or c.args.fills.now k none).place in
    let lt = c.requires.places k none c.loop-fill-test.true in
    let there = slice_get_read offers (length offers) at o refl lt c.index-offers-fill.is in
    let here : slice_get (ids accounts) c.in-Some.place ≡ Some o.account.0 =
    ap (λ (xs : List ℕ). slice_get xs c.in-Some.place) (sym c.requires.index) ∙ c.in-Some.ensures.found in
    let up : IsStrictlyIncreasing (ids accounts) =
    subst IsStrictlyIncreasing c.requires.index c.in-Some.ensures.by_id in
    step_asset offers c.args.fills.now accounts c.loop-fill.accounts k none o c.loop-fill.invariant
    c.loop-fill-test.true there
    c.in-Some.place c.index-accounts-place.result up here
    (buys_of offers accounts at o lt c.requires.assets c.index-offers-fill.is)

pub credit-requires-clause-fits : goal.credit-requires-clause-fits
unfolding none
credit-requires-clause-fits c =
    let offers = c.args.offers.now in
    let accounts = c.args.accounts.now in
    let k = c.loop-fill.fill-index in
    let o = c.index-offers-fill.result in
    let e = c.index-accounts-place.result in
    let at = (get_or c.args.fills.now k none).place in
    let lt = c.requires.places k none c.loop-fill-test.true in
    let there = slice_get_read offers (length offers) at o refl lt c.index-offers-fill.is in
    let here : slice_get (ids accounts) c.in-Some.place ≡ Some o.account.0 =
    ap (λ (xs : List ℕ). slice_get xs c.in-Some.place) (sym c.requires.index) ∙ c.in-Some.ensures.found in
    let up : IsStrictlyIncreasing (ids accounts) =
    subst IsStrictlyIncreasing c.requires.index c.in-Some.ensures.by_id in
    step_fits offers c.args.fills.now accounts c.loop-fill.accounts k none o c.loop-fill.invariant
    c.loop-fill-test.true there
    c.in-Some.place e up here (buys_of offers accounts at o lt c.requires.assets c.index-offers-fill.is)
    (let within = slice_get_within_ids accounts c.in-Some.place o.account.0 here in
    c.requires.fits c.in-Some.place e within o.buy
    (buys_of offers accounts at o lt c.requires.assets c.index-offers-fill.is c.in-Some.place e within))

pub loop-fill-preserved : goal.loop-fill-preserved
unfolding none
loop-fill-preserved c =
    let offers = c.args.offers.now in
    let accounts = c.args.accounts.now in
    let k = c.loop-fill.fill-index in
    let o = c.index-offers-fill.result in
    let at = (get_or c.args.fills.now k none).place in
    let lt = c.requires.places k none c.loop-fill-test.true in
    let there = slice_get_read offers (length offers) at o refl lt c.index-offers-fill.is in
    elim c.match-find.branch [
      | in-Some w ↦
          let here : slice_get (ids accounts) w.in-Some.place ≡ Some o.account.0 =
          ap (λ (xs : List ℕ). slice_get xs w.in-Some.place) (sym c.requires.index) ∙ w.in-Some.ensures.found in
          let up : IsStrictlyIncreasing (ids accounts) =
          subst IsStrictlyIncreasing c.requires.index w.in-Some.ensures.by_id in
          w.accounts-is
          ∙ step_paid offers c.args.fills.now accounts c.loop-fill.accounts k none o c.loop-fill.invariant
          c.loop-fill-test.true there
          w.in-Some.place w.index-accounts-place.result up here
          (buys_of offers accounts at o lt c.requires.assets c.index-offers-fill.is)
          w.credit.new.account w.credit.ensures
      | in_default w ↦
          let absent : Contains (ids accounts) o.account.0 → ⊥ =
          λ h. w.in_default.ensures.absent
          (subst (λ (xs : List ℕ). Contains xs o.account.0) (sym c.requires.index) h) in
          w.accounts-is
          ∙ step_none offers c.args.fills.now accounts c.loop-fill.accounts k none o c.loop-fill.invariant
          c.loop-fill-test.true there absent
    ]
