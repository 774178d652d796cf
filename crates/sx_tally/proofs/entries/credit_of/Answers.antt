use Rattle.std.proofs.Common.{◌≡◌, ℕ, Some, ap, sym, ◌∙◌}
use Rattle.std.specs.Prelude.{slice_get}
use Rattle.sx_tally.proofs.PostedUnits.{amount_is, cancellation, key_at}
use Rattle.sx_tally.proofs.entries.credit_of.Goals as goal
use Rattle.sx_ledger.specs.Effects.{Posting}
use Rattle.sx_ledger.specs.Ledger.{keys}

pub returns-in-Offer-clause-some : goal.returns-in-Offer-clause-some
returns-in-Offer-clause-some c =
    let parts = c.args.ledger.now in
    let tx = c.args.tx.now in
    let key = key_at tx c.in-Cancel.sell c.in-Cancel.buy c.in-Cancel.limit c.in-Cancel.seq in
    let offered = cancellation parts tx c.requires.passes c.in-Cancel.sell c.in-Cancel.buy c.in-Cancel.limit
    c.in-Cancel.seq c.in-Cancel.is in
    let named : slice_get (keys parts.offers) c.in-Offer.place ≡ Some key =
    rw (c.in-Cancel.is, c.in-Offer.is) at c.requires.places.target in
    let amount = amount_is parts.offers c.in-Offer.place c.offer.result.now key c.offer.ensures.kept.by_key
    c.offer.ensures.offer named in
    let posting : ℕ → Posting = λ n. record { account = tx.account.0; asset = c.in-Cancel.sell; units = n } in
    record {
      account = tx.account.0;
      there = c.requires.places.account;
      asset = offered.asset_there;
      is = offered.posting ∙ ap (λ (n : ℕ). Some (posting n)) (sym amount);
    }
