use Rattle.std.proofs.Common.{◌≡◌, Ok, map, arith}
use Rattle.std.specs.List.{flat_map}
use Rattle.std.proofs.lemmas.Result.{IfOk-weaker}
use Rattle.sx_state.specs.Encoding.{account_bytes, offer_bytes}
use Rattle.sx_run.proofs.StateParts.{accounts_told, offers_told}
use Rattle.sx_run.proofs.state_writing.encoded_parts.Goals as goal

pub returns-clause-accounts : goal.returns-clause-accounts
returns-clause-accounts g c =
    let ledger = c.args.ledger.now in
    let results = c.in_ok-results.results in
    IfOk-weaker c.all_of.result (λ told. results.items ≡ map Ok told.items)
    (λ told. flat_map (λ part. part.accounts) told.items ≡ flat_map (account_bytes ledger.version) ledger.accounts)
    (λ told e. accounts_told ledger c.args.parts results.items told.items c.requires e
    (omega (arith, c.in_ok-results.ensures.len, results.ok))
    (λ i d lt. (c.in_ok-results.ensures.each i d lt).1.met))
    c.all_of.ensures

pub returns-clause-offers : goal.returns-clause-offers
returns-clause-offers g c =
    let ledger = c.args.ledger.now in
    let results = c.in_ok-results.results in
    IfOk-weaker c.all_of.result (λ told. results.items ≡ map Ok told.items)
    (λ told. flat_map (λ part. part.offers) told.items ≡ flat_map offer_bytes ledger.offers)
    (λ told e. offers_told ledger c.args.parts results.items told.items c.requires e
    (omega (arith, c.in_ok-results.ensures.len, results.ok))
    (λ i d lt. (c.in_ok-results.ensures.each i d lt).1.met))
    c.all_of.ensures
