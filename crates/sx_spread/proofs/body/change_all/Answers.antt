use Rattle.std.proofs.Common.{◌≡◌, ◌<◌, Some, length, map, sym, ap, ◌∙◌, arith, rules}
use Rattle.std.specs.Prelude.{slice_get}
use Rattle.std.proofs.lemmas.List.{get_or-map, length-map, same_lists}
use Rattle.std.proofs.lemmas.Option.{slice_get-get_or}
use Rattle.sx_ledger.specs.declared.account.Account.{Account}
use Rattle.sx_ledger.specs.Body.{account_after}
use Rattle.sx_spread.proofs.body.change_all.Goals as goal

pub for_each_mut-requires-clause-accepts : goal.for_each_mut-requires-clause-accepts
for_each_mut-requires-clause-accepts g c = λ κs out place account lt is.
    let all = c.requires.accounts in
    let accounts = c.args.accounts.now in
    record {
      parts = all.parts;
      ledger = all.ledger;
      same_version = all.same_version;
      there =
          ap (λ xs. slice_get xs place) all.are
          ∙ slice_get-get_or accounts place account.now lt
          ∙ ap (λ (a : Account). Some a) (sym is);
      body = all.body;
    }

pub returns : goal.returns
returns g c = λ parts txs keeps same are body tally.
    let old = c.args.accounts.now in
    let new = c.for_each_mut.new.list in
    let f = account_after parts txs in
    let as_many : length new ≡ length old = search rules in
    same_lists new (map f old) (as_many ∙ sym (length-map old f)) (λ k d lt.
    let within : k < length old = omega arith in
    let change = (c.for_each_mut.ensures k d within).1 in
    let there : slice_get parts.accounts k ≡ Some change.argument.now =
    ap (λ xs. slice_get xs k) are ∙ slice_get-get_or old k d within
    ∙ ap (λ (a : Account). Some a) (sym change.argument_is) in
    let made : change.after_call.now ≡ f change.argument.now = change.call parts txs keeps same there body tally in
    sym change.left ∙ made ∙ ap f change.argument_is ∙ sym (get_or-map f old k d d within))
