use Rattle.std.proofs.Common.{List, [], ◌∷◌, ◌++◌, ap, sym, ◌∙◌}
use Rattle.sx_tally.proofs.Repeated.{done_more, done_none}
use Rattle.sx_tally.proofs.tally.push_made.Goals as goal
use Rattle.sx_ledger.specs.declared.offer.Offer.{Offer}
use Rattle.sx_ledger.specs.Body.{made_by}
use Rattle.sx_tx.specs.declared.tx.Tx.{Tx}

pub returns-in_ok-push : goal.returns-in_ok-push
returns-in_ok-push c = λ before was.
    let tx = c.args.tx.now in
    c.in_ok-push.ensures.items ∙ ap (λ (xs : List Offer). xs ++ c.in-Some.offer ∷ []) was
    ∙ sym (done_more (λ (tx : Tx). made_by tx tx.kind) before tx c.in-Some.offer (sym c.in-Some.ensures))

pub returns-in_default : goal.returns-in_default
returns-in_default c = λ before was.
    was ∙ sym (done_none (λ (tx : Tx). made_by tx tx.kind) before c.args.tx.now (sym c.in_default.ensures))
