use Rattle.std.proofs.Common.{sym, ap, ◌∙◌}
use Rattle.std.specs.Ordering.{is_eq}
use Rattle.sx_filter.specs.Alone.{is_twice}
use Rattle.sx_filter.specs.Cancellations.{cancellations}
use Rattle.sx_filter.specs.contracts.sift.cancellation.CancellationOrd.TheImpl as by_account
use Rattle.sx_filter.proofs.NamedAgain.{no_offer, offer_again}
use Rattle.sx_filter.proofs.sift.named.is_offer_taken.Goals as goal

pub returns-in-Some : goal.returns-in-Some
returns-in-Some c = λ txs is.
    c.is_again.ensures (cancellations txs) is
    ∙ ap (λ k. is_twice (λ one. is_eq (by_account.ghosts.cmp one k)) (cancellations txs)) c.of.ensures
    ∙ offer_again txs c.args.tx.now c.in-Some.key (sym c.in-Some.ensures)

pub returns-in-None : goal.returns-in-None
returns-in-None c = λ txs is. no_offer txs c.args.tx.now (sym c.in-None.ensures)
