use Rattle.std.proofs.Common.{◌++◌, List, length, take, ap, subst, sym, ◌∙◌, arith}
use Rattle.sx_filter.specs.Additions.{AreAdditions}
use Rattle.sx_filter.proofs.AdditionLaws.{accounts_fit, offers_fit, together}
use Rattle.sx_filter.proofs.Joined.{all, no_longer, one_more}
use Rattle.sx_filter.proofs.parts.counting.added_in_turn.Goals as goal
use Rattle.sx_tx.specs.declared.tx.Tx.{Tx}

pub additions_of-more-requires : goal.additions_of-more-requires
additions_of-more-requires c =
    let few =
    no_longer c.args.parts.now c.loop-part.part-index c.part-item.result c.loop-part-test.true c.part-item.is in
    omega (arith, few, ap length c.items.ensures, c.requires.few)

pub together-all-requires-clause-few_accounts : goal.together-all-requires-clause-few_accounts
together-all-requires-clause-few_accounts c =
    let few =
    no_longer c.args.parts.now c.loop-part.part-index c.part-item.result c.loop-part-test.true c.part-item.is in
    accounts_fit (all (take c.loop-part.part-index c.args.parts.now)) c.items.result.now c.loop-part.all
    c.additions_of-more.result c.loop-part.invariant
    (record { accounts = c.additions_of-more.ensures.accounts; offers = c.additions_of-more.ensures.offers })
    (omega (arith, few, ap length c.items.ensures, c.requires.few))

pub together-all-requires-clause-few_offers : goal.together-all-requires-clause-few_offers
together-all-requires-clause-few_offers c =
    let few =
    no_longer c.args.parts.now c.loop-part.part-index c.part-item.result c.loop-part-test.true c.part-item.is in
    offers_fit (all (take c.loop-part.part-index c.args.parts.now)) c.items.result.now c.loop-part.all
    c.additions_of-more.result c.loop-part.invariant
    (record { accounts = c.additions_of-more.ensures.accounts; offers = c.additions_of-more.ensures.offers })
    (omega (arith, few, ap length c.items.ensures, c.requires.few))

pub loop-part-preserved : goal.loop-part-preserved
loop-part-preserved c =
    let before = all (take c.loop-part.part-index c.args.parts.now) in
    let same =
    one_more c.args.parts.now c.loop-part.part-index c.part-item.result c.loop-part-test.true c.part-item.is in
    subst (λ (txs : List Tx). AreAdditions txs c.together-all.result)
    (sym (same ∙ ap (λ (list : List Tx). before ++ list) (sym c.items.ensures)))
    (together before c.items.result.now c.loop-part.all c.additions_of-more.result c.loop-part.invariant
    (record { accounts = c.additions_of-more.ensures.accounts; offers = c.additions_of-more.ensures.offers })
    c.together-all.result c.together-all.ensures.accounts c.together-all.ensures.offers)
