use Rattle.std.proofs.Common.{◌≡◌, false, true, drop, take, refl, sym, ap, subst, ◌∙◌}
use Rattle.std.specs.List.{AllByRecursion}
use Rattle.std.proofs.lemmas.List.{take-append-drop}
use Rattle.std.proofs.lemmas.List.Elements.{All-from_recursion, recursion_from_All}
use Rattle.sx_apply.proofs.Pairs.{none_after, of_pair, own_kept}
use Rattle.sx_apply.proofs.fills.split_pair.Goals as goal
use Rattle.sx_ledger.specs.Bounds.{pair_of}
use Rattle.sx_ledger.proofs.OfferOrder.{rising_is}

pub returns-clause-own : goal.returns-clause-own
returns-clause-own c =
    let first = c.args.first.now in
    let offers = c.args.offers.now in
    let k = c.count_pair.result in
    let mine : AllByRecursion (λ o. of_pair first.sell first.buy o ≡ true) (take k offers) =
    recursion_from_All (λ o. of_pair first.sell first.buy o ≡ true) (take k offers) c.count_pair.ensures.own in
    let others =
    none_after first.sell first.buy first offers k refl refl c.requires.first (rising_is offers c.requires.ordered)
    c.count_pair.ensures.next in
    c.split_at.ensures.front
    ∙ sym (ap (pair_of first.sell first.buy) (sym (take-append-drop k offers)) ∙
    own_kept first.sell first.buy (take k offers) (drop k offers) mine others)

pub returns-clause-apart : goal.returns-clause-apart
returns-clause-apart c =
    let first = c.args.first.now in
    let offers = c.args.offers.now in
    let k = c.count_pair.result in
    let others =
    none_after first.sell first.buy first offers k refl refl c.requires.first (rising_is offers c.requires.ordered)
    c.count_pair.ensures.next in
    All-from_recursion (λ o. of_pair first.sell first.buy o ≡ false) c.split_at.result.1.now
    (subst (AllByRecursion (λ o. of_pair first.sell first.buy o ≡ false)) (sym c.split_at.ensures.back) others)
