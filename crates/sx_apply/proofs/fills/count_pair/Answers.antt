use Rattle.std.proofs.Common.{◌≡◌, true, false, refl, rules}
use Rattle.std.proofs.lemmas.List.Sorted.{IsPartitionPoint-from_clause}
use Rattle.sx_apply.proofs.Pairs.{front_all, next_is, of_pair, parted}
use Rattle.sx_apply.proofs.fills.count_pair.Goals as goal
use Rattle.sx_ledger.proofs.OfferOrder.{rising_is}

pub returns : goal.returns
returns c =
    let first = c.args.first.now in
    let offers = c.args.offers.now in
    let own = of_pair first.sell first.buy in
    let end = c.partition_point.result in
    let point = IsPartitionPoint-from_clause own offers end c.partition_point.ensures.partitioned
    (parted first.sell first.buy first offers refl refl c.requires.first (rising_is offers c.requires.ordered))
    (λ a r g called. search rules) in
    record {
      within = c.partition_point.ensures.bound;
      own = front_all (λ o. own o ≡ true) offers end c.partition_point.ensures.bound point.0;
      next = next_is (λ o. own o ≡ false) offers end point.1;
    }
