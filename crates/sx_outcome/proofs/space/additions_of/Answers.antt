use Rattle.std.proofs.Common.{◌≡◌, ◌≤◌, ◌+◌, length, take, ap, arith}
use Rattle.sx_ledger.specs.Body.{created, created_by, made, made_by}
use Rattle.sx_tx.specs.declared.kind.Kind.{Kind}
use Rattle.sx_tx.specs.declared.kind.Kind.TheVariants as kind
use Rattle.sx_outcome.proofs.Counts.{length-filter_map_more, number_few, number_of}
use Rattle.sx_outcome.proofs.space.additions_of.Goals as goal
use Rattle.sx_outcome.proofs.space.additions_of.Goals.{in-Cancel, in-Create, in-Offer, in-Pay}

-- the counts, with the candidate at the index
abbrev Counted : goal.Joined-tx → Type 0
Counted c = record {
  accounts : c.match-tx.accounts ≡ length (created (take (c.loop-tx.tx-index + 1) c.args.candidates.now));
  offers : c.match-tx.offers ≡ length (made (take (c.loop-tx.tx-index + 1) c.args.candidates.now));
  few_accounts : c.match-tx.accounts ≤ c.loop-tx.tx-index + 1;
  few_offers : c.match-tx.offers ≤ c.loop-tx.tx-index + 1;
  inside : c.loop-tx.tx-index + 1 ≤ length c.args.candidates.now;
}

-- it is of this kind
step : (c : goal.Joined-tx) (one : Kind) → c.tx-item.result.kind ≡ one
    → c.match-tx.accounts ≡ c.loop-tx.accounts + number_of (created_by one)
    → c.match-tx.offers ≡ c.loop-tx.offers + number_of (made_by c.tx-item.result one) → Counted c
step c one is accounts offers =
    let txs = c.args.candidates.now in
    let tx = c.tx-item.result in
    let inv = c.loop-tx.invariant in
    let there = c.loop-tx-test.true in
    record {
      accounts = omega (
        arith,
        accounts,
        inv.accounts,
        length-filter_map_more (λ t. created_by t.kind) txs
            c.loop-tx.tx-index tx there c.tx-item.is (created_by one) (ap created_by is),
      );
      offers = omega (
        arith,
        offers,
        inv.offers,
        length-filter_map_more (λ t. made_by t t.kind) txs
            c.loop-tx.tx-index tx there c.tx-item.is (made_by tx one) (ap (made_by tx) is),
      );
      few_accounts = omega (arith, accounts, inv.few_accounts, number_few (created_by one));
      few_offers = omega (arith, offers, inv.few_offers, number_few (made_by tx one));
      inside = omega (arith, there);
    }

pub loop-tx-preserved : goal.loop-tx-preserved
loop-tx-preserved c = elim c.match-tx.branch [
  | in-Create w ↦ step c (kind.Create w.in-Create.id) w.in-Create.is (omega (arith, w.accounts-is)) (omega (arith, w.offers-is))
  | in-Offer w ↦
      step c (kind.Offer w.in-Offer.sell w.in-Offer.buy w.in-Offer.limit w.in-Offer.amount) w.in-Offer.is
      (omega (arith, w.accounts-is)) (omega (arith, w.offers-is))
  | in-Pay w ↦
      step c (kind.Pay w.in-Pay.asset w.in-Pay.to w.in-Pay.amount) w.in-Pay.is
      (omega (arith, w.accounts-is)) (omega (arith, w.offers-is))
  | in-Cancel w ↦
      step c (kind.Cancel w.in-Cancel.sell w.in-Cancel.buy w.in-Cancel.limit w.in-Cancel.seq) w.in-Cancel.is
      (omega (arith, w.accounts-is)) (omega (arith, w.offers-is))
]
