use Rattle.std.proofs.Common.{◌≡◌, ◌+◌, ℕ, true, List, [], ◌∷◌, ◌++◌, get_or, length, replicate, take, sym, ap}
use Rattle.std.proofs.Common.{subst, ◌∙◌, arith}
use Rattle.std.proofs.lemmas.List.{get_or-replicate, take_more}
use Rattle.sx_filter.specs.Kept.{covers}
use Rattle.sx_filter.specs.Runs.{AreHeld, AreSums}
use Rattle.sx_filter.proofs.DebitSums.{none_summed, part_over}
use Rattle.sx_filter.proofs.KeptLaws.{each_covers}
use Rattle.sx_filter.proofs.sift.runs.is_covered.Goals as goal
use Rattle.sx_ledger.specs.Ledger.{assets_of}
use Rattle.sx_tx.specs.declared.tx.Tx.{Tx}

pub loop-tx-init : goal.loop-tx-init
loop-tx-init c =
    let parts = c.args.ledger.now in
    let n = length c.args.sums.now in
    let are : c.fill.new.self ≡ replicate n 0 = c.fill.ensures.after (λ y e. e) in
    record {
      sums = none_summed parts c.args.account.0 c.fill.new.self (c.fill.ensures.len ∙ c.requires.sums)
          (λ asset lt. ap (λ (xs : List ℕ). get_or xs asset 0) are
          ∙ get_or-replicate n asset 0 0 (omega (arith, lt, c.requires.sums)));
      covered = each_covers parts [] c.args.account.0 (assets_of parts) (λ asset lt. omega arith);
    }

pub returns-then-not-add-clause-covers : goal.returns-then-not-add-clause-covers
returns-then-not-add-clause-covers c =
    let parts = c.args.ledger.now in
    let n = assets_of parts in
    let run = c.args.run.now in
    let account = c.args.account.0 in
    let at = c.loop-tx.tx-index in
    let tx = c.tx-item.result in
    let more : take at run ++ tx ∷ [] ≡ take (at + 1) run =
    ap (λ (t : Tx). take at run ++ t ∷ []) c.tx-item.is ∙ sym (take_more run at tx c.loop-tx-test.true) in
    let own : tx.account.0 ≡ account =
    ap (λ (t : Tx). t.account.0) c.tx-item.is ∙ c.requires.one at tx c.loop-tx-test.true in
    let told : c.add.result ≡ covers parts (take (at + 1) run) account n =
    c.add.ensures.covers parts (take at run)
    (subst (λ (a : ℕ). AreHeld parts a c.balances_of-balances.result.now) (sym own) c.balances_of-balances.ensures)
    (subst (λ (a : ℕ). AreSums parts (take at run) a c.loop-tx.sums) (sym own) c.loop-tx.invariant.sums)
    (subst (λ (a : ℕ). covers parts (take at run) a n ≡ true) (sym own) c.loop-tx.invariant.covered)
    ∙ (λ i. covers parts (more i) (own i) n) in
    part_over parts run (at + 1) account n (sym told ∙ c.if-not-add.true)

pub loop-tx-preserved : goal.loop-tx-preserved
loop-tx-preserved c =
    let parts = c.args.ledger.now in
    let n = assets_of parts in
    let run = c.args.run.now in
    let account = c.args.account.0 in
    let at = c.loop-tx.tx-index in
    let tx = c.tx-item.result in
    let more : take at run ++ tx ∷ [] ≡ take (at + 1) run =
    ap (λ (t : Tx). take at run ++ t ∷ []) c.tx-item.is ∙ sym (take_more run at tx c.loop-tx-test.true) in
    let own : tx.account.0 ≡ account =
    ap (λ (t : Tx). t.account.0) c.tx-item.is ∙ c.requires.one at tx c.loop-tx-test.true in
    let sums = subst (λ (a : ℕ). AreSums parts (take at run) a c.loop-tx.sums) (sym own) c.loop-tx.invariant.sums in
    let told : c.add.result ≡ covers parts (take (at + 1) run) account n =
    c.add.ensures.covers parts (take at run)
    (subst (λ (a : ℕ). AreHeld parts a c.balances_of-balances.result.now) (sym own) c.balances_of-balances.ensures)
    sums
    (subst (λ (a : ℕ). covers parts (take at run) a n ≡ true) (sym own) c.loop-tx.invariant.covered)
    ∙ (λ i. covers parts (more i) (own i) n) in
    record {
      sums = subst (λ (txs : List Tx). AreSums parts txs account c.add.new.sums) more
          (subst (λ (a : ℕ). AreSums parts (take at run ++ tx ∷ []) a c.add.new.sums) own
          (c.if-not-add.ensures.sums parts (take at run) sums));
      covered = sym told ∙ c.if-not-add.false;
    }
