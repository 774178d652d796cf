use Rattle.std.proofs.Common.{◌≡◌, ◌+◌, ℕ, length, subst, take, arith}
use Rattle.std.proofs.lemmas.List.{length-take-le}
use Rattle.sx_tally.specs.Tally.{IsTally}
use Rattle.sx_tally.proofs.Entered.{can_credit, can_debit, none_pending}
use Rattle.sx_tally.proofs.prechecking.enter_run.Goals as goal

pub loop-k-init : goal.loop-k-init
loop-k-init c =
    let txs = c.args.txs.now in
    let first : c.args.from + 0 ≡ c.args.from = omega arith in
    rw first
    (none_pending c.args.ledger.now (take c.args.from txs) c.args.pending.now c.args.tally.now c.requires.none
    c.requires.tally)

pub post_pending-requires-clause-debits : goal.post_pending-requires-clause-debits
post_pending-requires-clause-debits c =
    let txs = c.args.txs.now in
    let all = c.args.from + c.loop-k.k in
    can_debit c.args.ledger.now c.requires.ledger (take all txs) c.loop-k.pending c.loop-k.tally
    (omega (arith, length-take-le all txs (omega arith))) c.loop-k.invariant

pub post_pending-requires-clause-credits : goal.post_pending-requires-clause-credits
post_pending-requires-clause-credits c =
    let txs = c.args.txs.now in
    let all = c.args.from + c.loop-k.k in
    can_credit c.args.ledger.now c.requires.ledger (take all txs) c.loop-k.pending c.loop-k.tally
    (omega (arith, length-take-le all txs (omega arith))) c.loop-k.invariant

pub returns-clause-tally : goal.returns-clause-tally
returns-clause-tally c =
    let all : c.loop-k.k ≡ length c.args.known.now = omega arith in
    subst (λ (n : ℕ). IsTally c.args.ledger.now (take (c.args.from + n) c.args.txs.now) c.post_pending.new.self) all
    (c.in_ok-post_pending.ensures.tally c.args.ledger.now (take (c.args.from + c.loop-k.k) c.args.txs.now)
    c.loop-k.invariant)
