use Rattle.std.proofs.Common.{◌≡◌, ◌+◌, length, subst, sym, rules}
use Rattle.sx_tally.specs.Known.{AreKnown}
use Rattle.sx_tally.proofs.KnownParts.{known_both}
use Rattle.sx_tally.proofs.lookup.+fn-look_up_by-fork_mut+arg4+look_up_by.Goals as goal

pub returns-clause-known : goal.returns-clause-known
returns-clause-known g t c =
    let parts = c.args.ledger.now in
    let txs = c.args.txs.now in
    let from = c.args.from in
    let front = c.front-1.given.0 in
    let back = c.back-1.given.0 in
    let low : AreKnown parts txs from front = search rules in
    let high : AreKnown parts txs (from + length c.split_at_mut-front.result.0.now) back = search rules in
    let same : length front ≡ length c.split_at_mut-front.result.0.now = search rules in
    known_both parts txs from front back low (subst (λ n. AreKnown parts txs (from + n) back) (sym same) high)
