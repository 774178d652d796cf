use Rattle.std.proofs.Common.{◌≡◌, ◌<◌, IfOk, List, sym, subst}
use Rattle.sx_block.specs.Validity.{digest_of_ledger}
use Rattle.sx_clear.specs.Found.{CanLeave, IsBodyOf}
use Rattle.sx_clear.proofs.leaving.digest_left.Goals as goal
use Rattle.sx_fill.specs.AllFills.{all_fills}
use Rattle.sx_ledger.specs.declared.parts.Parts.{Parts}
use Rattle.sx_ledger.specs.Body.{IsAdmissible, body_after}
use Rattle.sx_ledger.specs.Fills.{Flow}
use Rattle.sx_ledger.specs.Ledger.{most_height}
use Rattle.sx_ledger.specs.Trade.{traded}
use Rattle.sx_tx.specs.declared.tx.Tx.{Tx}

pub digest_after-requires-clause-below_last : goal.digest_after-requires-clause-below_last
digest_after-requires-clause-below_last c =
    subst (λ (p : Parts). p.height < most_height) (sym c.in_ok-copy.ensures) c.requires.below_last

pub digest_after-requires-clause-body : goal.digest_after-requires-clause-body
digest_after-requires-clause-body c =
    subst (λ (p : Parts). CanLeave p c.args.body c.args.prices.now c.args.rounding.now c.args.fills.now)
    (sym c.in_ok-copy.ensures) c.requires.body

pub returns-clause-hash : goal.returns-clause-hash
returns-clause-hash c =
    subst (λ (p : Parts). (txs : List Tx) (flow : Flow) → IsAdmissible p txs → IsBodyOf p txs c.args.body
    → c.args.fills.now ≡ all_fills c.args.prices.now flow (body_after p txs).offers
    → IfOk c.digest_after.result (λ digest. digest
    ≡ digest_of_ledger (traded (body_after p txs) c.args.prices.now flow c.args.rounding.now)))
    c.in_ok-copy.ensures c.digest_after.ensures.hash
