-- What a body that was found leaves of a ledger, however many threads apply it.
use Rattle.std.proofs.Common.{◌≡◌, ℕ, ◌<◌, List, Result, sym, ap, subst, ◌∙◌, arith}
use Rattle.std.specs.Prelude.{IfOk}
use Rattle.sx_apply.specs.Trading.{CanExecute}
use Rattle.sx_block.specs.Validity.{digest_of_ledger}
use Rattle.sx_tally.specs.Tally.{IsTally, IsTallyOfBody}
use Rattle.sx_bytes.specs.declared.memory.NoMemory.{NoMemory}
use Rattle.sx_clear.specs.declared.prices.body.Body.{Body}
use Rattle.sx_clear.specs.Found.{CanLeave, IsBodyOf}
use Rattle.sx_fill.specs.AllFills.{all_fills}
use Rattle.sx_ledger.specs.declared.fill.Fill.{Fill}
use Rattle.sx_ledger.specs.declared.parts.Parts.{Parts}
use Rattle.sx_ledger.specs.Body.{IsAdmissible, IsAdmissibleIn, body_after}
use Rattle.sx_ledger.specs.Fills.{Flow}
use Rattle.sx_ledger.specs.Ledger.{most_height}
use Rattle.sx_ledger.specs.Trade.{traded}
use Rattle.sx_ledger.proofs.LaterBodies.{later_admits_more}
use Rattle.sx_tx.specs.declared.tx.Tx.{Tx}

module _ (parts : Parts) (found : Body) (prices rounding : List ℕ) (fills : List Fill) where
  -- the tally is that of a body
  pub is_tally : CanLeave parts found prices rounding fills → IsTallyOfBody parts found.tally
  is_tally can = record {
    txs = can.txs;
    body = later_admits_more 2 parts can.txs can.admissible;
    is = can.body.tally;
  }

  module _ (with_body : Parts)
      (after : (txs : List Tx) → IsAdmissibleIn 2 parts txs → IsTally parts txs found.tally
      → with_body ≡ body_after parts txs) where
    is_after : (txs : List Tx) → IsAdmissible parts txs → IsBodyOf parts txs found → with_body ≡ body_after parts txs
    is_after txs admissible body = after txs (later_admits_more 2 parts txs admissible) body.tally

    -- the ledger after the body is below the last height
    pub still_below_last : CanLeave parts found prices rounding fills → parts.height < most_height
        → with_body.height < most_height
    still_below_last can below =
        omega (arith, ap (λ (p : Parts). p.height) (is_after can.txs can.admissible can.body), below)

    -- and it can trade
    pub can_execute : CanLeave parts found prices rounding fills → CanExecute with_body prices rounding fills
    can_execute can =
        subst (λ (p : Parts). CanExecute p prices rounding fills) (sym (is_after can.txs can.admissible can.body))
        can.trade

    -- the digest of what it leaves by trading is that of what the body and the trade leave
    pub digest_of_left : (left : Parts) (r : Result (List ℕ) NoMemory)
        → ((flow : Flow) → fills ≡ all_fills prices flow with_body.offers → left ≡ traded with_body prices flow rounding)
        → IfOk r (λ digest. digest ≡ digest_of_ledger left)
        → (txs : List Tx) (flow : Flow) → IsAdmissible parts txs → IsBodyOf parts txs found
        → fills ≡ all_fills prices flow (body_after parts txs).offers
        → IfOk r (λ digest. digest ≡ digest_of_ledger (traded (body_after parts txs) prices flow rounding))
    digest_of_left left r trades hash txs flow admissible body are =
        let is = is_after txs admissible body in
        let left_is : left ≡ traded with_body prices flow rounding =
        trades flow (are ∙ ap (λ (p : Parts). all_fills prices flow p.offers) (sym is)) in
        subst (λ (p : Parts). IfOk r (λ digest. digest ≡ digest_of_ledger p))
        (left_is ∙ ap (λ (p : Parts). traded p prices flow rounding) is) hash
