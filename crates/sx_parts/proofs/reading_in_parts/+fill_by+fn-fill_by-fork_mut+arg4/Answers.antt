use Rattle.std.proofs.Common.{◌≡◌, ℕ, ◌+◌, ◌++◌, Result, length, ap, subst, sym, ◌∙◌, rules}
use Rattle.std.specs.Prelude.{IfOk}
use Rattle.std.proofs.lemmas.List.{length-append}
use Rattle.std.proofs.lemmas.Result.{IfOk-weaker}
use Rattle.sx_bytes.specs.declared.fault.FormFault.{FormFault}
use Rattle.sx_parts.specs.Decoded.{AreDecoded}
use Rattle.sx_tx.specs.TransactionDecoding.{tx_at}
use Rattle.sx_tx.proofs.Halves.{many_joined}
use Rattle.sx_parts.proofs.reading_in_parts.+fill_by+fn-fill_by-fork_mut+arg4.Goals as goal

pub returns : goal.returns
returns g t c =
    let payload = c.args.payload.now in
    let place = c.args.place in
    let middle = c.in_ok-middle.middle in
    let front = c.split_at_mut-front.result.0.now in
    let back = c.split_at_mut-front.result.1.now in
    let decoded = c.front-1.given.0 in
    let others = c.back-1.given.0 in
    let first : IfOk c.fork_mut-one.result.0 (λ end. AreDecoded payload place (length front) decoded end) =
    search rules in
    let one : AreDecoded payload place (length front) decoded c.in_ok-one.field-0 =
    subst (λ (r : Result ℕ FormFault). IfOk r (λ end. AreDecoded payload place (length front) decoded end))
    c.in_ok-one.was first in
    let up_to : AreDecoded payload place (length front) decoded middle =
    subst (AreDecoded payload place (length front) decoded) c.if-branch-middle.false one in
    let second : IfOk c.fork_mut-one.result.1 (λ end. AreDecoded payload middle (length back) others end) =
    search rules in
    let parted : length c.args.txs.now ≡ length front + length back =
    ap length c.split_at_mut-front.ensures.value ∙ length-append front back in
    IfOk-weaker c.fork_mut-one.result.1 _ _
    (λ (end : ℕ) (rest : AreDecoded payload middle (length back) others end).
    subst (λ (n : ℕ). AreDecoded payload place n (decoded ++ others) end) (sym parted)
    (many_joined tx_at (length front) (length back) (record { bytes = payload; place = place })
    (record { bytes = payload; place = middle }) (record { bytes = payload; place = end }) decoded others up_to rest))
    second
