use Rattle.std.proofs.Common.{◌≡◌, ◌-◌, ◌≤◌, List, ◌++◌, Result, map, ap, ap₂, subst, sym, ◌∙◌, arith, rules}
use Rattle.std.specs.Result.{OnOk}
use Rattle.std.proofs.lemmas.List.{map-append}
use Rattle.std.proofs.lemmas.Result.{on_ok_weaker}
use Rattle.sx_apply.specs.FillSums.{paid_by}
use Rattle.sx_apply.specs.Paying.{CanPay}
use Rattle.sx_bytes.specs.declared.memory.NoMemory.{NoMemory}
use Rattle.sx_ledger.specs.declared.account.Account.{Account}
use Rattle.sx_spread.proofs.Halves.{can_pay_back, can_pay_front}
use Rattle.sx_spread.proofs.paying.+fn-pay_parts-fork_mut+arg4+pay_parts.Goals as goal

pub fork_mut-one-requires-after_bounds : goal.fork_mut-one-requires-after_bounds
fork_mut-one-requires-after_bounds g t c κs within =
    let offers = c.args.offers.now in
    let fills = c.args.fills.now in
    let front = c.split_at_mut-front.result.0.now in
    let back = c.split_at_mut-front.result.1.now in
    let whole : CanPay offers fills (front ++ back) =
    subst (CanPay offers fills) c.split_at_mut-front.ensures.value c.requires.pay in
    let some : 1 ≤ c.args.threads - 1 = omega arith in
    let first : CanPay offers fills front = can_pay_front offers fills front back whole in
    let second : CanPay offers fills back = can_pay_back offers fills front back whole in
    search (rules, some, first, second)

pub returns : goal.returns
returns g t c =
    let paid = map (paid_by c.args.offers.now c.args.fills.now) in
    let front = c.split_at_mut-front.result.0.now in
    let back = c.split_at_mut-front.result.1.now in
    let first : OnOk c.fork_mut-one.result.0 (c.front-1.given.0 ≡ paid front) = search rules in
    let one : c.front-1.given.0 ≡ paid front =
    subst (λ (r : Result (Unit {0}) NoMemory). OnOk r (c.front-1.given.0 ≡ paid front)) c.in_ok-one.was first in
    let second : OnOk c.fork_mut-one.result.1 (c.back-1.given.0 ≡ paid back) = search rules in
    on_ok_weaker c.fork_mut-one.result.1
    (λ (other : c.back-1.given.0 ≡ paid back).
    ap₂ (λ (xs ys : List Account). xs ++ ys) one other
    ∙ sym (map-append (paid_by c.args.offers.now c.args.fills.now) front back)
    ∙ ap paid (sym c.split_at_mut-front.ensures.value))
    second
