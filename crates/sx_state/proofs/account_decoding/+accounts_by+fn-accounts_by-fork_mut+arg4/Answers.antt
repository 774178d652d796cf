use Rattle.std.proofs.Common.{◌≡◌, ℕ, ◌+◌, ◌-◌, ◌/◌, ◌++◌, List, subst, sym, arith, rules}
use Rattle.sx_ledger.specs.declared.account.Account.{Account}
use Rattle.sx_state.specs.SoundAccounts.{AreAccountsAt, IsBelow}
use Rattle.sx_state.proofs.SoundAccounts.{accounts_joined}
use Rattle.sx_state.proofs.account_decoding.+accounts_by+fn-accounts_by-fork_mut+arg4.Goals as goal

pub returns : goal.returns
returns g t c =
    let payload = c.args.payload.now in
    let version = c.args.version in
    let assets = c.args.assets in
    let place = c.args.place in
    let count = c.args.count in
    let share = c.args.count / c.args.threads in
    let middle = c.saturating_add-middle.result in
    let front = c.in_ok-front.front.items in
    let back = c.in_ok-back.back.items in
    let first : AreAccountsAt payload version assets place (count - share) front c.in_ok-front.met = search rules in
    let up_to : AreAccountsAt payload version assets place (count - share) front middle =
    subst (AreAccountsAt payload version assets place (count - share) front) c.if-met-middle.false first in
    let second : AreAccountsAt payload version assets middle share back c.in_ok-back.end = search rules in
    let below : IsBelow front back =
    subst (λ (xs : List Account). IsBelow xs back) c.deref.ensures.value
    (subst (IsBelow c.deref.result.now) c.deref-else-met-middle.ensures.value
    (c.follow.ensures c.if-not-follow.false)) in
    let all : (count - share) + share ≡ count = omega arith in
    let joined : c.append.new.self.items ≡ front ++ back = search rules in
    subst (λ (xs : List Account). AreAccountsAt payload version assets place count xs c.in_ok-back.end) (sym joined)
    (subst (λ (n : ℕ). AreAccountsAt payload version assets place n (front ++ back) c.in_ok-back.end) all
    (accounts_joined payload version assets (count - share) share place middle c.in_ok-back.end front back up_to second
    below))
