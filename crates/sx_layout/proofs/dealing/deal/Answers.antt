use Rattle.std.proofs.Common.{◌≡◌, ℕ, ◌++◌, [], ◌∷◌, length, get_or, map, refl, sym, ap, subst, ◌∙◌}
use Rattle.std.proofs.Common.{arith, inl, inr}
use Rattle.std.specs.List.{flat_map}
use Rattle.sx_layout.specs.declared.share.Share.{Share}
use Rattle.sx_layout.proofs.DealtLists.{IsNext, dealing_begins, dealing_ends, dealing_goes_on}
use Rattle.sx_layout.proofs.dealing.deal.Goals as goal
use Rattle.sx_ledger.specs.declared.account.Account.{Account}

pub loop-account-init : goal.loop-account-init
loop-account-init c =
    let accounts = c.args.accounts.now in
    let first = c.args.shares.now in
    record {
      one_each = refl;
      within = c.requires;
      balances = λ k d within.
          dealing_begins (flat_map (λ (account : Account). account.balances)) (length first) k accounts
          (get_or first k d).balances.items;
      used = λ k d within.
          dealing_begins (map (λ (account : Account). account.window.used)) (length first) k accounts
          (get_or first k d).used.items;
    }

pub loop-account-preserved : goal.loop-account-preserved
loop-account-preserved c =
    let accounts = c.args.accounts.now in
    let first = c.args.shares.now in
    let old = c.loop-account.shares in
    let new = c.give.new.shares in
    let turn = c.loop-account.shard in
    let next = c.next_shard-shard.result in
    let place = c.loop-account.account-index in
    let account = c.account-item.result in
    let at = get_or accounts place account in
    let long : length new ≡ length first = c.give.ensures.one_each ∙ c.loop-account.invariant.one_each in
    let after : IsNext (length first) turn next =
    record {
      within = omega arith;
      is = elim (c.next_shard-shard.ensures.next) [ inl e ↦ inl e | inr e ↦ inr (omega arith) ];
    } in
    record {
      one_each = long;
      within = omega arith;
      balances = λ k d within.
          dealing_goes_on (flat_map (λ (account : Account). account.balances)) (length first) turn next k accounts place
          account _ _ _
          c.loop-account.invariant.within after c.loop-account-test.true (c.loop-account.invariant.balances k d within)
          at.balances (λ ys. refl) within
          (λ here. subst (λ (n : ℕ). (get_or new n d).balances.items ≡ (get_or old n d).balances.items ++ at.balances)
          (sym here)
          (subst (λ a. (get_or new turn d).balances.items ≡ (get_or old turn d).balances.items ++ a.balances)
          c.account-item.is (c.in_ok-give.ensures.balances d)))
          (λ other. ap (λ (share : Share). share.balances.items) (c.give.ensures.others k d other));
      used = λ k d within.
          dealing_goes_on (map (λ (account : Account). account.window.used)) (length first) turn next k accounts place
          account _ _ _
          c.loop-account.invariant.within after c.loop-account-test.true (c.loop-account.invariant.used k d within)
          (at.window.used ∷ []) (λ ys. refl) within
          (λ here. subst (λ (n : ℕ). (get_or new n d).used.items ≡ (get_or old n d).used.items ++ at.window.used ∷ [])
          (sym here)
          (subst (λ a. (get_or new turn d).used.items ≡ (get_or old turn d).used.items ++ a.window.used ∷ [])
          c.account-item.is (c.in_ok-give.ensures.used d)))
          (λ other. ap (λ (share : Share). share.used.items) (c.give.ensures.others k d other));
    }

pub returns : goal.returns
returns c =
    let accounts = c.args.accounts.now in
    let first = c.args.shares.now in
    let shares = c.loop-account.shares in
    let turn = c.loop-account.shard in
    let place = c.loop-account.account-index in
    record {
      one_each = c.loop-account.invariant.one_each;
      balances = λ k d within.
          dealing_ends (flat_map (λ (account : Account). account.balances)) (length first) turn k accounts place
          _ _ refl c.loop-account.invariant.within within c.loop-account-test.false
          (c.loop-account.invariant.balances k d within);
      used = λ k d within.
          dealing_ends (map (λ (account : Account). account.window.used)) (length first) turn k accounts place
          _ _ refl c.loop-account.invariant.within within c.loop-account-test.false
          (c.loop-account.invariant.used k d within);
    }
