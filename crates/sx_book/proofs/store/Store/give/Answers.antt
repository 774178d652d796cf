use Rattle.std.proofs.Common.{◌≡◌, ℕ, ◌+◌, ◌-◌, ◌<◌, ◌≤◌, set, Option, Some, slice_get, refl, sym, ap, ◌∙◌, arith}
use Rattle.std.specs.BTreeMap.{is_at}
use Rattle.std.specs.Map.{remove_entry}
use Rattle.std.specs.Option.{option_map}
use Rattle.std.proofs.lemmas.Option.{same_Some}
use Rattle.sx_book.specs.Store.{given_by}
use Rattle.sx_book.proofs.Giving.{IsSound-give, given_some, less_is}
use Rattle.sx_book.proofs.Taking.{IsSound-take}
use Rattle.sx_book.proofs.store.Store.give.Goals as goal
use Rattle.sx_ledger.specs.declared.offer.Offer.{Offer}
use Rattle.sx_ledger.specs.contracts.key.KeyOrd.TheImpl as derived
use Rattle.sx_links.specs.Lists.{list_at}

same_offer : (n : ℕ) (one other : Offer) → ◌≡◌ {A = Option (ℕ × Offer)} (Some (n, one)) (Some (n, other)) → one ≡ other
same_offer n one other same = ap (λ x. x.1) (same_Some (n, one) (n, other) same)

pub returns-in-Ok-clause-sound : goal.returns-in-Ok-clause-sound
returns-in-Ok-clause-sound c =
    let has = c.requires.has in
    let lists = c.args.self.now.lists.lists in
    let stands = ap (option_map (λ x. x.0)) has.here in
    let here = c.value.ensures.value has.list has.place stands in
    let range = c.in-Ok.ensures.in_range.0 refl in
    let some : c.args.units < c.value.result.now.amount = omega (arith, range, c.get.ensures.value) in
    let amount : c.in-Ok.amount ≡ c.value.result.now.amount - c.args.units = c.in-Ok.ensures.value
    ∙ ap (λ n. n - c.args.units) c.get.ensures.value in
    IsSound-give c.args.self.now c.requires.sound has.list has.place (c.args.node, c.value.result.now) here
    c.args.units some _
    (ap (λ ls. ls.lists) (c.set_value.ensures.set has.list has.place stands)
    ∙ ap (λ o. set lists has.list (set (list_at lists has.list) has.place (c.args.node, o)))
    (less_is c.value.result.now c.args.units c.in-Ok.amount amount)) refl

pub returns-in-Ok-clause-given : goal.returns-in-Ok-clause-given
returns-in-Ok-clause-given c =
    λ list place offer at. (
    let lists = c.args.self.now.lists.lists in
    let stands = ap (option_map (λ x. x.0)) at in
    let here = c.value.ensures.value list place stands in
    let range = c.in-Ok.ensures.in_range.0 refl in
    let some : c.args.units < c.value.result.now.amount = omega (arith, range, c.get.ensures.value) in
    let amount : c.in-Ok.amount ≡ c.value.result.now.amount - c.args.units = c.in-Ok.ensures.value
    ∙ ap (λ n. n - c.args.units) c.get.ensures.value in
    let same = same_offer c.args.node c.value.result.now offer (sym here ∙ at) in
    ap (λ ls. ls.lists) (c.set_value.ensures.set list place stands)
    ∙ ap (λ o. set lists list (set (list_at lists list) place (c.args.node, o)))
    (less_is c.value.result.now c.args.units c.in-Ok.amount amount)
    ∙ given_some c.args.self.now c.requires.sound list place (c.args.node, c.value.result.now) here c.args.units some
    ∙ ap (λ o. set lists list (given_by (list_at lists list) place (c.args.node, o) c.args.units)) same)

pub returns-in-Err-clause-sound : goal.returns-in-Err-clause-sound
returns-in-Err-clause-sound c =
    let has = c.requires.has in
    let stands = ap (option_map (λ x. x.0)) has.here in
    let here = c.value.ensures.value has.list has.place stands in
    IsSound-take c.args.self.now _ c.requires.sound has.list has.place (c.args.node, c.value.result.now) here
    (ap (λ ls. ls.lists) (c.unlink.ensures.taken has.list has.place stands))
    (c.remove.ensures.entries
    ∙ ap (λ k. remove_entry (is_at (derived.ghosts.cmp k)) c.args.self.now.nodes.entries) c.key.ensures)
    c.remove.ensures.ordered
