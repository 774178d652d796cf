use Rattle.std.proofs.Common.{rules, ◌≡◌, ◌<◌, ◌+◌, ℕ, length, Option, Some, None, refl, sym, ap, subst, ◌∙◌, arith}
use Rattle.std.proofs.Common.{Contains}
use Rattle.std.proofs.lemmas.List.{length-map}
use Rattle.std.proofs.lemmas.List.Concat.{length-flat_map}
use Rattle.sx_book.specs.Store.{nodes_of, offers_of}
use Rattle.sx_book.proofs.Located.{contains_some}
use Rattle.sx_book.proofs.Putting.{offers_put, sound_put}
use Rattle.sx_ledger.specs.Ledger.{keys}
use Rattle.sx_book.proofs.store.Store.put.Goals as goal

pub reserve-requires : goal.reserve-requires
reserve-requires c =
    let lists = c.args.self.now.lists.lists in
    omega (arith, length-map (nodes_of lists) (λ x. x.1), length-flat_map (λ xs. xs) lists, c.requires.few)

pub returns-in-Vacant-clause-sound : goal.returns-in-Vacant-clause-sound
returns-in-Vacant-clause-sound c =
    sound_put c.args.self.now c.reserve.new.self c.push_after.new.self c.args.offer c.key-key.result
    c.list_of-list.result
    c.push_after.result c.before-after.result c.requires.sound (ap (λ l. l.lists) c.in_ok-reserve.ensures.ok)
    c.key-key.ensures
    c.list_of-list.ensures.number c.list_of-list.ensures.within c.list_of-list.ensures.buy c.before-after.ensures
    c.push_after.ensures.front c.push_after.ensures.after_node _ refl (search rules) (search rules) (omega arith)
    c.requires.few

pub returns-in-Vacant-clause-ok : goal.returns-in-Vacant-clause-ok
returns-in-Vacant-clause-ok c =
    offers_put c.args.self.now c.reserve.new.self c.push_after.new.self c.args.offer c.key-key.result
    c.list_of-list.result
    c.push_after.result c.before-after.result c.requires.sound (ap (λ l. l.lists) c.in_ok-reserve.ensures.ok)
    c.key-key.ensures
    c.list_of-list.ensures.number c.list_of-list.ensures.within c.list_of-list.ensures.buy c.before-after.ensures
    c.push_after.ensures.front c.push_after.ensures.after_node

pub returns-in_default-clause-ok : goal.returns-in_default-clause-ok
returns-in_default-clause-ok c =
    let has = rw c.in_default.is at c.in_ok-entry.ensures.found in
    absurd (c.requires.absent (subst (Contains (keys (offers_of c.args.self.now))) c.key-key.ensures
    (contains_some c.args.self.now c.requires.sound c.key-key.result has.0)))
