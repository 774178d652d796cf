use Rattle.std.proofs.Common.{◌≡◌, ◌<◌, ◌+◌, ℕ, length, Option, Some, None, Contains, refl, sym, ap, subst, ◌∙◌, arith}
use Rattle.std.specs.Option.{option_map}
use Rattle.sx_book.specs.Store.{list_of, nodes_of, offers_in, offers_of}
use Rattle.sx_book.proofs.Located.{Node, absent_by, node_by}
use Rattle.sx_book.proofs.Taking.{found_offer, key_answered, sound_taken, offers_taken, without_none}
use Rattle.sx_ledger.specs.Ledger.{keys}
use Rattle.sx_ledger.specs.Order.{key_of}
use Rattle.sx_book.proofs.store.Store.take.Goals as goal

pub returns-in_err-node-clause-absent : goal.returns-in_err-node-clause-absent
returns-in_err-node-clause-absent c =
    rw c.from_residual.ensures (absent_by c.args.self.now c.requires c.args.key.now (sym c.in_err-node.ensures.value))

pub returns-in_err-node-clause-offers : goal.returns-in_err-node-clause-offers
returns-in_err-node-clause-offers c =
    sym (without_none (nodes_of c.args.self.now.lists.lists) c.args.key.now
    (absent_by c.args.self.now c.requires c.args.key.now (sym c.in_err-node.ensures.value)))

pub unlink-requires : goal.unlink-requires
unlink-requires c =
    let node = node_by c.args.self.now c.requires c.args.key.now c.in_ok-node.node (sym c.in_ok-node.ensures.value) in
    (list_of c.args.key.now.sell c.args.key.now.buy, node.place, ap (option_map (λ x. x.0)) node.here)

pub returns-clause-sound : goal.returns-clause-sound
returns-clause-sound c =
    let node = node_by c.args.self.now c.requires c.args.key.now c.in_ok-node.node (sym c.in_ok-node.ensures.value) in
    sound_taken c.args.self.now c.requires c.args.key.now c.in_ok-node.node node c.unlink.new.self
    c.unlink.ensures.taken
    _ refl c.remove.ensures.entries c.remove.ensures.ordered

pub returns-clause-key : goal.returns-clause-key
returns-clause-key c =
    let node = node_by c.args.self.now c.requires c.args.key.now c.in_ok-node.node (sym c.in_ok-node.ensures.value) in
    key_answered node (c.unlink.ensures.value _ node.place (ap (option_map (λ x. x.0)) node.here))

pub returns-clause-offer : goal.returns-clause-offer
returns-clause-offer c =
    let node = node_by c.args.self.now c.requires c.args.key.now c.in_ok-node.node (sym c.in_ok-node.ensures.value) in
    found_offer c.args.self.now c.requires _ node.place (c.in_ok-node.node, c.unlink.result)
    (c.unlink.ensures.value _ node.place (ap (option_map (λ x. x.0)) node.here))

pub returns-clause-offers : goal.returns-clause-offers
returns-clause-offers c =
    let node = node_by c.args.self.now c.requires c.args.key.now c.in_ok-node.node (sym c.in_ok-node.ensures.value) in
    offers_taken c.args.self.now c.requires c.args.key.now c.in_ok-node.node node c.unlink.new.self
    c.unlink.ensures.taken
