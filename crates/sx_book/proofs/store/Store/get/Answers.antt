use Rattle.std.proofs.Common.{◌≡◌, ◌<◌, ◌+◌, ℕ, length, Option, Some, None, Contains, refl, sym, ap, subst, ◌∙◌, arith}
use Rattle.std.specs.Option.{option_map}
use Rattle.sx_book.specs.Store.{list_of}
use Rattle.sx_book.proofs.Located.{absent_by, node_by}
use Rattle.sx_book.proofs.Taking.{found_offer, key_answered}
use Rattle.sx_book.proofs.store.Store.get.Goals as goal

pub returns-in_err-node-clause-absent : goal.returns-in_err-node-clause-absent
returns-in_err-node-clause-absent c =
    rw c.from_residual.ensures (absent_by c.args.self.now c.requires c.args.key.now (sym c.in_err-node.ensures.value))

pub value-requires : goal.value-requires
value-requires c =
    let node = node_by c.args.self.now c.requires c.args.key.now c.in_ok-node.node.now (sym c.in_ok-node.ensures.value)
    in
    (list_of c.args.key.now.sell c.args.key.now.buy, node.place, ap (option_map (λ x. x.0)) node.here)

pub returns-clause-offer : goal.returns-clause-offer
returns-clause-offer c =
    let node = node_by c.args.self.now c.requires c.args.key.now c.in_ok-node.node.now (sym c.in_ok-node.ensures.value)
    in
    found_offer c.args.self.now c.requires _ node.place (c.in_ok-node.node.now, c.value.result.now)
    (c.value.ensures.value _ node.place (ap (option_map (λ x. x.0)) node.here))

pub returns-clause-key : goal.returns-clause-key
returns-clause-key c =
    let node = node_by c.args.self.now c.requires c.args.key.now c.in_ok-node.node.now (sym c.in_ok-node.ensures.value)
    in
    key_answered node (c.value.ensures.value _ node.place (ap (option_map (λ x. x.0)) node.here))
