use Rattle.std.proofs.Common.{◌≡◌, ◌∷◌, ◌∙◌, arith, refl}
use Rattle.sx_links.proofs.Linking.{Mutual-append, loose_append}
use Rattle.sx_links.proofs.Chains.{Chains-append, Chains-attach_free}
use Rattle.sx_links.proofs.pool.Pool.add_free.Goals as goal

pub attach-requires-clause-agrees : goal.attach-requires-clause-agrees
attach-requires-clause-agrees g c =
    Mutual-append c.args.self.now c.append-node.new.self c.requires.agrees c.append-node.ensures.appended

pub attach-requires-clause-loose : goal.attach-requires-clause-loose
attach-requires-clause-loose g c =
    loose_append c.args.self.now c.append-node.new.self c.append-node.result c.requires.agrees
    c.append-node.ensures.appended (c.append-node.ensures.number ∙ c.args.self.now.nodes.ok.0)

pub returns-clause-chains : goal.returns-clause-chains
returns-clause-chains g c lists n held =
    let more = c.append-node.ensures.appended in
    let number = c.append-node.ensures.number ∙ c.args.self.now.nodes.ok.0 in
    let loose = loose_append c.args.self.now c.append-node.new.self c.append-node.result c.requires.agrees more
    number in
    record {
      free = (c.append-node.result, tt) ∷ held.free;
      chains = Chains-attach_free c.append-node.new.self c.attach.new.self lists c.append-node.result held.free
          (Chains-append c.args.self.now c.append-node.new.self lists held.free held.chains more) loose
          c.attach.ensures (rw (number, more.here) refl);
      counted = omega (arith, held.counted);
    }
