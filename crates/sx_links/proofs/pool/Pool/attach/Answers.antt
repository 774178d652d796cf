use Rattle.std.proofs.Common.{sym, ◌∙◌, arith}
use Rattle.sx_links.proofs.Linking.{before_within, Inserts-joins}
use Rattle.sx_links.proofs.pool.Pool.attach.Goals as goal

pub link-requires-clause-next_in : goal.link-requires-clause-next_in
link-requires-clause-next_in g c m e =
    let within = before_within _ _ _ (c.requires.agrees c.args.place m (sym c.next-next.ensures ∙ e)) in
    omega (arith, c.args.self.now.nodes.ok.0)

pub returns : goal.returns
returns g c = Inserts-joins _ _ _ _ _ c.requires.apart c.requires.agrees c.requires.loose
    (rw (← c.next-next.ensures) c.link.ensures) c.link-2.ensures
