use Rattle.sx_net.proofs.Found.{told}
use Rattle.sx_net.proofs.net.Net.reached.Goals as goal

pub returns : goal.returns
returns c =
    rw (← c.self.view_is) (told c.self.inside.tree.visits c.args.node c.place.result c.is_some.result
    c.is_some.ensures c.place.ensures.some
    c.place.ensures.none)
