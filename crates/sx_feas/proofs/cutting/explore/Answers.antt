use Rattle.std.proofs.Common.{◌≡◌, false, ap}
use Rattle.std.proofs.lemmas.Bool.{false_from_ne_true, OnFalse_at}
use Rattle.sx_feas.proofs.Shaping.{no_way_out}
use Rattle.sx_feas.proofs.cutting.explore.Goals as goal

pub returns-clause-reached : goal.returns-clause-reached
returns-clause-reached g c =
    let none = no_way_out c.args.bounds.now c.args.net.now.arcs c.requires.shaped c.args.asset c.requires.asset in
    let exact = rw c.assets.ensures.assets at c.search.ensures.exact in
    let no : c.search.result ≡ false = false_from_ne_true _ (λ yes. none (exact.0 yes)) in
    let arcs = ap (λ net. net.arcs) c.search.ensures.rest in
    λ v. (
      λ is. rw arcs (c.search.ensures.reached v is),
      λ reach. OnFalse_at no c.search.ensures.all v (rw arcs at reach),
    )
