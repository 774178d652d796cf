use Rattle.std.proofs.Common.{List, sym, subst, ap, ◌∙◌}
use Rattle.std.specs.List.Sorted.{IsPermutation}
use Rattle.sx_outcome.specs.declared.outcome.Outcome.{Outcome}
use Rattle.sx_outcome.specs.Gathering.{IsGathered, accepted, decisions}
use Rattle.sx_gather.specs.Passes.{Gathering, Passing}
use Rattle.sx_gather.specs.Seal.{HaveAll, HaveEnded}
use Rattle.sx_gather.proofs.Sealing.{have_all, sealed}
use Rattle.sx_gather.proofs.gather.Gather.outcomes.Goals as goal

pub finish-requires-clause-all : goal.finish-requires-clause-all
finish-requires-clause-all c =
    let g = c.args.self in
    let pass = c.args.pass in
    subst (λ (h : Gathering). HaveAll h.shards c.pass.inside.seats.items) (sym c.self.view_is)
    (subst (λ (p : Passing). HaveAll g.shards p.seats) (sym c.pass.view_is)
    (have_all g pass c.requires.of c.requires.from c.requires.all))

pub returns-clause-body : goal.returns-clause-body
returns-clause-body c body moves sorted =
    let g = c.args.self in
    let pass = c.args.pass in
    let ended : HaveEnded g.shards pass.seats =
    subst (λ (p : Passing). HaveEnded g.shards p.seats) c.pass.view_is
    (subst (λ (h : Gathering). HaveEnded h.shards c.pass.inside.seats.items) c.self.view_is c.finish.ensures) in
    let said = c.into_packed.ensures ∙ ap (λ (p : Passing). p.outcomes) c.pass.view_is in
    subst (λ (os : List Outcome). IsGathered g.parts g.candidates os body) (sym said)
    (sealed g pass c.requires.of c.requires.from c.requires.done c.requires.all ended body
    (subst (λ (os : List Outcome). IsPermutation (accepted (decisions g.candidates os)) body) said moves) sorted)
