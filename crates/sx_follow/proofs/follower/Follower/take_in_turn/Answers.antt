use Rattle.std.proofs.Common.{◌≡◌, ◌+◌, sym, ap, subst, ◌∙◌, arith}
use Rattle.sx_block.specs.Validity.{digest_of_ledger}
use Rattle.sx_follow.specs.Follower.{Followed, IsFollower}
use Rattle.sx_follow.specs.InTurn.{LeadsTo}
use Rattle.sx_follow.proofs.InTurn.{led}
use Rattle.sx_follow.proofs.follower.Follower.take_in_turn.Goals as goal
use Rattle.sx_ledger.specs.declared.parts.Parts.{Parts}

pub overflow_cast-self : goal.overflow_cast-self
overflow_cast-self c =
    let f = c.args.self.now in
    let few = led f.opening f.head f.blocks f.steps c.args.count c.args.left c.requires.follows c.requires.leads in
    omega (arith, few)

pub overflow_add-self : goal.overflow_add-self
overflow_add-self c =
    let f = c.args.self.now in
    let steps : c.self.inside.steps ≡ f.steps = ap (λ (s : Followed). s.steps) c.self.view_is in
    let few = led f.opening f.head f.blocks f.steps c.args.count c.args.left c.requires.follows c.requires.leads in
    omega (arith, steps, few)

pub invariant_of-self : goal.invariant_of-self
invariant_of-self c =
    let f = c.self.inside in
    let left = c.args.left in
    let leads : LeadsTo f.head f.blocks.items c.args.count left =
    subst (λ (s : Followed). LeadsTo s.head s.blocks c.args.count left) (sym c.self.view_is) c.requires.leads in
    let same : c.replace-earlier.new.dest ≡ left.ledger = cc in (
      leads.digest ∙ ap (λ (l : Parts). digest_of_ledger l) (sym same),
      c.self.invariant.1,
      subst
          (λ (l : Parts). IsFollower (record {
            opening = f.opening;
            blocks = f.blocks.items;
            steps = f.steps + c.args.count;
            head = l;
          }))
          (sym same)
          (leads.follows f.opening f.steps c.self.invariant.2),
    )

pub returns-clause-follows : goal.returns-clause-follows
returns-clause-follows c = (invariant_of-self c).2
