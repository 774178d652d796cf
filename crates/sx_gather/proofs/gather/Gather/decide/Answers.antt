use Rattle.std.proofs.Common.{ℕ, subst}
use Rattle.sx_layout.specs.declared.asked.Wanted.{Wanted}
use Rattle.sx_layout.specs.declared.spot.Spot.{Spot}
use Rattle.sx_gather.specs.Steps.{Claims, Takes}
use Rattle.sx_gather.proofs.Steps.{seq_held, taken_decides}
use Rattle.sx_gather.proofs.gather.Gather.decide.Goals as goal

pub returns-in-Ok-clause-decides : goal.returns-in-Ok-clause-decides
returns-in-Ok-clause-decides c =
    taken_decides c.args.self.now.parts c.args.self.now.plan c.args.tx.now c.args.seats.now c.claim.new.seats
    c.take.new.seats c.take.result c.requires.passes
    (subst (λ (at : Spot × ℕ). Claims c.args.seats.now c.claim.new.seats at.0 at.1) c.requires.number
    c.in-Ok.ensures.ok)
    (subst (λ (w : Wanted). Takes c.claim.new.seats c.take.new.seats c.args.tx.now.kind w c.take.result)
    c.requires.wanted c.take.ensures.takes)

pub returns-in-Err-clause-decides : goal.returns-in-Err-clause-decides
returns-in-Err-clause-decides c =
    seq_held c.args.self.now.parts c.args.self.now.plan c.args.tx.now c.args.seats.now c.claim.new.seats
    (c.args.asked.now.number, c.args.asked.now.bit) c.requires.passes c.requires.number c.in-Err.ensures.err
