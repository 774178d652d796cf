use Rattle.std.proofs.Common.{sym, subst}
use Rattle.sx_layout.specs.declared.asked.Wanted.{Wanted}
use Rattle.sx_outcome.specs.declared.outcome.Outcome.{Outcome}
use Rattle.sx_outcome.specs.declared.outcome.Outcome.TheVariants as outcome
use Rattle.sx_layout.specs.Deciding.{too_late}
use Rattle.sx_gather.specs.Steps.{Takes}
use Rattle.sx_gather.proofs.Steps.{bit_held, bit_taken, units_taken}
use Rattle.sx_gather.proofs.gather.Gather.take.Goals as goal

pub returns-in-Ok-clause-takes : goal.returns-in-Ok-clause-takes
returns-in-Ok-clause-takes c =
    subst (λ (w : Wanted). Takes c.args.seats.now c.claim.new.seats c.args.of.now w outcome.Accepted) (sym c.in-Bit.is)
    (bit_taken c.args.seats.now c.claim.new.seats c.args.of.now c.in-Bit.at c.in-Bit.bit c.in-Ok.ensures.ok)

pub returns-in-Err-clause-takes : goal.returns-in-Err-clause-takes
returns-in-Err-clause-takes c =
    subst (λ (said : Outcome). Takes c.args.seats.now c.claim.new.seats c.args.of.now c.args.wanted said)
    (sym c.too_late.ensures)
    (subst (λ (w : Wanted). Takes c.args.seats.now c.claim.new.seats c.args.of.now w (too_late c.args.of.now))
    (sym c.in-Bit.is)
    (bit_held c.args.seats.now c.claim.new.seats c.args.of.now c.in-Bit.at c.in-Bit.bit c.in-Err.ensures.err))

pub returns-in-Ok-reserve-clause-takes : goal.returns-in-Ok-reserve-clause-takes
returns-in-Ok-reserve-clause-takes c =
    subst (λ (w : Wanted). Takes c.args.seats.now c.reserve.new.seats c.args.of.now w outcome.Accepted)
    (sym c.in-Units.is)
    (units_taken c.args.seats.now c.reserve.new.seats c.args.of.now c.in-Units.purse c.in-Units.need
    c.in-Ok-reserve.ensures.ok)
