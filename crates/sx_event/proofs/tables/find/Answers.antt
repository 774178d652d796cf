use Rattle.std.proofs.Common.{◌-◌, ◌∙◌, sym, arith}
use Rattle.sx_event.proofs.Bucketing.{starts, goes_on, comes_nearer}
use Rattle.sx_event.proofs.tables.find.Goals as goal

pub walk-init : goal.walk-init
walk-init c = starts c.args.heads.now c.args.log.now c.args.table c.args.purse c.bucket_of.result
    c.requires.chained c.bucket_of.ensures.bucket c.bucket_of.ensures.within

pub walk-smaller : goal.walk-smaller
walk-smaller c = omega (
  arith,
  c.walk.invariant.within,
  comes_nearer c.args.heads.now c.args.log.now (c.walk.place - 1) c.requires.chained
      (omega (arith, c.walk.invariant.within)),
)

pub walk-preserved : goal.walk-preserved
walk-preserved c = goes_on c.args.heads.now c.args.log.now c.args.table c.args.purse c.walk.place (c.walk.place - 1)
    c.requires.chained c.walk.invariant (omega arith) (sym c.is_of.ensures ∙ c.if-is_of.false)
