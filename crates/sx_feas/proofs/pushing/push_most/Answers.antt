use Rattle.std.proofs.Common.{◌<◌, ◌^◌, arith}
use Rattle.sx_feas.proofs.Balances.{moves}
use Rattle.sx_feas.proofs.Shaping.{pushed_shape}
use Rattle.sx_feas.proofs.pushing.push_most.Goals as goal

pub returns-clause-shaped : goal.returns-clause-shaped
returns-clause-shaped c =
    pushed_shape c.args.bounds.now c.args.net.now.arcs c.push.new.self.arcs c.args.net.now.path
    c.min-amount.result c.push.ensures.pushed c.requires.shaped

pub returns-clause-moved : goal.returns-clause-moved
returns-clause-moved c =
    moves c.args.bounds.now c.surplus.ensures.bounds c.args.net.now.arcs c.push.new.self.arcs c.args.from
    c.args.to c.min-amount.result c.requires.shaped
    (pushed_shape c.args.bounds.now c.args.net.now.arcs c.push.new.self.arcs c.args.net.now.path
    c.min-amount.result c.push.ensures.pushed c.requires.shaped)
    (c.push.ensures.moved c.args.from c.args.to c.requires.path)

pub returns-clause-most : goal.returns-clause-most
returns-clause-most c = λ m in_surplus in_shortage in_path.
    let fits : m < 2 ^ 128 = omega (arith, c.surplus.ensures.value) in
    omega (
      arith,
      c.surplus.ensures.value,
      c.shortage.ensures,
      c.min-most.ensures,
      c.min-amount.ensures,
      c.bottleneck.ensures.most m fits in_path,
    )
