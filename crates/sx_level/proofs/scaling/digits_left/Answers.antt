use Rattle.std.proofs.Common.{◌≡◌, ◌-◌, ◌^◌, arith}
use Rattle.std.proofs.lemmas.Nat.{pow_pos}
use Rattle.sx_level.proofs.Stopping.{leaves_more}
use Rattle.sx_level.proofs.scaling.digits_left.Goals as goal

pub returns-then-digits-gt4-clause-fewer : goal.returns-then-digits-gt4-clause-fewer
returns-then-digits-gt4-clause-fewer c =
    let less = c.left_out.ensures.least (2 ^ (c.args.digits - 4) - 1) c.requires.stopped in
    c.digits_of.ensures.fewest (c.args.digits - 4) (omega (arith, less, pow_pos (c.args.digits - 4)))

pub returns-then-digits-gt4-clause-most : goal.returns-then-digits-gt4-clause-most
returns-then-digits-gt4-clause-most c =
    leaves_more c.args.bounds.now.assets c.args.set.0 c.left_out.result (2 ^ c.digits_of.result - 1) c.args.net.now.arcs
    (omega (arith, c.digits_of.ensures.enough)) c.left_out.ensures.most

pub returns-else-digits-gt4-clause-most : goal.returns-else-digits-gt4-clause-most
returns-else-digits-gt4-clause-most c =
    let none : c.args.digits - 4 ≡ 0 = omega (arith, c.if-digits-gt4.false) in
    rw none at c.requires.stopped
