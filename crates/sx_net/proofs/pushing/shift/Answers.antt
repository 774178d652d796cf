use Rattle.std.proofs.Common.{◌≡◌, ◌≢◌, ◌<◌, ◌+◌, length, ap, arith}
use Rattle.sx_net.specs.Arcs.{tail_of, head_of}
use Rattle.sx_net.proofs.Balance.{shift_moves}
use Rattle.sx_net.proofs.Shifting.{reverse_other, shift_two}
use Rattle.sx_net.proofs.pushing.shift.Goals as goal

pub returns-clause-shifted : goal.returns-clause-shifted
returns-clause-shifted c =
    let first = c.replace.ensures.arcs in
    let is = c.reverse-number.ensures in
    let within : c.reverse-number.result < length c.args.arcs.now = rw is c.requires.reverse.within in
    let forth = c.look_up-forth.ensures in
    let back = rw first at c.look_up-back.ensures in
    let enough = c.requires.enough in
    let left = ap (λ x. x.left) forth in
    rw (c.replace-2.ensures.arcs, first)
    (shift_two c.args.arcs.now c.args.arc c.reverse-number.result c.args.amount _ _ c.requires.arc within is
    (ap (λ x. x.tail) forth) (ap (λ x. x.head) forth) (ap (λ x. x.allowed) forth) (omega (arith, left, enough))
    (ap (λ x. x.tail) back) (ap (λ x. x.head) back) (ap (λ x. x.allowed) back)
    (ap (λ x. x.left + c.args.amount) back))

pub returns-clause-moved : goal.returns-clause-moved
returns-clause-moved c =
    let first = c.replace.ensures.arcs in
    let is = c.reverse-number.ensures in
    let apart : c.reverse-number.result ≢ c.args.arc = rw is (reverse_other c.args.arc) in
    let within : c.reverse-number.result < length c.args.arcs.now = rw is c.requires.reverse.within in
    let turned : tail_of c.args.arcs.now c.reverse-number.result ≡ head_of c.args.arcs.now c.args.arc =
    rw is c.requires.reverse.tail in
    let forth = c.look_up-forth.ensures in
    let back = rw first at c.look_up-back.ensures in
    let enough = c.requires.enough in
    let left = ap (λ x. x.left) forth in
    rw (c.replace-2.ensures.arcs, first)
    (shift_moves c.args.arcs.now c.args.arc c.reverse-number.result c.args.amount _ _ c.requires.arc within apart
    (ap (λ x. x.tail) forth) (omega (arith, left, enough)) (ap (λ x. x.tail) back)
    (ap (λ x. x.left + c.args.amount) back) turned)
