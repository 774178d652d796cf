use Rattle.std.proofs.Common.{◌≡◌, ◌≤◌, arith}
use Rattle.sx_circ.proofs.Rounds.{round_balances, round_begins, round_gains, round_goes_on}
use Rattle.sx_circ.proofs.cancelling.shift_round.Goals as goal

pub loop-place-init : goal.loop-place-init
loop-place-init c =
    round_begins c.args.bounds.now c.args.values.now c.args.cycle.now c.args.amount c.requires.keeps c.requires.room

pub shift-requires-clause-keeps : goal.shift-requires-clause-keeps
shift-requires-clause-keeps c = c.loop-place.invariant.keeps

pub shift-requires-clause-walk : goal.shift-requires-clause-walk
shift-requires-clause-walk c = c.requires.cycle.way.within

pub shift-requires-clause-room : goal.shift-requires-clause-room
shift-requires-clause-room c = c.loop-place.invariant.rooms c.loop-place.place (omega arith) (omega arith)

pub loop-place-preserved : goal.loop-place-preserved
loop-place-preserved c =
    round_goes_on c.args.bounds.now c.args.values.now c.loop-place.values c.shift.new.values c.args.cycle.now
    c.args.amount c.loop-place.place c.requires.cycle c.loop-place.invariant (omega arith) (omega arith)
    c.shift.ensures.keeps c.shift.ensures.moved

pub returns-clause-balanced : goal.returns-clause-balanced
returns-clause-balanced c =
    let cycle = c.args.cycle.now in
    let begins = c.requires.cycle.begins in
    let le : c.loop-place.place ≤ cycle.walk.last = c.loop-place.auto.place-end (omega arith) in
    let end : c.loop-place.place ≡ cycle.walk.last = omega arith in
    round_balances c.args.bounds.now c.args.values.now c.loop-place.values cycle c.args.amount c.requires.cycle
    (rw end at c.loop-place.invariant)

pub returns-clause-more : goal.returns-clause-more
returns-clause-more c =
    let cycle = c.args.cycle.now in
    let begins = c.requires.cycle.begins in
    let le : c.loop-place.place ≤ cycle.walk.last = c.loop-place.auto.place-end (omega arith) in
    let end : c.loop-place.place ≡ cycle.walk.last = omega arith in
    round_gains c.args.bounds.now c.args.values.now c.loop-place.values cycle c.args.amount c.requires.cycle
    c.requires.some (rw end at c.loop-place.invariant)
