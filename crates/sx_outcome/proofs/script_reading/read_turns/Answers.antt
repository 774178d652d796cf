use Rattle.sx_outcome.proofs.Turns.{are_there, beyond_is, short_is, turns_are}
use Rattle.sx_outcome.proofs.script_reading.read_turns.Goals as goal

pub returns-in-Some : goal.returns-in-Some
returns-in-Some c =
    let there = are_there c.args.count c.min.result c.args.from.now c.raw.new.self c.in_ok-turns.turns.now (cc)
    c.in_ok-turns.ensures.exact in
    rw (c.fault_at.ensures, c.place-at.ensures.place)
    (beyond_is c.args.actors c.args.count c.in-Some.place c.args.from.now c.raw.new.self c.in_ok-turns.turns.now
    c.place-at.ensures.within there (cc))

pub returns-then-turns-count : goal.returns-then-turns-count
returns-then-turns-count c =
    let there = are_there c.args.count c.min.result c.args.from.now c.raw.new.self c.in_ok-turns.turns.now (cc)
    c.in_ok-turns.ensures.exact in
    rw (c.fault_at-then-turns-count.ensures, c.place-end.ensures.place)
    (short_is c.args.actors c.args.count c.args.from.now c.raw.new.self c.in_ok-turns.turns.now
    c.place-at.ensures.within there (cc) c.if-turns-count.true)

pub returns : goal.returns
returns c =
    let there = are_there c.args.count c.min.result c.args.from.now c.raw.new.self c.in_ok-turns.turns.now (cc)
    c.in_ok-turns.ensures.exact in
    rw (c.of.ensures, c.in_ok-from_slice.ensures.items)
    (turns_are c.args.actors c.args.count c.args.from.now c.raw.new.self c.in_ok-turns.turns.now
    c.place-at.ensures.within there (cc) c.if-turns-count.false)
