use Rattle.std.proofs.Common.{arith}
use Rattle.sx_circ.proofs.Labelling.{closes, labels_led_on, last_below, total_rises}
use Rattle.sx_dual.specs.Tables.{entry_at, high_of, low_of}
use Rattle.sx_circ.proofs.raising.lead_on.Goals as goal

pub extended-longer-requires-clause-last : goal.extended-longer-requires-clause-last
extended-longer-requires-clause-last c =
    let bounds = c.args.bounds.now in
    omega (
      arith,
      last_below bounds.assets (low_of bounds) (high_of bounds) (entry_at bounds.assets c.args.values.now)
          c.args.walks.now c.requires.labels c.args.tail c.requires.tail,
    )

pub returns-in-Some-clause-found : goal.returns-in-Some-clause-found
returns-in-Some-clause-found c =
    let bounds = c.args.bounds.now in
    rw c.extended-longer.ensures
    (closes bounds.assets (low_of bounds) (high_of bounds) (entry_at bounds.assets c.args.values.now) c.args.walks.now
    c.requires.labels c.requires.few c.args.tail c.args.head c.args.height c.requires.tail c.requires.head
    c.requires.apart c.requires.step c.requires.rises c.in-Some.first c.in-Some.ensures.some.0
    c.in-Some.ensures.some.1)

pub returns-in-None-clause-labels : goal.returns-in-None-clause-labels
returns-in-None-clause-labels c =
    let bounds = c.args.bounds.now in
    rw c.extended-longer.ensures
    (labels_led_on bounds.assets (low_of bounds) (high_of bounds) (entry_at bounds.assets c.args.values.now)
    c.args.walks.now c.requires.labels c.requires.few c.args.tail c.args.head c.args.height c.requires.tail
    c.requires.head c.requires.apart c.requires.step c.requires.rises c.in-None.ensures.none)

pub returns-in-None-clause-found : goal.returns-in-None-clause-found
returns-in-None-clause-found c =
    let bounds = c.args.bounds.now in
    rw c.extended-longer.ensures
    (total_rises bounds.assets (low_of bounds) (high_of bounds) (entry_at bounds.assets c.args.values.now)
    c.args.walks.now c.requires.labels c.requires.few c.args.tail c.args.head c.args.height c.requires.tail
    c.requires.head c.requires.apart c.requires.step c.requires.rises c.in-None.ensures.none)
