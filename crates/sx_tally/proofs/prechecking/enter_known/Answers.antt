use Rattle.std.proofs.Common.{◌≡◌, ◌+◌, ◌-◌, ◌≤◌, ℕ, List, Option, drop, get_or, length, subst, take, ◌∙◌, arith}
use Rattle.std.proofs.lemmas.List.{get_or-drop, get_or-take, length-drop, length-take-le}
use Rattle.sx_tally.specs.Known.{AreKnown}
use Rattle.sx_tally.specs.Tally.{IsTally}
use Rattle.sx_tally.proofs.prechecking.enter_known.Goals as goal
use Rattle.sx_ledger.specs.declared.parts.Parts.{Parts}
use Rattle.sx_ledger.specs.declared.places.Places.{Places}
use Rattle.sx_tx.specs.declared.tx.Tx.{Tx}

known_part : (parts : Parts) (txs : List Tx) (from done count : ℕ) (known : List (Option Places))
    → done + count ≤ length known → AreKnown parts txs from known
    → AreKnown parts txs (from + done) (take count (drop done known))
known_part parts txs from done count known within are k none tx lt =
    let long = length-take-le count (drop done known) (omega (arith, length-drop done known)) in
    let there : get_or (take count (drop done known)) k none ≡ get_or known (done + k) none =
    get_or-take count (drop done known) k none (omega arith) ∙ get_or-drop done known k none in
    let at : from + done + k ≡ from + (done + k) = omega arith in
    rw (there, at) (are (done + k) none tx (omega arith))

pub enter_run-requires-clause-known : goal.enter_run-requires-clause-known
enter_run-requires-clause-known c =
    let count = c.min-count.result in
    let wide : (c.loop-done.done + count) - c.loop-done.done ≡ count = omega arith in
    rw wide
    (known_part c.args.ledger.now c.args.txs.now c.args.from c.loop-done.done count c.args.known.now
    (omega (arith, c.min-count.ensures)) c.requires.known)

pub loop-done-preserved : goal.loop-done-preserved
loop-done-preserved c =
    let count = c.min-count.result in
    let known = c.args.known.now in
    let rest = drop c.loop-done.done known in
    let wide : (c.loop-done.done + count) - c.loop-done.done ≡ count = omega arith in
    let long = length-take-le count rest (omega (arith, c.min-count.ensures, length-drop c.loop-done.done known)) in
    let all : c.args.from + c.loop-done.done + length (take count rest) ≡ c.args.from + (c.loop-done.done + count) =
    omega (arith, long) in
    let entered = rw wide at c.in_ok-enter_run.ensures.tally in
    record {
      within = omega (arith, c.min-count.ensures);
      none = c.in_ok-enter_run.ensures.none;
      tally = subst (λ (n : ℕ). IsTally c.args.ledger.now (take n c.args.txs.now) c.enter_run.new.tally) all entered;
    }

pub returns-clause-tally : goal.returns-clause-tally
returns-clause-tally c =
    let all : c.loop-done.done ≡ length c.args.known.now = omega arith in
    subst (λ (n : ℕ). IsTally c.args.ledger.now (take (c.args.from + n) c.args.txs.now) c.loop-done.tally) all
    c.loop-done.invariant.tally
