use Rattle.std.proofs.Common.{◌≡◌, ◌-◌, ◌≤◌, ◌==◌, ◌&&◌, ℕ, List, true, not, nat_le, ap, sym, subst, ◌∙◌, arith}
use Rattle.sx_curve.specs.Demand.{imbalance}
use Rattle.sx_curve.specs.Search.{Held, goes_on, held_after, searched_from}
use Rattle.sx_curve.proofs.SearchLaws.{search_mends}
use Rattle.sx_search.specs.Points.{held_at}
use Rattle.sx_search.proofs.Rounds.{no_rounds, round_more, rounds_end}
use Rattle.sx_search.proofs.searching.search_from.Goals as goal
use Rattle.sx_search.proofs.searching.search_from.Goals.{then-loop-left-test+else-goes_on, else-loop-left-test}

pub loop-left-preserved : goal.loop-left-preserved
loop-left-preserved g c =
    let quotes = c.args.curves.now.quotes in
    let state = c.loop-left.state in
    let held = held_at state.held state.exponent in
    let off = sym c.loop-left.invariant.state.held_at.off in
    let on : goes_on quotes c.args.mu held ≡ true =
    (λ i. not (off i == 0) && nat_le state.exponent 40) ∙ sym c.goes_on.ensures ∙ c.if-goes_on.true in
    record {
      state = c.try_once.ensures.state;
      rest = ap (held_after quotes c.args.mu (c.loop-left.left - 1)) c.try_once.ensures.after
          ∙ round_more quotes c.args.mu c.loop-left.left held (omega arith) on ∙ c.loop-left.invariant.rest;
    }

pub returns-clause-exact : goal.returns-clause-exact
returns-clause-exact g c =
    let quotes = c.args.curves.now.quotes in
    let state = c.loop-left.state in
    let held = held_at state.held state.exponent in
    let off = sym c.loop-left.invariant.state.held_at.off in
    let ended : held_after quotes c.args.mu c.loop-left.left held ≡ held =
    elim c.loop-left-test.branch [
      | then-loop-left-test+else-goes_on w ↦
          rounds_end quotes c.args.mu c.loop-left.left held
          ((λ i. not (off i == 0) && nat_le state.exponent 40) ∙ sym w.goes_on.ensures ∙ w.if-goes_on.false)
      | else-loop-left-test w ↦
          let none : c.loop-left.left ≡ 0 = omega arith in
          ap (λ (n : ℕ). held_after quotes c.args.mu n held) none ∙ no_rounds quotes c.args.mu held
    ] in
    c.of.ensures ∙ ap (λ (end : Held). end.prices) (sym ended ∙ c.loop-left.invariant.rest)

pub returns-clause-off : goal.returns-clause-off
returns-clause-off g c =
    c.loop-left.invariant.state.held_at.off ∙ ap (λ (prices : List ℕ). imbalance c.args.curves.now.quotes prices c.args.mu)
    (sym c.of.ensures)

pub returns-clause-mends : goal.returns-clause-mends
returns-clause-mends g c =
    let quotes = c.args.curves.now.quotes in
    let exact : c.of.result ≡ searched_from c.args.first quotes c.args.start.now c.args.mu c.args.rounds =
    returns-clause-exact g c in
    rw (returns-clause-off g c)
    (subst (λ (prices : List ℕ). imbalance quotes prices c.args.mu ≤ imbalance quotes c.args.start.now c.args.mu)
    (sym exact) (search_mends c.args.first quotes c.args.start.now c.args.mu c.args.rounds))
