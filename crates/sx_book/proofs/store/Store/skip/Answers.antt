use Rattle.std.proofs.Common.{◌≡◌, ℕ, suc, ◌+◌, Option, Some, None, sym, ap, ◌∙◌, arith}
use Rattle.sx_book.proofs.Pairs.{node_none}
use Rattle.sx_links.specs.Lists.{list_at, node_at}
use Rattle.sx_book.proofs.store.Store.skip.Goals as goal
use Rattle.sx_book.proofs.store.Store.skip.Goals.{in-Some, in_default}

pub loop-step-preserved : goal.loop-step-preserved
loop-step-preserved c = elim c.match-at.branch [
  | in-Some w ↦ record {
    stands = λ n is. (let at = c.loop-step.invariant.stands w.in-Some.node w.in-Some.is in
        (at.0, at.1 + 1, sym (w.next-at.ensures.next at.0 at.1 at.2) ∙ sym w.at-is ∙ is));
    here = λ list place is. (let steps = c.loop-step._step in
        let sum : (place + steps) + 1 ≡ place + (steps + 1) = omega arith in
        w.at-is ∙ w.next-at.ensures.next list (place + steps) (sym (c.loop-step.invariant.here list place is) ∙
        w.in-Some.is)
        ∙ ap (node_at (list_at c.args.self.now.lists.lists list)) sum);
  }
  | in_default w ↦ record {
    stands = λ n is. (let none = w.at-is in let was = w.in_default.is in absurd cc);
    here = λ list place is. (let steps = c.loop-step._step in
        let sum : suc (place + steps) ≡ place + (steps + 1) = omega arith in
        let none : node_at (list_at c.args.self.now.lists.lists list) (place + steps) ≡ None =
        sym (c.loop-step.invariant.here list place is) ∙ w.in_default.is in
        w.at-is ∙ w.in_default.is ∙ sym (node_none (list_at c.args.self.now.lists.lists list) (place + steps) none)
        ∙ ap (node_at (list_at c.args.self.now.lists.lists list)) sum);
  }
]
