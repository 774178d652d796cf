use Rattle.std.proofs.Common.{◌≡◌, suc, ◌+◌, ◌≤◌, List, [], ◌∷◌, ◌++◌, ℕ, length, length-append, option_to_list}
use Rattle.std.proofs.Common.{Some, sym, ap, subst, ◌∙◌, refl, arith}
use Rattle.std.specs.Vec.Iter.{into_iter_items, into_iter_len}
use Rattle.sx_curve.specs.Demand.{imbalance}
use Rattle.sx_curve.specs.Search.{searched_prices}
use Rattle.sx_multi.specs.Posted.{posted}
use Rattle.sx_multi.proofs.Ends.{ended_at, first_is_best, first_slot, has_ended, head_found, nearer_is_best, tail_found}
use Rattle.sx_multi.proofs.PostedLaws.{one_is_usual, posted_mends}
use Rattle.sx_multi.proofs.many.search_many.Goals as goal

pub unwrap-end-requires : goal.unwrap-end-requires
unwrap-end-requires g c =
    let quotes = c.args.curves.now.quotes in
    let start = c.args.start.now in
    let first = c.unwrap-first.result in
    let items = first_slot _ (into_iter_items c.next.new.self) _ first c.next.ensures.items c.unwrap-first.ensures in
    let all = sym c.into_iter-ends.ensures.rest ∙ items in
    has_ended quotes start c.args.mu c.args.rounds 0 first
    (head_found quotes start c.args.mu c.args.rounds 0 _ first _ all c.in_ok-slots.ensures.found)

pub loop-slot-init : goal.loop-slot-init
loop-slot-init g c =
    let quotes = c.args.curves.now.quotes in
    let start = c.args.start.now in
    let first = c.unwrap-first.result in
    let items = first_slot _ (into_iter_items c.next.new.self) _ first c.next.ensures.items c.unwrap-first.ensures in
    let left = sym c.into_iter-slot-iterator.ensures.into_iter_gives in
    let all = sym c.into_iter-ends.ensures.rest ∙ items ∙ ap (λ it. first ∷ into_iter_items it) left in
    let at = head_found quotes start c.args.mu c.args.rounds 0 _ first _ all c.in_ok-slots.ensures.found in
    let one : length (option_to_list c.next.result) ≡ 1 =
    ap (λ o. length (option_to_list o)) c.unwrap-first.ensures in
    let same : into_iter_len c.next.new.self ≡ into_iter_len c.into_iter-slot-iterator.result =
    ap (λ it. into_iter_len it) left in
    record {
      best = first_is_best quotes start c.args.mu c.args.rounds 1 c.in_ok-best.best refl
          (ended_at quotes start c.args.mu c.args.rounds 0 first c.in_ok-best.best at
          (c.unwrap-end.ensures ∙ ap Some c.in_ok-best.was));
      rest = tail_found quotes start c.args.mu c.args.rounds 0 1 _ first _ refl all c.in_ok-slots.ensures.found;
      count =
          omega (arith, one, same, c.next.ensures.len, c.into_iter-ends.ensures.len, c.in_ok-slots.ensures.one_each);
    }

pub unwrap-tried-requires : goal.unwrap-tried-requires
unwrap-tried-requires g c =
    let quotes = c.args.curves.now.quotes in
    let start = c.args.start.now in
    let at = c.loop-slot in
    has_ended quotes start c.args.mu c.args.rounds (suc (length at.yielded)) c.in-Some.slot
    (head_found quotes start c.args.mu c.args.rounds (suc (length at.yielded)) _ c.in-Some.slot _
    c.in-Some.ensures.steps.0 at.invariant.rest)

pub loop-slot-preserved : goal.loop-slot-preserved
loop-slot-preserved g c =
    let quotes = c.args.curves.now.quotes in
    let start = c.args.start.now in
    let at = c.loop-slot in
    let slot = c.in-Some.slot in
    let found = c.in_ok-found.found in
    let n = suc (length at.yielded) in
    let more : suc (length (at.yielded ++ slot ∷ [])) ≡ suc n = omega (arith, length-append at.yielded (slot ∷ [])) in
    let is =
    head_found quotes start c.args.mu c.args.rounds n _ slot _ c.in-Some.ensures.steps.0 at.invariant.rest in
    record {
      best = nearer_is_best quotes start c.args.mu c.args.rounds n (suc (length (at.yielded ++ slot ∷ [])))
          at.best found
          c.nearer-nearest.result more at.invariant.best
          (ended_at quotes start c.args.mu c.args.rounds n slot found is
          (c.unwrap-tried.ensures ∙ ap Some c.in_ok-found.was))
          c.nearer-nearest.ensures.tried c.nearer-nearest.ensures.held;
      rest = tail_found quotes start c.args.mu c.args.rounds n (suc (length (at.yielded ++ slot ∷ []))) _ slot _ more
          c.in-Some.ensures.steps.0 at.invariant.rest;
      count = omega (arith, more, c.in-Some.ensures.steps.1, at.invariant.count);
    }

pub returns-clause-exact : goal.returns-clause-exact
returns-clause-exact g c =
    let at = c.loop-slot in
    let all : suc (length at.yielded) ≡ c.args.searches =
    omega (arith, at.invariant.count, c.in-None.ensures.steps.0) in
    at.invariant.best.0 ∙ ap (posted c.args.curves.now.quotes c.args.start.now c.args.mu c.args.rounds) all

pub returns-clause-mends : goal.returns-clause-mends
returns-clause-mends g c =
    let quotes = c.args.curves.now.quotes in
    let start = c.args.start.now in
    let at = c.loop-slot in
    let usual = imbalance quotes (searched_prices quotes start c.args.mu c.args.rounds) c.args.mu in
    subst (λ (prices : List ℕ). imbalance quotes prices c.args.mu ≤ usual) (sym at.invariant.best.0)
    (posted_mends quotes start c.args.mu c.args.rounds (suc (length at.yielded)))

pub returns-clause-one : goal.returns-clause-one
returns-clause-one g c = λ single.
    let quotes = c.args.curves.now.quotes in
    let start = c.args.start.now in
    let at = c.loop-slot in
    let all : suc (length at.yielded) ≡ 1 = omega (arith, at.invariant.count, c.in-None.ensures.steps.0, single) in
    at.invariant.best.0 ∙ ap (posted quotes start c.args.mu c.args.rounds) all
    ∙ one_is_usual quotes start c.args.mu c.args.rounds
