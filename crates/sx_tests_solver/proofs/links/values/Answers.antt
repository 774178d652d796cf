use Rattle.std.proofs.Common.{◌≡◌, ℕ, ◌+◌, List, [], ◌∷◌, ◌++◌, map, take, drop, Option, Some, None, slice_get, sym}
use Rattle.std.proofs.Common.{ap, ◌∙◌}
use Rattle.std.proofs.lemmas.List.{append-nil, map_more, take-append-drop}
use Rattle.std.proofs.lemmas.Option.{slice_get_within, get_or_from_slice_get}
use Rattle.sx_links.specs.Lists.{list_at, rest_from}
use Rattle.sx_tests_solver.proofs.links.values.Goals as goal

seen_more : (xs : List (ℕ × ℕ)) (i n v : ℕ) → slice_get xs i ≡ Some (n, v) →
    map (λ x. x.1) (take i xs) ++ v ∷ [] ≡ map (λ x. x.1) (take (i + 1) xs)
seen_more xs i n v got =
    ap (λ y. map (λ x. x.1) (take i xs) ++ y.1 ∷ []) (sym (get_or_from_slice_get xs i (n, v) (n, v) got))
    ∙ sym (map_more (λ x. x.1) xs i (n, v) (slice_get_within xs i (n, v) got))

pub loop-at-preserved : goal.loop-at-preserved
loop-at-preserved c =
    let so_far = c.loop-at.invariant in
    let xs = list_at c.args.links.now.lists c.args.list in
    let stands = sym so_far.here ∙ c.in-Some.is in
    record {
      place = so_far.place + 1;
      here = c.next-at.ensures.next c.args.list so_far.place stands;
      rest = c.next-at.ensures.rest c.args.list so_far.place stands;
      seen = c.in_ok-push.ensures.items ∙ ap (λ vs. vs ++ c.value.result.now ∷ []) so_far.seen ∙
          seen_more xs so_far.place c.in-Some.node c.value.result.now
          (c.value.ensures.value c.args.list so_far.place stands);
    }

nothing_left : (xs : List (ℕ × ℕ)) (i : ℕ) (at : Option ℕ) → at ≡ None → rest_from at xs ≡ drop i xs → take i xs ≡ xs
nothing_left xs i at none rest =
    sym (append-nil (take i xs)) ∙ ap (λ zs. take i xs ++ zs) (ap (λ o. rest_from o xs) (sym none) ∙ rest) ∙
    take-append-drop i xs

pub returns : goal.returns
returns c =
    let so_far = c.loop-at.invariant in
    let xs = list_at c.args.links.now.lists c.args.list in
    so_far.seen ∙ ap (λ ys. map (λ x. x.1) ys) (nothing_left xs so_far.place c.loop-at.at c.in_default.is so_far.rest)
