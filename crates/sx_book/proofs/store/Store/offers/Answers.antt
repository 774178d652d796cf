use Rattle.std.proofs.Common.{◌≡◌, ◌<◌, ℕ, ◌+◌, List, [], ◌∷◌, ◌++◌, length, map, take, drop, Option, Some, None}
use Rattle.std.proofs.Common.{slice_get, sym, ap, ◌∙◌, arith}
use Rattle.sx_book.specs.Store.{list_of, offers_in}
use Rattle.sx_book.proofs.Pairs.{nothing_left, pair_is, seen_more}
use Rattle.sx_links.specs.Lists.{list_at, rest_from}
use Rattle.sx_book.proofs.store.Store.offers.Goals as goal

pub loop-at-preserved : goal.loop-at-preserved
loop-at-preserved c =
    let so_far = c.loop-at.invariant in
    let l = list_of c.args.sell c.args.buy in
    let xs = list_at c.args.self.now.lists.lists l in
    let stands = sym so_far.here ∙ c.in-Some.is in
    record {
      place = so_far.place + 1;
      here = c.next-at.ensures.next l so_far.place stands;
      rest = c.next-at.ensures.rest l so_far.place stands;
      seen = c.in_ok-push.ensures.items ∙ ap (λ vs. vs ++ c.value.result.now ∷ []) so_far.seen
          ∙ seen_more xs so_far.place c.in-Some.node c.value.result.now (c.value.ensures.value l so_far.place stands);
    }

pub returns : goal.returns
returns c =
    let so_far = c.loop-at.invariant in
    let l = list_of c.args.sell c.args.buy in
    let xs = list_at c.args.self.now.lists.lists l in
    let within : l < length c.args.self.now.lists.lists = omega (arith, c.requires.count) in
    so_far.seen ∙ ap offers_in (nothing_left xs so_far.place c.loop-at.at c.in_default.is so_far.rest)
    ∙ sym (pair_is c.args.self.now c.requires c.args.sell c.args.buy c.list_of.ensures.buy within)
