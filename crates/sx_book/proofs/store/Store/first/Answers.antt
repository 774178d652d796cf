use Rattle.std.proofs.Common.{◌≡◌, ◌<◌, ◌+◌, ℕ, length, Option, Some, None, slice_get, refl, sym, ap, subst, ◌∙◌, arith}
use Rattle.std.specs.Option.{option_map, option_copied}
use Rattle.sx_book.specs.Store.{list_of}
use Rattle.sx_book.proofs.Pairs.{first_none, first_some}
use Rattle.sx_links.specs.Lists.{list_at, node_at}
use Rattle.sx_book.proofs.store.Store.first.Goals as goal

pub returns-in_err-node : goal.returns-in_err-node
returns-in_err-node c =
    let lists = c.args.self.now.lists.lists in
    let within : list_of c.args.sell c.args.buy < length lists = omega (arith, c.requires.count) in
    ap option_copied c.from_residual.ensures
    ∙ first_none c.args.self.now c.requires c.args.sell c.args.buy c.list_of.ensures.buy within
    (ap (λ l. node_at (list_at lists l) 0) (sym c.list_of.ensures.number) ∙ sym c.in_err-node.ensures.first)

pub returns : goal.returns
returns c =
    let lists = c.args.self.now.lists.lists in
    let within : list_of c.args.sell c.args.buy < length lists = omega (arith, c.requires.count) in
    first_some c.args.self.now c.requires c.args.sell c.args.buy c.list_of.ensures.buy within c.in_ok-node.node
    c.value.result.now (ap (λ l. slice_get (list_at lists l) 0) (sym c.list_of.ensures.number)
    ∙ c.value.ensures.value c.list_of.result 0 (sym c.in_ok-node.ensures.first))
