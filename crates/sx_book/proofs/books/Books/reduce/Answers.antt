use Rattle.std.proofs.Common.{◌≡◌, sym, ap, ◌∙◌}
use Rattle.sx_book.proofs.Kept.{book_is, kept_reduce, pair_after, pair_other}
use Rattle.sx_book.proofs.books.Books.reduce.Goals as goal

pub invariant_of-self : goal.invariant_of-self
invariant_of-self c =
    kept_reduce _ _ _ c.self.invariant c.reduce.ensures.sound c.args.sell c.args.buy c.items.result.now
    c.reduce.ensures.reduced

pub returns-clause-pair : goal.returns-clause-pair
returns-clause-pair c =
    rw (← c.self.view_is, ← c.items.ensures)
    (pair_after c.args.sell c.args.buy c.items.result.now _ _ c.reduce.ensures.reduced)

pub returns-clause-others : goal.returns-clause-others
returns-clause-others c =
    rw (← c.self.view_is) (pair_other c.args.sell c.args.buy c.items.result.now _ _ c.reduce.ensures.reduced)

pub returns-clause-kept : goal.returns-clause-kept
returns-clause-kept c =
    book_is _ _ (kept_reduce _ _ _ c.self.invariant c.reduce.ensures.sound c.args.sell c.args.buy c.items.result.now
    c.reduce.ensures.reduced)
