use Rattle.std.proofs.Common.{◌≡◌, ◌∙◌, None}
use Rattle.sx_book.specs.Store.{nodes_of, offers_of}
use Rattle.sx_book.proofs.Kept.{book_is, book_same, kept_take, on_absent}
use Rattle.sx_book.proofs.Taking.{without_none}
use Rattle.sx_book.proofs.books.Books.cancel.Goals as goal

pub invariant_of-self : goal.invariant_of-self
invariant_of-self c = kept_take _ _ _ c.self.invariant c.take.ensures.sound c.args.key.now c.take.ensures.offers

pub returns-clause-err : goal.returns-clause-err
returns-clause-err c =
    let store = c.self.inside.store in
    rw c.ok_or.ensures.value (on_absent c.take.result _ _ (λ none. (
    let absent = rw none at c.take.ensures.absent in
    book_same c.self.inside.assets (offers_of c.take.new.self) (offers_of store)
    (c.take.ensures.offers ∙ without_none (nodes_of store.lists.lists) c.args.key.now absent) ∙ c.self.view_is)))

pub returns-clause-kept : goal.returns-clause-kept
returns-clause-kept c =
    book_is _ _ (kept_take _ _ _ c.self.invariant c.take.ensures.sound c.args.key.now c.take.ensures.offers)
