use Rattle.sx_book.proofs.Kept.{book_is}
use Rattle.sx_book.proofs.books.Books.len.Goals as goal

pub returns-clause-kept : goal.returns-clause-kept
returns-clause-kept c = rw (← c.self.view_is) (book_is _ _ c.self.invariant)
