use Rattle.std.proofs.Common.{◌≡◌, refl, sym, ap, subst, ◌∙◌, arith}
use Rattle.std.proofs.lemmas.Result.{err_from_is_err_and}
use Rattle.sx_book.proofs.Kept.{absent_test, book_is, contains_test, kept_put, kept_same}
use Rattle.sx_book.proofs.books.Books.add.Goals as goal

pub returns-then-contains_key-clause-present : goal.returns-then-contains_key-clause-present
returns-then-contains_key-clause-present c =
    let has = contains_test c.self.inside.store c.self.invariant.sound c.key.result
    (sym c.contains_key.ensures ∙ c.if-contains_key.true) in
    rw (← c.self.view_is, ← c.key.ensures) (λ _. has, λ _. refl)

pub returns-then-contains_key-clause-kept : goal.returns-then-contains_key-clause-kept
returns-then-contains_key-clause-kept c = rw (← c.self.view_is) (book_is _ _ c.self.invariant)

pub put-requires-clause-absent : goal.put-requires-clause-absent
put-requires-clause-absent c =
    rw (← c.key.ensures) (absent_test c.self.inside.store c.self.invariant.sound c.key.result
    (sym c.contains_key.ensures ∙ c.if-contains_key.false))

pub returns-in_err-put-clause-present : goal.returns-in_err-put-clause-present
returns-in_err-put-clause-present c =
    let p = err_from_is_err_and c.from_residual.result c.from_residual.ensures.1 in
    let absent = absent_test c.self.inside.store c.self.invariant.sound c.key.result
    (sym c.contains_key.ensures ∙ c.if-contains_key.false) in
    rw (← c.self.view_is, ← c.key.ensures)
    (λ e. absurd (let is = p.1 in let none = p.2 in cc), λ has. absurd (absent has))

pub returns-in_err-put-clause-kept : goal.returns-in_err-put-clause-kept
returns-in_err-put-clause-kept c =
    book_is _ _ (kept_same _ _ _ c.self.invariant c.put.ensures.sound c.in_err-put.ensures.err)

pub invariant_of-self-2 : goal.invariant_of-self-2
invariant_of-self-2 c =
    kept_put _ _ _ c.self.invariant c.put.ensures.sound c.args.offer (rw (← c.self.view_is) at c.requires.listed)
    c.in_ok-put.ensures.ok

pub returns-clause-present : goal.returns-clause-present
returns-clause-present c =
    let absent = absent_test c.self.inside.store c.self.invariant.sound c.key.result
    (sym c.contains_key.ensures ∙ c.if-contains_key.false) in
    rw (← c.self.view_is, ← c.key.ensures) (λ e. absurd cc, λ has. absurd (absent has))

pub returns-clause-kept : goal.returns-clause-kept
returns-clause-kept c =
    book_is _ _ (kept_put _ _ _ c.self.invariant c.put.ensures.sound c.args.offer
    (rw (← c.self.view_is) at c.requires.listed) c.in_ok-put.ensures.ok)
