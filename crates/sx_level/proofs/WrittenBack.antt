-- A vector after all of its entries were written through a slice.
use Rattle.std.proofs.Common.{◌≡◌, ℕ, List, [], ◌++◌, length, take, drop, ap, ◌∙◌, arith}
use Rattle.std.proofs.lemmas.List.{append-nil, drop_all, take_all}

pub written_back : {X : Type 0} (count : ℕ) (new old : List X) → length new ≡ count → length old ≡ count
    → take count (new ++ drop (length new) old) ≡ new
written_back {X} count new old new_count old_count =
    let rest : drop (length new) old ≡ [] = drop_all (length new) old (omega arith) in
    ap (λ (xs : List X). take count (new ++ xs)) rest ∙ ap (take count) (append-nil new)
    ∙ take_all count new (omega arith)
