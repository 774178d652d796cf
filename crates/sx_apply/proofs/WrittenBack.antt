-- A vector of which all entries were written.
use Rattle.std.proofs.Common.{◌≡◌, ℕ, List, [], ◌++◌, length, take, drop, ap, ◌∙◌, arith}
use Rattle.std.proofs.lemmas.List.{append-nil, drop_all, take_all}

pub written_back : {X : Type 0} (n : ℕ) (new old : List X) → length new ≡ n → length old ≡ n
    → take n (new ++ drop (length new) old) ≡ new
written_back {X} n new old as_many had =
    let none : drop (length new) old ≡ [] = drop_all (length new) old (omega arith) in
    ap (λ (xs : List X). take n (new ++ xs)) none ∙ ap (take n) (append-nil new) ∙ take_all n new (omega arith)
