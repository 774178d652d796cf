-- No more accounts and offers come than there are transactions.
use Rattle.std.proofs.Common.{suc, ◌≤◌, List, [], ◌∷◌, length, Option, None, Some, arith}
use Rattle.std.specs.List.{cons_option, filter_map}

one_at_most : {X : Type 0} (o : Option X) (xs : List X) → length (cons_option o xs) ≤ suc (length xs)
one_at_most None xs = omega arith
one_at_most (Some x) xs = omega arith

pub no_more : {X Y : Type 0} (does : X → Option Y) (xs : List X) → length (filter_map does xs) ≤ length xs
no_more does [] = omega arith
no_more does (x ∷ xs) = omega (arith, one_at_most (does x) (filter_map does xs), no_more does xs)
