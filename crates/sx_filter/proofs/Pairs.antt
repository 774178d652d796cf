-- Two lists of which the elements at each place stand in a relation.
use Rattle.std.proofs.Common.{◌≡◌, ℕ, zero, suc, ◌<◌, List, [], ◌∷◌, ◌++◌, get_or, length, arith}

abbrev pub ArePairs : {X Y : Type 0} → (X → Y → Type 0) → List X → List Y → Type 0
ArePairs {X} {Y} R xs ys = (k : ℕ) (c : X) (d : Y) → k < length xs → R (get_or xs k c) (get_or ys k d)

-- one pair more
pub one_pair_more : {X Y : Type 0} (R : X → Y → Type 0) (xs : List X) (ys : List Y) (x : X) (y : Y)
    → length ys ≡ length xs → ArePairs R xs ys → R x y → ArePairs R (xs ++ x ∷ []) (ys ++ y ∷ [])
one_pair_more R [] [] x y same each here zero c d lt = here
one_pair_more R [] [] x y same each here (suc k) c d lt = absurd (omega (arith, lt))
one_pair_more R [] (b ∷ ys) x y same each here k c d lt = absurd (omega (arith, same))
one_pair_more R (a ∷ xs) [] x y same each here k c d lt = absurd (omega (arith, same))
one_pair_more R (a ∷ xs) (b ∷ ys) x y same each here zero c d lt = each 0 c d (omega arith)
one_pair_more R (a ∷ xs) (b ∷ ys) x y same each here (suc k) c d lt =
    one_pair_more R xs ys x y (omega (arith, same)) (λ j u v less. each (suc j) u v (omega (arith, less))) here k c d
    (omega (arith, lt))
