-- The encoding of entries that are written piece by piece.
use Rattle.std.proofs.Common.{◌≡◌, ℕ, ◌+◌, ◌-◌, ◌≤◌, List, ◌++◌, take, drop, ap, sym, ◌∙◌, append_assoc, arith}
use Rattle.std.proofs.Math.Seq.{take-add}
use Rattle.std.proofs.lemmas.Grind.{flat_map-append}
use Rattle.std.specs.List.{flat_map}

-- the entries up to one place, and those from there to another
pub up_to : {X : Type 0} (encode : X → List ℕ) (xs : List X) (m : List ℕ) (done end : ℕ) → done ≤ end
    → (m ++ flat_map encode (take done xs)) ++ flat_map encode (take (end - done) (drop done xs))
    ≡ m ++ flat_map encode (take end xs)
up_to {X} encode xs m done end le =
    let sum : done + (end - done) ≡ end = omega arith in
    let taken : take done xs ++ take (end - done) (drop done xs) ≡ take end xs =
    sym (take-add done (end - done) xs) ∙ ap (λ (n : ℕ). take n xs) sum in
    append_assoc m (flat_map encode (take done xs)) (flat_map encode (take (end - done) (drop done xs)))
    ∙ ap (λ (text : List ℕ). m ++ text)
    (sym (flat_map-append encode (take done xs) (take (end - done) (drop done xs)))
    ∙ ap (flat_map encode) taken)
