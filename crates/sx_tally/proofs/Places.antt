-- Elements that are merged from the back into free places.
use Rattle.std.proofs.Common.{◌≡◌, ℕ, ◌+◌, ◌<◌, ◌≤◌, List, [], ◌∷◌, ◌++◌, length, get_or, map, set, drop, take}
use Rattle.std.proofs.Common.{append_assoc, ap, ap₂, subst, sym, ◌∙◌, arith}
use Rattle.std.specs.List.{SwappedAt}
use Rattle.std.specs.List.Sorted.{IsPermutation}
use Rattle.std.proofs.lemmas.List.{drop-set, drop-set-lt, length-set, map-append, take-set-le, take_more}
use Rattle.std.proofs.lemmas.List.Sorted.{IsPermutation-append_right, IsPermutation-middle, IsPermutation-sym}

-- the known elements that are not placed yet, the new ones that are not, and those from a place on, which are
abbrev pub parts : {X : Type 0} → List X → ℕ → List X → ℕ → List X
parts xs known new place = take known xs ++ (new ++ drop place xs)

-- the last known element changes places with the last free place
pub known_placed : {X : Type 0} (xs ys new : List X) (known place : ℕ) (d : X) → known < place → place < length xs
    → SwappedAt xs ys known place → IsPermutation (parts xs (known + 1) new (place + 1)) (parts ys known new place)
known_placed {X} xs ys new known place d before within swapped =
    let x = get_or xs known d in
    let once = set xs known (get_or xs place d) in
    let is : ys ≡ set once place x = swapped.3 d in
    let front : take known ys ≡ take known xs =
    ap (take known) is ∙ take-set-le known once place x (omega arith)
    ∙ take-set-le known xs known (get_or xs place d) (omega arith) in
    let back : drop place ys ≡ x ∷ drop (place + 1) xs =
    ap (drop place) is ∙ drop-set once place x (omega (arith, length-set xs known (get_or xs place d)))
    ∙ ap (λ (rest : List X). x ∷ rest) (drop-set-lt (place + 1) xs known (get_or xs place d) (omega arith)) in
    let whole : parts xs (known + 1) new (place + 1) ≡ take known xs ++ (x ∷ (new ++ drop (place + 1) xs)) =
    ap (λ (t : List X). t ++ (new ++ drop (place + 1) xs)) (take_more xs known d (omega arith))
    ∙ append_assoc (take known xs) (x ∷ []) (new ++ drop (place + 1) xs) in
    let after : parts ys known new place ≡ take known xs ++ (new ++ x ∷ drop (place + 1) xs) =
    ap₂ (λ (t b : List X). t ++ (new ++ b)) front back in
    subst (λ (l : List X). IsPermutation l (parts ys known new place)) (sym whole)
    (subst (IsPermutation (take known xs ++ (x ∷ (new ++ drop (place + 1) xs)))) (sym after)
    (IsPermutation-append_right (take known xs) (x ∷ (new ++ drop (place + 1) xs)) (new ++ x ∷ drop (place + 1) xs)
    (IsPermutation-sym (new ++ x ∷ drop (place + 1) xs) (x ∷ (new ++ drop (place + 1) xs))
    (IsPermutation-middle new x (drop (place + 1) xs)))))

pub known_placed_at : {X : Type 0} (xs ys new : List X) (known place known_old place_old known_new place_new : ℕ) (d : X)
    → known < place → place < length xs → SwappedAt xs ys known place
    → known_old ≡ known + 1 → place_old ≡ place + 1 → known_new ≡ known → place_new ≡ place
    → IsPermutation (parts xs known_old new place_old) (parts ys known_new new place_new)
known_placed_at xs ys new known place known_old place_old known_new place_new d before within swapped ko po kn pn =
    rw (ko, po, kn, pn) (known_placed xs ys new known place d before within swapped)

-- the last new element is put into the last free place
pub new_placed : {X : Type 0} (xs new : List X) (x : X) (known place : ℕ) → known ≤ place → place < length xs
    → parts xs known (new ++ x ∷ []) (place + 1) ≡ parts (set xs place x) known new place
new_placed {X} xs new x known place before within =
    let back : drop place (set xs place x) ≡ x ∷ drop (place + 1) xs = drop-set xs place x within in
    ap (λ (b : List X). take known xs ++ b) (append_assoc new (x ∷ []) (drop (place + 1) xs))
    ∙ sym (ap₂ (λ (t b : List X). t ++ (new ++ b)) (take-set-le known xs place x before) back)

pub new_placed_at : {X : Type 0} (xs new : List X) (x : X) (known place known_old place_old known_new place_new : ℕ)
    → known ≤ place → place < length xs
    → known_old ≡ known → place_old ≡ place + 1 → known_new ≡ known → place_new ≡ place
    → parts xs known_old (new ++ x ∷ []) place_old ≡ parts (set xs place x) known_new new place_new
new_placed_at xs new x known place known_old place_old known_new place_new before within ko po kn pn =
    rw (ko, po, kn, pn) (new_placed xs new x known place before within)

-- the elements that the first of these make, with one more
pub made_more : {P X : Type 0} (f : P → X) (ps : List P) (left : ℕ) (d : P) → left < length ps
    → map f (take (left + 1) ps) ≡ map f (take left ps) ++ f (get_or ps left d) ∷ []
made_more f ps left d within =
    ap (map f) (take_more ps left d within) ∙ map-append f (take left ps) (get_or ps left d ∷ [])
