-- Counting what a function finds.
use Rattle.std.proofs.Common.{◌≡◌, ◌≤◌, ◌<◌, ℕ, suc, ◌+◌, List, [], ◌∷◌, ◌++◌, length, get_or, take, Option, None, Some, refl, sym, ap, ◌∙◌, arith}
use Rattle.std.proofs.lemmas.List.{length-append, take_more}
use Rattle.std.proofs.lemmas.List.Elements.{filter_map-append}
use Rattle.std.specs.List.{filter_map}

fewer : {X Y : Type 0} (f : X → Option Y) (x : X) (xs : List X) (found : Option Y) → found ≡ f x
    → length (filter_map f xs) ≤ length xs → length (filter_map f (x ∷ xs)) ≤ suc (length xs)
fewer f x xs None e others = rw (← e) (omega (arith, others))
fewer f x xs (Some y) e others = rw (← e) (omega (arith, others))

pub length-filter_map : {X Y : Type 0} (f : X → Option Y) (xs : List X) → length (filter_map f xs) ≤ length xs
length-filter_map f [] = omega arith
length-filter_map f (x ∷ xs) = fewer f x xs (f x) refl (length-filter_map f xs)

-- how many a found value is
abbrev pub number_of : {Y : Type 0} → Option Y → ℕ
number_of None = 0
number_of (Some y) = 1

number_found : {X Y : Type 0} (f : X → Option Y) (x : X) (found : Option Y) → f x ≡ found
    → length (filter_map f (x ∷ [])) ≡ number_of found
number_found f x None e = rw e refl
number_found f x (Some y) e = rw e refl

-- one more is looked at
pub length-filter_map_more : {X Y : Type 0} (f : X → Option Y) (xs : List X) (place : ℕ) (x : X) → place < length xs
    → x ≡ get_or xs place x → (found : Option Y) → f x ≡ found
    → length (filter_map f (take (place + 1) xs)) ≡ length (filter_map f (take place xs)) + number_of found
length-filter_map_more {X} f xs place x there is found e =
    ap (λ (list : List X). length (filter_map f list))
    (take_more xs place x there ∙ ap (λ (y : X). take place xs ++ y ∷ []) (sym is))
    ∙ ap (λ (list : List _). length list) (filter_map-append f (take place xs) (x ∷ []))
    ∙ length-append (filter_map f (take place xs)) (filter_map f (x ∷ []))
    ∙ ap (λ (n : ℕ). length (filter_map f (take place xs)) + n) (number_found f x found e)

pub number_few : {Y : Type 0} (found : Option Y) → number_of found ≤ 1
number_few None = omega arith
number_few (Some y) = omega arith
