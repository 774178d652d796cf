-- A list in parts, one after the other, and sums over the parts.
use Rattle.std.proofs.Common.{◌≡◌, ℕ, zero, suc, ◌+◌, ◌-◌, ◌≤◌, List, [], ◌∷◌, ◌++◌, length, get_or, take, drop}
use Rattle.std.proofs.Common.{sum_by, refl, sym, ap, ◌∙◌, arith, append_assoc}
use Rattle.std.specs.List.{flat_map, slice_range}
use Rattle.std.proofs.lemmas.List.{drop-drop, take-append-drop}
use Rattle.std.proofs.lemmas.List.Sums.{sum_by-cons}

-- the first n parts
abbrev pub joined : {X : Type 0} → (ℕ → List X) → ℕ → List X
joined part zero = []
joined part (suc n) = part 0 ++ joined (λ k. part (suc k)) n

abbrev pub sum_of : (ℕ → ℕ) → ℕ → ℕ
sum_of f zero = 0
sum_of f (suc n) = f 0 + sum_of (λ k. f (suc k)) n

pub joined_flat : {X Y : Type 0} (f : X → List Y) (xs : List X) (d : X) →
    flat_map f xs ≡ joined (λ k. f (get_or xs k d)) (length xs)
joined_flat f [] d = refl
joined_flat f (x ∷ xs) d = ap (λ ys. f x ++ ys) (joined_flat f xs d)

pub sum_of_list : {X : Type 0} (f : X → ℕ) (xs : List X) (d : X) →
    sum_by f xs ≡ sum_of (λ k. f (get_or xs k d)) (length xs)
sum_of_list f [] d = refl
sum_of_list f (x ∷ xs) d =
    let rest = sum_of_list f xs d in
    let first = sum_by-cons f x xs in
    omega (arith, first, rest)

one_part : {X : Type 0} (xs : List X) (b e : ℕ) → b ≤ e → drop b xs ≡ slice_range xs b e ++ drop e xs
one_part xs b e le =
    let more : b + (e - b) ≡ e = omega (arith, le) in
    sym (take-append-drop (e - b) (drop b xs))
    ∙ ap (λ ys. take (e - b) (drop b xs) ++ ys) (drop-drop (e - b) b xs ∙ ap (λ (n : ℕ). drop n xs) more)

-- parts that begin where the one before ends
pub all_parts : {X : Type 0} (xs : List X) (begin end : ℕ → ℕ) (n : ℕ) → ((k : ℕ) → begin k ≤ end k) →
    ((k : ℕ) → end k ≡ begin (suc k)) →
    drop (begin 0) xs ≡ joined (λ k. slice_range xs (begin k) (end k)) n ++ drop (begin n) xs
all_parts xs begin end zero onward next = refl
all_parts xs begin end (suc n) onward next =
    let first = slice_range xs (begin 0) (end 0) in
    let rest = joined (λ k. slice_range xs (begin (suc k)) (end (suc k))) n in
    one_part xs (begin 0) (end 0) (onward 0)
    ∙ ap (λ (m : ℕ). first ++ drop m xs) (next 0)
    ∙ ap (λ ys. first ++ ys)
    (all_parts xs (λ k. begin (suc k)) (λ k. end (suc k)) n (λ k. onward (suc k)) (λ k. next (suc k)))
    ∙ sym (append_assoc first rest (drop (begin (suc n)) xs))
