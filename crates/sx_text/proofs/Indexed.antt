-- Texts of entries and their indexes, one more at a time.
use Rattle.std.proofs.Common.{◌≡◌, ℕ, suc, ◌+◌, ◌<◌, List, [], ◌∷◌, ◌++◌, length, take, get_or, sym, ap}
use Rattle.std.proofs.Common.{◌∙◌, append_assoc, arith}
use Rattle.std.proofs.lemmas.List.{append-nil, take_more, length-take}
use Rattle.sx_text.specs.Pieces.{indexed, indexed_from}

-- the entries of a second list follow those of the first
indexed_from-append : {X : Type 0} (text : ℕ → X → List ℕ) (k : ℕ) (xs ys : List X)
    → indexed_from text k (xs ++ ys) ≡ indexed_from text k xs ++ indexed_from text (k + length xs) ys
indexed_from-append text k [] ys = ap (λ (n : ℕ). indexed_from text n ys) (let e : k ≡ k + 0 = omega arith in e)
indexed_from-append text k (x ∷ xs) ys =
    let next : suc k + length xs ≡ k + suc (length xs) = omega arith in
    ap (λ (t : List ℕ). text k x ++ t) (indexed_from-append text (suc k) xs ys
    ∙ ap (λ (n : ℕ). indexed_from text (suc k) xs ++ indexed_from text n ys) next)
    ∙ sym (append_assoc (text k x) (indexed_from text (suc k) xs) (indexed_from text (k + suc (length xs)) ys))

-- one more entry
pub indexed-taken : {X : Type 0} (text : ℕ → X → List ℕ) (xs : List X) (i : ℕ) (x d : X) (old mid new : List ℕ)
    → i < length xs → x ≡ get_or xs i d
    → mid ≡ old ++ indexed text (take i xs) → new ≡ mid ++ text i x → new ≡ old ++ indexed text (take (i + 1) xs)
indexed-taken {X} text xs i x d old mid new lt is so_far more =
    let front = take i xs in
    let taken : take (i + 1) xs ≡ front ++ x ∷ [] =
    take_more xs i d lt ∙ ap (λ (y : X). front ++ y ∷ []) (sym is) in
    let count : 0 + length front ≡ i = omega (arith, length-take i xs) in
    let all : indexed text (front ++ x ∷ []) ≡ indexed text front ++ text i x =
    indexed_from-append text 0 front (x ∷ [])
    ∙ ap (λ (n : ℕ). indexed text front ++ indexed_from text n (x ∷ [])) count
    ∙ ap (λ (t : List ℕ). indexed text front ++ t) (append-nil (text i x)) in
    more ∙ ap (λ (t : List ℕ). t ++ text i x) so_far ∙ append_assoc old (indexed text front) (text i x)
    ∙ ap (λ (t : List ℕ). old ++ t) (sym all)
    ∙ ap (λ (ys : List X). old ++ indexed text ys) (sym taken)
