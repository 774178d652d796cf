-- What is written stays, whatever is written after it.
use Rattle.std.proofs.Common.{◌≡◌, ℕ, ◌+◌, ◌≤◌, ◌<◌, List, [], ◌∷◌, ◌++◌, length, take, get_or, Result, refl, sym, ap}
use Rattle.std.proofs.Common.{subst, ◌∙◌, append_assoc, arith}
use Rattle.std.specs.Prelude.{OnOk}
use Rattle.std.proofs.lemmas.Result.{on_ok_weaker}
use Rattle.std.specs.List.{flat_map}
use Rattle.std.proofs.lemmas.List.{take_at, take-take, take_more, flat_map_more, length-append, length-take}
use Rattle.sx_bytes.specs.Written.{Begins}

pub begins : (old text : List ℕ) → Begins old (old ++ text)
begins old text = take_at old text (length old) refl

pub begins_then : (old text new : List ℕ) → Begins (old ++ text) new → Begins old new
begins_then old text new later =
    let le : length old ≤ length (old ++ text) = omega (arith, length-append old text) in
    sym (take-take (length old) (length (old ++ text)) new le) ∙ ap (take (length old)) later ∙ begins old text

pub begins_since : (old text mid new : List ℕ) → mid ≡ old ++ text → Begins mid new → Begins old new
begins_since old text mid new e later = begins_then old text new (subst (λ (m : List ℕ). Begins m new) e later)

-- one more entry
pub flat_map-taken : {X : Type 0} (encode : X → List ℕ) (xs : List X) (i : ℕ) (x : X) (old mid new : List ℕ)
    → i < length xs → x ≡ get_or xs i x
    → mid ≡ old ++ flat_map encode (take i xs) → new ≡ mid ++ encode x → new ≡ old ++ flat_map encode (take (i + 1) xs)
flat_map-taken {X} encode xs i x old mid new lt is so_far more =
    let taken : take (i + 1) xs ≡ take i xs ++ x ∷ [] = take_more xs i x lt
    ∙ ap (λ (y : X). take i xs ++ y ∷ []) (sym is) in
    more ∙ ap (λ (t : List ℕ). t ++ encode x) so_far ∙ flat_map_more encode old (take i xs) x
    ∙ ap (λ (ys : List X). old ++ flat_map encode ys) (sym taken)

-- cut back to what it held
pub begins_cut : (old new : List ℕ) → Begins old new → length old ≤ length new
begins_cut old new later = omega (arith, length-take (length old) new, ap length later)

-- two texts, the second by a last call
pub written_then : {T E : Type 0} (r : Result T E) (old a mid b new : List ℕ) → mid ≡ old ++ a
    → OnOk r (new ≡ mid ++ b) → OnOk r (new ≡ old ++ (a ++ b))
written_then r old a mid b new e =
    on_ok_weaker r (λ (later : new ≡ mid ++ b). later ∙ ap (λ (t : List ℕ). t ++ b) e ∙ append_assoc old a b)
