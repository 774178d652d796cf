-- All lists, one after the other, cut around a place of one of them.
use Rattle.std.proofs.Common.{◌≡◌, ℕ, zero, suc, ◌+◌, ◌<◌, ◌≤◌, List, [], ◌∷◌, ◌++◌, length, take, drop, set, get_or}
use Rattle.std.proofs.Common.{Option, Some, None, slice_get, inl, inr, refl, sym, ap, ◌∙◌, arith}
use Rattle.std.specs.List.{flat_map, insert}
use Rattle.std.proofs.lemmas.Bool.{cases_lt}
use Rattle.std.proofs.lemmas.List.{append_assoc, get_or_past, take-append-drop, take_more}
use Rattle.std.proofs.lemmas.Option.{get_or_from_slice_get, slice_get_within}
use Rattle.sx_book.proofs.Lists.{slice_get_append, split_at}

module _ {X : Type 0} where
  abbrev pub flat : List (List X) → List X
  flat lists = flat_map (λ nodes. nodes) lists

  -- what comes before the list of a number, and what comes after it
  abbrev pub ahead : List (List X) → ℕ → List X
  ahead lists l = flat (take l lists)

  abbrev pub beyond : List (List X) → ℕ → List X
  beyond lists l = flat (drop (suc l) lists)

  pub flat_around : (lists : List (List X)) (l : ℕ) → l < length lists
      → flat lists ≡ ahead lists l ++ (get_or lists l [] ++ beyond lists l)
  flat_around [] l within = absurd (omega arith)
  flat_around (xs ∷ lists) zero within = refl
  flat_around (xs ∷ lists) (suc l) within =
      ap (λ ys. xs ++ ys) (flat_around lists l (omega arith))
      ∙ sym (append_assoc xs (ahead lists l) (get_or lists l [] ++ beyond lists l))

  pub flat_set : (lists : List (List X)) (l : ℕ) (ys : List X) → l < length lists
      → flat (set lists l ys) ≡ ahead lists l ++ (ys ++ beyond lists l)
  flat_set [] l ys within = absurd (omega arith)
  flat_set (xs ∷ lists) zero ys within = refl
  flat_set (xs ∷ lists) (suc l) ys within =
      ap (λ zs. xs ++ zs) (flat_set lists l ys (omega arith))
      ∙ sym (append_assoc xs (ahead lists l) (ys ++ beyond lists l))

  -- an element of one of the lists
  pub record Found (lists : List (List X)) (x : X) : Type 0 where
    pub list : ℕ
    pub place : ℕ
    pub here : slice_get (get_or lists list []) place ≡ Some x

  pub found_in : (lists : List (List X)) (i : ℕ) (x : X) → slice_get (flat lists) i ≡ Some x → Found lists x
  found_in [] i x here = absurd cc
  found_in (xs ∷ lists) i x here =
      elim (slice_get_append xs (flat lists) i x here) [
        | inl first ↦ record { list = 0; place = i; here = first }
        | inr later ↦ (let rest = found_in lists later.0 x later.1 in
            record { list = suc rest.list; place = rest.place; here = rest.here })
      ]

  pub within_lists : (lists : List (List X)) (l p : ℕ) (x : X) → slice_get (get_or lists l []) p ≡ Some x
      → l < length lists
  within_lists lists l p x here =
      elim (cases_lt l (length lists)) [
        | inl within ↦ within
        | inr past ↦ (let none = get_or_past lists l [] past in
            let gone : slice_get {X = X} [] p ≡ Some x = rw none at here in
            absurd cc)
      ]

  -- what comes before a place of a list, and what comes after it
  abbrev pub front : List (List X) → ℕ → ℕ → List X
  front lists l p = ahead lists l ++ take p (get_or lists l [])

  abbrev pub back : List (List X) → ℕ → ℕ → List X
  back lists l p = drop p (get_or lists l []) ++ beyond lists l

  module _ (lists : List (List X)) (l : ℕ) (within : l < length lists) where
    regroup : (a b c d : List X) → a ++ ((b ++ c) ++ d) ≡ (a ++ b) ++ (c ++ d)
    regroup a b c d = simp append_assoc

    -- around a gap
    pub cut : (p : ℕ) → flat lists ≡ front lists l p ++ back lists l p
    cut p =
        let xs = get_or lists l [] in
        flat_around lists l within
        ∙ ap (λ ys. ahead lists l ++ (ys ++ beyond lists l)) (sym (take-append-drop p xs))
        ∙ regroup (ahead lists l) (take p xs) (drop p xs) (beyond lists l)

    -- around an element
    pub cut_at : (p : ℕ) (x : X) → slice_get (get_or lists l []) p ≡ Some x
        → flat lists ≡ front lists l p ++ x ∷ back lists l (suc p)
    cut_at p x here =
        let xs = get_or lists l [] in
        flat_around lists l within
        ∙ ap (λ ys. ahead lists l ++ (ys ++ beyond lists l)) (split_at xs p x here)
        ∙ regroup (ahead lists l) (take p xs) (x ∷ drop (suc p) xs) (beyond lists l)

    -- where the list gets other elements from a place on
    pub cut_set : (p : ℕ) (ys : List X) → flat (set lists l (take p (get_or lists l []) ++ ys))
        ≡ front lists l p ++ (ys ++ beyond lists l)
    cut_set p ys =
        let xs = get_or lists l [] in
        flat_set lists l (take p xs ++ ys) within
        ∙ regroup (ahead lists l) (take p xs) ys (beyond lists l)

    pub front_more : (p : ℕ) (x : X) → slice_get (get_or lists l []) p ≡ Some x
        → front lists l (p + 1) ≡ front lists l p ++ x ∷ []
    front_more p x here =
        let xs = get_or lists l [] in
        let more = take_more xs p x (slice_get_within xs p x here)
        ∙ ap (λ y. take p xs ++ y ∷ []) (get_or_from_slice_get xs p x x here) in
        ap (λ ys. ahead lists l ++ ys) more ∙ sym (append_assoc (ahead lists l) (take p xs) (x ∷ []))
