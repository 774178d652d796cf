-- The places of nodes, kept beside the visits.
use Rattle.std.proofs.Common.{◌≡◌, ◌≢◌, ℕ, zero, suc, ◌+◌, ◌<◌, ◌≤◌, ◌^◌, ◌⊎◌, List, [], ◌∷◌, ◌++◌, length, replicate}
use Rattle.std.proofs.Common.{Option, Some, None, slice_get, get_or, set, refl, sym, ap, ◌∙◌, inl, inr, arith}
use Rattle.std.proofs.Common.{count_by, is_none, cond, length-set}
use Rattle.std.proofs.lemmas.List.{length-replicate, get_or_push, get_or_append_left, length_push, get_or-set_same}
use Rattle.std.proofs.lemmas.List.{get_or-set_other}
use Rattle.std.proofs.lemmas.List.Folds.{sum_by-replicate}
use Rattle.std.proofs.lemmas.List.Sums.{sum_by-set}
use Rattle.std.proofs.lemmas.Bool.{cases_eq}
use Rattle.std.proofs.lemmas.Option.{slice_get_within, get_or_from_slice_get, slice_get-get_or}
use Rattle.sx_net.specs.declared.tree.Visit.{Visit}
use Rattle.sx_net.specs.Visits.{no_visit, node_at, IsVisited, IsIndexed}

none_in : (n v p : ℕ) → slice_get (replicate n None) v ≡ Some (Some p) → ⊥
none_in zero v p here = cc
none_in (suc n) zero p here = cc
none_in (suc n) (suc v) p here = none_in n v p here

-- no visits at all
pub IsIndexed-none : (n capacity : ℕ) → n ≤ capacity → n < 2 ^ 32 → IsIndexed [] (replicate n None) capacity
IsIndexed-none n capacity room few =
    let gap : Option ℕ = None in
    let f : Option ℕ → ℕ = λ o. cond (is_none o) 1 0 in
    record {
      forth = λ p within. absurd (omega arith);
      back = λ v p here. absurd (none_in n v p here);
      others = omega (arith, sum_by-replicate f n gap, length-replicate n gap);
      room = omega (arith, length-replicate n gap);
      few = omega (arith, length-replicate n gap);
    }

module _ (visits : List Visit) (places : List (Option ℕ)) (capacity : ℕ)
    (indexed : IsIndexed visits places capacity) where
  place_is : (v : ℕ) (o : Option ℕ) → v < length places → ¬ IsVisited visits v → slice_get places v ≡ Some o → o ≡ None
  place_is v None within fresh here = refl
  place_is v (Some p) within fresh here =
      let at = indexed.back v p here in absurd (fresh (record { place = p; within = at.0; is = at.1 }))

  -- a node that was not visited has no place
  pub unplaced : (v : ℕ) → v < length places → ¬ IsVisited visits v → get_or places v None ≡ None
  unplaced v within fresh = place_is v (get_or places v None) within fresh (slice_get-get_or places v None within)

  others_more : (v p : ℕ) → v < length places → ¬ IsVisited visits v →
      count_by is_none (set places v (Some p)) + 1 ≡ count_by is_none places
  others_more v p within fresh =
      let at = unplaced v within fresh in
      let f : Option ℕ → ℕ = λ o. cond (is_none o) 1 0 in
      let one : f (get_or places v None) ≡ 1 = ap f at in
      omega (arith, one, sum_by-set f places v (Some p) None within)

  -- so there is room for its visit
  pub has_room : (v : ℕ) → v < length places → ¬ IsVisited visits v → length visits < length places
  has_room v within fresh = omega (arith, others_more v 0 within fresh, indexed.others)

  module _ (visit : Visit) (within : visit.node < length places) (fresh : ¬ IsVisited visits visit.node) where
    node_old : (p : ℕ) → p < length visits → node_at (visits ++ visit ∷ []) p ≡ node_at visits p
    node_old p before = ap (λ x. x.node) (get_or_append_left visits (visit ∷ []) no_visit p before)

    node_new : node_at (visits ++ visit ∷ []) (length visits) ≡ visit.node
    node_new = ap (λ x. x.node) (get_or_push visits visit no_visit (length visits) refl)

    forth : (p : ℕ) → p < length (visits ++ visit ∷ []) → (p < length visits) ⊎ (p ≡ length visits) →
        slice_get (set places visit.node (Some (length visits))) (node_at (visits ++ visit ∷ []) p) ≡ Some (Some p)
    forth p before (inl old) =
        let at = indexed.forth p old in
        let apart : node_at visits p ≢ visit.node =
        λ same. fresh (record { place = p; within = old; is = same }) in
        let inside = slice_get_within places (node_at visits p) (Some p) at in
        rw (node_old p old)
        (slice_get-get_or (set places visit.node (Some (length visits))) (node_at visits p) None
        (omega (arith, length-set places visit.node (Some (length visits)), inside))
        ∙ ap (λ o. Some o) (get_or-set_other places visit.node (node_at visits p) (Some (length visits)) None apart
        ∙ get_or_from_slice_get places (node_at visits p) (Some p) None at))
    forth p before (inr is) =
        rw (is, node_new)
        (slice_get-get_or (set places visit.node (Some (length visits))) visit.node None
        (omega (arith, length-set places visit.node (Some (length visits)), within))
        ∙ ap (λ o. Some o) (get_or-set_same places visit.node (Some (length visits)) None within))

    back : (v p : ℕ) → slice_get (set places visit.node (Some (length visits))) v ≡ Some (Some p) →
        (v ≡ visit.node) ⊎ (v ≢ visit.node) →
        (p < length (visits ++ visit ∷ [])) × (node_at (visits ++ visit ∷ []) p ≡ v)
    back v p here (inl same) =
        let got = get_or_from_slice_get (set places visit.node (Some (length visits))) v (Some p) None here in
        let put : get_or (set places visit.node (Some (length visits))) v None ≡ Some (length visits) =
        rw same (get_or-set_same places visit.node (Some (length visits)) None within) in
        let is : length visits ≡ p = cc in
        (omega (arith, length_push visits visit), rw (← is) (node_new ∙ sym same))
    back v p here (inr other) =
        let got = get_or_from_slice_get (set places visit.node (Some (length visits))) v (Some p) None here in
        let inside = slice_get_within (set places visit.node (Some (length visits))) v (Some p) here in
        let old : slice_get places v ≡ Some (Some p) =
        slice_get-get_or places v None (omega (arith, length-set places visit.node (Some (length visits)), inside))
        ∙ ap (λ o. Some o) (sym (get_or-set_other places visit.node v (Some (length visits)) None other) ∙ got) in
        let at = indexed.back v p old in
        (omega (arith, at.0, length_push visits visit), node_old p at.0 ∙ at.1)

    -- one more visit
    pub IsIndexed-push : IsIndexed (visits ++ visit ∷ []) (set places visit.node (Some (length visits))) capacity
    IsIndexed-push = record {
      forth = λ p before. forth p before (let c : (p < length visits) ⊎ (p ≡ length visits) =
          grind (arith, length_push visits visit) in c);
      back = λ v p here. back v p here (cases_eq v visit.node);
      others = omega (
        arith,
        others_more visit.node (length visits) within fresh,
        indexed.others,
        length_push visits visit,
        length-set places visit.node (Some (length visits)),
      );
      room = omega (arith, indexed.room, length-set places visit.node (Some (length visits)));
      few = omega (arith, indexed.few, length-set places visit.node (Some (length visits)));
    }
