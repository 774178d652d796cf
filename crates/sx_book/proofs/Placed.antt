-- Lists of nodes, each of which has the offers of one pair.
use Rattle.std.proofs.Common.{◌≡◌, ◌≢◌, ℕ, zero, suc, ◌+◌, ◌*◌, ◌<◌, ◌≤◌, Bool, true, false, ◌==◌, ◌&&◌, List, []}
use Rattle.std.proofs.Common.{◌∷◌, ◌++◌, length, map, take, drop, set, get_or, replicate, refl, sym, ap, subst, ◌∙◌}
use Rattle.std.proofs.Common.{arith}
use Rattle.std.specs.List.{AllByRecursion, filter}
use Rattle.std.proofs.lemmas.Bool.{false_from_ne_true}
use Rattle.std.proofs.lemmas.Grind.{common_steps}
use Rattle.std.proofs.lemmas.Bool.Decides.{nat_tests}
use Rattle.std.proofs.lemmas.List.{map-append}
use Rattle.std.proofs.lemmas.List.Elements.{filter-append}
use Rattle.sx_book.specs.Store.{ArePlaced, IsIn, list_of, offers_in}
use Rattle.sx_book.proofs.Flat.{flat, ahead, beyond, cut}
use Rattle.sx_book.proofs.Keys.{pair_before}
use Rattle.sx_book.proofs.Lists.{all_append, all_weaker, filter_all, filter_none}
use Rattle.sx_ledger.specs.declared.key.Key.{Key}
use Rattle.sx_ledger.specs.declared.offer.Offer.{Offer}
use Rattle.sx_ledger.specs.Bounds.{pair_of}
use Rattle.sx_ledger.specs.Order.{key_before, key_of}

-- the offer is of a pair with a list before this one, or after it
pub record IsAhead (list : ℕ) (offer : Offer) : Type 0 where
  pub number : list_of offer.sell offer.buy < list
  pub buy : offer.buy < 32

pub record IsBeyond (list : ℕ) (offer : Offer) : Type 0 where
  pub number : list < list_of offer.sell offer.buy
  pub buy : offer.buy < 32

pub placed_at : (k : ℕ) (lists : List (List (ℕ × Offer))) → ArePlaced k lists → (l : ℕ) → l < length lists
    → AllByRecursion (λ x. IsIn (k + l) x.1) (get_or lists l [])
placed_at k [] placed l within = absurd (omega arith)
placed_at k (xs ∷ lists) placed zero within =
    let same : k ≡ k + 0 = omega arith in
    subst (λ n. AllByRecursion (λ x. IsIn n x.1) xs) same placed.0
placed_at k (xs ∷ lists) placed (suc l) within =
    let same : suc k + l ≡ k + suc l = omega arith in
    subst (λ n. AllByRecursion (λ x. IsIn n x.1) (get_or lists l [])) same (placed_at (suc k) lists placed.1 l
    (omega arith))

pub placed_ahead : (k : ℕ) (lists : List (List (ℕ × Offer))) → ArePlaced k lists → (l : ℕ)
    → AllByRecursion (λ x. IsAhead (k + l) x.1) (ahead lists l)
placed_ahead k lists placed zero = tt
placed_ahead k [] placed (suc l) = tt
placed_ahead k (xs ∷ lists) placed (suc l) =
    let same : suc k + l ≡ k + suc l = omega arith in
    all_append (λ x. IsAhead (k + suc l) x.1) xs (ahead lists l)
    (all_weaker (λ x. IsIn k x.1) (λ x. IsAhead (k + suc l) x.1) (λ x is. record
    { number = omega arith; buy = is.buy }) xs
    placed.0)
    (subst (λ n. AllByRecursion (λ x. IsAhead n x.1) (ahead lists l)) same (placed_ahead (suc k) lists placed.1 l))

all_beyond : (k m : ℕ) (lists : List (List (ℕ × Offer))) → m < k → ArePlaced k lists
    → AllByRecursion (λ x. IsBeyond m x.1) (flat lists)
all_beyond k m [] lt placed = tt
all_beyond k m (xs ∷ lists) lt placed =
    all_append (λ x. IsBeyond m x.1) xs (flat lists)
    (all_weaker (λ x. IsIn k x.1) (λ x. IsBeyond m x.1) (λ x is. record { number = omega arith; buy = is.buy }) xs
    placed.0)
    (all_beyond (suc k) m lists (omega arith) placed.1)

pub placed_beyond : (k : ℕ) (lists : List (List (ℕ × Offer))) → ArePlaced k lists → (l : ℕ)
    → AllByRecursion (λ x. IsBeyond (k + l) x.1) (beyond lists l)
placed_beyond k [] placed l = tt
placed_beyond k (xs ∷ lists) placed zero = all_beyond (suc k) (k + 0) lists (omega arith) placed.1
placed_beyond k (xs ∷ lists) placed (suc l) =
    let same : suc k + l ≡ k + suc l = omega arith in
    subst (λ n. AllByRecursion (λ x. IsBeyond n x.1) (beyond lists l)) same (placed_beyond (suc k) lists placed.1 l)

pub placed_set : (k : ℕ) (lists : List (List (ℕ × Offer))) → ArePlaced k lists → (l : ℕ) (ys : List (ℕ × Offer))
    → AllByRecursion (λ x. IsIn (k + l) x.1) ys → ArePlaced k (set lists l ys)
placed_set k [] placed l ys all = tt
placed_set k (xs ∷ lists) placed zero ys all =
    let same : k + 0 ≡ k = omega arith in
    (subst (λ n. AllByRecursion (λ x. IsIn n x.1) ys) same all, placed.1)
placed_set k (xs ∷ lists) placed (suc l) ys all =
    let same : k + suc l ≡ suc k + l = omega arith in
    (placed.0, placed_set (suc k) lists placed.1 l ys (subst (λ n. AllByRecursion (λ x. IsIn n x.1) ys) same all))

pub placed_empty : (k n : ℕ) → ArePlaced k (replicate n [])
placed_empty k zero = tt
placed_empty k (suc n) = (tt, placed_empty (suc k) n)

pub flat_empty : (n : ℕ) → flat (replicate n []) ≡ (let none : List (ℕ × Offer) = [] in none)
flat_empty zero = refl
flat_empty (suc n) = flat_empty n

-- ---- the offers of a pair

abbrev pub is_pair : ℕ → ℕ → Offer → Bool
is_pair sell buy offer = (offer.sell == sell) && (offer.buy == buy)

other_pair : (sell buy : ℕ) (offer : Offer) → list_of offer.sell offer.buy ≢ list_of sell buy
    → is_pair sell buy offer ≡ false
other_pair sell buy offer other = grind (arith, common_steps, nat_tests)

this_pair : (sell buy : ℕ) (offer : Offer) → buy < 32 → IsIn (list_of sell buy) offer → is_pair sell buy offer ≡ true
this_pair sell buy offer in_range is =
    let bought : offer.buy ≡ buy = omega (arith, is.number, is.buy) in
    let sold : offer.sell ≡ sell = omega (arith, is.number, is.buy) in
    grind (arith, common_steps, nat_tests)

pub mapped : (P : Offer → Type 0) (nodes : List (ℕ × Offer)) → AllByRecursion (λ x. P x.1) nodes
    → AllByRecursion P (offers_in nodes)
mapped P [] all = tt
mapped P (x ∷ xs) all = (all.0, mapped P xs all.1)

module _ (sell buy : ℕ) (in_range : buy < 32) where
  abbrev number : ℕ
  number = list_of sell buy

  pub pair_ahead : (nodes : List (ℕ × Offer)) → AllByRecursion (λ x. IsAhead (list_of sell buy) x.1) nodes
      → pair_of sell buy (offers_in nodes) ≡ []
  pair_ahead nodes all =
      filter_none (is_pair sell buy) (offers_in nodes) (mapped _ nodes (all_weaker (λ x. IsAhead (list_of sell buy) x.1)
      (λ x. is_pair sell buy x.1 ≡ false) (λ x is. other_pair sell buy x.1 (λ e. absurd (omega (arith, is.number))))
      nodes all))

  pub pair_beyond : (nodes : List (ℕ × Offer)) → AllByRecursion (λ x. IsBeyond (list_of sell buy) x.1) nodes
      → pair_of sell buy (offers_in nodes) ≡ []
  pair_beyond nodes all =
      filter_none (is_pair sell buy) (offers_in nodes) (mapped _ nodes (all_weaker
      (λ x. IsBeyond (list_of sell buy) x.1)
      (λ x. is_pair sell buy x.1 ≡ false) (λ x is. other_pair sell buy x.1 (λ e. absurd (omega (arith, is.number))))
      nodes all))

  pub pair_here : (nodes : List (ℕ × Offer)) → AllByRecursion (λ x. IsIn (list_of sell buy) x.1) nodes
      → pair_of sell buy (offers_in nodes) ≡ offers_in nodes
  pair_here nodes all =
      filter_all (is_pair sell buy) (offers_in nodes) (mapped _ nodes (all_weaker (λ x. IsIn (list_of sell buy) x.1)
      (λ x. is_pair sell buy x.1 ≡ true) (λ x is. this_pair sell buy x.1 in_range is) nodes all))
