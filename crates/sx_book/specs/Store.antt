-- How `Books` keep their offers: a list of nodes for each pair, and a map from key to node. No public clause cites this
-- module.
use Rattle.std.specs.Prelude.{◌≡◌, ℕ, suc, ◌+◌, ◌*◌, ◌<◌, ◌≤◌, true, List, [], ◌∷◌, ◌++◌, length, map, take, drop}
use Rattle.std.specs.Prelude.{Option, Some, None, nat_lt, slice_get, slice_set, if◌then◌else◌}
use Rattle.std.specs.List.{All, AllByRecursion, Contains, flat_map}
use Rattle.std.specs.List.Sorted.{IsStrictlySortedBy}
use Rattle.sx_book.specs.declared.store.Store.{Store}
use Rattle.std.specs.Ordering.{nat_cmp}
use Rattle.sx_book.specs.Books.{Fits, IsListed, left_by, left_from, less, most_offers, places}
use Rattle.sx_base.specs.Ranges.{most_assets}
use Rattle.sx_ledger.specs.declared.fill.Fill.{Fill}
use Rattle.sx_ledger.specs.declared.key.Key.{Key}
use Rattle.sx_ledger.specs.declared.offer.Offer.{Offer}
use Rattle.sx_ledger.specs.Bounds.{pair_of}
use Rattle.sx_ledger.specs.Order.{key_before, key_cmp, key_of}
use Rattle.sx_links.specs.Lists.{list_at, node_at, StandsAt}

-- how many lists there are: one for each pair of asset numbers
abbrev pub list_count : ℕ
list_count = 1024

-- the list of a pair
abbrev pub list_of : ℕ → ℕ → ℕ
list_of sell buy = sell * 32 + buy

-- the nodes of all lists, from the first list on, and their offers
abbrev pub nodes_of : List (List (ℕ × Offer)) → List (ℕ × Offer)
nodes_of lists = flat_map (λ nodes. nodes) lists

abbrev pub offers_in : List (ℕ × Offer) → List Offer
offers_in nodes = map (λ x. x.1) nodes

abbrev pub offers_of : Store → List Offer
offers_of store = offers_in (nodes_of store.lists.lists)

-- what the map has of a node
abbrev pub entry_of : ℕ × Offer → Key × ℕ
entry_of x = (key_of x.1, x.0)

-- the offer is of the pair whose list has this number
pub record IsIn (list : ℕ) (offer : Offer) : Type 0 where
  pub number : list_of offer.sell offer.buy ≡ list
  pub buy : offer.buy < 32

-- each offer of these lists, whose numbers begin at `list`, is in the list of its pair
abbrev pub ArePlaced : ℕ → List (List (ℕ × Offer)) → Type 0
ArePlaced list [] = Unit {0}
ArePlaced list (nodes ∷ lists) = AllByRecursion (λ x. IsIn list x.1) nodes × ArePlaced (suc list) lists

pub record IsSound (store : Store) : Type 0 where
  pub count : length store.lists.lists ≡ list_count
  pub placed : ArePlaced 0 store.lists.lists
  pub sorted : IsStrictlySortedBy key_cmp (map (λ x. key_of x.1) (nodes_of store.lists.lists))
  pub found : store.nodes.entries ≡ map entry_of (nodes_of store.lists.lists)
  pub amounts : AllByRecursion (λ x. 1 ≤ x.1.amount) (nodes_of store.lists.lists)
  pub few : length (nodes_of store.lists.lists) ≤ most_offers

-- and all offers are of two different assets out of `assets`
pub record IsKept (assets : ℕ) (store : Store) : Type 0 where
  pub some_asset : 1 ≤ assets
  pub few_assets : assets ≤ most_assets
  pub sound : IsSound store
  pub listed : All (IsListed assets) (offers_of store)

-- ---- where a key belongs

-- the place is directly after this node of the list, or in front of it
abbrev pub IsAfter : List (ℕ × Offer) → Option ℕ → ℕ → Type 0
IsAfter nodes None place = place ≡ 0
IsAfter nodes (Some node) place = (q : ℕ) × (place ≡ q + 1) × (node_at nodes q ≡ Some node)

-- all nodes up to this place of the key's list come before the key, and all others after it
pub record Gap (lists : List (List (ℕ × Offer))) (key : Key) (after : Option ℕ) : Type 0 where
  pub place : ℕ
  pub named : IsAfter (list_at lists (list_of key.sell key.buy)) after place
  pub below : AllByRecursion (λ x. key_before (key_of x.1) key ≡ true)
      (nodes_of (take (list_of key.sell key.buy) lists) ++ take place (list_at lists (list_of key.sell key.buy)))
  pub above : AllByRecursion (λ x. key_before key (key_of x.1) ≡ true)
      (drop place (list_at lists (list_of key.sell key.buy)) ++ nodes_of (drop (suc (list_of key.sell key.buy)) lists))

-- ---- what is left of a node whose offer gives some units

abbrev pub left_node : ℕ × Offer → ℕ → List (ℕ × Offer)
left_node x units = if nat_lt units x.1.amount then (x.0, less x.1 units) ∷ [] else []

-- the list with what is left of its node at a place
abbrev pub given_by : List (ℕ × Offer) → ℕ → ℕ × Offer → ℕ → List (ℕ × Offer)
given_by nodes place x units = take place nodes ++ (left_node x units ++ drop (suc place) nodes)

-- ---- fills of a list

-- what a loop over the fills has made of a list, with these fills still to come
pub record SoFar (old now : List (List (ℕ × Offer))) (list : ℕ) (fills rest : List Fill) (at : Option ℕ) (place : ℕ)
    : Type 0 where
  pub done : List (ℕ × Offer)
  pub lists : now ≡ slice_set old list (done ++ drop place (list_at old list))
  pub here : at ≡ node_at (list_at old list) place
  pub within : place ≤ length (list_at old list)
  pub left : offers_in done ++ left_from rest place (offers_in (drop place (list_at old list)))
      ≡ left_by fills (offers_in (list_at old list))
  pub ahead : AllByRecursion (λ fill. place ≤ fill.place) rest
  pub rising : IsStrictlySortedBy nat_cmp (places rest)
  pub fits : AllByRecursion (Fits (offers_in (list_at old list))) rest

-- an offer of the node has at least these units
pub record Has (lists : List (List (ℕ × Offer))) (node units : ℕ) : Type 0 where
  pub list : ℕ
  pub place : ℕ
  pub offer : Offer
  pub here : slice_get (list_at lists list) place ≡ Some (node, offer)
  pub enough : units ≤ offer.amount

-- in the place of the offers of a pair, which stand together, is what the fills leave of them
pub record IsReduced (sell buy : ℕ) (fills : List Fill) (old new : List Offer) : Type 0 where
  pub before : List Offer
  pub after : List Offer
  pub was : old ≡ before ++ (pair_of sell buy old ++ after)
  pub is : new ≡ before ++ (left_by fills (pair_of sell buy old) ++ after)
  pub none_before : pair_of sell buy before ≡ []
  pub none_after : pair_of sell buy after ≡ []
