-- How the pool of `Links` keeps its lists. No public clause cites this module.
use Rattle.std.specs.Prelude.{◌≡◌, ◌≢◌, ℕ, zero, suc, ◌+◌, ◌<◌, ◌-◌, ◌^◌, List, [], ◌∷◌, length, map, Option, Some}
use Rattle.std.specs.Prelude.{None, slice_get, slice_index_or, vec_capacity, if◌then◌else◌}
use Rattle.std.specs.Option.{option_map, option_map_or, option_and_then, option_flatten, is_none}
use Rattle.std.specs.List.{range_with_len, sum_by}
use Rattle.sx_links.specs.declared.pool.Place.{Place}
use Rattle.sx_links.specs.declared.pool.Place.TheVariants.{Free, Front, After}
use Rattle.sx_links.specs.declared.pool.Node.{Node}
use Rattle.sx_links.specs.declared.pool.Pool.{Pool}
use Rattle.sx_links.specs.Lists.{list_at, node_count}

-- the place after a node of a list, or in front of the list
abbrev pub place_of : ℕ → Option ℕ → Place
place_of list None = Front list
place_of list (Some node) = After node

-- the place after some nodes that follow a place
abbrev pub end_of : {V : Type 0} → Place → List (ℕ × V) → Place
end_of at [] = at
end_of at (x ∷ xs) = end_of (After x.0) xs

module _ {V : Type 0} (next : Place → Option ℕ) (value : ℕ → Option V) where
  -- from a place on, these nodes and no more follow each other, with these values
  abbrev pub Run : Place → List (ℕ × V) → Type 0
  Run at [] = next at ≡ None
  Run at (x ∷ xs) = (next at ≡ Some x.0) × (value x.0 ≡ Some x.1) × Run (After x.0) xs

  -- at most `most` nodes that follow a place, with their values
  unfoldable pub walk : ℕ → Place → List (ℕ × V)
  walk zero at = []
  walk (suc most) at =
      option_map_or (λ k. option_map_or (λ v. (k, v) ∷ walk most (After k)) (value k) []) (next at) []

module _ {T : Type 0} where
  -- the node directly after a place
  unfoldable pub next_of : Pool T → Place → Option ℕ
  next_of p Free = p.free
  next_of p (Front list) = slice_index_or p.fronts.items list None
  next_of p (After node) = option_and_then (λ n. n.next) (slice_get p.nodes.items node)

  -- the place that a node says to stand after
  unfoldable pub before_of : Pool T → ℕ → Option Place
  before_of p node = option_map (λ n. n.before) (slice_get p.nodes.items node)

  -- the room for a value in a node
  unfoldable pub slot_of : Pool T → ℕ → Option (Option T)
  slot_of p node = option_map (λ n. n.value) (slice_get p.nodes.items node)

  -- the value in a node, if there is one
  abbrev pub value_of : Pool T → ℕ → Option T
  value_of p node = option_flatten (slot_of p node)

  -- whether a node has no value
  abbrev pub vacant_of : Pool T → ℕ → Option (Unit {0})
  vacant_of p node = option_and_then (λ slot. if is_none slot then Some tt else None) (slot_of p node)

  -- the pool has the place
  abbrev pub HasPlace : Pool T → Place → Type 0
  HasPlace p Free = Unit {0}
  HasPlace p (Front list) = list < length p.fronts.items
  HasPlace p (After node) = node < length p.nodes.items

  -- a node that follows a place says so
  abbrev pub Mutual : Pool T → Type 0
  Mutual p = (q : Place) (m : ℕ) → next_of p q ≡ Some m → before_of p m ≡ Some q

  -- the node follows no place
  abbrev pub IsLoose : Pool T → ℕ → Type 0
  IsLoose p node = (q : Place) → next_of p q ≢ Some node

  -- the node follows a place, and not itself
  pub record IsLinked (p : Pool T) (node : ℕ) : Type 0 where
    pub place : Place
    pub follows : next_of p place ≡ Some node
    pub apart : place ≢ After node

  -- nothing is new but what follows this place
  pub record SetsNext (old new : Pool T) (place : Place) (next : Option ℕ) : Type 0 where
    pub after : next_of new place ≡ next
    pub others : (q : Place) → q ≢ place → next_of new q ≡ next_of old q
    pub before : (m : ℕ) → before_of new m ≡ before_of old m
    pub slots : (k : ℕ) → slot_of new k ≡ slot_of old k
    pub fronts : length new.fronts.items ≡ length old.fronts.items
    pub nodes : length new.nodes.items ≡ length old.nodes.items
    pub capacity : vec_capacity new.nodes ≡ vec_capacity old.nodes

  -- and the node that follows says so
  pub record Joins (old new : Pool T) (place : Place) (next : Option ℕ) : Type 0 where
    pub after : next_of new place ≡ next
    pub others : (q : Place) → q ≢ place → next_of new q ≡ next_of old q
    pub back : (m : ℕ) → next ≡ Some m → before_of new m ≡ Some place
    pub backs : (m : ℕ) → next ≢ Some m → before_of new m ≡ before_of old m
    pub slots : (k : ℕ) → slot_of new k ≡ slot_of old k
    pub fronts : length new.fronts.items ≡ length old.fronts.items
    pub nodes : length new.nodes.items ≡ length old.nodes.items
    pub capacity : vec_capacity new.nodes ≡ vec_capacity old.nodes

  -- the node stands directly after the place, and before what followed it
  pub record Inserts (old new : Pool T) (node : ℕ) (place : Place) : Type 0 where
    pub agrees : Mutual new
    pub after : next_of new place ≡ Some node
    pub behind : next_of new (After node) ≡ next_of old place
    pub others : (q : Place) → q ≢ place → q ≢ After node → next_of new q ≡ next_of old q
    pub slots : (k : ℕ) → slot_of new k ≡ slot_of old k
    pub fronts : length new.fronts.items ≡ length old.fronts.items
    pub nodes : length new.nodes.items ≡ length old.nodes.items
    pub capacity : vec_capacity new.nodes ≡ vec_capacity old.nodes

  -- the node stands nowhere, and what followed it stands in its place
  pub record Removes (old new : Pool T) (node : ℕ) : Type 0 where
    pub agrees : Mutual new
    pub loose : IsLoose new node
    pub place : Place
    pub was : next_of old place ≡ Some node
    pub after : next_of new place ≡ next_of old (After node)
    pub others : (q : Place) → q ≢ place → q ≢ After node → next_of new q ≡ next_of old q
    pub slots : (k : ℕ) → slot_of new k ≡ slot_of old k
    pub fronts : length new.fronts.items ≡ length old.fronts.items
    pub nodes : length new.nodes.items ≡ length old.nodes.items

  -- nothing is new but the value of a node
  pub record Refills (old new : Pool T) (node : ℕ) (slot : Option T) : Type 0 where
    pub next : (q : Place) → next_of new q ≡ next_of old q
    pub before : (m : ℕ) → before_of new m ≡ before_of old m
    pub here : slot_of new node ≡ Some slot
    pub others : (k : ℕ) → k ≢ node → slot_of new k ≡ slot_of old k
    pub fronts : length new.fronts.items ≡ length old.fronts.items
    pub nodes : length new.nodes.items ≡ length old.nodes.items

  -- one more node, which stands nowhere and has no value
  pub record Appends (old new : Pool T) : Type 0 where
    pub next : (q : Place) → next_of new q ≡ next_of old q
    pub before : (m : ℕ) → m ≢ length old.nodes.items → before_of new m ≡ before_of old m
    pub here : slot_of new (length old.nodes.items) ≡ Some None
    pub others : (k : ℕ) → k ≢ length old.nodes.items → slot_of new k ≡ slot_of old k
    pub fronts : length new.fronts.items ≡ length old.fronts.items
    pub nodes : length new.nodes.items ≡ length old.nodes.items + 1

  -- the lists of the pool, each walked from its front
  unfoldable pub lists_of : Pool T → List (List (ℕ × T))
  lists_of p =
      map (λ list. walk (next_of p) (value_of p) (length p.nodes.items) (Front list))
      (range_with_len 0 (length p.fronts.items))

  -- the indexes agree, and lead through these lists and these free nodes
  pub record Chains (p : Pool T) (lists : List (List (ℕ × T))) (free : List (ℕ × Unit {0})) : Type 0 where
    pub agrees : Mutual p
    pub listed : (list : ℕ) → list < length lists → Run (next_of p) (value_of p) (Front list) (list_at lists list)
    pub freed : Run (next_of p) (vacant_of p) Free free
    pub fronts : length lists ≡ length p.fronts.items

  -- and this is how many free nodes there are
  pub record Holds (p : Pool T) (lists : List (List (ℕ × T))) (count : ℕ) : Type 0 where
    pub free : List (ℕ × Unit {0})
    pub chains : Chains p lists free
    pub counted : length free ≡ count

  -- each node is in one of the lists or free, and there are fewer nodes than numbers for them
  pub record IsSound (p : Pool T) (lists : List (List (ℕ × T))) (spare : ℕ) : Type 0 where
    pub holds : Holds p lists spare
    pub total : length p.nodes.items ≡ node_count lists + spare
    pub few : length p.nodes.items < 2 ^ 32 - 1
