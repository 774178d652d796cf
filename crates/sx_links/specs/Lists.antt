-- What a contract sees of `Links`.
use Rattle.std.specs.Prelude.{◌≡◌, ◌==◌, ℕ, ◌+◌, ◌-◌, List, [], ◌∷◌, length, Option, Some, None, if◌then◌else◌}
use Rattle.std.specs.Prelude.{slice_get, slice_index_or, slice_set, insert, remove}
use Rattle.std.specs.Option.{option_map}
use Rattle.std.specs.List.{sum_by}

-- the lists, each of nodes with their values from the front on, and how many more nodes there is
-- room for
pub record Lists (T : Type 0) : Type 0 where
  pub lists : List (List (ℕ × T))
  pub spare : ℕ

module _ {T : Type 0} where
  -- the list of this number
  abbrev pub list_at : List (List (ℕ × T)) → ℕ → List (ℕ × T)
  list_at lists list = slice_index_or lists list []

  -- the node at a place of a list, where the front is place 0
  abbrev pub node_at : List (ℕ × T) → ℕ → Option ℕ
  node_at nodes place = option_map (λ x. x.0) (slice_get nodes place)

  -- the part of a list from a node on
  abbrev pub from_node : ℕ → List (ℕ × T) → List (ℕ × T)
  from_node node [] = []
  from_node node (x ∷ xs) = if x.0 == node then x ∷ xs else from_node node xs

  -- the part of a list from a node on, or nothing where no node is named
  abbrev pub rest_from : Option ℕ → List (ℕ × T) → List (ℕ × T)
  rest_from None nodes = []
  rest_from (Some node) nodes = from_node node nodes

  -- the node stands at this place of this list
  abbrev pub StandsAt : List (List (ℕ × T)) → ℕ → ℕ → ℕ → Type 0
  StandsAt lists list place node = node_at (list_at lists list) place ≡ Some node

  -- the node stands in this list
  abbrev pub StandsIn : List (List (ℕ × T)) → ℕ → ℕ → Type 0
  StandsIn lists list node = (place : ℕ) × StandsAt lists list place node

  -- the node stands in one of the lists
  abbrev pub Stands : List (List (ℕ × T)) → ℕ → Type 0
  Stands lists node = (list : ℕ) × (place : ℕ) × StandsAt lists list place node

  -- no node stands at two places
  abbrev pub AreDisjoint : List (List (ℕ × T)) → Type 0
  AreDisjoint lists =
      (list list' place place' node : ℕ) → StandsAt lists list place node → StandsAt lists list' place' node
      → (list ≡ list') × (place ≡ place')

  -- a node with its value is put at a place of a list, into spare room
  abbrev pub with_node : Lists T → ℕ → ℕ → ℕ × T → Lists T
  with_node all list place x =
      record {
        lists = slice_set all.lists list (insert (list_at all.lists list) place x);
        spare = all.spare - 1;
      }

  -- the node at a place of a list is taken out, and leaves spare room
  abbrev pub without_node : Lists T → ℕ → ℕ → Lists T
  without_node all list place =
      record {
        lists = slice_set all.lists list (remove (list_at all.lists list) place);
        spare = all.spare + 1;
      }

  -- a node with its value stands at a place of a list, in place of what stood there
  abbrev pub with_value : Lists T → ℕ → ℕ → ℕ × T → Lists T
  with_value all list place x =
      record {
        lists = slice_set all.lists list (slice_set (list_at all.lists list) place x);
        spare = all.spare;
      }

  -- how many nodes the lists have together
  abbrev pub node_count : List (List (ℕ × T)) → ℕ
  node_count lists = sum_by length lists
