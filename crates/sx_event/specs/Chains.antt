-- The chains of tables: which tables a view looks into, the newest first.
use Rattle.std.specs.Prelude.{◌≡◌, ℕ, ◌<◌, zero, suc, ◌≤◌, sum_by, List, [], ◌∷◌, length, slice_index_or, Option}
use Rattle.std.specs.Prelude.{None, Some}
use Rattle.sx_event.specs.View.{or_else}
use Rattle.sx_event.specs.declared.lows.Link.{Link}
use Rattle.sx_event.specs.Tables.{value_in}

-- the link of a view that there is not
abbrev pub no_link : Link
no_link = record { newest = 0; older = None }

-- the newest table of a view
abbrev pub newest_of : List Link → ℕ → ℕ
newest_of links view = (slice_index_or links view no_link).newest

-- the table after this one
abbrev pub older_than : List Link → ℕ → Option ℕ
older_than links table = (slice_index_or links table no_link).older

-- what contracts see: the entries of all tables, the links, and how many more there is room for
pub record Chained : Type 0 where
  pub entries : List ((ℕ × ℕ) × ℕ)
  pub links : List Link
  pub room : ℕ

-- a view of these that was not joined to another
pub record IsOpen (chained : Chained) (view : ℕ) : Type 0 where
  pub known : view < length chained.links
  pub last : older_than chained.links view ≡ None

-- what the first table from this one on has of a purse, in at most that many
abbrev pub seek : ℕ → List ((ℕ × ℕ) × ℕ) → List Link → Option ℕ → ℕ → Option ℕ
seek zero entries links table purse = None
seek (suc n) entries links None purse = None
seek (suc n) entries links (Some table) purse =
    or_else (value_in entries table purse) (seek n entries links (older_than links table) purse)

-- what a view saw last of a purse
abbrev pub seen_last : Chained → ℕ → ℕ → Option ℕ
seen_last chained view purse =
    seek (length chained.links) chained.entries chained.links (Some (newest_of chained.links view)) purse

-- from this table the tables of the list follow one another, and the last is the view's own
abbrev pub Walks : List Link → ℕ → ℕ → List ℕ → Type 0
Walks links view table [] = ⊥
Walks links view table (first ∷ []) = (table ≡ first) × (first ≡ view)
Walks links view table (first ∷ second ∷ rest) =
    (table ≡ first) × (older_than links first ≡ Some second) × Walks links view second (second ∷ rest)

-- each open view has a chain, and all chains together are no longer than there are views
pub record AreChains (chained : Chained) (chains : List (List ℕ)) : Type 0 where
  pub as_many : length chains ≡ length chained.links
  pub fit : sum_by length chains ≤ length chained.links
  pub walks : (view : ℕ) → IsOpen chained view →
      Walks chained.links view (newest_of chained.links view) (slice_index_or chains view [])
  pub unused : (table purse : ℕ) → length chained.links ≤ table → value_in chained.entries table purse ≡ None

-- the chains of the views
abbrev pub Linked : Chained → Type 0
Linked chained = (chains : List (List ℕ)) × AreChains chained chains
