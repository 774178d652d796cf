-- The parts that the accounts and the offers of a state are cut into.
use Rattle.std.specs.Prelude.{◌≡◌, ℕ, List, length}
use Rattle.std.specs.Fork.{slice_chunk}
use Rattle.std.specs.Int.{div_ceil}
use Rattle.std.specs.List.{flat_map}
use Rattle.sx_ledger.specs.declared.parts.Parts.{Parts}
use Rattle.sx_state.specs.Encoding.{account_bytes, offer_bytes}
use Rattle.sx_run.specs.declared.state_writing.Part.{Part}

-- the part at a place, where a list is cut into so many parts
abbrev pub part_at : {X : Type 0} → List X → ℕ → ℕ → List X
part_at entries parts place = slice_chunk entries (div_ceil (length entries) parts) place

-- the accounts and the offers in the part at a place, encoded
pub record IsPart (ledger : Parts) (parts place : ℕ) (part : Part) : Type 0 where
  pub accounts : part.accounts ≡ flat_map (account_bytes ledger.version) (part_at ledger.accounts parts place)
  pub offers : part.offers ≡ flat_map offer_bytes (part_at ledger.offers parts place)
