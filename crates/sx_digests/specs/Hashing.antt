-- A ledger whose digest is being made.
use Rattle.std.specs.Prelude.{◌≡◌, ℕ, List, ◌++◌}
use Rattle.std.specs.List.{flat_map}
use Rattle.sha2.specs.Hashers.{Holds256}
use Rattle.sha2.specs.declared.Sha256.{Sha256}
use Rattle.sx_ledger.specs.declared.parts.Parts.{Parts}
use Rattle.sx_state.specs.Encoding.{offer_bytes, state_bytes}
use Rattle.sx_record.specs.Frame.{record_bytes}
use Rattle.sx_record.specs.Tags.{state_tag}

-- the hasher holds the whole state record but for the offers, which are the last part of it
abbrev pub HoldsAllButOffers : Parts → Sha256 → Type 0
HoldsAllButOffers parts hasher =
    (m : List ℕ) × Holds256 hasher m
    × (record_bytes state_tag (state_bytes parts) ≡ m ++ flat_map offer_bytes parts.offers)
