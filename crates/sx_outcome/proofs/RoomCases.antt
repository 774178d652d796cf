-- Why there is no room for candidates, worked out by hand: which of two reasons counts, and what it tells.
use Rattle.std.proofs.Common.{◌≡◌, ℕ, ◌-◌, ◌^◌, [], ◌∷◌, length, Ok, Err, refl}
use Rattle.sx_outcome.specs.declared.space.NoRoom.TheVariants.{Ended, Crowded}
use Rattle.sx_outcome.specs.Room.{room_for}
use Rattle.sx_ledger.specs.declared.parts.Parts.{Parts}
use Rattle.sx_tx.specs.declared.kind.Kind.TheVariants as kind
use Rattle.sx_tx.specs.declared.tx.Tx.{Tx}

abbrev creates : ℕ → ℕ → Tx
creates seq id = record { account = record { 0 = 1 }; seq = seq; kind = kind.Create (record { 0 = id }) }

abbrev sells : ℕ → Tx
sells seq = record { account = record { 0 = 1 }; seq = seq; kind = kind.Offer 0 1 (2 ^ 24) 5 }

-- two accounts come where there is room for one
accounts : (parts : Parts) → parts.height ≡ 0 → length parts.accounts ≡ 65535
    → room_for parts (creates 1 8 ∷ creates 2 9 ∷ []) ≡ Err (Crowded 65535 2 65536)
accounts parts height full = rw height (rw full refl)

-- one offer comes where there is room for none
offers : (parts : Parts) → parts.height ≡ 0 → length parts.accounts ≡ 65536 → length parts.offers ≡ 262144
    → room_for parts (sells 1 ∷ []) ≡ Err (Crowded 262144 1 262144)
offers parts height first second = rw height (rw first (rw second refl))

-- where neither has room, accounts count
accounts_first : (parts : Parts) → parts.height ≡ 0 → length parts.accounts ≡ 65536 → length parts.offers ≡ 262144
    → room_for parts (creates 1 9 ∷ sells 2 ∷ []) ≡ Err (Crowded 65536 1 65536)
accounts_first parts height first second = rw height (rw first refl)

-- and the height counts before both
height_first : (parts : Parts) → parts.height ≡ 2 ^ 63 - 1 → length parts.accounts ≡ 65536
    → room_for parts (creates 1 9 ∷ []) ≡ Err Ended
height_first parts height full = rw height refl

-- there is room up to the limits
fits : (parts : Parts) → parts.height ≡ 2 ^ 63 - 2 → length parts.accounts ≡ 65535 → length parts.offers ≡ 262143
    → room_for parts (creates 1 9 ∷ sells 2 ∷ []) ≡ Ok tt
fits parts height first second = rw height (rw first (rw second refl))
