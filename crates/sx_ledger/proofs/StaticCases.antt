-- What a ledger says of one transaction, computed at small cases.
use Rattle.std.proofs.Common.{◌≡◌, ℕ, ◌-◌, ◌^◌, [], ◌∷◌, Ok, Err, refl}
use Rattle.sx_ledger.specs.declared.parts.Parts.{Parts}
use Rattle.sx_ledger.specs.declared.statics.Static.TheVariants as static
use Rattle.sx_ledger.specs.declared.places.Places.{Places}
use Rattle.sx_ledger.specs.declared.places.Target.{Target}
use Rattle.sx_ledger.specs.declared.places.Target.TheVariants as target
use Rattle.sx_ledger.specs.Places.{ArePlaces}
use Rattle.sx_ledger.specs.Static.{static_of}
use Rattle.sx_ledger.proofs.CaseWords.{account, cancel, create, offer, one, pay, sell_for, state, tx, with_gap}

-- two assets; account 1 has used the sequence number 7, and sells 5 of the first asset under it
abbrev ledger : Parts
ledger =
    state (one ∷ one ∷ []) (account 1 7 (10 ∷ 10 ∷ []) ∷ account 2 0 (0 ∷ 0 ∷ []) ∷ []) (offer 0 1 one 1 7 5 ∷ [])

window_ends : (static_of ledger (tx 1 71 (pay 2 0 1)) ≡ Ok tt)
    × (static_of ledger (tx 1 72 (pay 2 0 1)) ≡ Err static.SeqBeyond)
    × (static_of ledger (tx 1 8 (pay 2 0 1)) ≡ Ok tt)
    × (static_of ledger (tx 1 7 (pay 2 0 1)) ≡ Err static.SeqBehind)
window_ends = (refl, refl, refl, refl)

-- version 2; account 1 used 9 and 10 and not 8
used_number : (static_of with_gap (tx 1 9 (pay 2 0 1)) ≡ Err static.SeqUsed)
    × (static_of with_gap (tx 1 10 (pay 2 0 1)) ≡ Err static.SeqUsed)
    × (static_of with_gap (tx 1 8 (pay 2 0 1)) ≡ Ok tt)
    × (static_of with_gap (tx 1 11 (pay 2 0 1)) ≡ Ok tt)
    × (static_of with_gap (tx 2 9 (pay 1 0 1)) ≡ Ok tt)
    × (static_of with_gap (tx 1 9 (pay 2 1 1)) ≡ Err static.SeqUsed)
    × (static_of with_gap (tx 1 9 (create 2)) ≡ Err static.SeqUsed)
used_number = (refl, refl, refl, refl, refl, refl, refl)

dust : (static_of ledger (tx 1 8 (sell_for 0 1 (2 ^ 24 - 1) 1)) ≡ Err static.Dust)
    × (static_of ledger (tx 1 8 (sell_for 0 1 (2 ^ 24) 1)) ≡ Ok tt)
    × (static_of ledger (tx 1 8 (sell_for 0 1 (2 ^ 23) 2)) ≡ Ok tt)
dust = (refl, refl, refl)

accounts : (static_of ledger (tx 1 8 (pay 9 1 1)) ≡ Err static.UnknownPayee)
    × (static_of ledger (tx 1 8 (pay 1 1 1)) ≡ Ok tt)
    × (static_of ledger (tx 1 8 (create 2)) ≡ Err static.AccountExists)
    × (static_of ledger (tx 1 8 (create 9)) ≡ Ok tt)
accounts = (refl, refl, refl, refl)

assets : (static_of ledger (tx 1 8 (pay 2 2 1)) ≡ Err static.UnknownAsset)
    × (static_of ledger (tx 1 8 (pay 2 1 1)) ≡ Ok tt)
    × (static_of ledger (tx 1 8 (sell_for 2 1 one 1)) ≡ Err static.UnknownAsset)
    × (static_of ledger (tx 1 8 (sell_for 1 2 one 1)) ≡ Err static.UnknownAsset)
    × (static_of ledger (tx 1 8 (cancel 2 1 one 7)) ≡ Err static.UnknownAsset)
    × (static_of ledger (tx 1 8 (cancel 1 2 one 7)) ≡ Err static.UnknownAsset)
    × (static_of ledger (tx 1 8 (sell_for 0 0 one 1)) ≡ Err static.SamePair)
assets = (refl, refl, refl, refl, refl, refl, refl)

-- the key of an offer is all of its terms but the amount
cancellations : (static_of ledger (tx 1 8 (cancel 0 1 one 7)) ≡ Ok tt)
    × (static_of ledger (tx 1 8 (cancel 1 0 one 7)) ≡ Err static.NoSuchOffer)
    × (static_of ledger (tx 1 8 (cancel 0 1 (2 ^ 25) 7)) ≡ Err static.NoSuchOffer)
    × (static_of ledger (tx 1 8 (cancel 0 1 one 6)) ≡ Err static.NoSuchOffer)
    × (static_of ledger (tx 2 8 (cancel 0 1 one 7)) ≡ Err static.NoSuchOffer)
cancellations = (refl, refl, refl, refl, refl)

-- of two reasons the first counts
first_of_two : (static_of ledger (tx 3 0 (pay 2 0 1)) ≡ Err static.UnknownAccount)
    × (static_of ledger (tx 3 72 (pay 2 0 1)) ≡ Err static.UnknownAccount)
    × (static_of ledger (tx 1 7 (create 2)) ≡ Err static.SeqBehind)
    × (static_of ledger (tx 1 72 (create 2)) ≡ Err static.SeqBeyond)
    × (static_of ledger (tx 1 72 (pay 9 0 1)) ≡ Err static.SeqBeyond)
    × (static_of ledger (tx 1 7 (pay 2 2 1)) ≡ Err static.SeqBehind)
    × (static_of ledger (tx 1 72 (pay 2 2 1)) ≡ Err static.SeqBeyond)
    × (static_of ledger (tx 1 8 (pay 9 2 1)) ≡ Err static.UnknownAsset)
    × (static_of ledger (tx 1 8 (cancel 2 2 one 7)) ≡ Err static.UnknownAsset)
    × (static_of ledger (tx 1 8 (cancel 1 1 one 7)) ≡ Err static.SamePair)
    × (static_of ledger (tx 1 8 (sell_for 1 1 1 1)) ≡ Err static.SamePair)
first_of_two = (refl, refl, refl, refl, refl, refl, refl, refl, refl, refl, refl)

abbrev places : ℕ → Target → Places
places account named = record { account = account; target = named }

-- the places that are found
found : ArePlaces ledger (tx 2 1 (pay 1 0 1)) (places 1 (target.Payee 0))
    × ArePlaces ledger (tx 1 8 (create 9)) (places 0 target.Nothing)
    × ArePlaces ledger (tx 2 1 (sell_for 0 1 one 1)) (places 1 target.Nothing)
    × ArePlaces ledger (tx 1 8 (cancel 0 1 one 7)) (places 0 (target.Offer 0))
found = (
  record { account = refl; target = refl },
  record { account = refl; target = refl },
  record { account = refl; target = refl },
  record { account = refl; target = refl },
)

-- other places are not: of another account, of the payer in place of the payee, of what nothing names
others : (ArePlaces ledger (tx 2 1 (create 9)) (places 0 target.Nothing) → ⊥)
    × (ArePlaces ledger (tx 2 1 (pay 1 0 1)) (places 1 (target.Payee 1)) → ⊥)
    × (ArePlaces ledger (tx 2 1 (pay 1 0 1)) (places 1 target.Nothing) → ⊥)
    × (ArePlaces ledger (tx 1 8 (pay 1 0 1)) (places 0 (target.Offer 0)) → ⊥)
    × (ArePlaces ledger (tx 1 8 (create 2)) (places 0 (target.Payee 1)) → ⊥)
    × (ArePlaces ledger (tx 1 8 (sell_for 0 1 one 7)) (places 0 (target.Offer 0)) → ⊥)
    × (ArePlaces ledger (tx 1 8 (cancel 0 1 one 7)) (places 0 (target.Payee 0)) → ⊥)
    × (ArePlaces ledger (tx 1 8 (cancel 0 1 one 7)) (places 0 target.Nothing) → ⊥)
others = (
  λ p. let e = p.account in cc,
  λ p. let e = p.target in cc,
  λ p. p.target,
  λ p. p.target,
  λ p. let e = p.target in cc,
  λ p. let e = p.target in cc,
  λ p. p.target,
  λ p. p.target,
)
