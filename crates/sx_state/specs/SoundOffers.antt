-- Offers that are decoded first, and of which it is tested then whether each stands after the one before it and has an
-- owner, place by place.
use Rattle.std.specs.Prelude.{◌≡◌, ℕ, zero, suc, ◌<◌, Bool, true, ◌&&◌, List, [], ◌∷◌, length, Option, Some, None, Result}
use Rattle.std.specs.Prelude.{Ok, slice_get, slice_index_or}
use Rattle.sx_bytes.specs.declared.fault.Form.TheVariants as form
use Rattle.sx_bytes.specs.declared.fault.FormFault.{FormFault}
use Rattle.sx_bytes.specs.Cursor.{Cursor}
use Rattle.sx_bytes.specs.Grammar.{◌>>=◌, between, field_at, many_at, may_follow}
use Rattle.sx_ledger.specs.declared.account.Account.{Account}
use Rattle.sx_ledger.specs.declared.key.Key.{Key}
use Rattle.sx_ledger.specs.declared.offer.Offer.{Offer}
use Rattle.sx_state.specs.Decoding.{offer_at}
use Rattle.sx_ledger.specs.Ledger.{has_owner, most_offers}
use Rattle.sx_ledger.specs.Order.{key_before, key_of}

-- so many offers at a place of the bytes, whatever order they stand in and whoever they are of, and where they end
abbrev pub AreOffersAt : List ℕ → ℕ → ℕ → ℕ → List Offer → ℕ → Type 0
AreOffersAt bytes assets place count offers end =
    many_at (offer_at assets) count (record { bytes = bytes; place = place })
    ≡ Ok (offers, record { bytes = bytes; place = end })

-- the number of offers, and so many of them, whatever order they stand in and whoever they are of
unfoldable pub listed_at : ℕ → Cursor → Result (List Offer × Cursor) FormFault
listed_at assets c = do
  count ← field_at 4 (between 0 most_offers) form.TooMany c
  many_at (offer_at assets) count.0 count.1

-- these are the offers at a place, and they end there
abbrev pub AreAhead : ℕ → Cursor → List Offer → ℕ → Type 0
AreAhead assets c offers end = listed_at assets c ≡ Ok (offers, record { bytes = c.bytes; place = end })

-- the key before the offer at a place, where the first one has this key before it
unfoldable pub key_ahead : Option Key → List Offer → ℕ → Option Key
key_ahead before offers zero = before
key_ahead before [] (suc place) = None
key_ahead before (offer ∷ offers) (suc place) = key_ahead (Some (key_of offer)) offers place

-- an offer may stand after this key, and has an owner
abbrev pub may_stand : List Account → Option Key → Offer → Bool
may_stand accounts before offer = may_follow key_before before (key_of offer) && has_owner accounts offer

-- whether the offer at a place may stand there
abbrev pub IsTold : List Account → Option Key → List Offer → ℕ → Bool → Type 0
IsTold accounts before offers place told =
    (offer : Offer) → slice_get offers place ≡ Some offer
    → told ≡ may_stand accounts (key_ahead before offers place) offer

abbrev pub AreTold : List Account → Option Key → List Offer → List Bool → Type 0
AreTold accounts before offers told =
    (place : ℕ) (d : Bool) → place < length told → IsTold accounts before offers place (slice_index_or told place d)

-- each of the offers may stand after the one before it
unfoldable pub all_stand : List Account → Option Key → List Offer → Bool
all_stand accounts before [] = true
all_stand accounts before (offer ∷ offers) =
    may_stand accounts before offer && all_stand accounts (Some (key_of offer)) offers
