-- Offers that are decoded first and tested then.
use Rattle.std.proofs.Common.{◌≡◌, ℕ, zero, suc, ◌-◌, ◌≤◌, Bool, true, List, [], ◌∷◌, length, Option, Some, None}
use Rattle.std.proofs.Common.{Ok, refl, sym, ap, subst, ◌∙◌, arith}
use Rattle.std.specs.Prelude.{slice_get}
use Rattle.std.specs.List.{list_all}
use Rattle.sx_bytes.specs.Cursor.{Cursor}
use Rattle.sx_bytes.specs.declared.fault.Form.TheVariants as form
use Rattle.sx_bytes.specs.Grammar.{between, field_at, ◌>>=◌, many_at, may_follow}
use Rattle.sx_bytes.proofs.Grammar.{bind_ok}
use Rattle.sx_bytes.proofs.Ordered.{and_parts}
use Rattle.sx_bytes.proofs.Parts.{made_is}
use Rattle.sx_ledger.specs.declared.account.Account.{Account}
use Rattle.sx_ledger.specs.declared.key.Key.{Key}
use Rattle.sx_ledger.specs.declared.offer.Offer.{Offer}
use Rattle.sx_state.specs.Decoding.{offer_list_at, each_at, next_offer_at, offer_at, offers_at}
use Rattle.sx_ledger.specs.Ledger.{has_owner, most_offers}
use Rattle.sx_ledger.specs.Order.{key_before, key_of}
use Rattle.sx_state.specs.SoundOffers.{AreAhead, AreOffersAt, listed_at, AreTold, all_stand, key_ahead, may_stand}
use Rattle.sx_state.proofs.EntriesInOrder.{each_more}

-- an offer that may stand at its place is the next one
stands_next : (accounts : List Account) (assets : ℕ) (before : Option Key) (c next : Cursor) (offer : Offer)
    → offer_at assets c ≡ Ok (offer, next) → may_stand accounts before offer ≡ true
    → next_offer_at accounts assets before c ≡ Ok (offer, next)
unfolding next_offer_at
stands_next accounts assets before c next offer decoded stands =
    let both = and_parts (may_follow key_before before (key_of offer)) (has_owner accounts offer) stands in
    rw decoded (rw both.0 (rw both.1 refl))

-- offers of which each may stand at its place are those of a state
pub all_sound : (accounts : List Account) (assets n : ℕ) (before : Option Key) (c next : Cursor) (offers : List Offer)
    → many_at (offer_at assets) n c ≡ Ok (offers, next) → all_stand accounts before offers ≡ true
    → offers_at accounts assets n before c ≡ Ok (offers, next)
unfolding each_at many_at all_stand
all_sound accounts assets zero before c next offers e stand = e
all_sound accounts assets (suc n) before c next offers e stand =
    let a = bind_ok (offer_at assets c) (λ first. many_at (offer_at assets) n first.1 >>= λ others.
    Ok (first.0 ∷ others.0, others.1)) (offers, next) e in
    let b = bind_ok (many_at (offer_at assets) n a.0.1) (λ others. Ok (a.0.0 ∷ others.0, others.1)) (offers, next)
    a.2 in
    let made = made_is (a.0.0 ∷ b.0.0) offers b.0.1 next b.2 in
    let both = and_parts (may_stand accounts before a.0.0) (all_stand accounts (Some (key_of a.0.0)) b.0.0)
    (ap (all_stand accounts before) made.0 ∙ stand) in
    let first : next_offer_at accounts assets before c ≡ Ok (a.0.0, a.0.1) =
    stands_next accounts assets before c a.0.1 a.0.0 a.1 both.0 in
    let others : offers_at accounts assets n (Some (key_of a.0.0)) a.0.1 ≡ Ok (b.0.0, b.0.1) =
    all_sound accounts assets n (Some (key_of a.0.0)) a.0.1 b.0.1 b.0.0 b.1 both.1 in
    each_more (next_offer_at accounts assets) key_of n before c a.0.1 b.0.1 a.0.0 b.0.0 first others ∙ b.2

-- the same with their number before them
pub all_listed : (accounts : List Account) (assets : ℕ) (c next : Cursor) (offers : List Offer)
    → listed_at assets c ≡ Ok (offers, next) → all_stand accounts None offers ≡ true
    → offer_list_at accounts assets c ≡ Ok (offers, next)
unfolding listed_at offer_list_at
all_listed accounts assets c next offers e stand =
    let a = bind_ok (field_at 4 (between 0 most_offers) form.TooMany c)
    (λ count. many_at (offer_at assets) count.0 count.1) (offers, next) e in
    rw a.1 (all_sound accounts assets a.0.0 None a.0.1 next offers a.2 stand)

-- the number of offers, and so many offers after it
pub listed_is : (payload : List ℕ) (from mid : Cursor) (assets count place begin end : ℕ) (offers : List Offer)
    → from ≡ record { bytes = payload; place = begin }
    → field_at 4 (between 0 most_offers) form.TooMany from ≡ Ok (count, mid) → mid.bytes ≡ from.bytes
    → place ≡ mid.place → AreOffersAt payload assets place count offers end
    → AreAhead assets (record { bytes = payload; place = begin }) offers end
unfolding listed_at
listed_is payload from mid assets count place begin end offers from_is read same place_is decoded =
    let bytes : payload ≡ mid.bytes = sym (same ∙ ap (λ (c : Cursor). c.bytes) from_is) in
    let begins : record { bytes = payload; place = place } ≡ mid =
    ap (λ (xs : List ℕ). record { bytes = xs; place = place }) bytes
    ∙ ap (λ (p : ℕ). record { bytes = mid.bytes; place = p }) place_is in
    let many : many_at (offer_at assets) count mid ≡ Ok (offers, record { bytes = payload; place = end }) =
    subst (λ (c : Cursor). many_at (offer_at assets) count c ≡ Ok (offers, record { bytes = payload; place = end }))
    begins decoded in
    subst (λ (c : Cursor). listed_at assets c ≡ Ok (offers, record { bytes = payload; place = end })) from_is
    (rw read many)

-- all are told to stand where all may
pub told_all : (accounts : List Account) (before : Option Key) (offers : List Offer) (told : List Bool)
    → length told ≡ length offers → AreTold accounts before offers told
    → list_all (λ b. b) told ≡ all_stand accounts before offers
unfolding key_ahead all_stand
told_all accounts before [] [] same are = refl
told_all accounts before [] (b ∷ told) same are = absurd (omega arith)
told_all accounts before (offer ∷ offers) [] same are = absurd (omega arith)
told_all accounts before (offer ∷ offers) (b ∷ told) same are =
    let first : b ≡ may_stand accounts before offer = are 0 true (omega arith) offer refl in
    let others : list_all (λ b. b) told ≡ all_stand accounts (Some (key_of offer)) offers =
    told_all accounts (Some (key_of offer)) offers told (omega arith) (λ place d lt. are (suc place) d (omega arith)) in
    rw (first, others) refl

key_after : (offers : List Offer) (before : Option Key) (place : ℕ) (offer : Offer)
    → slice_get offers place ≡ Some offer → key_ahead before offers (suc place) ≡ Some (key_of offer)
unfolding key_ahead
key_after [] before place offer e = absurd cc
key_after (first ∷ offers) before zero offer e =
    let same : first ≡ offer = cc in
    ap (λ (o : Offer). Some (key_of o)) same
key_after (first ∷ offers) before (suc place) offer e = key_after offers (Some (key_of first)) place offer e

-- the key before the first place
pub key_first : (before : Option Key) (offers : List Offer) → key_ahead before offers 0 ≡ before
unfolding key_ahead
key_first before [] = refl
key_first before (first ∷ offers) = refl

-- the key before a place that is not the first
pub key_at : (offers : List Offer) (before : Option Key) (place : ℕ) (offer : Offer)
    → 1 ≤ place → slice_get offers (place - 1) ≡ Some offer → Some (key_of offer) ≡ key_ahead before offers place
key_at offers before place offer some e =
    let next : suc (place - 1) ≡ place = omega (arith, some) in
    sym (key_after offers before (place - 1) offer e) ∙ ap (key_ahead before offers) next
