-- Offers whose owners are looked up once all are read.
use Rattle.std.proofs.Common.{◌≡◌, ℕ, zero, suc, true, List, ◌∷◌, Option, Some, Result, Ok, Err, refl, ap}
use Rattle.std.proofs.Common.{◌∙◌}
use Rattle.std.specs.List.{list_all}
use Rattle.sx_bytes.specs.declared.fault.Form.TheVariants as form
use Rattle.sx_bytes.specs.Cursor.{Cursor}
use Rattle.sx_bytes.specs.Grammar.{◌>>=◌, may_follow}
use Rattle.sx_bytes.proofs.Grammar.{bind_ok}
use Rattle.sx_bytes.proofs.Ordered.{and_parts}
use Rattle.sx_bytes.proofs.Parts.{made_is}
use Rattle.sx_ledger.specs.declared.account.Account.{Account}
use Rattle.sx_ledger.specs.declared.key.Key.{Key}
use Rattle.sx_ledger.specs.declared.offer.Offer.{Offer}
use Rattle.sx_state.specs.Decoding.{each_at, guarded, next_offer_at, offer_at, offers_at, placed_offer_at}
use Rattle.sx_state.specs.Decoding.{placed_offers_at}
use Rattle.sx_ledger.specs.Ledger.{has_owner}
use Rattle.sx_ledger.specs.Order.{key_before, key_of}
use Rattle.sx_state.proofs.EntriesInOrder.{each_more}

bind_assoc : {A B C E : Type 0} (r : Result A E) (f : A → Result B E) (g : B → Result C E)
    → (r >>= λ x. f x >>= g) ≡ ((r >>= f) >>= g)
bind_assoc (Ok x) f g = refl
bind_assoc (Err e) f g = refl

-- an offer by one of these accounts is an offer in its place whose owner is there
pub next_is : (accounts : List Account) (assets : ℕ) (before : Option Key) (c : Cursor)
    → next_offer_at accounts assets before c ≡ (placed_offer_at assets before c >>= λ placed.
    guarded (has_owner accounts placed.0) placed (record { at = c.place; fault = form.Owner }))
unfolding next_offer_at placed_offer_at
next_is accounts assets before c =
    bind_assoc (offer_at assets c)
    (λ offer. guarded (may_follow key_before before (key_of offer.0)) offer
    (record { at = c.place; fault = form.Order }))
    (λ placed. guarded (has_owner accounts placed.0) placed (record { at = c.place; fault = form.Owner }))

owned_next : (accounts : List Account) (assets : ℕ) (before : Option Key) (c next : Cursor) (offer : Offer)
    → placed_offer_at assets before c ≡ Ok (offer, next) → has_owner accounts offer ≡ true
    → next_offer_at accounts assets before c ≡ Ok (offer, next)
owned_next accounts assets before c next offer placed owned =
    rw (next_is accounts assets before c, placed, owned) refl

-- offers in order, all with owners
pub all_owned : (accounts : List Account) (assets n : ℕ) (before : Option Key) (c next : Cursor) (offers : List Offer)
    → placed_offers_at assets n before c ≡ Ok (offers, next) → list_all (has_owner accounts) offers ≡ true
    → offers_at accounts assets n before c ≡ Ok (offers, next)
unfolding each_at
all_owned accounts assets zero before c next offers e owned = e
all_owned accounts assets (suc n) before c next offers e owned =
    let a = bind_ok (placed_offer_at assets before c)
    (λ first. each_at (placed_offer_at assets) key_of n (Some (key_of first.0)) first.1 >>= λ others.
    Ok (first.0 ∷ others.0, others.1)) (offers, next) e in
    let b = bind_ok (each_at (placed_offer_at assets) key_of n (Some (key_of a.0.0)) a.0.1)
    (λ others. Ok (a.0.0 ∷ others.0, others.1)) (offers, next) a.2 in
    let made = made_is (a.0.0 ∷ b.0.0) offers b.0.1 next b.2 in
    let both = and_parts (has_owner accounts a.0.0) (list_all (has_owner accounts) b.0.0)
    (ap (list_all (has_owner accounts)) made.0 ∙ owned) in
    let first : next_offer_at accounts assets before c ≡ Ok (a.0.0, a.0.1) =
    owned_next accounts assets before c a.0.1 a.0.0 a.1 both.0 in
    let others : offers_at accounts assets n (Some (key_of a.0.0)) a.0.1 ≡ Ok (b.0.0, b.0.1) =
    all_owned accounts assets n (Some (key_of a.0.0)) a.0.1 b.0.1 b.0.0 b.1 both.1 in
    each_more (next_offer_at accounts assets) key_of n before c a.0.1 b.0.1 a.0.0 b.0.0 first others ∙ b.2
