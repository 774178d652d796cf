-- What a candidate names, by its kind.
use Rattle.std.proofs.Common.{◌≡◌, ℕ, true, false}
use Rattle.std.proofs.Common.{Some, refl, ap}
use Rattle.std.proofs.lemmas.Bool.{not-false}
use Rattle.std.proofs.lemmas.Option.{same_Some}
use Rattle.sx_layout.specs.Plan.{Plan, offer_place, place_in}
use Rattle.sx_layout.specs.PlanLaws.{Number, AnOffer, AName}
use Rattle.sx_layout.proofs.AskedThings.{Asks}
use Rattle.sx_layout.proofs.MarkedThings.{named, named_by}
use Rattle.sx_ledger.specs.declared.key.Key.{Key}
use Rattle.sx_ledger.specs.declared.parts.Parts.{Parts}
use Rattle.sx_ledger.specs.Body.{cancelled_by, created_by}
use Rattle.sx_ledger.specs.Static.{cancels_unknown, has_offer}
use Rattle.sx_tx.specs.declared.kind.Kind.{Kind}
use Rattle.sx_tx.specs.declared.kind.Kind.TheVariants as kind
use Rattle.sx_tx.specs.declared.tx.Tx.{Tx}

pub never_number : (parts : Parts) (plan : Plan) (account place number : ℕ) (of : Kind)
    → named_by parts plan account of ≡ Some (Number place number) → ⊥
never_number parts plan account place number (kind.Pay asset to amount) names = cc
never_number parts plan account place number (kind.Create id) names = cc
never_number parts plan account place number (kind.Offer sell buy limit amount) names = cc
never_number parts plan account place number (kind.Cancel sell buy limit seq) names = cc

-- it cancels the offer of this key, which is there
pub record CancelsAt (parts : Parts) (tx : Tx) (of : Kind) (place : ℕ) : Type 0 where
  pub key : Key
  pub cancels : cancelled_by tx of ≡ Some key
  pub known : has_offer parts.offers key ≡ true
  pub at : offer_place parts key ≡ place

cancels_by : (parts : Parts) (plan : Plan) (tx : Tx) (of : Kind) (place : ℕ)
    → cancels_unknown parts.offers tx.account.0 of ≡ false → named_by parts plan tx.account.0 of ≡ Some (AnOffer place)
    → CancelsAt parts tx of place
cancels_by parts plan tx (kind.Pay asset to amount) place known names = absurd cc
cancels_by parts plan tx (kind.Create id) place known names = absurd cc
cancels_by parts plan tx (kind.Offer sell buy limit amount) place known names = absurd cc
cancels_by parts plan tx (kind.Cancel sell buy limit seq) place known names =
    let key : Key = record {
      sell = sell;
      buy = buy;
      limit = limit;
      account = record { 0 = tx.account.0 };
      seq =
          seq;
    } in
    record { key = key; cancels = refl; known = not-false (has_offer parts.offers key) known; at = cc }

pub cancels_at : (parts : Parts) (plan : Plan) (tx : Tx) (place : ℕ) → Asks parts tx
    → named parts plan tx ≡ Some (AnOffer place) → CancelsAt parts tx tx.kind place
cancels_at parts plan tx place is names = cancels_by parts plan tx tx.kind place is.offer names

-- it creates the account of this id
pub record CreatesAt (plan : Plan) (of : Kind) (index : ℕ) : Type 0 where
  pub id : ℕ
  pub creates : created_by of ≡ Some id
  pub at : place_in plan.names id ≡ index

creates_by : (parts : Parts) (plan : Plan) (account : ℕ) (of : Kind) (index : ℕ)
    → named_by parts plan account of ≡ Some (AName index) → CreatesAt plan of index
creates_by parts plan account (kind.Pay asset to amount) index names = absurd cc
creates_by parts plan account (kind.Create id) index names = record { id = id.0; creates = refl; at = cc }
creates_by parts plan account (kind.Offer sell buy limit amount) index names = absurd cc
creates_by parts plan account (kind.Cancel sell buy limit seq) index names = absurd cc

pub creates_at : (parts : Parts) (plan : Plan) (tx : Tx) (index : ℕ) → named parts plan tx ≡ Some (AName index)
    → CreatesAt plan tx.kind index
creates_at parts plan tx index names = creates_by parts plan tx.account.0 tx.kind index names

named_cancel : (parts : Parts) (plan : Plan) (tx : Tx) (of : Kind) (key : Key) → cancelled_by tx of ≡ Some key
    → named_by parts plan tx.account.0 of ≡ Some (AnOffer (offer_place parts key))
named_cancel parts plan tx (kind.Pay asset to amount) key cancels = absurd cc
named_cancel parts plan tx (kind.Create id) key cancels = absurd cc
named_cancel parts plan tx (kind.Offer sell buy limit amount) key cancels = absurd cc
named_cancel parts plan tx (kind.Cancel sell buy limit seq) key cancels =
    let own : Key = record { sell = sell; buy = buy; limit = limit; account = tx.account; seq = seq } in
    ap (λ (k : Key). Some (AnOffer (offer_place parts k))) (same_Some own key cancels)

pub names_cancelled : (parts : Parts) (plan : Plan) (tx : Tx) (key : Key) → cancelled_by tx tx.kind ≡ Some key
    → named parts plan tx ≡ Some (AnOffer (offer_place parts key))
names_cancelled parts plan tx key cancels = named_cancel parts plan tx tx.kind key cancels

named_create : (parts : Parts) (plan : Plan) (account : ℕ) (of : Kind) (id : ℕ) → created_by of ≡ Some id
    → named_by parts plan account of ≡ Some (AName (place_in plan.names id))
named_create parts plan account (kind.Pay asset to amount) id creates = absurd cc
named_create parts plan account (kind.Create made) id creates =
    ap (λ (n : ℕ). Some (AName (place_in plan.names n))) (same_Some made.0 id creates)
named_create parts plan account (kind.Offer sell buy limit amount) id creates = absurd cc
named_create parts plan account (kind.Cancel sell buy limit seq) id creates = absurd cc

pub names_created : (parts : Parts) (plan : Plan) (tx : Tx) (id : ℕ) → created_by tx.kind ≡ Some id
    → named parts plan tx ≡ Some (AName (place_in plan.names id))
names_created parts plan tx id creates = named_create parts plan tx.account.0 tx.kind id creates
