-- What a candidate asks for that the ledger does not refuse: its words are there, and its bits are clear at the opening.
use Rattle.std.proofs.Common.{◌≡◌, ℕ, ◌<◌, List, length, Some, Ok, refl, sym, ap, ◌∙◌}
use Rattle.std.specs.Prelude.{Contains, slice_get, ◌==◌}
use Rattle.std.specs.Int.{bit_at}
use Rattle.std.proofs.lemmas.Nat.Bits.{bit_at-zero}
use Rattle.std.proofs.lemmas.Option.{slice_get_read}
use Rattle.sx_layout.specs.Asked.{IsBitSpot, IsClear, IsPurseSpot, IsWanted, IsWantedClear, number_of, wanted_by}
use Rattle.sx_layout.specs.AskedLaws.{AskedIsClear, AskedIsThere}
use Rattle.sx_layout.specs.Plan.{Plan, account_place, offer_place, place_in, plan_of, purse_spot}
use Rattle.sx_layout.specs.PlanLaws.{AName, AnOffer, IsLaidOut, IsThing, Thing, opening_of, spot_of}
use Rattle.sx_layout.proofs.AskedThings.{Asks, asks, has_id, named_is, number_clear, number_is}
use Rattle.sx_layout.proofs.DebitPlaces.{debit_at}
use Rattle.sx_layout.proofs.MarkedThings.{named_by}
use Rattle.sx_layout.proofs.PlanLaws.{bits_are_there, purses_are_there}
use Rattle.sx_outcome.proofs.Totals.{found}
use Rattle.sx_ledger.specs.declared.account.Account.{Account}
use Rattle.sx_ledger.specs.declared.key.Key.{Key}
use Rattle.sx_ledger.specs.declared.parts.Parts.{Parts}
use Rattle.sx_ledger.specs.Effects.{debit_of}
use Rattle.sx_ledger.specs.Ledger.{assets_of, ids}
use Rattle.sx_ledger.specs.Static.{static_of}
use Rattle.sx_ledger.proofs.Lookup.{entry_at}
use Rattle.sx_tx.specs.declared.kind.Kind.{Kind}
use Rattle.sx_tx.specs.declared.kind.Kind.TheVariants as kind
use Rattle.sx_tx.specs.declared.tx.Tx.{Tx}

pub candidate_stands : (xs : List Tx) (tx : Tx) → (own : Contains xs tx) → slice_get xs own.0 ≡ Some tx
candidate_stands xs tx own = slice_get_read xs (length xs) own.0 tx refl own.1 (sym own.2)

module _ (parts : Parts) (candidates : List Tx) (shards : ℕ) (tx : Tx) (laid : IsLaidOut parts candidates shards)
    (own : Contains candidates tx) (passes : static_of parts tx ≡ Ok tt) where
  abbrev plan : Plan
  plan = plan_of parts candidates shards

  ask : Asks parts tx
  ask = asks parts tx passes

  bit_there : (thing : Thing) → IsThing plan thing → IsBitSpot plan (spot_of plan thing).0 (spot_of plan thing).1
  bit_there thing there =
      let has = bits_are_there parts candidates shards thing laid there in
      record { shard = has.shard; word = has.word; below = has.bit }

  purse_there : (asset : ℕ) → asset < assets_of parts
      → IsPurseSpot plan (purse_spot plan (account_place parts tx.account.0) asset)
  purse_there asset small =
      let place = account_place parts tx.account.0 in
      let at = found (λ (other : ℕ). other == tx.account.0) (ids parts.accounts)
      (has_id parts.accounts tx.account.0 ask.own) in
      let entry = entry_at (λ (a : Account). a.id.0) parts.accounts place at.entry at.stands in
      let has = purses_are_there parts candidates shards place asset entry.0 laid entry.1 small in
      record { shard = has.shard; word = has.word }

  thing_there : (of : Kind) → tx.kind ≡ of → (thing : Thing) → named_by parts plan tx.account.0 of ≡ Some thing
      → IsThing plan thing
  thing_there of same thing names =
      named_is parts candidates shards own.0 tx thing (candidate_stands candidates tx own) ask
      (ap (named_by parts plan tx.account.0) same ∙ names)

  wanted_there : (of : Kind) → tx.kind ≡ of → IsWanted plan (wanted_by parts plan tx.account.0 of)
  wanted_there (kind.Pay asset to amount) same =
      purse_there asset
      (debit_at parts tx (record { account = tx.account.0; asset = asset; units = amount }) ask
      (ap (debit_of tx.account.0) same)).small
  wanted_there (kind.Create id) same =
      let thing = AName (place_in plan.names id.0) in
      bit_there thing (thing_there (kind.Create id) same thing refl)
  wanted_there (kind.Offer sell buy limit amount) same =
      purse_there sell
      (debit_at parts tx (record { account = tx.account.0; asset = sell; units = amount }) ask
      (ap (debit_of tx.account.0) same)).small
  wanted_there (kind.Cancel sell buy limit seq) same =
      let key : Key = record {
        sell = sell;
        buy = buy;
        limit = limit;
        account = record { 0 = tx.account.0 };
        seq = seq;
      } in
      let thing = AnOffer (offer_place parts key) in
      bit_there thing (thing_there (kind.Cancel sell buy limit seq) same thing refl)

  -- ---- at the opening

  bit_clear : (thing : Thing) → IsThing plan thing → bit_at (opening_of parts thing) (spot_of plan thing).1 ≡ 0
      → IsClear plan (spot_of plan thing).0 (spot_of plan thing).1
  bit_clear thing there none =
      let has = bits_are_there parts candidates shards thing laid there in
      ap (λ (w : ℕ). bit_at w (spot_of plan thing).1) has.opening ∙ none

  wanted_clear : (of : Kind) → tx.kind ≡ of → IsWantedClear plan (wanted_by parts plan tx.account.0 of)
  wanted_clear (kind.Pay asset to amount) same = tt
  wanted_clear (kind.Create id) same =
      let thing = AName (place_in plan.names id.0) in
      bit_clear thing (thing_there (kind.Create id) same thing refl) (bit_at-zero (spot_of plan thing).1)
  wanted_clear (kind.Offer sell buy limit amount) same = tt
  wanted_clear (kind.Cancel sell buy limit seq) same =
      let key : Key = record {
        sell = sell;
        buy = buy;
        limit = limit;
        account = record { 0 = tx.account.0 };
        seq = seq;
      } in
      let thing = AnOffer (offer_place parts key) in
      bit_clear thing (thing_there (kind.Cancel sell buy limit seq) same thing refl) (bit_at-zero (spot_of plan thing).1)

pub asked_there : AskedIsThere
asked_there parts candidates shards tx laid own passes =
    let ask = asks parts tx passes in
    record {
      number = bit_there parts candidates shards tx laid own passes (number_of parts tx)
          (number_is parts candidates shards tx ask);
      wanted = wanted_there parts candidates shards tx laid own passes tx.kind refl;
    }

pub asked_clear : AskedIsClear
asked_clear parts candidates shards tx laid own passes =
    let ask = asks parts tx passes in
    record {
      number = bit_clear parts candidates shards tx laid own passes (number_of parts tx)
          (number_is parts candidates shards tx ask) (number_clear parts tx laid.ledger ask);
      wanted = wanted_clear parts candidates shards tx laid own passes tx.kind refl;
    }
