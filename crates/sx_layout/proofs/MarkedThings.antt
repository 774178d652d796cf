-- The marks of a decided candidate as those of the things that it has and of what it has taken out of a purse.
use Rattle.std.proofs.Common.{◌≡◌, ℕ, Bool, true, false, List, [], ◌∷◌, ◌++◌, Option, Some, None, refl, sym, ap, ◌∙◌}
use Rattle.std.proofs.Common.{append-nil}
use Rattle.std.specs.Prelude.{if◌then◌else◌, option_to_list}
use Rattle.std.specs.List.{flat_map}
use Rattle.sx_base.specs.declared.asset_id.AssetId.{AssetId}
use Rattle.sx_base.specs.declared.seq.Seq.{Seq}
use Rattle.sx_event.specs.declared.marks.Claim.{Claim}
use Rattle.sx_layout.specs.Asked.{number_of, wanted_by}
use Rattle.sx_outcome.specs.Gathering.{Decision, is_accepted, keeps_number}
use Rattle.sx_layout.specs.Marks.{bit_mark, debit_mark, wanted_mark, marks_of}
use Rattle.sx_layout.specs.Plan.{Plan, account_place, offer_place, place_in, purse_spot}
use Rattle.sx_layout.specs.PlanLaws.{Thing, AnOffer, AName, spot_of}
use Rattle.sx_ledger.specs.declared.key.Key.{Key}
use Rattle.sx_ledger.specs.declared.parts.Parts.{Parts}
use Rattle.sx_ledger.specs.Effects.{Posting, debit, debit_of}
use Rattle.sx_price.specs.declared.limit.Limit.{Limit}
use Rattle.sx_tx.specs.declared.kind.Kind.{Kind}
use Rattle.sx_tx.specs.declared.kind.Kind.TheVariants as kind
use Rattle.sx_tx.specs.declared.tx.Tx.{Tx}

-- the offer that a candidate cancels, or the id that it creates
abbrev pub named_by : Parts → Plan → ℕ → Kind → Option Thing
named_by parts plan account (kind.Pay asset to amount) = None
named_by parts plan account (kind.Create id) = Some (AName (place_in plan.names id.0))
named_by parts plan account (kind.Offer sell buy limit amount) = None
named_by parts plan account (kind.Cancel sell buy limit seq) =
    let key : Key = record { sell = sell; buy = buy; limit = limit; account = record { 0 = account }; seq = seq } in
    Some (AnOffer (offer_place parts key))

abbrev pub named : Parts → Plan → Tx → Option Thing
named parts plan tx = named_by parts plan tx.account.0 tx.kind

-- the things of which a decided candidate has the bits, and what it has taken out of a purse
abbrev pub things : Parts → Plan → Decision → List Thing
things parts plan one =
    (if keeps_number one.outcome then number_of parts one.tx ∷ [] else [])
    ++ (if is_accepted one.outcome then option_to_list (named parts plan one.tx) else [])

abbrev pub taken : Decision → Option Posting
taken one = if is_accepted one.outcome then debit one.tx else None

-- their claims, if their words are in this shard
abbrev pub thing_mark : Plan → ℕ → Thing → List Claim
thing_mark plan shard thing = bit_mark shard (spot_of plan thing).0 (spot_of plan thing).1

abbrev pub posting_mark : Parts → Plan → ℕ → Option Posting → List Claim
posting_mark parts plan shard None = []
posting_mark parts plan shard (Some posting) =
    debit_mark shard (purse_spot plan (account_place parts posting.account) posting.asset) posting.units

-- ---- the marks of one

module _ (parts : Parts) (plan : Plan) (shard account : ℕ) (number : Thing) where
  abbrev mark : Thing → List Claim
  mark thing = thing_mark plan shard thing

  abbrev all_things : Bool → Bool → Kind → List Thing
  all_things keeps accepted of =
      (if keeps then number ∷ [] else [])
      ++ (if accepted then option_to_list (named_by parts plan account of) else [])

  abbrev are : Bool → Bool → Kind → Type 0
  are keeps accepted of =
      ((if keeps then mark number else []) ++ (if accepted then wanted_mark shard (wanted_by parts plan account of) else []))
      ≡ flat_map mark (all_things keeps accepted of)
      ++ posting_mark parts plan shard (if accepted then debit_of account of else None)

  abbrev own_key : AssetId → AssetId → Limit → Seq → Key
  own_key sell buy limit seq =
      record { sell = sell; buy = buy; limit = limit; account = record { 0 = account }; seq = seq }

  first : (rest : List Claim) → mark number ++ rest ≡ (mark number ++ []) ++ rest
  first rest = ap (λ (c : List Claim). c ++ rest) (sym (append-nil (mark number)))

  -- after the number, the claim of one more thing
  second : (before : List Claim) (thing : Thing) → before ++ mark thing ≡ (before ++ (mark thing ++ [])) ++ []
  second before thing =
      ap (λ (c : List Claim). before ++ c) (sym (append-nil (mark thing))) ∙ sym (append-nil (before ++ (mark thing ++ [])))

  marks_by : (keeps accepted : Bool) (of : Kind) → are keeps accepted of
  marks_by true true (kind.Pay asset to amount) =
      first (wanted_mark shard (wanted_by parts plan account (kind.Pay asset to amount)))
  marks_by true true (kind.Create id) = second (mark number) (AName (place_in plan.names id.0))
  marks_by true true (kind.Offer sell buy limit amount) =
      first (wanted_mark shard (wanted_by parts plan account (kind.Offer sell buy limit amount)))
  marks_by true true (kind.Cancel sell buy limit seq) =
      second (mark number) (AnOffer (offer_place parts (own_key sell buy limit seq)))
  marks_by true false of = first []
  marks_by false true (kind.Pay asset to amount) = refl
  marks_by false true (kind.Create id) = second [] (AName (place_in plan.names id.0))
  marks_by false true (kind.Offer sell buy limit amount) = refl
  marks_by false true (kind.Cancel sell buy limit seq) =
      second [] (AnOffer (offer_place parts (own_key sell buy limit seq)))
  marks_by false false of = refl

pub marks_are : (parts : Parts) (plan : Plan) (shard : ℕ) (one : Decision)
    → marks_of parts plan shard one
    ≡ flat_map (thing_mark plan shard) (things parts plan one) ++ posting_mark parts plan shard (taken one)
marks_are parts plan shard one =
    marks_by parts plan shard one.tx.account.0 (number_of parts one.tx) (keeps_number one.outcome)
    (is_accepted one.outcome) one.tx.kind
