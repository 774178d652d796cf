-- At a closing each refusal is one that the body shows.
use Rattle.std.proofs.Common.{◌≡◌, ◌≢◌, ℕ, true, false, List}
use Rattle.std.proofs.Common.{Some, inl, inr, refl, sym, ap, ◌∙◌, arith}
use Rattle.std.specs.Prelude.{slice_get}
use Rattle.std.proofs.lemmas.Option.{same_Some}
use Rattle.sx_outcome.specs.declared.outcome.Outcome.{Outcome}
use Rattle.sx_outcome.specs.declared.outcome.Outcome.TheVariants as outcome
use Rattle.sx_outcome.specs.Gathering.{Decision, decisions, is_accepted, keeps_number, body_of}
use Rattle.sx_outcome.specs.Gathering.{IsSeqTaken, IsOfferTaken, IsNameTaken}
use Rattle.sx_layout.specs.Asked.{number_of}
use Rattle.sx_layout.specs.Marks.{IsClosing, IsSet}
use Rattle.sx_layout.specs.Plan.{Plan, plan_of}
use Rattle.sx_layout.specs.PlanLaws.{Thing, Number, AnOffer, AName, spot_of}
use Rattle.sx_layout.proofs.AskedThings.{Asks, has_created, named_is, number_is, one_account, one_key, one_name}
use Rattle.sx_outcome.proofs.BodyElements.{in_body}
use Rattle.sx_outcome.proofs.BodyOrder.{kept}
use Rattle.sx_layout.proofs.ClosingBits.{asks_at, candidate_at, claimer, name_open, number_open, numbers_once, offer_open}
use Rattle.sx_layout.proofs.MarkCounts.{thing_of}
use Rattle.sx_layout.proofs.MarkedThings.{named}
use Rattle.sx_layout.proofs.RisingNumbers.{has, has_each_once}
use Rattle.sx_ledger.specs.declared.key.Key.{Key}
use Rattle.sx_ledger.specs.declared.parts.Parts.{Parts}
use Rattle.sx_ledger.specs.Body.{created, created_by}
use Rattle.sx_ledger.specs.Static.{window_of}
use Rattle.sx_tx.specs.declared.tx.Tx.{Tx}
use Rattle.sx_layout.proofs.NamedThings.{never_number, cancels_at, creates_at}

-- the parts of a number
abbrev place_part : Thing → ℕ
place_part (Number place number) = place
place_part (AnOffer place) = 0
place_part (AName index) = 0

abbrev number_part : Thing → ℕ
number_part (Number place number) = number
number_part (AnOffer place) = 0
number_part (AName index) = 0

not_a_number : (place a b : ℕ) → AnOffer place ≡ Number a b → ⊥
not_a_number place a b e = cc

no_number : (index a b : ℕ) → AName index ≡ Number a b → ⊥
no_number index a b e = cc

-- it names the thing, whose bit is set
pub record NamesSet (parts : Parts) (plan : Plan) (bits : ℕ → List ℕ) (tx : Tx) (thing : Thing) : Type 0 where
  pub names : named parts plan tx ≡ Some thing
  pub set : IsSet bits (spot_of plan thing).0 (spot_of plan thing).1

module _ (parts : Parts) (candidates : List Tx) (shards : ℕ) (outcomes : List Outcome) (purses bits : ℕ → List ℕ)
    (is : IsClosing parts candidates shards outcomes purses bits) where
  abbrev plan : Plan
  plan = plan_of parts candidates shards

  abbrev list : List Decision
  list = decisions candidates outcomes

  -- two decisions at one place are one
  one_decision : (i j : ℕ) (one other : Decision) → slice_get list i ≡ Some one → slice_get list j ≡ Some other → i ≡ j
      → one ≡ other
  one_decision i j one other at there same =
      same_Some one other (sym at ∙ ap (slice_get list) same ∙ there)

  pub seq_taken : (place : ℕ) (tx : Tx) → slice_get list place ≡ Some (record { tx = tx; outcome = outcome.SeqTaken })
      → Asks parts tx → IsSet bits (spot_of plan (number_of parts tx)).0 (spot_of plan (number_of parts tx)).1
      → IsSeqTaken list place tx
  seq_taken place tx at own set =
      let t = number_of parts tx in
      let who = claimer parts candidates shards outcomes purses bits is t (number_is parts candidates shards tx own)
      (number_open parts candidates shards outcomes purses bits is tx own) set in
      elim (thing_of parts plan who.one t who.among) [
        | inl keeps ↦
            let asked = asks_at parts candidates shards outcomes purses bits is who.place who.one who.stands keeps.0 in
            let account = one_account parts who.one.tx.account.0 tx.account.0 asked.own own.own
            (sym (ap place_part keeps.1)) in
            let number = ap number_part keeps.1 in
            let lasts = ap (λ (id : ℕ). (window_of parts.accounts id).last) account in
            let first = asked.above in
            let second = own.above in
            record {
              other = who.place;
              decision = who.one;
              stands = who.stands;
              another = λ e. differs who.one (one_decision who.place place who.one _ who.stands at e) keeps.0;
              account = account;
              seq = omega (arith, number, lasts, first, second);
              keeps = keeps.0;
            }
        | inr names ↦ absurd (never_number parts plan who.one.tx.account.0 _ _ who.one.tx.kind names.1)
      ]
    where
      differs : (one : Decision) → one ≡ record { tx = tx; outcome = outcome.SeqTaken }
          → keeps_number one.outcome ≡ true → ⊥
      differs one e keeps =
          let no : keeps_number one.outcome ≡ false = ap (λ (d : Decision). keeps_number d.outcome) e in cc

  -- whoever is accepted is another one
  another : (i j : ℕ) (one other : Decision) → slice_get list i ≡ Some one → slice_get list j ≡ Some other
      → is_accepted one.outcome ≡ true → is_accepted other.outcome ≡ false → keeps_number other.outcome ≡ true
      → one.tx ≢ other.tx
  another i j one other at there accepted refused keeps same =
      let place = numbers_once parts candidates shards outcomes purses bits is i j one other at there
      (ap (λ (tx : Tx). tx.account.0) same) (ap (λ (tx : Tx). tx.seq) same) (kept one accepted) keeps in
      let equal = ap (λ (d : Decision). is_accepted d.outcome) (one_decision i j one other at there place) in
      cc

  pub offer_taken : (place : ℕ) (tx : Tx) (offer : ℕ)
      → slice_get list place ≡ Some (record { tx = tx; outcome = outcome.OfferTaken })
      → Asks parts tx → NamesSet parts plan bits tx (AnOffer offer) → IsOfferTaken (body_of list) tx
  offer_taken place tx offer at own gone =
      let here : Decision = record { tx = tx; outcome = outcome.OfferTaken } in
      let there = named_is parts candidates shards place tx (AnOffer offer)
      (candidate_at candidates outcomes place here at)
      own gone.names in
      let who = claimer parts candidates shards outcomes purses bits is (AnOffer offer) there
      (offer_open parts candidates shards outcomes purses bits is offer) gone.set in
      elim (thing_of parts plan who.one (AnOffer offer) who.among) [
        | inl keeps ↦ absurd (not_a_number offer _ _ keeps.1)
        | inr names ↦
            let asked = asks_at parts candidates shards outcomes purses bits is who.place who.one who.stands
            (kept who.one names.0) in
            let mine = cancels_at parts plan tx offer own gone.names in
            let other = cancels_at parts plan who.one.tx offer asked names.1 in
            let same = one_key parts other.key mine.key other.known mine.known (other.at ∙ sym mine.at) in
            record {
              key = mine.key;
              cancels = mine.cancels;
              other = who.one.tx;
              within = in_body list who.place who.one who.stands names.0;
              too = other.cancels ∙ ap (λ (k : Key). Some k) same;
              another = another who.place place who.one here who.stands at names.0 refl refl;
            }
      ]

  new_id : (place : ℕ) (one : Decision) (id : ℕ) → slice_get list place ≡ Some one → created_by one.tx.kind ≡ Some id
      → has id plan.names ≡ true
  new_id place one id at creates =
      has_each_once id (created candidates)
      ∙ has_created candidates place one.tx id (candidate_at candidates outcomes place one at) creates

  pub name_taken : (place : ℕ) (tx : Tx) (index : ℕ)
      → slice_get list place ≡ Some (record { tx = tx; outcome = outcome.NameTaken })
      → Asks parts tx → NamesSet parts plan bits tx (AName index) → IsNameTaken (body_of list) tx
  name_taken place tx index at own gone =
      let here : Decision = record { tx = tx; outcome = outcome.NameTaken } in
      let there = named_is parts candidates shards place tx (AName index)
      (candidate_at candidates outcomes place here at)
      own gone.names in
      let who = claimer parts candidates shards outcomes purses bits is (AName index) there
      (name_open parts candidates shards outcomes purses bits is index) gone.set in
      elim (thing_of parts plan who.one (AName index) who.among) [
        | inl keeps ↦ absurd (no_number index _ _ keeps.1)
        | inr names ↦
            let mine = creates_at parts plan tx index gone.names in
            let other = creates_at parts plan who.one.tx index names.1 in
            let same = one_name candidates plan.names other.id mine.id
            (new_id who.place who.one other.id who.stands other.creates) (new_id place here mine.id at mine.creates)
            (other.at ∙ sym mine.at) in
            record {
              id = mine.id;
              creates = mine.creates;
              other = who.one.tx;
              within = in_body list who.place who.one who.stands names.0;
              too = other.creates ∙ ap (λ (n : ℕ). Some n) same;
              another = another who.place place who.one here who.stands at names.0 refl refl;
            }
      ]
