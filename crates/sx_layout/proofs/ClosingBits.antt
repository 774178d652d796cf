-- At a closing each thing has at most one claimer, and what is set has one.
use Rattle.std.proofs.Common.{◌≡◌, ℕ, zero, suc, ◌-◌, ◌≤◌, true, List, [], ◌∷◌}
use Rattle.std.proofs.Common.{Some, Ok, inl, inr, sym, ap, ap₂, subst, ◌∙◌, arith}
use Rattle.std.specs.Prelude.{slice_get, slice_index}
use Rattle.std.specs.Int.{bit_at}
use Rattle.std.proofs.lemmas.Bool.{cases_order}
use Rattle.std.proofs.lemmas.Nat.Bits.{bit_at-zero, bit_at-lt}
use Rattle.std.proofs.lemmas.Option.{same_Some}
use Rattle.sx_outcome.specs.declared.outcome.Outcome.{Outcome}
use Rattle.sx_outcome.specs.declared.outcome.Outcome.TheVariants as outcome
use Rattle.sx_outcome.specs.Gathering.{Decision, decisions, keeps_number, NumbersOnce}
use Rattle.sx_layout.specs.Asked.{number_of}
use Rattle.sx_layout.specs.Marks.{Closes, IsClosing, IsSet}
use Rattle.sx_layout.specs.Plan.{Plan, account_place, plan_of, words_of}
use Rattle.sx_layout.specs.PlanLaws.{Thing, Number, AnOffer, AName, IsThing, opening_of, spot_of}
use Rattle.sx_layout.proofs.AskedThings.{Asks, asks, named_is, number_clear, number_is}
use Rattle.sx_outcome.proofs.BodyOrder.{kept}
use Rattle.sx_layout.proofs.MarkedThings.{named_by, things}
use Rattle.sx_layout.proofs.MarkCounts.{hits, hits_itself, hits_same, number_in, thing_of, times_all}
use Rattle.sx_layout.proofs.SpotLaws.{bits_are_apart}
use Rattle.sx_layout.proofs.PlanLaws.{bits_are_there}
use Rattle.sx_outcome.proofs.Totals.{total, two_places, some_place, In, in_counts, counts_in}
use Rattle.sx_ledger.specs.declared.parts.Parts.{Parts}
use Rattle.sx_ledger.specs.Static.{static_of, window_of}
use Rattle.sx_tx.specs.declared.kind.Kind.{Kind}
use Rattle.sx_tx.specs.declared.kind.Kind.TheVariants as kind
use Rattle.sx_tx.specs.declared.tx.Tx.{Tx}

pub candidate_at : (candidates : List Tx) (outcomes : List Outcome) (place : ℕ) (one : Decision)
    → slice_get (decisions candidates outcomes) place ≡ Some one → slice_get candidates place ≡ Some one.tx
candidate_at [] outcomes place one at = absurd cc
candidate_at (tx ∷ txs) [] place one at = absurd cc
candidate_at (tx ∷ txs) (first ∷ outcomes) zero one at =
    ap (λ (d : Decision). Some d.tx) (same_Some (record { tx = tx; outcome = first }) one at)
candidate_at (tx ∷ txs) (first ∷ outcomes) (suc place) one at = candidate_at txs outcomes place one at

-- a candidate that keeps its number passes the static test
kept_passes : (parts : Parts) (plan : Plan) (purses bits : ℕ → List ℕ) (tx : Tx) (of : Outcome)
    → Closes parts plan purses bits tx of → keeps_number of ≡ true → static_of parts tx ≡ Ok tt
kept_passes parts plan purses bits tx outcome.Accepted closes keeps = closes
kept_passes parts plan purses bits tx (outcome.Static why) closes keeps = absurd cc
kept_passes parts plan purses bits tx outcome.SeqTaken closes keeps = absurd cc
kept_passes parts plan purses bits tx outcome.OfferTaken closes keeps = closes.0
kept_passes parts plan purses bits tx outcome.NameTaken closes keeps = closes.0
kept_passes parts plan purses bits tx (outcome.Overdraft seen need) closes keeps = closes.0

module _ (parts : Parts) (candidates : List Tx) (shards : ℕ) (outcomes : List Outcome) (purses bits : ℕ → List ℕ)
    (is : IsClosing parts candidates shards outcomes purses bits) where
  abbrev plan : Plan
  plan = plan_of parts candidates shards

  abbrev list : List Decision
  list = decisions candidates outcomes

  pub passes_at : (place : ℕ) (one : Decision) → slice_get list place ≡ Some one → keeps_number one.outcome ≡ true
      → static_of parts one.tx ≡ Ok tt
  passes_at place one at keeps = kept_passes parts plan purses bits one.tx one.outcome (is.closes place one at) keeps

  pub asks_at : (place : ℕ) (one : Decision) → slice_get list place ≡ Some one → keeps_number one.outcome ≡ true
      → Asks parts one.tx
  asks_at place one at keeps = asks parts one.tx (passes_at place one at keeps)

  thing_there : (place : ℕ) (one : Decision) (t : Thing) → slice_get list place ≡ Some one →
      In t (things parts plan one)
      → IsThing plan t
  thing_there place one t at among =
      elim (thing_of parts plan one t among) [
        | inl own ↦ subst (IsThing plan) (sym own.1)
            (number_is parts candidates shards one.tx (asks_at place one at own.0))
        | inr names ↦
            named_is parts candidates shards place one.tx t (candidate_at candidates outcomes place one at)
            (asks_at place one at (kept one names.0)) names.1
      ]

  abbrev claims : Thing → Decision → ℕ
  claims t one = total (hits plan (spot_of plan t)) (things parts plan one)

  -- the bits of things that candidates have are clear at the opening
  abbrev IsOpen : Thing → Type 0
  IsOpen t = bit_at (opening_of parts t) (spot_of plan t).1 ≡ 0

  pub offer_open : (place : ℕ) → IsOpen (AnOffer place)
  offer_open place = bit_at-zero (spot_of plan (AnOffer place)).1

  pub name_open : (index : ℕ) → IsOpen (AName index)
  name_open index = bit_at-zero (spot_of plan (AName index)).1

  pub number_open : (tx : Tx) → Asks parts tx → IsOpen (number_of parts tx)
  number_open tx asked = number_clear parts tx is.laid_out.ledger asked

  named_open : (tx : Tx) (of : Kind) (t : Thing) → named_by parts plan tx.account.0 of ≡ Some t → IsOpen t
  named_open tx (kind.Pay asset to amount) t names = absurd cc
  named_open tx (kind.Create id) t names = subst IsOpen (same_Some (AName _) t names) (name_open _)
  named_open tx (kind.Offer sell buy limit amount) t names = absurd cc
  named_open tx (kind.Cancel sell buy limit seq) t names = subst IsOpen (same_Some (AnOffer _) t names) (offer_open _)

  thing_open : (place : ℕ) (one : Decision) (t : Thing) → slice_get list place ≡ Some one →
      In t (things parts plan one)
      → IsOpen t
  thing_open place one t at among =
      elim (thing_of parts plan one t among) [
        | inl own ↦ subst IsOpen (sym own.1) (number_open one.tx (asks_at place one at own.0))
        | inr names ↦ named_open one.tx one.tx.kind t names.1
      ]

  -- so the bit of a thing is set as often as it is claimed
  adds_up : (t : Thing) → IsThing plan t → IsOpen t → total (claims t) list
      ≡ bit_at (slice_index (bits (spot_of plan t).0.shard) (spot_of plan t).0.word) (spot_of plan t).1
  adds_up t there clear =
      let spot = spot_of plan t in
      let has = bits_are_there parts candidates shards t is.laid_out there in
      let sum = (is.bits_add_up spot.0.shard has.shard).adds_up spot.0.word spot.1 in
      let none : bit_at (slice_index (words_of plan.bits spot.0.shard) spot.0.word) spot.1 ≡ 0 =
      ap (λ (w : ℕ). bit_at w spot.1) has.opening ∙ clear in
      let all = times_all parts plan spot list in
      omega (arith, sum, none, all)

  claims_itself : (t : Thing) (one : Decision) → In t (things parts plan one) → 1 ≤ claims t one
  claims_itself t one among =
      omega (arith, hits_itself plan t, in_counts (hits plan (spot_of plan t)) t (things parts plan one) among)

  pub one_claimer : (t : Thing) → IsThing plan t → (i j : ℕ) (one other : Decision) → slice_get list i ≡ Some one
      → slice_get list j ≡ Some other → In t (things parts plan one) → In t (things parts plan other) → i ≡ j
  one_claimer t there i j one other at at_other among too =
      let spot = spot_of plan t in
      let word = slice_index (bits spot.0.shard) spot.0.word in
      let sum = adds_up t there (thing_open i one t at among) in
      let small = bit_at-lt word spot.1 in
      let first = claims_itself t one among in
      let second = claims_itself t other too in
      elim (cases_order i j) [
        | inl e ↦ e
        | inr (inl lt) ↦ absurd (omega (
          arith,
          sum,
          small,
          first,
          second,
          two_places (claims t) list i j one other lt at at_other,
        ))
        | inr (inr gt) ↦ absurd (omega (
          arith,
          sum,
          small,
          first,
          second,
          two_places (claims t) list j i other one gt at_other at,
        ))
      ]

  pub record Claimer (t : Thing) : Type 0 where
    pub place : ℕ
    pub one : Decision
    pub stands : slice_get list place ≡ Some one
    pub among : In t (things parts plan one)

  pub claimer : (t : Thing) → IsThing plan t → IsOpen t → IsSet bits (spot_of plan t).0 (spot_of plan t).1 → Claimer t
  claimer t there clear set =
      let at = some_place (claims t) list (let sum = adds_up t there clear in omega (arith, sum, set)) in
      let found = counts_in (hits plan (spot_of plan t)) (things parts plan at.entry) at.counts in
      let same = bits_are_apart parts candidates shards found.entry t is.laid_out
      (thing_there at.place at.entry found.entry at.stands found.among) there
      (hits_same plan (spot_of plan t) found.entry found.counts) in
      record {
        place = at.place;
        one = at.entry;
        stands = at.stands;
        among = subst (λ (x : Thing). In x (things parts plan at.entry)) same found.among;
      }

  -- two that keep one number are one
  pub numbers_once : NumbersOnce list
  numbers_once i j one other at at_other account seq keeps too =
      let number : ℕ → ℕ → Thing = λ a s. Number (account_place parts a) (s - (window_of parts.accounts a).last - 1) in
      let same : number_of parts other.tx ≡ number_of parts one.tx = ap₂ number (sym account) (sym seq) in
      one_claimer (number_of parts one.tx) (number_is parts candidates shards one.tx (asks_at i one at keeps)) i j
      one other
      at at_other (number_in parts plan one keeps)
      (subst (λ (t : Thing). In t (things parts plan other)) same (number_in parts plan other too))
