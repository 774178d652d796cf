-- Outcomes at which a gathering may close are outcomes of gathering.
use Rattle.std.proofs.Common.{◌≡◌, ℕ, ◌+◌, ◌≤◌, Bool, true, false, List, length}
use Rattle.std.proofs.Common.{Option, Some, None, Result, Ok, Err, inl, inr, refl, sym, ap, ◌∙◌, arith}
use Rattle.std.specs.Prelude.{slice_get, nat_eq, nat_lt, if◌then◌else◌, ◌==◌}
use Rattle.std.proofs.lemmas.Bool.{cases_Bool, cases_lt, eqb-true, eq-eqb, lt-ltb}
use Rattle.std.proofs.lemmas.List.Elements.{All-from_recursion}
use Rattle.sx_outcome.specs.declared.outcome.Outcome.{Outcome}
use Rattle.sx_outcome.specs.declared.outcome.Outcome.TheVariants as outcome
use Rattle.sx_outcome.specs.declared.space.NoRoom.{NoRoom}
use Rattle.sx_outcome.specs.declared.space.NoRoom.TheVariants as no_room
use Rattle.sx_outcome.specs.Gathering.{Decision, decisions, is_accepted, body_of}
use Rattle.sx_outcome.specs.Gathering.{IsGathered, IsOverdrawn, Shows}
use Rattle.sx_layout.specs.Asked.{wanted_by}
use Rattle.sx_layout.specs.Deciding.{too_late}
use Rattle.sx_layout.specs.Marks.{Closes, ClosingGathers, IsClosing, IsGone, IsMissed, IsShort}
use Rattle.sx_layout.specs.Plan.{Plan, account_place, offer_place, place_in, plan_of, purse_spot}
use Rattle.sx_layout.specs.PlanLaws.{Thing, AnOffer, AName}
use Rattle.sx_layout.proofs.AskedThings.{Asks, asks, named_is}
use Rattle.sx_outcome.proofs.BodyElements.{all_body}
use Rattle.sx_outcome.proofs.BodySums.{at_most_one, counted, distinct_if, hit, hit_by}
use Rattle.sx_outcome.proofs.BodyOrder.{body_ordered, kept}
use Rattle.sx_outcome.proofs.BodySums.{length-named, one_if, total_body, total_candidates}
use Rattle.sx_layout.proofs.ClosingBits.{asks_at, candidate_at, numbers_once, one_claimer, passes_at}
use Rattle.sx_layout.proofs.ClosingPurses.{covered, purse}
use Rattle.sx_layout.proofs.DebitPlaces.{debit_at}
use Rattle.sx_layout.proofs.MarkedThings.{named, named_by}
use Rattle.sx_layout.proofs.ClosingRefusals.{NamesSet, name_taken, offer_taken, seq_taken}
use Rattle.sx_layout.proofs.NamedThings.{names_cancelled, names_created}
use Rattle.sx_layout.proofs.MarkCounts.{named_in}
use Rattle.sx_outcome.proofs.Totals.{total}
use Rattle.sx_ledger.specs.declared.parts.Parts.{Parts}
use Rattle.sx_ledger.specs.Body.{IsAdmissible, cancelled_by, created, created_by, made, made_by}
use Rattle.sx_ledger.specs.Effects.{Posting, debit, debit_of}
use Rattle.sx_ledger.specs.Ledger.{most_accounts, most_height, most_offers}
use Rattle.sx_ledger.specs.Order.{same_key}
use Rattle.sx_ledger.specs.Static.{static_of}
use Rattle.sx_ledger.proofs.KeyOrder.{same_key_is, same_key_from}
use Rattle.sx_tx.specs.declared.kind.Kind.{Kind}
use Rattle.sx_tx.specs.declared.kind.Kind.TheVariants as kind
use Rattle.sx_tx.specs.declared.tx.Tx.{Tx}

-- ---- what is named once

hit_small : {K : Type 0} (same : K → K → Bool) (h : Tx → Option K) (k : K) (found : Option K)
    → hit_by same h k found ≤ 1
hit_small same h k None = omega arith
hit_small same h k (Some other) = elim (cases_Bool (same k other)) [
  | inl e ↦ rw e (omega arith)
  | inr e ↦ rw e (omega arith)
]

record Hit {K : Type 0} (same : K → K → Bool) (k : K) (found : Option K) : Type 0 where
  other : K
  is : found ≡ Some other
  alike : same k other ≡ true

hit_is : {K : Type 0} (same : K → K → Bool) (h : Tx → Option K) (k : K) (found : Option K)
    → 1 ≤ hit_by same h k found → Hit same k found
hit_is same h k None some = absurd (omega arith)
hit_is same h k (Some other) some = elim (cases_Bool (same k other)) [
  | inl e ↦ record { other = other; is = refl; alike = e }
  | inr e ↦ absurd (nothing (rw e at some))
]
  where
    nothing : 1 ≤ 0 → ⊥
    nothing h = omega arith

counted_small : (f : Tx → ℕ) → ((tx : Tx) → f tx ≤ 1) → (one : Decision) → counted f one ≤ 1
counted_small f small one = elim (cases_Bool (is_accepted one.outcome)) [
  | inl e ↦ rw e (small one.tx)
  | inr e ↦ rw e (omega arith)
]

record Counts (f : Tx → ℕ) (one : Decision) : Type 0 where
  accepted : is_accepted one.outcome ≡ true
  counts : 1 ≤ f one.tx

counts_if : (f : Tx → ℕ) (one : Decision) → 1 ≤ counted f one → Counts f one
counts_if f one some = elim (cases_Bool (is_accepted one.outcome)) [
  | inl e ↦ record { accepted = e; counts = rw e at some }
  | inr e ↦ absurd (nothing (rw e at some))
]
  where
    nothing : 1 ≤ 0 → ⊥
    nothing h = omega arith

-- ---- room

abbrev judged : Bool → Bool → Bool → NoRoom → NoRoom → NoRoom → Result (Unit {0}) NoRoom
judged b c d e1 e2 e3 = if b then Err e1 else (if c then Err e2 else (if d then Err e3 else Ok tt))

room_fits : (b c d : Bool) (e1 e2 e3 : NoRoom) → judged b c d e1 e2 e3 ≡ Ok tt → (c ≡ false) × (d ≡ false)
room_fits true c d e1 e2 e3 is = absurd cc
room_fits false true d e1 e2 e3 is = absurd cc
room_fits false false true e1 e2 e3 is = absurd cc
room_fits false false false e1 e2 e3 is = (refl, refl)

at_most : (m n : ℕ) → nat_lt m n ≡ false → n ≤ m
at_most m n fails = elim (cases_lt m n) [
  | inl lt ↦ let less : nat_lt m n ≡ true = lt-ltb m n lt in absurd cc
  | inr le ↦ le
]

abbrev posting_of : ℕ → ℕ → ℕ → Posting
posting_of account asset units = record { account = account; asset = asset; units = units }

module _ (parts : Parts) (candidates : List Tx) (shards : ℕ) (outcomes : List Outcome) (purses bits : ℕ → List ℕ)
    (is : IsClosing parts candidates shards outcomes purses bits) where
  abbrev plan : Plan
  plan = plan_of parts candidates shards

  abbrev list : List Decision
  list = decisions candidates outcomes

  -- two accepted candidates that name one thing are one
  named_once : (t : Thing) (i j : ℕ) (one other : Decision) → slice_get list i ≡ Some one →
      slice_get list j ≡ Some other
      → is_accepted one.outcome ≡ true → is_accepted other.outcome ≡ true → named parts plan one.tx ≡ Some t
      → named parts plan other.tx ≡ Some t → i ≡ j
  named_once t i j one other at there first second names too =
      let own = asks_at parts candidates shards outcomes purses bits is i one at (kept one first) in
      let thing = named_is parts candidates shards i one.tx t (candidate_at candidates outcomes i one at) own names in
      one_claimer parts candidates shards outcomes purses bits is t thing i j one other at there
      (named_in parts plan one t first names) (named_in parts plan other t second too)

  once_each : {K : Type 0} (same : K → K → Bool) (h : Tx → Option K) (thing : K → Thing)
      → ((a b : K) → same a b ≡ true → a ≡ b)
      → ((tx : Tx) (k : K) → h tx ≡ Some k → named parts plan tx ≡ Some (thing k))
      → (k : K) → total (hit same h k) (body_of list) ≤ 1
  once_each same h thing same_is names k =
      let f = hit same h k in
      let most = at_most_one (counted f) list (counted_small f (λ tx. hit_small same h k (h tx)))
      (λ i j one other at there p q.
      let first = counts_if f one p in
      let second = counts_if f other q in
      let one_hit = hit_is same h k (h one.tx) first.counts in
      let other_hit = hit_is same h k (h other.tx) second.counts in
      named_once (thing k) i j one other at there first.accepted second.accepted
      (names one.tx k (one_hit.is ∙ ap (λ x. Some x) (sym (same_is k one_hit.other one_hit.alike))))
      (names other.tx k (other_hit.is ∙ ap (λ x. Some x) (sym (same_is k other_hit.other other_hit.alike))))) in
      let same_total = total_body f list in
      omega (arith, most, same_total)

  fewer : {K : Type 0} (h : Tx → Option K)
      → total (λ tx. one_if (h tx)) (body_of list) ≤ total (λ tx. one_if (h tx)) candidates
  fewer h =
      let f = λ (tx : Tx). one_if (h tx) in
      omega (arith, total_body f list, total_candidates f candidates outcomes)

  body_is : IsAdmissible parts (body_of list)
  body_is =
      let accounts = length parts.accounts in
      let offers = length parts.offers in
      let creations = length (created candidates) in
      let new_offers = length (made candidates) in
      let room = room_fits (parts.height == most_height) (nat_lt most_accounts (accounts + creations))
      (nat_lt most_offers (offers + new_offers)) no_room.Ended
      (no_room.Crowded accounts creations most_accounts) (no_room.Crowded offers new_offers most_offers) is.room in
      record {
        ordered = body_ordered list (numbers_once parts candidates shards outcomes purses bits is);
        passes = All-from_recursion (λ tx. static_of parts tx ≡ Ok tt) (body_of list)
            (all_body (λ tx. static_of parts tx ≡ Ok tt) list
            (λ place one at accepted.
            passes_at parts candidates shards outcomes purses bits is place one at (kept one accepted)));
        cancels_once = distinct_if same_key (λ tx. cancelled_by tx tx.kind) (λ k. same_key_from k k refl) (body_of list)
            (once_each same_key (λ tx. cancelled_by tx tx.kind) (λ k. AnOffer (offer_place parts k)) same_key_is
            (names_cancelled parts plan));
        creates_once = distinct_if nat_eq (λ tx. created_by tx.kind) (λ k. eq-eqb k k refl) (body_of list)
            (once_each nat_eq (λ tx. created_by tx.kind) (λ k. AName (place_in plan.names k)) eqb-true
            (names_created parts plan));
        accounts_fit = omega (
          arith,
          at_most most_accounts (length parts.accounts + length (created candidates)) room.0,
          length-named (λ (tx : Tx). created_by tx.kind) (body_of list),
          length-named (λ (tx : Tx). created_by tx.kind) candidates,
          fewer (λ (tx : Tx). created_by tx.kind),
        );
        offers_fit = omega (
          arith,
          at_most most_offers (length parts.offers + length (made candidates)) room.1,
          length-named (λ (tx : Tx). made_by tx tx.kind) (body_of list),
          length-named (λ (tx : Tx). made_by tx tx.kind) candidates,
          fewer (λ (tx : Tx). made_by tx tx.kind),
        );
        covered = covered parts candidates shards outcomes purses bits is;
      }

  short_of : (tx : Tx) (asset seen need amount : ℕ) → Asks parts tx
      → debit tx ≡ Some (record { account = tx.account.0; asset = asset; units = amount }) → need ≡ amount
      → IsShort plan purses (purse_spot plan (account_place parts tx.account.0) asset) seen need
      → IsOverdrawn parts (body_of list) tx seen need
  short_of tx asset seen need amount own debits same short =
      let place = debit_at parts tx (record { account = tx.account.0; asset = asset; units = amount }) own debits in
      let words = purse parts candidates shards outcomes purses bits is tx.account.0 asset own.own place.small in
      let opening = words.opening in
      let closing = words.closing in
      let low = short.low in
      let most = short.opening in
      record {
        asset = asset;
        debit = debits ∙ ap (λ (n : ℕ). Some (posting_of tx.account.0 asset n)) (sym same);
        short = short.short;
        left = omega (arith, closing, low);
        opening = omega (arith, opening, most);
      }

  overdrawn : (tx : Tx) (of : Kind) (seen need : ℕ) → Asks parts tx → tx.kind ≡ of
      → IsMissed plan purses (wanted_by parts plan tx.account.0 of) seen need
      → IsOverdrawn parts (body_of list) tx seen need
  overdrawn tx (kind.Pay asset to amount) seen need own same missed =
      short_of tx asset seen need amount own (ap (debit_of tx.account.0) same) missed.0 missed.1
  overdrawn tx (kind.Create id) seen need own same missed = absurd missed
  overdrawn tx (kind.Offer sell buy limit amount) seen need own same missed =
      short_of tx sell seen need amount own (ap (debit_of tx.account.0) same) missed.0 missed.1
  overdrawn tx (kind.Cancel sell buy limit seq) seen need own same missed = absurd missed

  -- the offer or the id that it names is gone
  gone_offer : (tx : Tx) (of : Kind) → tx.kind ≡ of → too_late of ≡ outcome.OfferTaken
      → IsGone bits (wanted_by parts plan tx.account.0 of)
      → (offer : ℕ) × NamesSet parts plan bits tx (AnOffer offer)
  gone_offer tx (kind.Pay asset to amount) same late gone = absurd gone
  gone_offer tx (kind.Create id) same late gone = absurd cc
  gone_offer tx (kind.Offer sell buy limit amount) same late gone = absurd gone
  gone_offer tx (kind.Cancel sell buy limit seq) same late gone =
      (_, record { names = ap (named_by parts plan tx.account.0) same; set = gone })

  gone_name : (tx : Tx) (of : Kind) → tx.kind ≡ of → too_late of ≡ outcome.NameTaken
      → IsGone bits (wanted_by parts plan tx.account.0 of)
      → (index : ℕ) × NamesSet parts plan bits tx (AName index)
  gone_name tx (kind.Pay asset to amount) same late gone = absurd gone
  gone_name tx (kind.Create id) same late gone =
      (_, record { names = ap (named_by parts plan tx.account.0) same; set = gone })
  gone_name tx (kind.Offer sell buy limit amount) same late gone = absurd gone
  gone_name tx (kind.Cancel sell buy limit seq) same late gone = absurd cc

  shows_by : (place : ℕ) (tx : Tx) (of : Outcome) → slice_get list place ≡ Some (record { tx = tx; outcome = of })
      → Closes parts plan purses bits tx of → Shows parts list (body_of list) place tx of
  shows_by place tx outcome.Accepted at closes = closes
  shows_by place tx (outcome.Static why) at closes = closes
  shows_by place tx outcome.SeqTaken at closes = (
    closes.0,
    seq_taken parts candidates shards outcomes purses bits is place tx at (asks parts tx closes.0)
        closes.1,
  )
  shows_by place tx outcome.OfferTaken at closes = (
    closes.0,
    (let gone = gone_offer tx tx.kind refl closes.1 closes.2 in
        offer_taken parts candidates shards outcomes purses bits is place tx gone.0 at (asks parts tx closes.0) gone.1),
  )
  shows_by place tx outcome.NameTaken at closes = (
    closes.0,
    (let gone = gone_name tx tx.kind refl closes.1 closes.2 in
        name_taken parts candidates shards outcomes purses bits is place tx gone.0 at (asks parts tx closes.0) gone.1),
  )
  shows_by place tx (outcome.Overdraft seen need) at closes =
      (closes.0, overdrawn tx tx.kind seen need (asks parts tx closes.0) refl closes.1)

  gathered : IsGathered parts candidates outcomes (body_of list)
  gathered = record {
    one_each = is.one_each;
    accepted_are = refl;
    admissible = body_is;
    shows = λ place one at. shows_by place one.tx one.outcome at (is.closes place one at);
    once = numbers_once parts candidates shards outcomes purses bits is;
  }

pub closing_gathers : ClosingGathers
closing_gathers parts candidates shards outcomes purses bits is =
    gathered parts candidates shards outcomes purses bits is
