-- At a closing each purse has what the body leaves of its balance.
use Rattle.std.proofs.Common.{◌≡◌, ℕ, zero, ◌+◌, ◌<◌, ◌≤◌, true, false, List}
use Rattle.std.proofs.Common.{Option, Some, None, inl, inr, refl, sym, ap, ◌∙◌, arith}
use Rattle.std.specs.Prelude.{slice_get, slice_index, ◌==◌, ◌&&◌}
use Rattle.std.proofs.lemmas.Bool.{and_parts, cases_Bool, cases_lt, eqb-true, eq-eqb}
use Rattle.std.proofs.lemmas.Option.{slice_get_within, get_or_from_slice_get}
use Rattle.sx_event.specs.declared.marks.Claim.TheVariants.{Debit}
use Rattle.sx_event.specs.Rule.{debit_in, debits as claimed_debits}
use Rattle.sx_outcome.specs.declared.outcome.Outcome.{Outcome}
use Rattle.sx_layout.specs.declared.spot.Spot.{Spot}
use Rattle.sx_outcome.specs.Gathering.{Decision, decisions, is_accepted, body_of}
use Rattle.sx_layout.specs.Marks.{IsClosing}
use Rattle.sx_layout.specs.Plan.{Plan, account_place, plan_of, purse_spot, words_of}
use Rattle.sx_layout.proofs.AskedThings.{Asks, has_id, one_account}
use Rattle.sx_outcome.proofs.BodySums.{counted, debits_total, total_body}
use Rattle.sx_outcome.proofs.BodyOrder.{kept}
use Rattle.sx_layout.proofs.ClosingBits.{asks_at}
use Rattle.sx_layout.proofs.DebitPlaces.{debit_at}
use Rattle.sx_layout.proofs.MarkCounts.{debits_all}
use Rattle.sx_layout.proofs.MarkedThings.{posting_mark, taken}
use Rattle.sx_layout.proofs.SpotLaws.{purses_are_apart}
use Rattle.sx_layout.proofs.PlanLaws.{purses_are_there}
use Rattle.sx_outcome.proofs.Totals.{total, found, some_place, sum_one, total_same}
use Rattle.sx_ledger.specs.declared.account.Account.{Account}
use Rattle.sx_ledger.specs.declared.parts.Parts.{Parts}
use Rattle.sx_ledger.specs.Body.{holding_of}
use Rattle.sx_ledger.specs.Effects.{Posting, debit, debits, posted}
use Rattle.sx_ledger.specs.Ledger.{assets_of, balance_at, ids}
use Rattle.sx_ledger.specs.Static.{has_account}
use Rattle.sx_ledger.proofs.Lookup.{entry_at}
use Rattle.sx_ledger.proofs.PlacesOfIds.{holding_at}
use Rattle.sx_tx.specs.declared.tx.Tx.{Tx}

-- ---- one debit

module _ (parts : Parts) (candidates : List Tx) (shards : ℕ) (outcomes : List Outcome) (purses bits : ℕ → List ℕ)
    (is : IsClosing parts candidates shards outcomes purses bits) where
  abbrev plan : Plan
  plan = plan_of parts candidates shards

  abbrev list : List Decision
  list = decisions candidates outcomes

  abbrev purse_at : ℕ → ℕ → Spot
  purse_at account asset = purse_spot plan (account_place parts account) asset

  elsewhere : (account asset : ℕ) → has_account parts.accounts account ≡ true → asset < assets_of parts
      → (posting : Posting) → has_account parts.accounts posting.account ≡ true → posting.asset < assets_of parts
      → ((posting.account == account) && (posting.asset == asset)) ≡ false
      → claimed_debits (posting_mark parts plan (purse_at account asset).shard (Some posting))
      (purse_at account asset).word
      ≡ zero
  elsewhere account asset known small posting there within differ =
      let spot = purse_at account asset in
      let own = purse_at posting.account posting.asset in
      elim (cases_Bool (own.shard == spot.shard)) [
        | inl e ↦ rw e (sum_one (debit_in spot.word) (Debit own.word posting.units)
            ∙ elim (cases_Bool (own.word == spot.word)) [
              | inl w ↦ absurd (clash (eqb-true own.shard spot.shard e) (eqb-true own.word spot.word w))
              | inr w ↦ rw w refl
            ])
        | inr e ↦ rw e refl
      ]
    where
      clash : (purse_at posting.account posting.asset).shard ≡ (purse_at account asset).shard
          → (purse_at posting.account posting.asset).word ≡ (purse_at account asset).word → ⊥
      clash s w =
          let both = purses_are_apart parts candidates shards (account_place parts posting.account) posting.asset
          (account_place parts account) asset is.laid_out within small (λ i. record { shard = s i; word = w i }) in
          let first = eq-eqb posting.account account (one_account parts posting.account account there known both.0) in
          let second = eq-eqb posting.asset asset both.1 in
          let all : ((posting.account == account) && (posting.asset == asset)) ≡ true = rw first second in
          cc

  -- what it takes out of the purse of an account and an asset is what is posted there
  debit_counts : (account asset : ℕ) → has_account parts.accounts account ≡ true → asset < assets_of parts
      → (posting : Posting) → has_account parts.accounts posting.account ≡ true → posting.asset < assets_of parts
      → claimed_debits (posting_mark parts plan (purse_at account asset).shard (Some posting))
      (purse_at account asset).word
      ≡ posted (Some posting) account asset
  debit_counts account asset known small posting there within =
      let spot = purse_at account asset in
      let own = purse_at posting.account posting.asset in
      elim (cases_Bool ((posting.account == account) && (posting.asset == asset))) [
        | inl e ↦
            let both = and_parts (posting.account == account) (posting.asset == asset) e in
            let same : own ≡ spot =
            ap (λ (a : ℕ). purse_at a posting.asset) (eqb-true posting.account account both.0)
            ∙ ap (λ (s : ℕ). purse_at account s) (eqb-true posting.asset asset both.1) in
            rw e
            (rw (eq-eqb own.shard spot.shard (ap (λ (s : Spot). s.shard) same))
            (sum_one (debit_in spot.word) (Debit own.word posting.units)
            ∙ rw (eq-eqb own.word spot.word (ap (λ (s : Spot). s.word) same)) refl))
        | inr e ↦ rw e (elsewhere account asset known small posting there within e)
      ]

  debit_of_one : (account asset : ℕ) → has_account parts.accounts account ≡ true → asset < assets_of parts
      → (one : Decision) → Asks parts one.tx → (posting : Option Posting) → debit one.tx ≡ posting
      → claimed_debits (posting_mark parts plan (purse_at account asset).shard posting) (purse_at account asset).word
      ≡ posted posting account asset
  debit_of_one account asset known small one asked None e = refl
  debit_of_one account asset known small one asked (Some posting) e =
      let place = debit_at parts one.tx posting asked e in
      let there : has_account parts.accounts posting.account ≡ true =
      ap (has_account parts.accounts) place.owner ∙ asked.own in
      debit_counts account asset known small posting there place.small

  taken_counts : (account asset : ℕ) → has_account parts.accounts account ≡ true → asset < assets_of parts
      → (k : ℕ) (one : Decision) → slice_get list k ≡ Some one
      → claimed_debits (posting_mark parts plan (purse_at account asset).shard (taken one)) (purse_at account asset).word
      ≡ counted (λ tx. posted (debit tx) account asset) one
  taken_counts account asset known small k one at =
      elim (cases_Bool (is_accepted one.outcome)) [
        | inl e ↦ rw e (debit_of_one account asset known small one
            (asks_at parts candidates shards outcomes purses bits is k one at (kept one e)) (debit one.tx) refl)
        | inr e ↦ rw e refl
      ]

  body_debits : (account asset : ℕ) → debits (body_of list) account asset
      ≡ total (counted (λ tx. posted (debit tx) account asset)) list
  body_debits account asset =
      debits_total (body_of list) account asset ∙ total_body (λ tx. posted (debit tx) account asset) list

  pub record Purse (account asset : ℕ) : Type 0 where
    pub opening : slice_index (words_of plan.purses (purse_at account asset).shard) (purse_at account asset).word
        ≡ holding_of parts.accounts account asset
    pub closing : slice_index (purses (purse_at account asset).shard) (purse_at account asset).word
        + debits (body_of list) account asset ≡ holding_of parts.accounts account asset

  pub purse : (account asset : ℕ) → has_account parts.accounts account ≡ true → asset < assets_of parts
      → Purse account asset
  purse account asset known small =
      let spot = purse_at account asset in
      let at = found (λ (other : ℕ). other == account) (ids parts.accounts) (has_id parts.accounts account known) in
      let entry = entry_at (λ (a : Account). a.id.0) parts.accounts (account_place parts account) at.entry at.stands in
      let id : entry.0.id.0 ≡ account = sym entry.2 ∙ eqb-true at.entry account at.passes in
      let there = purses_are_there parts candidates shards (account_place parts account) asset entry.0 is.laid_out
      entry.1 small in
      let stands = get_or_from_slice_get parts.accounts (account_place parts account) entry.0 entry.0 entry.1 in
      let holds : holding_of parts.accounts account asset ≡ balance_at asset entry.0 =
      ap (λ (a : ℕ). holding_of parts.accounts a asset) (sym id ∙ ap (λ (a : Account). a.id.0) (sym stands))
      ∙ holding_at parts.accounts is.laid_out.ledger.by_id asset (account_place parts account) entry.0
      (slice_get_within parts.accounts (account_place parts account) entry.0 entry.1)
      ∙ ap (λ (a : Account). balance_at asset a) stands in
      let opening : slice_index (words_of plan.purses spot.shard) spot.word ≡ holding_of parts.accounts account asset =
      there.balance ∙ sym holds in
      let sum = (is.purses_add_up spot.shard there.shard).adds_up spot.word in
      let all = debits_all parts plan spot.shard spot.word list in
      let same = total_same (λ one. claimed_debits (posting_mark parts plan spot.shard (taken one)) spot.word)
      (counted (λ tx. posted (debit tx) account asset)) list (taken_counts account asset known small) in
      let body = body_debits account asset in
      record { opening = opening; closing = omega (arith, opening, sum, all, same, body) }

  -- what is debited is at an account and in an asset that there are
  posted_at : (account asset : ℕ) (posting : Posting) → 1 ≤ posted (Some posting) account asset
      → (posting.account ≡ account) × (posting.asset ≡ asset)
  posted_at account asset posting some =
      elim (cases_Bool ((posting.account == account) && (posting.asset == asset))) [
        | inl e ↦ let both = and_parts (posting.account == account) (posting.asset == asset) e in
            (eqb-true posting.account account both.0, eqb-true posting.asset asset both.1)
        | inr e ↦ absurd (nothing (rw e at some))
      ]
    where
      nothing : 1 ≤ 0 → ⊥
      nothing h = omega arith

  debited : (account asset : ℕ) (one : Decision) → Asks parts one.tx → (posting : Option Posting)
      → debit one.tx ≡ posting → 1 ≤ posted posting account asset
      → (has_account parts.accounts account ≡ true) × (asset < assets_of parts)
  debited account asset one asked None e some = absurd (omega arith)
  debited account asset one asked (Some posting) e some =
      let place = debit_at parts one.tx posting asked e in
      let same = posted_at account asset posting some in (
        ap (has_account parts.accounts) (sym same.0 ∙ place.owner) ∙ asked.own,
        (let small = place.small in omega (arith, small, same.1)),
      )

  counted_at : (account asset : ℕ) (k : ℕ) (one : Decision) → slice_get list k ≡ Some one
      → 1 ≤ counted (λ tx. posted (debit tx) account asset) one
      → (has_account parts.accounts account ≡ true) × (asset < assets_of parts)
  counted_at account asset k one at some =
      elim (cases_Bool (is_accepted one.outcome)) [
        | inl e ↦ debited account asset one
            (asks_at parts candidates shards outcomes purses bits is k one at (kept one e))
            (debit one.tx) refl (rw e at some)
        | inr e ↦ absurd (nothing (rw e at some))
      ]
    where
      nothing : 1 ≤ 0 → ⊥
      nothing h = omega arith

  pub covered : (account asset : ℕ) → debits (body_of list) account asset ≤ holding_of parts.accounts account asset
  covered account asset =
      elim (cases_lt (debits (body_of list) account asset) 1) [
        | inl none ↦ omega arith
        | inr some ↦
            let f = counted (λ tx. posted (debit tx) account asset) in
            let at = some_place f list (let same = body_debits account asset in omega (arith, some, same)) in
            let there = counted_at account asset at.place at.entry at.stands at.counts in
            let own = purse account asset there.0 there.1 in
            (let closing = own.closing in omega (arith, closing))
      ]
