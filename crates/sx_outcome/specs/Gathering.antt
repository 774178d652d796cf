-- What gathering makes of candidates: an outcome for each, and a body. Where candidates exclude each other, it is free
-- which of them is accepted.
use Rattle.std.specs.Prelude.{◌≡◌, ◌≢◌, ◌↔◌, ℕ, ◌-◌, ◌<◌, ◌≤◌, Bool, true, false, List, [], ◌∷◌, length, Some, Ok, Err}
use Rattle.std.specs.Prelude.{slice_get, Contains, if◌then◌else◌}
use Rattle.sx_outcome.specs.declared.outcome.Outcome.{Outcome}
use Rattle.sx_outcome.specs.declared.outcome.Outcome.TheVariants as outcome
use Rattle.sx_ledger.specs.declared.key.Key.{Key}
use Rattle.sx_ledger.specs.declared.parts.Parts.{Parts}
use Rattle.sx_ledger.specs.declared.statics.Static.{Static}
use Rattle.sx_ledger.specs.Body.{IsAdmissible, cancelled_by, created_by, holding_of, tx_before}
use Rattle.sx_ledger.specs.Effects.{Posting, debit, debits}
use Rattle.sx_ledger.specs.Static.{static_of}
use Rattle.sx_tx.specs.declared.tx.Tx.{Tx}

-- a candidate with its outcome
pub record Decision : Type 0 where
  pub tx : Tx
  pub outcome : Outcome

abbrev pub decisions : List Tx → List Outcome → List Decision
decisions [] outcomes = []
decisions (tx ∷ txs) [] = []
decisions (tx ∷ txs) (outcome ∷ outcomes) = record { tx = tx; outcome = outcome } ∷ decisions txs outcomes

abbrev pub is_accepted : Outcome → Bool
is_accepted outcome.Accepted = true
is_accepted (outcome.Static why) = false
is_accepted outcome.SeqTaken = false
is_accepted outcome.OfferTaken = false
is_accepted outcome.NameTaken = false
is_accepted (outcome.Overdraft seen need) = false

-- whether a candidate of this outcome keeps its sequence number, so that no other has it
abbrev pub keeps_number : Outcome → Bool
keeps_number outcome.Accepted = true
keeps_number (outcome.Static why) = false
keeps_number outcome.SeqTaken = false
keeps_number outcome.OfferTaken = true
keeps_number outcome.NameTaken = true
keeps_number (outcome.Overdraft seen need) = true

-- ---- the body

abbrev pub accepted : List Decision → List Tx
accepted [] = []
accepted (one ∷ others) = if is_accepted one.outcome then one.tx ∷ accepted others else accepted others

-- a transaction put before the first one that it stands before
abbrev pub put_tx : Tx → List Tx → List Tx
put_tx new [] = new ∷ []
put_tx new (tx ∷ txs) = if tx_before new tx then new ∷ tx ∷ txs else tx ∷ put_tx new txs

abbrev pub in_tx_order : List Tx → List Tx
in_tx_order [] = []
in_tx_order (tx ∷ txs) = put_tx tx (in_tx_order txs)

-- the accepted candidates, in the order of a body
abbrev pub body_of : List Decision → List Tx
body_of list = in_tx_order (accepted list)

-- ---- what each outcome says of the body

-- less was left of the asset than was needed, when it was seen
pub record IsOverdrawn (parts : Parts) (body : List Tx) (tx : Tx) (seen need : ℕ) : Type 0 where
  pub asset : ℕ
  pub debit : debit tx ≡ Some (record { account = tx.account.0; asset = asset; units = need })
  pub short : seen < need
  pub left : holding_of parts.accounts tx.account.0 asset - debits body tx.account.0 asset ≤ seen
  pub opening : seen ≤ holding_of parts.accounts tx.account.0 asset

-- another transaction of the body cancels the offer that this one cancels
pub record IsOfferTaken (body : List Tx) (tx : Tx) : Type 0 where
  pub key : Key
  pub cancels : cancelled_by tx tx.kind ≡ Some key
  pub other : Tx
  pub within : Contains body other
  pub too : cancelled_by other other.kind ≡ Some key
  pub another : other ≢ tx

-- another transaction of the body creates the account that this one creates
pub record IsNameTaken (body : List Tx) (tx : Tx) : Type 0 where
  pub id : ℕ
  pub creates : created_by tx.kind ≡ Some id
  pub other : Tx
  pub within : Contains body other
  pub too : created_by other.kind ≡ Some id
  pub another : other ≢ tx

-- a candidate at another place keeps the sequence number of this one
pub record IsSeqTaken (list : List Decision) (place : ℕ) (tx : Tx) : Type 0 where
  pub other : ℕ
  pub decision : Decision
  pub stands : slice_get list other ≡ Some decision
  pub another : other ≢ place
  pub account : decision.tx.account.0 ≡ tx.account.0
  pub seq : decision.tx.seq ≡ tx.seq
  pub keeps : keeps_number decision.outcome ≡ true

abbrev pub Shows : Parts → List Decision → List Tx → ℕ → Tx → Outcome → Type 0
Shows parts list body place tx outcome.Accepted = static_of parts tx ≡ Ok tt
Shows parts list body place tx (outcome.Static why) = static_of parts tx ≡ Err why
Shows parts list body place tx outcome.SeqTaken = (static_of parts tx ≡ Ok tt) × IsSeqTaken list place tx
Shows parts list body place tx outcome.OfferTaken = (static_of parts tx ≡ Ok tt) × IsOfferTaken body tx
Shows parts list body place tx outcome.NameTaken = (static_of parts tx ≡ Ok tt) × IsNameTaken body tx
Shows parts list body place tx (outcome.Overdraft seen need) =
    (static_of parts tx ≡ Ok tt) × IsOverdrawn parts body tx seen need

-- two candidates of one account and one number that keep it are one candidate
abbrev pub NumbersOnce : List Decision → Type 0
NumbersOnce list =
    (i j : ℕ) (one other : Decision) → slice_get list i ≡ Some one → slice_get list j ≡ Some other
    → one.tx.account.0 ≡ other.tx.account.0 → one.tx.seq ≡ other.tx.seq
    → keeps_number one.outcome ≡ true → keeps_number other.outcome ≡ true → i ≡ j

-- ---- the whole

-- the outcomes of gathering, and the body that it makes
pub record IsGathered (parts : Parts) (candidates : List Tx) (outcomes : List Outcome) (body : List Tx) : Type 0 where
  pub one_each : length outcomes ≡ length candidates
  pub accepted_are : body ≡ body_of (decisions candidates outcomes)
  pub admissible : IsAdmissible parts body
  pub shows : (place : ℕ) (one : Decision) → slice_get (decisions candidates outcomes) place ≡ Some one
      → Shows parts (decisions candidates outcomes) body place one.tx one.outcome
  pub once : NumbersOnce (decisions candidates outcomes)

-- ---- laws

-- a body is no longer than the list of the candidates
abbrev pub BodyIsNoLonger : Type 0
BodyIsNoLonger =
    (candidates : List Tx) (outcomes : List Outcome)
    → length (body_of (decisions candidates outcomes)) ≤ length candidates

-- nothing stands in the way of the candidate at this place: the ledger passes it, no other candidate has its account and
-- number, the body leaves as much as it debits, and no other transaction of the body cancels its offer or creates its id
pub record IsFree (parts : Parts) (list : List Decision) (body : List Tx) (place : ℕ) (tx : Tx) : Type 0 where
  pub passes : static_of parts tx ≡ Ok tt
  pub number : (other : ℕ) (one : Decision) → slice_get list other ≡ Some one → other ≢ place
      → one.tx.account.0 ≡ tx.account.0 → one.tx.seq ≢ tx.seq
  pub covered : (posting : Posting) → debit tx ≡ Some posting
      → posting.units
      ≤ holding_of parts.accounts posting.account posting.asset - debits body posting.account posting.asset
  pub offer : (key : Key) (other : Tx) → cancelled_by tx tx.kind ≡ Some key → Contains body other
      → cancelled_by other other.kind ≡ Some key → other ≡ tx
  pub id : (id : ℕ) (other : Tx) → created_by tx.kind ≡ Some id → Contains body other
      → created_by other.kind ≡ Some id → other ≡ tx

-- such a candidate is accepted
abbrev pub FreeIsAccepted : Type 0
FreeIsAccepted =
    (parts : Parts) (candidates : List Tx) (outcomes : List Outcome) (body : List Tx) (place : ℕ) (one : Decision)
    → IsGathered parts candidates outcomes body → slice_get (decisions candidates outcomes) place ≡ Some one
    → IsFree parts (decisions candidates outcomes) body place one.tx → one.outcome ≡ outcome.Accepted

-- a candidate has a static refusal exactly where the ledger gives it this one
abbrev pub StaticIsExact : Type 0
StaticIsExact =
    (parts : Parts) (candidates : List Tx) (outcomes : List Outcome) (body : List Tx) (place : ℕ) (one : Decision)
    (why : Static)
    → IsGathered parts candidates outcomes body → slice_get (decisions candidates outcomes) place ≡ Some one
    → (one.outcome ≡ outcome.Static why) ↔ (static_of parts one.tx ≡ Err why)
