-- Gatherings that are worked out by hand.
use Rattle.std.proofs.Common.{◌≡◌, ◌≢◌, ℕ, zero, suc, ◌+◌, ◌-◌, ◌≤◌, true, List, [], ◌∷◌, length, Some, refl, sym, ap}
use Rattle.std.proofs.Common.{subst, arith}
use Rattle.std.specs.Prelude.{slice_get}
use Rattle.std.proofs.lemmas.Option.{same_Some}
use Rattle.sx_event.specs.declared.marks.Claim.TheVariants.{Debit, Bit}
use Rattle.sx_outcome.specs.declared.outcome.Outcome.{Outcome}
use Rattle.sx_outcome.specs.declared.outcome.Outcome.TheVariants.{Accepted, Static, SeqTaken, Overdraft}
use Rattle.sx_outcome.specs.Gathering.{BodyIsNoLonger, Decision, IsFree, IsGathered, IsOverdrawn, IsSeqTaken, body_of}
use Rattle.sx_outcome.specs.Gathering.{decisions, keeps_number}
use Rattle.sx_layout.specs.Marks.{marks}
use Rattle.sx_layout.specs.Plan.{plan_of, words_of}
use Rattle.sx_script.proofs.ScriptCases.{account, ledger, pays}
use Rattle.sx_ledger.specs.declared.parts.Parts.{Parts}
use Rattle.sx_ledger.specs.declared.statics.Static.TheVariants.{SeqBehind}
use Rattle.sx_ledger.specs.Body.{holding_of}
use Rattle.sx_ledger.specs.Effects.{Posting, debits}
use Rattle.sx_tx.specs.declared.kind.Kind.TheVariants as kind
use Rattle.sx_tx.specs.declared.tx.Tx.{Tx}

-- ---- outcomes that are not those of a gathering. Account 1 holds 100

-- what an overdraft says of account 1's asset 0
asset_is : (body : List Tx) (seq amount seen need : ℕ) → (short : IsOverdrawn ledger body (pays seq amount) seen need)
    → short.asset ≡ 0
asset_is body seq amount seen need short =
    sym (ap (λ (p : Posting). p.asset) (same_Some (record { account = 1; asset = 0; units = amount }) _ short.debit))

-- 200 units were never there
never_there : IsOverdrawn ledger [] (pays 1 300) 200 300 → ⊥
never_there short =
    let opening = subst (λ (asset : ℕ). 200 ≤ holding_of ledger.accounts 1 asset) (asset_is [] 1 300 200 300 short)
    short.opening in
    omega (arith, opening)

-- a payment of 60 leaves 40, so that 30 were never all that was left
more_was_left : IsOverdrawn ledger (pays 1 60 ∷ []) (pays 2 60) 30 60 → ⊥
more_was_left short =
    let asset = asset_is (pays 1 60 ∷ []) 2 60 30 60 short in
    let left = short.left in
    let holds : holding_of ledger.accounts 1 short.asset ≡ 100 = ap (holding_of ledger.accounts 1) asset in
    let paid : debits (pays 1 60 ∷ []) 1 short.asset ≡ 60 = ap (debits (pays 1 60 ∷ []) 1) asset in
    omega (arith, left, holds, paid)

-- another number is not this one's
other_number : IsSeqTaken (decisions (pays 1 10 ∷ pays 2 10 ∷ []) (Accepted ∷ SeqTaken ∷ [])) 1 (pays 2 10) → ⊥
other_number taken = elsewhere taken.other taken.decision taken.stands taken.another taken.seq
  where
    elsewhere : (other : ℕ) (one : Decision)
        → slice_get (decisions (pays 1 10 ∷ pays 2 10 ∷ []) (Accepted ∷ SeqTaken ∷ [])) other ≡ Some one → other ≢ 1
        → one.tx.seq ≡ 2 → ⊥
    elsewhere zero one stands another seq =
        let same = ap (λ (d : Decision). d.tx.seq) (same_Some _ one stands) in omega (arith, same, seq)
    elsewhere (suc zero) one stands another seq = another refl
    elsewhere (suc (suc other)) one stands another seq = absurd cc

-- the body is that of the accepted
empty_body : IsGathered ledger (pays 1 10 ∷ []) (Accepted ∷ []) [] → ⊥
empty_body is = let long = ap (λ (txs : List Tx). length txs) is.accepted_are in omega (arith, long)

-- each candidate has an outcome, and what the ledger passes is no static refusal
no_outcome : IsGathered ledger (pays 1 10 ∷ []) [] [] → ⊥
no_outcome is = let long = is.one_each in omega (arith, long)

not_behind : IsGathered ledger (pays 1 10 ∷ []) (Static SeqBehind ∷ []) [] → ⊥
not_behind is = let why = is.shows 0 _ refl in absurd cc

-- two candidates do not keep one number
both_keep : IsGathered ledger (pays 1 300 ∷ pays 1 200 ∷ []) (Overdraft 100 300 ∷ Overdraft 100 200 ∷ []) [] → ⊥
both_keep is = let one = is.once 0 1 _ _ refl refl refl refl refl refl in omega (arith, one)

-- a number is taken only by a candidate that keeps it
nobody_keeps : IsSeqTaken (decisions (pays 1 10 ∷ pays 1 20 ∷ []) (SeqTaken ∷ SeqTaken ∷ [])) 1 (pays 1 20) → ⊥
nobody_keeps taken = keeper taken.other taken.decision taken.stands taken.another taken.keeps
  where
    keeper : (other : ℕ) (one : Decision)
        → slice_get (decisions (pays 1 10 ∷ pays 1 20 ∷ []) (SeqTaken ∷ SeqTaken ∷ [])) other ≡ Some one → other ≢ 1
        → keeps_number one.outcome ≡ true → ⊥
    keeper zero one stands another keeps =
        let same = ap (λ (d : Decision). keeps_number d.outcome) (same_Some _ one stands) in cc
    keeper (suc zero) one stands another keeps = another refl
    keeper (suc (suc other)) one stands another keeps = absurd cc

-- a payment that leaves as much as it takes is free to be accepted
free : IsFree ledger (decisions (pays 1 50 ∷ []) (Accepted ∷ [])) (pays 1 50 ∷ []) 0 (pays 1 50)
free = record {
  passes = refl;
  number = alone;
  covered = λ posting is.
      subst (λ (p : Posting). p.units ≤ holding_of ledger.accounts p.account p.asset - debits (pays 1 50 ∷ []) p.account p.asset)
      (same_Some (record { account = 1; asset = 0; units = 50 }) posting is) (omega arith);
  offer = λ key other cancels within too. absurd cc;
  id = λ id other creates within too. absurd cc;
}
  where
    alone : (other : ℕ) (one : Decision)
        → slice_get (decisions (pays 1 50 ∷ []) (Accepted ∷ [])) other ≡ Some one → other ≢ 0
        → one.tx.account.0 ≡ 1 → one.tx.seq ≢ 1
    alone zero one stands another account seq = another refl
    alone (suc other) one stands another account seq = absurd cc

-- a body never has one transaction more than there are candidates
never_longer : BodyIsNoLonger → (candidates : List Tx) (outcomes : List Outcome)
    → length (body_of (decisions candidates outcomes)) ≡ length candidates + 1 → ⊥
never_longer no_longer candidates outcomes e = let few = no_longer candidates outcomes in omega (arith, few, e)

-- ---- two shards: account 1 is in shard 0 and account 2 in shard 1, and so are their words. The first new id is in shard 0

abbrev creates : ℕ → Tx
creates id = record { account = record { 0 = 2 }; seq = 1; kind = kind.Create (record { 0 = id }) }

abbrev candidates : List Tx
candidates = pays 1 60 ∷ creates 9 ∷ pays 2 60 ∷ pays 2 10 ∷ []

abbrev list : List Decision
list = decisions candidates (Accepted ∷ Accepted ∷ Overdraft 40 60 ∷ SeqTaken ∷ [])

marks_by_shard :
    (marks ledger (plan_of ledger candidates 2) 0 list ≡ Bit 0 0 ∷ Debit 0 60 ∷ Bit 1 0 ∷ Bit 0 1 ∷ [])
    × (marks ledger (plan_of ledger candidates 2) 1 list ≡ Bit 0 0 ∷ [])
marks_by_shard = (refl, refl)

-- the words of numbers begin at what the accounts have used, and the others are clear
abbrev used : Parts
used = record ledger {
  accounts = record (account 1 100) { window = record { last = 7; used = 6 } } ∷ account 2 0 ∷ [];
}

opening_words :
    (words_of (plan_of used candidates 2).bits 0 ≡ 6 ∷ 0 ∷ []) × (words_of (plan_of used candidates 2).bits 1 ≡ 0 ∷ [])
    × (words_of (plan_of used candidates 2).purses 0 ≡ 100 ∷ [])
    × (words_of (plan_of used candidates 2).purses 1 ≡ 0 ∷ [])
opening_words = (refl, refl, refl, refl)
