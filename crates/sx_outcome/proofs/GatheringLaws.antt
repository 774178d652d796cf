-- Which candidates of a gathering have to be accepted, and how long its body may be.
use Rattle.std.proofs.Common.{◌≡◌, ℕ, suc, ◌≤◌, List, [], ◌∷◌, length, Err, inl, inr, refl, sym, ap, subst}
use Rattle.std.proofs.Common.{◌∙◌, arith}
use Rattle.std.proofs.lemmas.Bool.{cases_Bool}
use Rattle.sx_outcome.specs.declared.outcome.Outcome.{Outcome}
use Rattle.sx_outcome.specs.declared.outcome.Outcome.TheVariants as outcome
use Rattle.sx_outcome.specs.Gathering.{BodyIsNoLonger, FreeIsAccepted, IsFree, Shows, StaticIsExact}
use Rattle.sx_outcome.specs.Gathering.{Decision, accepted, decisions, in_tx_order, is_accepted, put_tx}
use Rattle.sx_ledger.specs.declared.parts.Parts.{Parts}
use Rattle.sx_ledger.specs.declared.statics.Static.{Static}
use Rattle.sx_ledger.specs.Body.{tx_before}
use Rattle.sx_ledger.specs.Static.{static_of}
use Rattle.sx_tx.specs.declared.tx.Tx.{Tx}

-- ---- how long

length_put : (new : Tx) (txs : List Tx) → length (put_tx new txs) ≡ suc (length txs)
length_put new [] = refl
length_put new (tx ∷ txs) = elim (cases_Bool (tx_before new tx)) [
  | inl e ↦ rw e refl
  | inr e ↦ rw e (ap suc (length_put new txs))
]

length_ordered : (txs : List Tx) → length (in_tx_order txs) ≡ length txs
length_ordered [] = refl
length_ordered (tx ∷ txs) = length_put tx (in_tx_order txs) ∙ ap suc (length_ordered txs)

length_accepted : (txs : List Tx) (outcomes : List Outcome) → length (accepted (decisions txs outcomes)) ≤ length txs
length_accepted [] outcomes = omega arith
length_accepted (tx ∷ txs) [] = omega arith
length_accepted (tx ∷ txs) (one ∷ outcomes) =
    let rest = length_accepted txs outcomes in
    elim (cases_Bool (is_accepted one)) [
      | inl e ↦ rw e (omega (arith, rest))
      | inr e ↦ rw e (omega (arith, rest))
    ]

pub body_is_no_longer : BodyIsNoLonger
body_is_no_longer candidates outcomes =
    omega (
      arith,
      length_ordered (accepted (decisions candidates outcomes)),
      length_accepted candidates outcomes,
    )

-- ---- what has to be accepted

free_is : (parts : Parts) (list : List Decision) (body : List Tx) (place : ℕ) (tx : Tx) (said : Outcome)
    → Shows parts list body place tx said → IsFree parts list body place tx → said ≡ outcome.Accepted
free_is parts list body place tx outcome.Accepted shows free = refl
free_is parts list body place tx (outcome.Static why) shows free =
    let both = sym free.passes ∙ shows in absurd cc
free_is parts list body place tx outcome.SeqTaken shows free =
    let taken = shows.1 in
    absurd (free.number taken.other taken.decision taken.stands taken.another taken.account taken.seq)
free_is parts list body place tx outcome.OfferTaken shows free =
    let taken = shows.1 in
    absurd (taken.another (free.offer taken.key taken.other taken.cancels taken.within taken.too))
free_is parts list body place tx outcome.NameTaken shows free =
    let taken = shows.1 in
    absurd (taken.another (free.id taken.id taken.other taken.creates taken.within taken.too))
free_is parts list body place tx (outcome.Overdraft seen need) shows free =
    let short = shows.1 in
    let enough = free.covered _ short.debit in
    let less = short.short in
    let left = short.left in
    absurd (omega (arith, enough, less, left))

pub free_is_accepted : FreeIsAccepted
free_is_accepted parts candidates outcomes body place one is at free =
    free_is parts (decisions candidates outcomes) body place one.tx one.outcome (is.shows place one at) free

-- ---- static refusals

refused_is : (parts : Parts) (list : List Decision) (body : List Tx) (place : ℕ) (tx : Tx) (said : Outcome)
    (why : Static) → Shows parts list body place tx said → static_of parts tx ≡ Err why → said ≡ outcome.Static why
refused_is parts list body place tx outcome.Accepted why shows refused = let both = sym refused ∙ shows in absurd cc
refused_is parts list body place tx (outcome.Static told) why shows refused =
    let both = sym shows ∙ refused in cc
refused_is parts list body place tx outcome.SeqTaken why shows refused = let both = sym refused ∙ shows.0 in absurd cc
refused_is parts list body place tx outcome.OfferTaken why shows refused = let both = sym refused ∙ shows.0 in absurd cc
refused_is parts list body place tx outcome.NameTaken why shows refused = let both = sym refused ∙ shows.0 in absurd cc
refused_is parts list body place tx (outcome.Overdraft seen need) why shows refused =
    let both = sym refused ∙ shows.0 in absurd cc

pub static_is_exact : StaticIsExact
static_is_exact parts candidates outcomes body place one why is at =
    let shows = is.shows place one at in
    let list = decisions candidates outcomes in (
      (λ e. subst (λ (said : Outcome). Shows parts list body place one.tx said) e shows),
      (λ refused. refused_is parts list body place one.tx one.outcome why shows refused),
    )
