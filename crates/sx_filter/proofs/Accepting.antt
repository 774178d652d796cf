-- Why a gathering accepts all of what is kept.
use Rattle.std.proofs.Common.{◌≡◌, ℕ, zero, suc, ◌+◌, ◌<◌, ◌≤◌, Bool, true, false, cond, List, [], ◌∷◌, length}
use Rattle.std.proofs.Common.{get_or}
use Rattle.std.proofs.Common.{Some, inl, inr, refl, sym, ap, subst, ◌∙◌, arith}
use Rattle.std.specs.Prelude.{slice_get, nat_eq, Contains}
use Rattle.std.proofs.lemmas.Bool.{and_from, cases_Bool, cases_order, eq-eqb}
use Rattle.std.proofs.lemmas.Option.{same_Some}
use Rattle.sx_filter.specs.Kept.{both, same_id, same_number, same_offer}
use Rattle.sx_filter.specs.KeptLaws.{KeptIsAccepted}
use Rattle.sx_filter.proofs.Counts.{in_contains, two_in}
use Rattle.sx_filter.proofs.InOrder.{ordered_in}
use Rattle.sx_filter.proofs.KeptAlone.{alone, kept_is, number_itself}
use Rattle.sx_filter.proofs.KeptLaws.{alone_is, covered, fewer, once, passes_is}
use Rattle.sx_outcome.specs.declared.outcome.Outcome.{Outcome}
use Rattle.sx_outcome.specs.declared.outcome.Outcome.TheVariants as outcome
use Rattle.sx_outcome.specs.Gathering.{Decision, IsGathered, Shows, accepted, body_of, decisions, in_tx_order}
use Rattle.sx_outcome.specs.Gathering.{is_accepted}
use Rattle.sx_outcome.proofs.BodySums.{debits_total, total_accepted, total_candidates, total_ordered}
use Rattle.sx_outcome.proofs.Totals.{In, total, two_places}
use Rattle.sx_ledger.specs.declared.parts.Parts.{Parts}
use Rattle.sx_ledger.specs.Effects.{debit, debits, posted}
use Rattle.sx_ledger.specs.Order.{same_key}
use Rattle.sx_ledger.proofs.KeyOrder.{same_key_from}
use Rattle.sx_tx.specs.declared.tx.Tx.{Tx}

-- ---- decisions at their places

record IsDecided (txs : List Tx) (said : List Outcome) (place : ℕ) (d : Outcome) : Type 0 where
  one : Decision
  at : slice_get (decisions txs said) place ≡ Some one
  outcome : one.outcome ≡ get_or said place d

decided : (txs : List Tx) (said : List Outcome) (place : ℕ) (d : Outcome) → length said ≡ length txs
    → place < length said → IsDecided txs said place d
decided txs [] place d same lt = absurd (omega arith)
decided [] (first ∷ said) place d same lt = absurd (omega arith)
decided (tx ∷ txs) (first ∷ said) zero d same lt =
    record { one = record { tx = tx; outcome = first }; at = refl; outcome = refl }
decided (tx ∷ txs) (first ∷ said) (suc place) d same lt =
    let rest = decided txs said place d (omega arith) (omega arith) in
    record { one = rest.one; at = rest.at; outcome = rest.outcome }

tx_at : (txs : List Tx) (said : List Outcome) (place : ℕ) (one : Decision)
    → slice_get (decisions txs said) place ≡ Some one → slice_get txs place ≡ Some one.tx
tx_at [] said place one at = absurd cc
tx_at (tx ∷ txs) [] place one at = absurd cc
tx_at (tx ∷ txs) (first ∷ said) zero one at =
    ap (λ (d : Decision). Some d.tx) (same_Some (record { tx = tx; outcome = first }) one at)
tx_at (tx ∷ txs) (first ∷ said) (suc place) one at = tx_at txs said place one at

in_at : (txs : List Tx) (place : ℕ) (tx : Tx) → slice_get txs place ≡ Some tx → In tx txs
in_at [] place tx at = absurd cc
in_at (first ∷ txs) zero tx at = inl (same_Some first tx at)
in_at (first ∷ txs) (suc place) tx at = inr (in_at txs place tx at)

accepted_in : (txs : List Tx) (said : List Outcome) (tx : Tx) → In tx (accepted (decisions txs said)) → In tx txs
accepted_in [] said tx is = absurd is
accepted_in (first ∷ txs) [] tx is = absurd is
accepted_in (first ∷ txs) (one ∷ said) tx is = elim (cases_Bool (is_accepted one)) [
  | inl e ↦ elim (rw e at is) [ inl here ↦ inl here | inr later ↦ inr (accepted_in txs said tx later) ]
  | inr e ↦ inr (accepted_in txs said tx (rw e at is))
]

-- what is not accepted counts beside all that is
beside : (f : Tx → ℕ) (txs : List Tx) (said : List Outcome) (place : ℕ) (one : Decision)
    → slice_get (decisions txs said) place ≡ Some one → is_accepted one.outcome ≡ false
    → total f (accepted (decisions txs said)) + f one.tx ≤ total f txs
beside f [] said place one at refused = absurd cc
beside f (tx ∷ txs) [] place one at refused = absurd cc
beside f (tx ∷ txs) (first ∷ said) zero one at refused =
    let same = same_Some (record { tx = tx; outcome = first }) one at in
    let out : is_accepted first ≡ false = ap (λ (d : Decision). is_accepted d.outcome) same ∙ refused in
    let here : f tx ≡ f one.tx = ap (λ (d : Decision). f d.tx) same in
    rw out (omega (arith, here, total_accepted f (decisions txs said), total_candidates f txs said))
beside f (tx ∷ txs) (first ∷ said) (suc place) one at refused =
    let rest = beside f txs said place one at refused in
    elim (cases_Bool (is_accepted first)) [
      | inl e ↦ rw e (omega (arith, rest))
      | inr e ↦ rw e (omega (arith, rest))
    ]

-- ---- what each outcome would say

module _ (parts : Parts) (candidates : List Tx) (said : List Outcome) (body : List Tx) where
  abbrev K : List Tx
  K = alone parts candidates

  abbrev T : List Tx
  T = in_tx_order K

  abbrev list : List Decision
  list = decisions T said

  module _ (body_is : body ≡ body_of list) where
    in_body : (tx : Tx) → Contains body tx → In tx T
    in_body tx within =
        accepted_in T said tx (ordered_in tx (accepted list)
        (in_contains tx (body_of list) (subst (λ (txs : List Tx). Contains txs tx) body_is within)))

    module _ (place : ℕ) (tx : Tx) (here : In tx T) where
      in_k : In tx K
      in_k = ordered_in tx K here

      one_number : total (λ y. cond (same_number tx y) 1 0) T ≤ 1
      one_number = omega (arith, total_ordered (λ y. cond (same_number tx y) 1 0) K, once parts candidates tx in_k)

      one_offer : total (λ y. cond (same_offer tx y) 1 0) T ≤ 1
      one_offer =
          omega (
            arith,
            total_ordered (λ y. cond (same_offer tx y) 1 0) K,
            fewer parts candidates (λ y. cond (same_offer tx y) 1 0),
            (alone_is parts candidates tx in_k).offer,
          )

      one_id : total (λ y. cond (same_id tx y) 1 0) T ≤ 1
      one_id =
          omega (
            arith,
            total_ordered (λ y. cond (same_id tx y) 1 0) K,
            fewer parts candidates (λ y. cond (same_id tx y) 1 0),
            (alone_is parts candidates tx in_k).id,
          )

      not_two : (test : Tx → Bool) (other : Tx) → total (λ y. cond (test y) 1 0) T ≤ 1 → test tx ≡ true
          → test other ≡ true → In other T → (other ≡ tx → ⊥) → ⊥
      not_two test other few itself too there another =
          let sum = two_in (λ y. cond (test y) 1 0) tx other T here there (λ e. another (sym e)) in
          two_not (omega (arith, few, rw (itself, too) at sum))
        where
          two_not : 2 ≤ 1 → ⊥
          two_not le = omega arith

      not_elsewhere : (other : ℕ) (one : Decision) → slice_get T place ≡ Some tx → slice_get list other ≡ Some one
          → (other ≡ place → ⊥) → one.tx.account.0 ≡ tx.account.0 → one.tx.seq ≡ tx.seq → ⊥
      not_elsewhere other one at there another account seq =
          let f : Tx → ℕ = λ y. cond (same_number tx y) 1 0 in
          let at_other = tx_at T said other one there in
          let count : ℕ = 1 in
          let itself : f tx ≡ count = rw (number_itself tx) refl in
          let same : same_number tx one.tx ≡ true =
          and_from _ _ (eq-eqb tx.account.0 one.tx.account.0 (sym account)) (eq-eqb tx.seq one.tx.seq (sym seq)) in
          let too : f one.tx ≡ count = rw same refl in
          elim (cases_order other place) [
            | inl e ↦ another e
            | inr (inl lt) ↦
                let sum = two_places f T other place one.tx tx lt at_other at in
                omega (arith, one_number, itself, too, sum)
            | inr (inr gt) ↦
                let sum = two_places f T place other tx one.tx gt at at_other in
                omega (arith, one_number, itself, too, sum)
          ]

      is_said : (what : Outcome) → slice_get list place ≡ Some (record { tx = tx; outcome = what })
          → Shows parts list body place tx what → what ≡ outcome.Accepted
      is_said outcome.Accepted at shows = refl
      is_said (outcome.Static why) at shows =
          let passed = passes_is parts tx (alone_is parts candidates tx in_k).pass in
          let both_say = sym passed ∙ shows in absurd cc
      is_said outcome.SeqTaken at shows =
          let taken = shows.1 in
          absurd (not_elsewhere taken.other taken.decision (tx_at T said place _ at) taken.stands taken.another
          taken.account taken.seq)
      is_said outcome.OfferTaken at shows =
          let taken = shows.1 in
          let key = taken.key in
          let itself : same_offer tx tx ≡ true =
          (λ i. both same_key (taken.cancels i) (taken.cancels i)) ∙ same_key_from key key refl in
          let too : same_offer tx taken.other ≡ true =
          (λ i. both same_key (taken.cancels i) (taken.too i)) ∙ same_key_from key key refl in
          absurd (not_two (same_offer tx) taken.other one_offer itself too
          (in_body taken.other taken.within) taken.another)
      is_said outcome.NameTaken at shows =
          let taken = shows.1 in
          let id = taken.id in
          let itself : same_id tx tx ≡ true =
          (λ i. both nat_eq (taken.creates i) (taken.creates i)) ∙ eq-eqb id id refl in
          let too : same_id tx taken.other ≡ true =
          (λ i. both nat_eq (taken.creates i) (taken.too i)) ∙ eq-eqb id id refl in
          absurd (not_two (same_id tx) taken.other one_id itself too (in_body taken.other taken.within) taken.another)
      is_said (outcome.Overdraft seen need) at shows =
          let short = shows.1 in
          let account = tx.account.0 in
          let asset = short.asset in
          let f : Tx → ℕ = λ t. posted (debit t) account asset in
          let own : f tx ≡ need =
          ap (λ o. posted o account asset) short.debit
          ∙ rw (eq-eqb account account refl) (rw (eq-eqb asset asset refl) refl) in
          let spare = beside f T said place (record { tx = tx; outcome = outcome.Overdraft seen need }) at refl in
          let taken : debits body account asset ≡ total f (accepted list) =
          ap (λ (txs : List Tx). debits txs account asset) body_is ∙ debits_total (body_of list) account asset
          ∙ total_ordered f (accepted list) in
          let low = short.left in
          let less = short.short in
          absurd (omega (
            arith,
            own,
            spare,
            taken,
            low,
            less,
            total_ordered f K,
            covered parts candidates account asset,
          ))

  all_accepted : IsGathered parts T said body → (k : ℕ) (d : Outcome) → k < length said
      → get_or said k d ≡ outcome.Accepted
  all_accepted is k d lt =
      let at = decided T said k d is.one_each lt in
      let one = at.one in
      sym at.outcome
      ∙ is_said is.accepted_are k one.tx (in_at T k one.tx (tx_at T said k one at.at)) one.outcome at.at
      (is.shows k one at.at)

pub kept_is_accepted : KeptIsAccepted
kept_is_accepted parts candidates said body is =
    all_accepted parts candidates said body
    (subst (λ (txs : List Tx). IsGathered parts txs said body) (kept_is parts candidates) is)
