-- Actors that have no candidate left: the claims of all their views are the marks of all outcomes.
use Rattle.std.proofs.Common.{◌≡◌, ℕ, zero, suc, ◌+◌, ◌<◌, List, [], ◌++◌}
use Rattle.std.proofs.Common.{sum_by}
use Rattle.std.proofs.Common.{refl, sym, ap, subst, ◌∙◌, arith, append-nil}
use Rattle.std.proofs.lemmas.Grind.{flat_map-append}
use Rattle.std.proofs.lemmas.List.Sums.{sum_by-append}
use Rattle.sx_event.specs.declared.marks.Claim.{Claim}
use Rattle.sx_outcome.specs.declared.outcome.Outcome.{Outcome}
use Rattle.sx_script.specs.Actors.{Actor}
use Rattle.sx_outcome.specs.Gathering.{Decision, decisions}
use Rattle.sx_layout.specs.Marks.{Closes, marks, marks_of}
use Rattle.sx_layout.specs.Plan.{Plan}
use Rattle.sx_script.proofs.ActorMarks.{ActorKeeps, pending}
use Rattle.sx_outcome.proofs.DecidedPairs.{AreDecided, decided_append, decisions_append}
use Rattle.sx_outcome.proofs.PartLists.{joined, sum_of}
use Rattle.sx_ledger.specs.declared.parts.Parts.{Parts}
use Rattle.sx_tx.specs.declared.tx.Tx.{Tx}

-- all of these candidates are decided, and the claims are their marks
pub record IsDone (parts : Parts) (plan : Plan) (purses bits : List ℕ) (part : List Tx) (done : List Outcome)
    (claims : List Claim) : Type 0 where
  pub closes : AreDecided (Closes parts plan (λ shard. purses) (λ shard. bits)) part done
  pub has : claims ≡ marks parts plan 0 (decisions part done)

pub is_done : (parts : Parts) (plan : Plan) (purses bits : List ℕ) (part : List Tx) (actor : Actor)
    (claims : List Claim) →
    actor.left ≡ [] → ActorKeeps parts plan purses bits claims part actor →
    IsDone parts plan purses bits part actor.done claims
is_done parts plan purses bits part actor claims none keeps =
    let P = Closes parts plan (λ shard. purses) (λ shard. bits) in
    let all : part ≡ keeps.decided =
    keeps.whole ∙ ap (λ (left : List Tx). keeps.decided ++ left) none ∙ append-nil keeps.decided in
    let list = marks parts plan 0 (decisions keeps.decided actor.done) in
    record {
      closes = subst (λ (txs : List Tx). AreDecided P txs actor.done) (sym all) keeps.closes;
      has =
          keeps.has ∙ ap (λ (left : List Tx). list ++ pending parts plan actor.stage left) none ∙ append-nil list
          ∙ ap (λ (txs : List Tx). marks parts plan 0 (decisions txs actor.done)) (sym all);
    }

module _ (parts : Parts) (plan : Plan) (purses bits : List ℕ) where
  abbrev P : Tx → Outcome → Type 0
  P = Closes parts plan (λ shard. purses) (λ shard. bits)

  pub all_decided : (n : ℕ) (part : ℕ → List Tx) (done : ℕ → List Outcome) (claims : ℕ → List Claim)
      → ((k : ℕ) → k < n → IsDone parts plan purses bits (part k) (done k) (claims k))
      → AreDecided P (joined part n) (joined done n)
  all_decided zero part done claims each = tt
  all_decided (suc n) part done claims each =
      decided_append P (part 0) (joined (λ k. part (suc k)) n) (done 0) (joined (λ k. done (suc k)) n)
      (each 0 (omega arith)).closes
      (all_decided n (λ k. part (suc k)) (λ k. done (suc k)) (λ k. claims (suc k))
      (λ k lt. each (suc k) (omega (arith, lt))))

  pub all_marks : (f : Claim → ℕ) (n : ℕ) (part : ℕ → List Tx) (done : ℕ → List Outcome) (claims : ℕ → List Claim)
      → ((k : ℕ) → k < n → IsDone parts plan purses bits (part k) (done k) (claims k))
      → sum_by f (marks parts plan 0 (decisions (joined part n) (joined done n)))
      ≡ sum_of (λ k. sum_by f (claims k)) n
  all_marks f zero part done claims each = refl
  all_marks f (suc n) part done claims each =
      let first = each 0 (omega arith) in
      let own = decisions (part 0) (done 0) in
      let others = decisions (joined (λ k. part (suc k)) n) (joined (λ k. done (suc k)) n) in
      let list = decisions_append P (part 0) (joined (λ k. part (suc k)) n) (done 0) (joined (λ k. done (suc k)) n)
      first.closes in
      let split : sum_by f (marks parts plan 0 (decisions (joined part (suc n)) (joined done (suc n))))
      ≡ sum_by f (marks parts plan 0 own) + sum_by f (marks parts plan 0 others) =
      ap (λ (l : List Decision). sum_by f (marks parts plan 0 l)) list
      ∙ ap (sum_by f) (flat_map-append (marks_of parts plan 0) own others)
      ∙ sum_by-append f (marks parts plan 0 own) (marks parts plan 0 others) in
      let here : sum_by f (claims 0) ≡ sum_by f (marks parts plan 0 own) = ap (sum_by f) first.has in
      let rest = all_marks f n (λ k. part (suc k)) (λ k. done (suc k)) (λ k. claims (suc k))
      (λ k lt. each (suc k) (omega (arith, lt))) in
      omega (arith, split, here, rest)
