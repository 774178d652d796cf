-- Candidates and the outcomes by which they were decided, pair by pair.
use Rattle.std.proofs.Common.{◌≡◌, ℕ, zero, suc, List, [], ◌∷◌, ◌++◌, length, Some, refl, ap, subst}
use Rattle.std.specs.Prelude.{slice_get}
use Rattle.std.proofs.lemmas.Option.{same_Some}
use Rattle.sx_outcome.specs.declared.outcome.Outcome.{Outcome}
use Rattle.sx_outcome.specs.Gathering.{Decision, decisions}
use Rattle.sx_tx.specs.declared.tx.Tx.{Tx}

-- each candidate has one outcome, and the two have this to do with each other
abbrev pub AreDecided : (Tx → Outcome → Type 0) → List Tx → List Outcome → Type 0
AreDecided P [] [] = Unit {0}
AreDecided P [] (said ∷ done) = ⊥
AreDecided P (tx ∷ txs) [] = ⊥
AreDecided P (tx ∷ txs) (said ∷ done) = P tx said × AreDecided P txs done

module _ (P : Tx → Outcome → Type 0) where
  pub decided_length : (txs : List Tx) (done : List Outcome) → AreDecided P txs done → length done ≡ length txs
  decided_length [] [] are = refl
  decided_length [] (said ∷ done) are = absurd are
  decided_length (tx ∷ txs) [] are = absurd are
  decided_length (tx ∷ txs) (said ∷ done) are = ap suc (decided_length txs done are.1)

  pub decided_append : (txs more : List Tx) (done rest : List Outcome) → AreDecided P txs done →
      AreDecided P more rest → AreDecided P (txs ++ more) (done ++ rest)
  decided_append [] more [] rest are also = also
  decided_append [] more (said ∷ done) rest are also = absurd are
  decided_append (tx ∷ txs) more [] rest are also = absurd are
  decided_append (tx ∷ txs) more (said ∷ done) rest are also =
      (are.0, decided_append txs more done rest are.1 also)

  pub decisions_append : (txs more : List Tx) (done rest : List Outcome) → AreDecided P txs done →
      decisions (txs ++ more) (done ++ rest) ≡ decisions txs done ++ decisions more rest
  decisions_append [] more [] rest are = refl
  decisions_append [] more (said ∷ done) rest are = absurd are
  decisions_append (tx ∷ txs) more [] rest are = absurd are
  decisions_append (tx ∷ txs) more (said ∷ done) rest are =
      ap (λ (list : List Decision). record { tx = tx; outcome = said } ∷ list)
      (decisions_append txs more done rest are.1)

  pub decided_at : (txs : List Tx) (done : List Outcome) → AreDecided P txs done → (place : ℕ) (one : Decision) →
      slice_get (decisions txs done) place ≡ Some one → P one.tx one.outcome
  decided_at [] [] are place one at = absurd cc
  decided_at [] (said ∷ done) are place one at = absurd are
  decided_at (tx ∷ txs) [] are place one at = absurd are
  decided_at (tx ∷ txs) (said ∷ done) are zero one at =
      subst (λ (d : Decision). P d.tx d.outcome) (same_Some (record { tx = tx; outcome = said }) one at) are.0
  decided_at (tx ∷ txs) (said ∷ done) are (suc place) one at = decided_at txs done are.1 place one at

pub decided_map : (P Q : Tx → Outcome → Type 0) → ((tx : Tx) (said : Outcome) → P tx said → Q tx said) →
    (txs : List Tx) (done : List Outcome) → AreDecided P txs done → AreDecided Q txs done
decided_map P Q f [] [] are = tt
decided_map P Q f [] (said ∷ done) are = absurd are
decided_map P Q f (tx ∷ txs) [] are = absurd are
decided_map P Q f (tx ∷ txs) (said ∷ done) are = (f tx said are.0, decided_map P Q f txs done are.1)
