-- The decided candidates of a pass, as its outcomes grow.
use Rattle.std.proofs.Common.{◌≡◌, ℕ, ◌+◌, ◌≤◌, List, [], ◌∷◌, ◌++◌, length, drop, take}
use Rattle.std.proofs.Common.{Some, inl, inr, refl, ap, ◌∙◌, arith}
use Rattle.std.specs.Prelude.{slice_get, if◌then◌else◌}
use Rattle.std.proofs.lemmas.Bool.{cases_Bool}
use Rattle.std.proofs.lemmas.List.{drop-drop, drop_more, length-drop, length-take, take_more}
use Rattle.std.proofs.lemmas.Option.{get_or_from_slice_get, slice_get_within}
use Rattle.sx_outcome.specs.declared.outcome.Outcome.{Outcome}
use Rattle.sx_outcome.specs.Gathering.{Decision, accepted, decisions, is_accepted}
use Rattle.sx_tx.specs.declared.tx.Tx.{Tx}

pub decided_none : (txs : List Tx) → decisions txs [] ≡ []
decided_none [] = refl
decided_none (tx ∷ txs) = refl

pub decided_more : (txs : List Tx) (done more : List Outcome) → length done ≤ length txs
    → decisions txs (done ++ more) ≡ decisions txs done ++ decisions (drop (length done) txs) more
decided_more [] [] more few = refl
decided_more [] (said ∷ done) more few = absurd (omega arith)
decided_more (tx ∷ txs) [] more few = refl
decided_more (tx ∷ txs) (said ∷ done) more few =
    ap (λ (list : List Decision). record { tx = tx; outcome = said } ∷ list)
    (decided_more txs done more (omega arith))

-- from a place on, with more outcomes for the candidates from the next one on
pub decided_on : (candidates : List Tx) (from next : ℕ) (done more : List Outcome) → from + length done ≡ next
    → next ≤ length candidates
    → decisions (drop from candidates) (done ++ more)
    ≡ decisions (drop from candidates) done ++ decisions (drop next candidates) more
decided_on candidates from next done more sum within =
    let few : length done ≤ length (drop from candidates) =
    omega (arith, sum, within, length-drop from candidates) in
    let rest : drop (length done) (drop from candidates) ≡ drop next candidates =
    drop-drop (length done) from candidates ∙ ap (λ (n : ℕ). drop n candidates) sum in
    decided_more (drop from candidates) done more few
    ∙ ap (λ (txs : List Tx). decisions (drop from candidates) done ++ decisions txs more) rest

-- the next candidate
pub decided_next : (candidates : List Tx) (from next : ℕ) (done : List Outcome) (tx : Tx) (said : Outcome)
    → from + length done ≡ next → slice_get candidates next ≡ Some tx
    → decisions (drop from candidates) (done ++ said ∷ [])
    ≡ decisions (drop from candidates) done ++ record { tx = tx; outcome = said } ∷ []
decided_next candidates from next done tx said sum at =
    let within = slice_get_within candidates next tx at in
    let first : drop next candidates ≡ tx ∷ drop (next + 1) candidates =
    drop_more candidates next tx within
    ∙ ap (λ (t : Tx). t ∷ drop (next + 1) candidates) (get_or_from_slice_get candidates next tx tx at) in
    let one : List Decision → List Decision = λ list. decisions (drop from candidates) done ++ list in
    decided_on candidates from next done (said ∷ []) sum (omega (arith, within))
    ∙ ap (λ (txs : List Tx). one (decisions txs (said ∷ []))) first
    ∙ ap (λ (list : List Decision). one (record { tx = tx; outcome = said } ∷ list))
    (decided_none (drop (next + 1) candidates))

-- ---- what is accepted

accepted_append : (list more : List Decision) → accepted (list ++ more) ≡ accepted list ++ accepted more
accepted_append [] more = refl
accepted_append (one ∷ list) more =
    elim (cases_Bool (is_accepted one.outcome)) [
      | inl e ↦ rw e (ap (λ (txs : List Tx). one.tx ∷ txs) (accepted_append list more))
      | inr e ↦ rw e (accepted_append list more)
    ]

pub accepted_none : (candidates : List Tx) → accepted (decisions candidates []) ≡ []
accepted_none candidates = ap accepted (decided_none candidates)

-- with the outcome of one more candidate
pub accepted_more : (candidates : List Tx) (outcomes : List Outcome) (place : ℕ) (tx : Tx) (said : Outcome)
    → slice_get candidates place ≡ Some tx → slice_get outcomes place ≡ Some said
    → accepted (decisions candidates (take (place + 1) outcomes))
    ≡ accepted (decisions candidates (take place outcomes)) ++ (if is_accepted said then tx ∷ [] else [])
accepted_more candidates outcomes place tx said at there =
    let within = slice_get_within outcomes place said there in
    let more : take (place + 1) outcomes ≡ take place outcomes ++ said ∷ [] =
    take_more outcomes place said within
    ∙ ap (λ (o : Outcome). take place outcomes ++ o ∷ []) (get_or_from_slice_get outcomes place said said there) in
    let many : 0 + length (take place outcomes) ≡ place = omega (arith, within, length-take place outcomes) in
    ap (λ (list : List Outcome). accepted (decisions candidates list)) more
    ∙ ap accepted (decided_next candidates 0 place (take place outcomes) tx said many at)
    ∙ accepted_append (decisions candidates (take place outcomes)) (record { tx = tx; outcome = said } ∷ [])
