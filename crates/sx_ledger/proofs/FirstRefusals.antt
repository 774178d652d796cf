-- The first transaction that a ledger refuses is one transaction, refused for one reason.
use Rattle.std.proofs.Common.{◌≡◌, ℕ, ◌<◌, List, Ok, Err, All, length, get_or, take, inl, inr, sym, ap, subst, ◌∙◌}
use Rattle.std.proofs.Common.{arith}
use Rattle.std.specs.Prelude.{slice_get}
use Rattle.std.proofs.lemmas.Bool.{cases_order}
use Rattle.std.proofs.lemmas.List.{get_or-take, length-take-le}
use Rattle.std.proofs.lemmas.Option.{get_or_from_slice_get, same_Some, slice_get_within}
use Rattle.sx_ledger.specs.FirstRefusal.{IsFirstRefused, OneRefusal, PassingIsNotRefused}
use Rattle.sx_ledger.specs.declared.parts.Parts.{Parts}
use Rattle.sx_ledger.specs.declared.statics.Static.{Static}
use Rattle.sx_ledger.specs.Static.{static_of}
use Rattle.sx_tx.specs.declared.tx.Tx.{Tx}

-- a transaction that is refused is not among those that pass
not_passed : (parts : Parts) (txs : List Tx) (i : ℕ) (why : Static) (tx : Tx) → static_of parts tx ≡ Err why
    → All (λ tx. static_of parts tx ≡ Ok tt) txs → i < length txs → get_or txs i tx ≡ tx → ⊥
not_passed parts txs i why tx refused pass lt is =
    let both : Err why ≡ Ok tt = sym refused
    ∙ subst (λ (tx : Tx). static_of parts tx ≡ Ok tt) is (pass i tx lt) in
    absurd cc

pub none_refused : PassingIsNotRefused
none_refused parts txs i why pass first =
    not_passed parts txs i why first.tx first.refused pass (slice_get_within txs i first.tx first.there)
    (get_or_from_slice_get txs i first.tx first.tx first.there)

not_before : (parts : Parts) (txs : List Tx) (i j : ℕ) (why other : Static) → IsFirstRefused parts txs i why
    → IsFirstRefused parts txs j other → i < j → ⊥
not_before parts txs i j why other first later lt =
    let below = slice_get_within txs j later.tx later.there in
    not_passed parts (take j txs) i why first.tx first.refused later.before
    (omega (arith, length-take-le j txs (omega arith)))
    (get_or-take j txs i first.tx lt ∙ get_or_from_slice_get txs i first.tx first.tx first.there)

pub one_refusal : OneRefusal
one_refusal parts txs i j why other first second =
    elim (cases_order i j) [
      | inl e ↦
          let same : first.tx ≡ second.tx =
          same_Some first.tx second.tx (sym first.there ∙ ap (slice_get txs) e ∙ second.there) in
          let both : Err why ≡ Err other = sym first.refused ∙ ap (static_of parts) same ∙ second.refused in
          (e, cc)
      | inr (inl lt) ↦ absurd (not_before parts txs i j why other first second lt)
      | inr (inr gt) ↦ absurd (not_before parts txs j i other why second first gt)
    ]
