-- What is kept is what is alone among all that pass.
use Rattle.std.proofs.Common.{◌≡◌, Bool, true, false, cond, not, ◌&&◌, List, [], ◌∷◌, ◌++◌, Option, Some, None}
use Rattle.std.proofs.Common.{append_assoc, inl, inr, ◌⊎◌, refl, sym, ap, ap₂, subst, ◌∙◌}
use Rattle.std.specs.Prelude.{nat_eq, ◌==◌}
use Rattle.std.specs.List.{filter, list_any}
use Rattle.std.proofs.lemmas.Bool.{and_from, cases_Bool, eq-eqb}
use Rattle.sx_filter.specs.Alone.{is_alone, is_covered, is_fit, is_new, is_twice}
use Rattle.sx_filter.specs.Kept.{both, covers, is_kept, kept_behind, kept_of, passes, passing, same_id, same_number}
use Rattle.sx_filter.specs.Kept.{same_offer}
use Rattle.sx_filter.proofs.Counts.{elsewhere}
use Rattle.sx_outcome.specs.Gathering.{in_tx_order}
use Rattle.sx_ledger.specs.declared.parts.Parts.{Parts}
use Rattle.sx_ledger.specs.Body.{cancelled_by, created_by}
use Rattle.sx_ledger.specs.Ledger.{assets_of}
use Rattle.sx_ledger.specs.Order.{same_key}
use Rattle.sx_ledger.proofs.KeyOrder.{same_key_from}
use Rattle.sx_tx.specs.declared.tx.Tx.{Tx}

-- ---- a candidate against itself

pub number_itself : (tx : Tx) → same_number tx tx ≡ true
number_itself tx =
    and_from (tx.account.0 == tx.account.0) (tx.seq == tx.seq) (eq-eqb tx.account.0 tx.account.0 refl)
    (eq-eqb tx.seq tx.seq refl)

both_itself : {K : Type 0} (same : K → K → Bool) → ((k : K) → same k k ≡ true) → (named : Option K)
    → (others : Tx → Option K) → (both same named named ≡ true) ⊎ ((y : Tx) → both same named (others y) ≡ false)
both_itself same self None others = inr (λ y. refl)
both_itself same self (Some k) others = inl (self k)

offer_itself : (tx : Tx) → (same_offer tx tx ≡ true) ⊎ ((y : Tx) → same_offer tx y ≡ false)
offer_itself tx =
    both_itself same_key (λ k. same_key_from k k refl) (cancelled_by tx tx.kind) (λ y. cancelled_by y y.kind)

id_itself : (tx : Tx) → (same_id tx tx ≡ true) ⊎ ((y : Tx) → same_id tx y ≡ false)
id_itself tx = both_itself nat_eq (λ k. eq-eqb k k refl) (created_by tx.kind) (λ y. created_by y.kind)

-- ---- a candidate against the others

module _ (parts : Parts) (before after : List Tx) (tx : Tx) (pass : passes parts tx ≡ true) where
  alone_is : is_kept parts (before ++ tx ∷ after) (before ++ after) tx
      ≡ is_alone parts (passing parts (before ++ tx ∷ after)) tx
  alone_is =
      ap (λ (b : Bool). b && (not (list_any (same_number tx) (passing parts (before ++ after)))
      && (not (list_any (same_offer tx) (passing parts (before ++ after)))
      && (not (list_any (same_id tx) (passing parts (before ++ after)))
      && covers parts (passing parts (before ++ tx ∷ after)) tx.account.0 (assets_of parts))))) pass
      ∙ ap₃ (λ (a b c : Bool). not a && (not b &&
      (not c && covers parts (passing parts (before ++ tx ∷ after)) tx.account.0 (assets_of parts))))
      (elsewhere (passes parts) (same_number tx) before after tx pass (inl (number_itself tx)))
      (elsewhere (passes parts) (same_offer tx) before after tx pass (offer_itself tx))
      (elsewhere (passes parts) (same_id tx) before after tx pass (id_itself tx))
    where
      ap₃ : (f : Bool → Bool → Bool → Bool) {a b c x y z : Bool} → a ≡ x → b ≡ y → c ≡ z → f a b c ≡ f x y z
      ap₃ f p q r = λ i. f (p i) (q i) (r i)

-- ---- all of them

kept_step : (parts : Parts) (all before : List Tx) (tx : Tx) (txs rest : List Tx) → all ≡ before ++ tx ∷ txs
    → kept_behind parts all (before ++ tx ∷ []) txs ≡ rest
    → kept_behind parts all before (tx ∷ txs)
    ≡ cond (passes parts tx) (cond (is_alone parts (passing parts all) tx) (tx ∷ rest) rest) rest
kept_step parts all before tx txs rest e same =
    elim (cases_Bool (passes parts tx)) [
      | inl pass ↦
          let test : is_kept parts all (before ++ txs) tx ≡ is_alone parts (passing parts all) tx =
          subst (λ (list : List Tx). is_kept parts list (before ++ txs) tx ≡ is_alone parts (passing parts list) tx)
          (sym e)
          (alone_is parts before txs tx pass) in
          ap₂ (λ (b : Bool) (ys : List Tx). cond b (tx ∷ ys) ys) test same
          ∙ sym (ap (λ (b : Bool). cond b (cond (is_alone parts (passing parts all) tx) (tx ∷ rest) rest) rest) pass)
      | inr fails ↦
          let test : is_kept parts all (before ++ txs) tx ≡ false =
          ap (λ (b : Bool). b && (not (list_any (same_number tx) (passing parts (before ++ txs)))
          && (not (list_any (same_offer tx) (passing parts (before ++ txs)))
          && (not (list_any (same_id tx) (passing parts (before ++ txs)))
          && covers parts (passing parts all) tx.account.0 (assets_of parts))))) fails in
          ap₂ (λ (b : Bool) (ys : List Tx). cond b (tx ∷ ys) ys) test same
          ∙ sym (ap (λ (b : Bool). cond b (cond (is_alone parts (passing parts all) tx) (tx ∷ rest) rest) rest) fails)
    ]

filter_step : (p q : Tx → Bool) (tx : Tx) (txs : List Tx)
    → cond (p tx) (cond (q tx) (tx ∷ filter q (filter p txs)) (filter q (filter p txs))) (filter q (filter p txs))
    ≡ filter q (filter p (tx ∷ txs))
filter_step p q tx txs = elim (cases_Bool (p tx)) [ inl e ↦ rw e refl | inr e ↦ rw e refl ]

behind_is : (parts : Parts) (all before txs : List Tx) → all ≡ before ++ txs
    → kept_behind parts all before txs ≡ filter (is_alone parts (passing parts all)) (passing parts txs)
behind_is parts all before [] e = refl
behind_is parts all before (tx ∷ txs) e =
    kept_step parts all before tx txs (filter (is_alone parts (passing parts all)) (passing parts txs)) e
    (behind_is parts all (before ++ tx ∷ []) txs (e ∙ sym (append_assoc before (tx ∷ []) txs)))
    ∙ filter_step (passes parts) (is_alone parts (passing parts all)) tx txs

-- what is kept, not sorted
abbrev pub alone : Parts → List Tx → List Tx
alone parts candidates = filter (is_alone parts (passing parts candidates)) (passing parts candidates)

pub kept_is : (parts : Parts) (candidates : List Tx) → kept_of parts candidates ≡ in_tx_order (alone parts candidates)
kept_is parts candidates = ap in_tx_order (behind_is parts candidates [] candidates refl)

-- ---- what stands in the way of one

module _ (parts : Parts) (txs : List Tx) (tx : Tx) where
  pub by_number : is_twice (same_number tx) txs ≡ true → false ≡ is_fit parts txs tx
  by_number e = rw e refl

  pub by_offer : is_twice (same_number tx) txs ≡ false → is_twice (same_offer tx) txs ≡ true
      → false ≡ is_fit parts txs tx
  by_offer e f = rw e (rw f refl)

  pub by_debits : is_twice (same_number tx) txs ≡ false → is_twice (same_offer tx) txs ≡ false
      → is_covered parts txs tx ≡ is_fit parts txs tx
  by_debits e f = rw e (rw f refl)

-- ---- what is new of what is fit

fit_and_new : (number offer id covered : Bool)
    → (not number && (not offer && covered)) && not id ≡ not number && (not offer && (not id && covered))
fit_and_new true offer id covered = refl
fit_and_new false true id covered = refl
fit_and_new false false id true = (λ i. true && not id) ∙ unit id
  where
    unit : (id : Bool) → true && not id ≡ not id && true
    unit true = refl
    unit false = refl
fit_and_new false false id false = unit id
  where
    unit : (id : Bool) → false && not id ≡ not id && false
    unit true = refl
    unit false = refl

pub alone_is_fit_and_new : (parts : Parts) (passed : List Tx) (tx : Tx)
    → (is_fit parts passed tx && is_new passed tx) ≡ is_alone parts passed tx
alone_is_fit_and_new parts passed tx =
    fit_and_new (is_twice (same_number tx) passed) (is_twice (same_offer tx) passed) (is_twice (same_id tx) passed)
    (covers parts passed tx.account.0 (assets_of parts))
