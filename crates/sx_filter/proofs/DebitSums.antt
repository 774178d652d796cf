-- What one candidate more does to the sums of the debits.
use Rattle.std.proofs.Common.{◌≡◌, ℕ, zero, suc, ◌+◌, ◌<◌, ◌≤◌, Bool, true, false, cond, ◌&&◌, List, [], ◌∷◌, ◌++◌}
use Rattle.std.proofs.Common.{Some, None, drop, take, get_or, length, set, inl, inr, refl, sym, ap, subst, ◌∙◌, arith}
use Rattle.std.specs.Prelude.{nat_le, ◌==◌}
use Rattle.std.proofs.lemmas.Bool.{and_right, cases_eq, eq-eqb, false_from_ne_true, ne_eqb}
use Rattle.std.proofs.lemmas.List.{get_or-set_other, get_or-set_same, length-set, take-append-drop}
use Rattle.sx_filter.specs.Kept.{covers}
use Rattle.sx_filter.specs.Runs.{AreSums}
use Rattle.sx_filter.proofs.Counts.{total_append}
use Rattle.sx_filter.proofs.KeptLaws.{covers_each, each_covers}
use Rattle.sx_outcome.proofs.BodySums.{debits_total}
use Rattle.sx_ledger.specs.declared.parts.Parts.{Parts}
use Rattle.sx_ledger.specs.Body.{holding_of}
use Rattle.sx_ledger.specs.Effects.{debit, debits, posted}
use Rattle.sx_ledger.specs.Ledger.{assets_of}
use Rattle.sx_tx.specs.declared.tx.Tx.{Tx}

debits_more : (txs others : List Tx) (account asset : ℕ)
    → debits (txs ++ others) account asset ≡ debits txs account asset + debits others account asset
debits_more txs others account asset =
    debits_total (txs ++ others) account asset
    ∙ total_append (λ t. posted (debit t) account asset) txs others
    ∙ omega (arith, debits_total txs account asset, debits_total others account asset)

-- the first of candidates that are covered are covered
pub first_covered : (parts : Parts) (txs others : List Tx) (account n : ℕ)
    → covers parts (txs ++ others) account n ≡ true → covers parts txs account n ≡ true
first_covered parts txs others account n all =
    each_covers parts txs account n (λ asset lt.
    let holds = covers_each parts (txs ++ others) account n all asset lt in
    omega (arith, holds, debits_more txs others account asset))

-- where the first of a run are not covered, the run is not
pub part_over : (parts : Parts) (run : List Tx) (k account n : ℕ) → covers parts (take k run) account n ≡ false
    → false ≡ covers parts run account n
part_over parts run k account n over =
    sym (false_from_ne_true (covers parts run account n) (λ all.
    let whole : covers parts (take k run ++ drop k run) account n ≡ true =
    subst (λ (txs : List Tx). covers parts txs account n ≡ true) (sym (take-append-drop k run)) all in
    let first = first_covered parts (take k run) (drop k run) account n whole in absurd cc))

pub none_summed : (parts : Parts) (account : ℕ) (sums : List ℕ) → length sums ≡ assets_of parts
    → ((asset : ℕ) → asset < assets_of parts → get_or sums asset 0 ≡ 0) → AreSums parts [] account sums
none_summed parts account sums one_each none = record { one_each = one_each; are = none }

module _ (parts : Parts) (txs : List Tx) (tx : Tx) where
  abbrev more : List Tx
  more = txs ++ tx ∷ []

  debits_one : (account asset : ℕ)
      → debits more account asset ≡ debits txs account asset + posted (debit tx) account asset
  debits_one account asset =
      debits_total more account asset
      ∙ total_append (λ t. posted (debit t) account asset) txs (tx ∷ [])
      ∙ omega (arith, debits_total txs account asset)

  -- where as much is debited of each asset, as much is covered
  covers_as : (account n : ℕ) → ((asset : ℕ) → debits more account asset ≡ debits txs account asset)
      → covers parts more account n ≡ covers parts txs account n
  covers_as account zero same = refl
  covers_as account (suc n) same =
      λ i. covers_as account n same i && nat_le (same n i) (holding_of parts.accounts account n)

  nothing : (account asset : ℕ) → debit tx ≡ None → debits more account asset ≡ debits txs account asset
  nothing account asset none =
      let here : posted (debit tx) account asset ≡ 0 = ap (λ o. posted o account asset) none in
      omega (arith, debits_one account asset, here)

  pub none_covers : (account n : ℕ) → debit tx ≡ None → covers parts more account n ≡ covers parts txs account n
  none_covers account n none = covers_as account n (λ asset. nothing account asset none)

  pub none_sums : (account : ℕ) (sums : List ℕ) → debit tx ≡ None → AreSums parts txs account sums
      → AreSums parts more account sums
  none_sums account sums none is = record {
    one_each = is.one_each;
    are = λ asset lt. is.are asset lt ∙ sym (nothing account asset none);
  }

  module _ (account asset units : ℕ)
      (is_debit : debit tx ≡ Some (record { account = account; asset = asset; units = units })) where
    posting : (a x : ℕ) → posted (debit tx) a x ≡ cond ((account == a) && (asset == x)) units 0
    posting a x = ap (λ o. posted o a x) is_debit

    other_asset : (x : ℕ) → (asset ≡ x → ⊥) → debits more account x ≡ debits txs account x
    other_asset x other =
        let none : posted (debit tx) account x ≡ 0 =
        posting account x
        ∙ ap (λ (b : Bool). cond b units 0) (and_right (account == account) (asset == x) (ne_eqb asset x other)) in
        omega (arith, debits_one account x, none)

    same_asset : debits more account asset ≡ debits txs account asset + units
    same_asset =
        let all : posted (debit tx) account asset ≡ units =
        posting account asset
        ∙ rw (eq-eqb account account refl, eq-eqb asset asset refl) refl in
        omega (arith, debits_one account asset, all)

    module _ (small : asset < assets_of parts) (covered : covers parts txs account (assets_of parts) ≡ true) where
      pub comes_over : holding_of parts.accounts account asset < debits txs account asset + units
          → covers parts more account (assets_of parts) ≡ false
      comes_over short =
          false_from_ne_true (covers parts more account (assets_of parts)) (λ all.
          let holds = covers_each parts more account (assets_of parts) all asset small in
          absurd (omega (arith, holds, short, same_asset)))

      pub stays_covered : debits txs account asset + units ≤ holding_of parts.accounts account asset
          → covers parts more account (assets_of parts) ≡ true
      stays_covered enough =
          each_covers parts more account (assets_of parts) (λ x lt. elim (cases_eq asset x) [
            | inl e ↦
                subst (λ (y : ℕ). debits more account y ≤ holding_of parts.accounts account y) e
                (omega (arith, enough, same_asset))
            | inr other ↦
                let holds = covers_each parts txs account (assets_of parts) covered x lt in
                omega (arith, holds, other_asset x other)
          ])

    pub more_sums : (sums : List ℕ) (sum : ℕ) → asset < length sums → sum ≡ get_or sums asset 0 + units
        → AreSums parts txs account sums → AreSums parts more account (set sums asset sum)
    more_sums sums sum lt is_sum is = record {
      one_each = length-set sums asset sum ∙ is.one_each;
      are = λ x less. elim (cases_eq asset x) [
        | inl e ↦
            subst (λ (y : ℕ). get_or (set sums asset sum) y 0 ≡ debits more account y) e
            (get_or-set_same sums asset sum 0 lt ∙ is_sum
            ∙ omega (arith, same_asset, is.are asset (omega (arith, lt, is.one_each))))
        | inr other ↦
            get_or-set_other sums asset x sum 0 (λ e. other (sym e)) ∙ is.are x less ∙ sym (other_asset x other)
      ];
    }
