-- The candidates of an account stand side by side, so that its debits are those of its run.
use Rattle.std.proofs.Common.{◌≡◌, ℕ, zero, suc, ◌+◌, ◌-◌, ◌<◌, ◌≤◌, Bool, ◌&&◌, List, [], ◌∷◌, All, Ok}
use Rattle.std.proofs.Common.{Some, drop, get_or, take, inl, inr, refl, sym, ap, subst, ◌∙◌, arith}
use Rattle.std.specs.Prelude.{is_ok, nat_le, slice_get}
use Rattle.std.specs.List.{slice_range}
use Rattle.std.specs.List.Sorted.{IsSortedBy}
use Rattle.std.proofs.lemmas.Bool.{cases_lt}
use Rattle.std.proofs.lemmas.Option.{get_or_from_slice_get, slice_get_within}
use Rattle.sx_filter.specs.Kept.{covers}
use Rattle.sx_filter.specs.Runs.{Begins, EndsRun}
use Rattle.sx_filter.specs.Verdicts.{IsVerdict}
use Rattle.sx_filter.proofs.KeptLaws.{posted_at}
use Rattle.sx_filter.proofs.Sorted.{accounts_rise}
use Rattle.sx_outcome.proofs.BodySums.{debits_total}
use Rattle.sx_outcome.proofs.Totals.{total}
use Rattle.sx_ledger.specs.declared.parts.Parts.{Parts}
use Rattle.sx_ledger.specs.Body.{holding_of, tx_before}
use Rattle.sx_ledger.specs.Effects.{debit, debits, posted}
use Rattle.sx_ledger.specs.Static.{static_of}
use Rattle.sx_tx.specs.declared.tx.Tx.{Tx}

-- what counts nothing outside of a part counts as much in it
total_part : {X : Type 0} (f : X → ℕ) (xs : List X) (start count : ℕ)
    → ((k : ℕ) (x : X) → slice_get xs k ≡ Some x → k < start → f x ≡ 0)
    → ((k : ℕ) (x : X) → slice_get xs k ≡ Some x → start + count ≤ k → f x ≡ 0)
    → total f xs ≡ total f (take count (drop start xs))
total_part f [] zero zero low high = refl
total_part f [] zero (suc count) low high = refl
total_part f [] (suc start) zero low high = refl
total_part f [] (suc start) (suc count) low high = refl
total_part f (x ∷ xs) zero zero low high =
    let rest = total_part f xs zero zero (λ k y at lt. absurd (omega (arith, lt)))
    (λ k y at le. high (suc k) y at (omega arith)) in
    omega (arith, high 0 x refl (omega arith), rest)
total_part f (x ∷ xs) zero (suc count) low high =
    let rest = total_part f xs zero count (λ k y at lt. absurd (omega (arith, lt)))
    (λ k y at le. high (suc k) y at (omega (arith, le))) in
    omega (arith, rest)
total_part f (x ∷ xs) (suc start) count low high =
    let rest = total_part f xs start count (λ k y at lt. low (suc k) y at (omega (arith, lt)))
    (λ k y at le. high (suc k) y at (omega (arith, le))) in
    omega (arith, low 0 x refl (omega arith), rest)

pub first_begins : (txs : List Tx) → Begins txs 0
first_begins txs k x y at lt there = absurd (omega arith)

module _ (txs : List Tx) (sorted : IsSortedBy tx_before txs) (start end : ℕ) (ends : EndsRun txs start end) where
  rise : (i j : ℕ) (x y : Tx) → i ≤ j → slice_get txs i ≡ Some x → slice_get txs j ≡ Some y
      → x.account.0 ≤ y.account.0
  rise i j x y le at there =
      let up : (get_or txs i x).account.0 ≤ (get_or txs j x).account.0 =
      accounts_rise txs sorted i j x le (slice_get_within txs j y there) in
      let one = ap (λ (t : Tx). t.account.0) (get_or_from_slice_get txs i x x at) in
      let other = ap (λ (t : Tx). t.account.0) (get_or_from_slice_get txs j y x there) in
      omega (arith, up, one, other)

  pub next_begins : Begins txs end
  next_begins k x y at lt there =
      let some = ends.some in
      let inside = slice_get_within txs end y there in
      let up : (get_or txs k x).account.0 ≤ (get_or txs (end - 1) x).account.0 =
      accounts_rise txs sorted k (end - 1) x (omega (arith, lt)) (omega (arith, inside)) in
      let last : (get_or txs (end - 1) x).account.0 ≡ (get_or txs start x).account.0 =
      ends.one (end - 1) x (omega (arith, some)) (omega (arith, some)) in
      let most : (get_or txs start x).account.0 ≤ (get_or txs end x).account.0 =
      accounts_rise txs sorted start end x (omega (arith, some)) inside in
      let here = ap (λ (t : Tx). t.account.0) (get_or_from_slice_get txs k x x at) in
      let far = ap (λ (t : Tx). t.account.0) (get_or_from_slice_get txs end y x there) in
      elim (cases_lt x.account.0 y.account.0) [
        | inl less ↦ less
        | inr more ↦ absurd (ends.next x inside (omega (arith, up, last, most, here, far, more)))
      ]

  pub one_account : (first : Tx) → slice_get txs start ≡ Some first → (k : ℕ) (x : Tx) → slice_get txs k ≡ Some x
      → start ≤ k → k < end → x.account.0 ≡ first.account.0
  one_account first at k x there le lt =
      ap (λ (t : Tx). t.account.0) (sym (get_or_from_slice_get txs k x x there))
      ∙ ends.one k x le lt
      ∙ ap (λ (t : Tx). t.account.0) (get_or_from_slice_get txs start first x at)

  module _ (parts : Parts) (all : All (λ tx. static_of parts tx ≡ Ok tt) txs) (begins : Begins txs start) (first : Tx)
      (at : slice_get txs start ≡ Some first) where
    outside : (k : ℕ) (x : Tx) (asset : ℕ) → slice_get txs k ≡ Some x → (x.account.0 ≡ first.account.0 → ⊥)
        → posted (debit x) first.account.0 asset ≡ 0
    outside k x asset there other =
        let passes : static_of parts x ≡ Ok tt =
        subst (λ (t : Tx). static_of parts t ≡ Ok tt) (get_or_from_slice_get txs k x x there)
        (all k x (slice_get_within txs k x there)) in
        elim (cases_lt (posted (debit x) first.account.0 asset) 1) [
          | inl none ↦ omega (arith, none)
          | inr some ↦
              absurd (other (posted_at parts x first.account.0 asset (ap is_ok passes) some).owner)
        ]

    run_debits : (asset : ℕ) → debits txs first.account.0 asset
        ≡ debits (slice_range txs start end) first.account.0 asset
    run_debits asset =
        let f : Tx → ℕ = λ t. posted (debit t) first.account.0 asset in
        let some = ends.some in
        debits_total txs first.account.0 asset
        ∙ total_part f txs start (end - start)
        (λ k x there lt. outside k x asset there (λ e. let less = begins k x first there lt at in
        absurd (omega (arith, less, e))))
        (λ k x there le. outside k x asset there (λ e.
        let inside = slice_get_within txs k x there in
        let next = get_or txs end x in
        let low : next.account.0 ≤ (get_or txs k x).account.0 =
        accounts_rise txs sorted end k x (omega (arith, le, some)) inside in
        let here = ap (λ (t : Tx). t.account.0) (get_or_from_slice_get txs k x x there) in
        let least : (get_or txs start x).account.0 ≤ next.account.0 =
        accounts_rise txs sorted start end x (omega (arith, some)) (omega (arith, le, some, inside)) in
        let own = ap (λ (t : Tx). t.account.0) (get_or_from_slice_get txs start first x at) in
        ends.next x (omega (arith, le, some, inside)) (omega (arith, low, here, least, own, e))))
        ∙ sym (debits_total (slice_range txs start end) first.account.0 asset)

    pub run_covers : (n : ℕ) → covers parts (slice_range txs start end) first.account.0 n
        ≡ covers parts txs first.account.0 n
    run_covers zero = refl
    run_covers (suc n) =
        λ i. run_covers n i && nat_le (sym (run_debits n) i) (holding_of parts.accounts first.account.0 n)

-- ---- verdicts of one run more

pub verdicts_more : {X : Type 0} (test : X → Bool) (xs : List X) (old new : List Bool) (start end : ℕ)
    → ((k : ℕ) (d : Bool) → k < start → get_or new k d ≡ get_or old k d)
    → ((k : ℕ) (d : Bool) → start ≤ k → k < end → IsVerdict test xs k (get_or new k d))
    → ((k : ℕ) (d : Bool) → k < start → IsVerdict test xs k (get_or old k d))
    → (k : ℕ) (d : Bool) → k < end → IsVerdict test xs k (get_or new k d)
verdicts_more test xs old new start end same judged before k d lt x at =
    elim (cases_lt k start) [
      | inl less ↦ same k d less ∙ before k d less x at
      | inr high ↦ judged k d high lt x at
    ]
