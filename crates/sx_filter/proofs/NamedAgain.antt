-- What is named more than once, told by the keys and by the ids.
use Rattle.std.proofs.Common.{◌≡◌, ℕ, ◌+◌, ◌++◌, Bool, false, cond, List, [], ◌∷◌, Option, Some, None, inl, inr, refl, sym}
use Rattle.std.proofs.Common.{ap, ◌∙◌, arith}
use Rattle.std.specs.Prelude.{map, nat_le, nat_eq}
use Rattle.std.specs.Cmp.{eq_by_cmp_equiv, nat_cmp_total}
use Rattle.std.specs.Cmp.Lexicographic.{texts_ties}
use Rattle.std.specs.declared.cmp.Ordering.{Ordering}
use Rattle.std.specs.declared.cmp.Ordering.TheVariants.{Less, Equal, Greater}
use Rattle.std.specs.List.{count_by, filter_map, cons_option}
use Rattle.std.specs.Ordering.{is_eq, nat_cmp, ordering_then}
use Rattle.std.proofs.lemmas.Bool.{cases_Bool}
use Rattle.std.proofs.lemmas.Cmp.{tied_itself}
use Rattle.std.proofs.lemmas.List.{map-append}
use Rattle.std.proofs.lemmas.List.Elements.{filter_map-append}
use Rattle.sx_filter.specs.Alone.{is_twice}
use Rattle.sx_filter.specs.Cancellations.{cancellation_of, cancellations}
use Rattle.sx_filter.specs.Kept.{both, same_id, same_offer}
use Rattle.sx_filter.specs.contracts.sift.cancellation.CancellationOrd.TheImpl as by_account
use Rattle.sx_filter.specs.declared.sift.cancellation.Cancellation.{Cancellation}
use Rattle.sx_filter.proofs.Counts.{count_is, times}
use Rattle.sx_filter.proofs.InOrder.{nat_same}
use Rattle.sx_outcome.proofs.Totals.{total_none}
use Rattle.sx_ledger.specs.contracts.key.KeyOrd.TheImpl as derived
use Rattle.sx_ledger.specs.declared.key.Key.{Key}
use Rattle.sx_ledger.specs.Body.{cancelled, cancelled_by, created, created_by}
use Rattle.sx_ledger.specs.Order.{numbers_of, same_key}
use Rattle.sx_ledger.proofs.KeyOrder.{key_cmp_derived, key_cmp_total, same_key_is}
use Rattle.sx_tx.specs.declared.tx.Tx.{Tx}

-- ---- names

module _ {N : Type 0} (same : N → N → Bool) (named : Tx → Option N) where
  times_named : (k : N) (txs : List Tx)
      → times (same k) (filter_map named txs) ≡ times (λ y. both same (Some k) (named y)) txs
  times_named k [] = refl
  times_named k (x ∷ xs) = by (named x) (times_named k xs)
    where
      by : (found : Option N) → times (same k) (filter_map named xs) ≡ times (λ y. both same (Some k) (named y)) xs
          → times (same k) (cons_option found (filter_map named xs))
          ≡ cond (both same (Some k) found) 1 0 + times (λ y. both same (Some k) (named y)) xs
      by None later = omega (arith, later)
      by (Some n) later = ap (λ (m : ℕ). cond (same k n) 1 0 + m) later

  count_named : (k : N) (test : N → Bool) → ((n : N) → test n ≡ same k n) → (txs : List Tx)
      → count_by test (filter_map named txs) ≡ count_by (λ y. both same (Some k) (named y)) txs
  count_named k test alike txs =
      (λ i. count_by (λ n. alike n i) (filter_map named txs)) ∙ count_is (same k) (filter_map named txs)
      ∙ times_named k txs ∙ sym (count_is (λ y. both same (Some k) (named y)) txs)

  -- one that is named
  pub named_twice : (tx : Tx) (k : N) → named tx ≡ Some k → (test : N → Bool) → ((n : N) → test n ≡ same k n)
      → (txs : List Tx) → is_twice test (filter_map named txs) ≡ is_twice (λ y. both same (named tx) (named y)) txs
  named_twice tx k is test alike txs =
      ap (nat_le 2) (count_named k test alike txs)
      ∙ ap (λ (o : Option N). is_twice (λ y. both same o (named y)) txs) (sym is)

  -- what names nothing excludes nothing
  pub never_twice : (tx : Tx) → named tx ≡ None → (txs : List Tx)
      → false ≡ is_twice (λ y. both same (named tx) (named y)) txs
  never_twice tx is txs =
      ap (nat_le 2) (sym (count_is (λ _. false) txs ∙ total_none txs))
      ∙ ap (λ (o : Option N). is_twice (λ y. both same o (named y)) txs) (sym is)

-- ---- what is made of each name

count_map : {X Y : Type 0} (test : Y → Bool) (f : X → Y) (xs : List X)
    → times test (map f xs) ≡ times (λ x. test (f x)) xs
count_map test f [] = refl
count_map test f (x ∷ xs) = ap (λ (n : ℕ). cond (test (f x)) 1 0 + n) (count_map test f xs)

twice_map : {X Y : Type 0} (test : Y → Bool) (f : X → Y) (xs : List X)
    → is_twice test (map f xs) ≡ is_twice (λ x. test (f x)) xs
twice_map test f xs =
    ap (nat_le 2) (count_is test (map f xs) ∙ count_map test f xs ∙ sym (count_is (λ x. test (f x)) xs))

-- ---- each kind

same_keys : (key other : Key) → is_eq (derived.ghosts.cmp other key) ≡ same_key key other
same_keys key other =
    ap is_eq (key_cmp_derived other key) ∙ (eq_by_cmp_equiv key_cmp_total).symm other key
    ∙ sym (texts_ties (numbers_of key) (numbers_of other))

not_equal : (first rest : Ordering) → is_eq rest ≡ false → is_eq (ordering_then first rest) ≡ false
not_equal Less rest e = refl
not_equal Equal rest e = e
not_equal Greater rest e = refl

-- the accounts decide nothing that the keys do not
same_cancellations : (key other : Key)
    → is_eq (by_account.ghosts.cmp (cancellation_of other) (cancellation_of key)) ≡ same_key key other
same_cancellations key other = elim (cases_Bool (same_key key other)) [
  | inl same ↦
      ap (λ (first : Ordering). is_eq (ordering_then first (derived.ghosts.cmp other key)))
      (ap (λ (k : Key). nat_cmp other.account.0 k.account.0) (same_key_is key other same)
      ∙ tied_itself nat_cmp_total other.account.0)
      ∙ same_keys key other
  | inr differ ↦
      not_equal (nat_cmp other.account.0 key.account.0) (derived.ghosts.cmp other key) (same_keys key other ∙ differ)
      ∙ sym differ
]

same_ids : (id other : ℕ) → is_eq (nat_cmp other id) ≡ nat_eq id other
same_ids id other = (eq_by_cmp_equiv nat_cmp_total).symm other id ∙ nat_same id other

pub offer_again : (txs : List Tx) (tx : Tx) (key : Key) → cancelled_by tx tx.kind ≡ Some key
    → is_twice (λ k. is_eq (by_account.ghosts.cmp k (cancellation_of key))) (cancellations txs)
    ≡ is_twice (same_offer tx) txs
offer_again txs tx key named =
    let test : Cancellation → Bool = λ k. is_eq (by_account.ghosts.cmp k (cancellation_of key)) in
    twice_map test cancellation_of (cancelled txs)
    ∙ named_twice same_key (λ t. cancelled_by t t.kind) tx key named (λ k. test (cancellation_of k))
    (same_cancellations key) txs

pub no_offer : (txs : List Tx) (tx : Tx) → cancelled_by tx tx.kind ≡ None → false ≡ is_twice (same_offer tx) txs
no_offer txs tx nothing = never_twice same_key (λ t. cancelled_by t t.kind) tx nothing txs

pub id_again : (txs : List Tx) (tx : Tx) (id : ℕ) → created_by tx.kind ≡ Some id
    → is_twice (λ k. is_eq (nat_cmp k id)) (created txs) ≡ is_twice (same_id tx) txs
id_again txs tx id named =
    named_twice nat_eq (λ t. created_by t.kind) tx id named (λ k. is_eq (nat_cmp k id)) (same_ids id) txs

pub no_id : (txs : List Tx) (tx : Tx) → created_by tx.kind ≡ None → false ≡ is_twice (same_id tx) txs
no_id txs tx nothing = never_twice nat_eq (λ t. created_by t.kind) tx nothing txs

-- where nothing is created, no account is created twice
pub never_created : (txs : List Tx) → created txs ≡ [] → (tx : Tx) → is_twice (same_id tx) txs ≡ false
never_created txs none tx = by (created_by tx.kind) refl
  where
    by : (named : Option ℕ) → created_by tx.kind ≡ named → is_twice (same_id tx) txs ≡ false
    by None e = sym (no_id txs tx e)
    by (Some id) e = sym (id_again txs tx id e) ∙ ap (is_twice (λ k. is_eq (nat_cmp k id))) none

-- ---- what one candidate more names

pub cancellations_more : (txs : List Tx) (tx : Tx)
    → cancellations (txs ++ tx ∷ []) ≡ cancellations txs ++ cancellations (tx ∷ [])
cancellations_more txs tx =
    ap (map cancellation_of) (filter_map-append (λ (t : Tx). cancelled_by t t.kind) txs (tx ∷ []))
    ∙ map-append cancellation_of (cancelled txs) (cancelled (tx ∷ []))

pub created_more : (txs : List Tx) (tx : Tx) → created (txs ++ tx ∷ []) ≡ created txs ++ created (tx ∷ [])
created_more txs tx = filter_map-append (λ (t : Tx). created_by t.kind) txs (tx ∷ [])
