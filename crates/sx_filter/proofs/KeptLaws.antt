-- Why what is kept is a body, and does not depend on the order of the candidates.
use Rattle.std.proofs.Common.{◌≡◌, ℕ, zero, suc, ◌+◌, ◌<◌, ◌≤◌, Bool, true, false, cond, not, ◌&&◌, List, [], ◌∷◌}
use Rattle.std.proofs.Common.{length}
use Rattle.std.proofs.Common.{Option, Some, None, Ok, Err, Result, get_or, inl, inr, refl, sym, ap, ap₂, subst}
use Rattle.std.proofs.Common.{◌∙◌, arith}
use Rattle.std.specs.Prelude.{nat_eq, nat_le, nat_lt, ◌==◌, if◌then◌else◌, is_ok}
use Rattle.std.specs.List.{count_by, filter, filter_map}
use Rattle.std.specs.List.Sorted.{IsPermutation}
use Rattle.std.proofs.lemmas.Bool.{and_parts, cases_Bool, cases_lt, eqb-true, leb-false, leb-true, le-leb, and_from}
use Rattle.std.proofs.lemmas.Bool.{eq-eqb, ltb-false}
use Rattle.std.proofs.lemmas.Bool.{not-true}
use Rattle.std.proofs.lemmas.List.Elements.{Contains-get_or}
use Rattle.std.proofs.lemmas.List.Sorted.{Contains-permutation, IsPermutation-sym, sum_by-IsPermutation}
use Rattle.sx_filter.specs.Alone.{is_alone, is_twice}
use Rattle.sx_filter.specs.Kept.{both, covers, kept_of, passes, passing, same_id, same_number, same_offer}
use Rattle.sx_filter.specs.KeptLaws.{CoversAll, KeptIsAdmissible, KeptPermuted, RefusedAreNothing}
use Rattle.sx_filter.proofs.Counts.{contains_in, count_is, filter_in, in_contains, in_filter, times, total_left}
use Rattle.sx_filter.proofs.Counts.{total_less}
use Rattle.sx_filter.proofs.InOrder.{Once, ordered, ordered_in, same_ordered}
use Rattle.sx_filter.proofs.KeptAlone.{alone, kept_is}
use Rattle.sx_outcome.specs.Gathering.{in_tx_order}
use Rattle.sx_outcome.specs.Room.{room_for}
use Rattle.sx_outcome.specs.declared.space.NoRoom.{NoRoom}
use Rattle.sx_layout.proofs.AskedThings.{asks}
use Rattle.sx_outcome.proofs.BodySums.{debits_total, distinct_if, hit, hit_by, length-named, one_if, total_ordered}
use Rattle.sx_layout.proofs.DebitPlaces.{debit_at}
use Rattle.sx_outcome.proofs.Totals.{In, counts_in, sum_is, total}
use Rattle.sx_ledger.specs.declared.key.Key.{Key}
use Rattle.sx_ledger.specs.declared.parts.Parts.{Parts}
use Rattle.sx_ledger.specs.declared.statics.Static.{Static}
use Rattle.sx_ledger.specs.Body.{IsAdmissible, cancelled_by, created_by, holding_of, made_by}
use Rattle.sx_ledger.specs.Effects.{Posting, debit, debits, posted}
use Rattle.sx_ledger.specs.Ledger.{assets_of, most_accounts, most_height, most_offers}
use Rattle.sx_ledger.specs.Order.{same_key}
use Rattle.sx_ledger.specs.Static.{static_of}
use Rattle.sx_ledger.proofs.KeyOrder.{same_key_from, same_key_is}
use Rattle.sx_tx.specs.declared.tx.Tx.{Tx}

-- ---- passing

ok_is : (answer : Result (Unit {0}) Static) → is_ok answer ≡ true → answer ≡ Ok tt
ok_is (Ok tt) e = refl
ok_is (Err why) e = absurd cc

pub passes_is : (parts : Parts) (tx : Tx) → passes parts tx ≡ true → static_of parts tx ≡ Ok tt
passes_is parts tx e = ok_is (static_of parts tx) e

-- ---- what an account holds

pub covers_each : (parts : Parts) (txs : List Tx) (account n : ℕ) → covers parts txs account n ≡ true
    → (asset : ℕ) → asset < n → debits txs account asset ≤ holding_of parts.accounts account asset
covers_each parts txs account zero covered asset lt = absurd (omega arith)
covers_each parts txs account (suc n) covered asset lt =
    let both = and_parts (covers parts txs account n)
    (nat_le (debits txs account n) (holding_of parts.accounts account n)) covered in
    elim (cases_lt asset n) [
      | inl less ↦ covers_each parts txs account n both.0 asset less
      | inr more ↦
          let here : n ≡ asset = omega arith in
          subst (λ (x : ℕ). debits txs account x ≤ holding_of parts.accounts account x) here
          (leb-true (debits txs account n) (holding_of parts.accounts account n) both.1)
    ]

pub each_covers : (parts : Parts) (txs : List Tx) (account n : ℕ)
    → ((asset : ℕ) → asset < n → debits txs account asset ≤ holding_of parts.accounts account asset)
    → covers parts txs account n ≡ true
each_covers parts txs account zero each = refl
each_covers parts txs account (suc n) each =
    and_from (covers parts txs account n) (nat_le (debits txs account n) (holding_of parts.accounts account n))
    (each_covers parts txs account n (λ asset lt. each asset (omega arith)))
    (le-leb (debits txs account n) (holding_of parts.accounts account n) (each n (omega arith)))

-- what is posted somewhere is of this account, and of an asset that there is
pub record IsPosted (parts : Parts) (tx : Tx) (account asset : ℕ) : Type 0 where
  pub owner : tx.account.0 ≡ account
  pub small : asset < assets_of parts

pub posted_at : (parts : Parts) (tx : Tx) (account asset : ℕ) → passes parts tx ≡ true
    → 1 ≤ posted (debit tx) account asset → IsPosted parts tx account asset
posted_at parts tx account asset pass some = by (debit tx) refl some
  where
    by : (found : Option Posting) → debit tx ≡ found → 1 ≤ posted found account asset
        → IsPosted parts tx account asset
    by None e counts = absurd (omega arith)
    by (Some posting) e counts =
        elim (cases_Bool ((posting.account == account) && (posting.asset == asset))) [
          | inl holds_it ↦
              let both = and_parts (posting.account == account) (posting.asset == asset) holds_it in
              let place = debit_at parts tx posting (asks parts tx (passes_is parts tx pass)) e in
              record {
                owner = sym place.owner ∙ eqb-true posting.account account both.0;
                small = subst (λ (x : ℕ). x < assets_of parts) (eqb-true posting.asset asset both.1) place.small;
              }
          | inr fails ↦ absurd (zero_not (rw fails at counts))
        ]
      where
        zero_not : 1 ≤ 0 → ⊥
        zero_not le = omega arith

module _ (parts : Parts) (candidates : List Tx) where
  abbrev P : List Tx
  P = passing parts candidates

  abbrev K : List Tx
  K = alone parts candidates

  beyond : (account asset : ℕ) → assets_of parts ≤ asset → debits P account asset ≡ 0
  beyond account asset far =
      elim (cases_lt (total (λ tx. posted (debit tx) account asset) P) 1) [
        | inl none ↦ debits_total P account asset ∙ omega arith
        | inr some ↦
            let found = counts_in (λ tx. posted (debit tx) account asset) P some in
            let is = posted_at parts found.entry account asset
            (in_filter (passes parts) found.entry candidates found.among).1 found.counts in
            let small = is.small in
            absurd (omega (arith, small, far))
      ]

  pub covers_is : (account : ℕ) → covers parts P account (assets_of parts) ≡ true
      → (asset : ℕ) → debits P account asset ≤ holding_of parts.accounts account asset
  covers_is account covered asset =
      elim (cases_lt asset (assets_of parts)) [
        | inl lt ↦ covers_each parts P account (assets_of parts) covered asset lt
        | inr far ↦ omega (arith, beyond account asset far)
      ]

  -- ---- what is alone

  pub record IsAlone (x : Tx) : Type 0 where
    pub pass : passes parts x ≡ true
    pub number : times (same_number x) P ≤ 1
    pub offer : times (same_offer x) P ≤ 1
    pub id : times (same_id x) P ≤ 1
    pub covered : (asset : ℕ) → debits P x.account.0 asset ≤ holding_of parts.accounts x.account.0 asset

  few : (test : Tx → Bool) → not (is_twice test P) ≡ true → times test P ≤ 1
  few test e =
      let less : count_by test P < 2 = leb-false 2 (count_by test P) (not-true (is_twice test P) e) in
      omega (arith, less, count_is test P)

  pub alone_is : (x : Tx) → In x K → IsAlone x
  alone_is x is =
      let in_k = in_filter (is_alone parts P) x P is in
      let in_p = in_filter (passes parts) x candidates in_k.0 in
      let one = and_parts (not (is_twice (same_number x) P)) (not (is_twice (same_offer x) P)
      && (not (is_twice (same_id x) P) && covers parts P x.account.0 (assets_of parts))) in_k.1 in
      let two = and_parts (not (is_twice (same_offer x) P)) (not (is_twice (same_id x) P)
      && covers parts P x.account.0 (assets_of parts)) one.1 in
      let three = and_parts (not (is_twice (same_id x) P)) (covers parts P x.account.0 (assets_of parts)) two.1 in
      record {
        pass = in_p.1;
        number = few (same_number x) one.0;
        offer = few (same_offer x) two.0;
        id = few (same_id x) three.0;
        covered = covers_is x.account.0 three.1;
      }

  pub fewer : (f : Tx → ℕ) → total f K ≤ total f P
  fewer f = total_less f (is_alone parts P) P

  pub once : Once K
  once x is = let number = (alone_is x is).number in omega (arith, number, fewer (λ y. cond (same_number x y) 1 0))

  -- no more is debited than there is
  pub covered : (account asset : ℕ) → total (λ tx. posted (debit tx) account asset) K
      ≤ holding_of parts.accounts account asset
  covered account asset =
      elim (cases_lt (total (λ tx. posted (debit tx) account asset) K) 1) [
        | inl none ↦ omega arith
        | inr some ↦
            let found = counts_in (λ tx. posted (debit tx) account asset) K some in
            let one = alone_is found.entry found.among in
            let owner = (posted_at parts found.entry account asset one.pass found.counts).owner in
            let holds : debits P account asset ≤ holding_of parts.accounts account asset =
            subst (λ (a : ℕ). debits P a asset ≤ holding_of parts.accounts a asset) owner (one.covered asset) in
            omega (arith, holds, debits_total P account asset, fewer (λ tx. posted (debit tx) account asset))
      ]

  -- ---- names

  named_by : {N : Type 0} (same : N → N → Bool) → ((a b : N) → same a b ≡ true → a ≡ b) → (named : Tx → Option N)
      → (k : N) (found : Option N) → 1 ≤ hit_by same named k found → found ≡ Some k
  named_by same same_is named k None some = absurd (omega arith)
  named_by same same_is named k (Some other) some =
      elim (cases_Bool (same k other)) [
        | inl holds_it ↦ ap Some (sym (same_is k other holds_it))
        | inr fails ↦ absurd (no_hit (rw fails at some))
      ]
    where
      no_hit : 1 ≤ 0 → ⊥
      no_hit le = omega arith

  hits : {N : Type 0} (same : N → N → Bool) (named : Tx → Option N) (k : N) (xs : List Tx)
      → total (λ y. cond (both same (Some k) (named y)) 1 0) xs ≡ total (hit same named k) xs
  hits {N} same named k [] = refl
  hits {N} same named k (x ∷ xs) = ap₂ (λ (a b : ℕ). a + b) (one (named x)) (hits same named k xs)
    where
      one : (o : Option N) → cond (both same (Some k) o) 1 0 ≡ hit_by same named k o
      one None = refl
      one (Some other) = refl

  once_named : {N : Type 0} (same : N → N → Bool) → ((a b : N) → same a b ≡ true → a ≡ b) → (named : Tx → Option N)
      → ((x : Tx) → In x K → total (λ y. cond (both same (named x) (named y)) 1 0) P ≤ 1)
      → (k : N) → total (hit same named k) K ≤ 1
  once_named {N} same same_is named few_named k =
      elim (cases_lt (total (hit same named k) K) 1) [
        | inl none ↦ omega arith
        | inr some ↦
            let found = counts_in (hit same named k) K some in
            let is = named_by same same_is named k (named found.entry) found.counts in
            let same_total : total (λ y. cond (both same (named found.entry) (named y)) 1 0) P
            ≡ total (hit same named k) P =
            ap (λ (o : Option N). total (λ y. cond (both same o (named y)) 1 0) P) is ∙ hits same named k P in
            omega (arith, same_total, few_named found.entry found.among, fewer (hit same named k))
      ]

  pub offers_once : (k : Key) → total (hit same_key (λ tx. cancelled_by tx tx.kind) k) K ≤ 1
  offers_once = once_named same_key same_key_is (λ tx. cancelled_by tx tx.kind) (λ x is. (alone_is x is).offer)

  pub ids_once : (k : ℕ) → total (hit nat_eq (λ tx. created_by tx.kind) k) K ≤ 1
  ids_once = once_named nat_eq eqb-true (λ tx. created_by tx.kind) (λ x is. (alone_is x is).id)

  -- ---- room

  as_many : {N : Type 0} (named : Tx → Option N)
      → length (filter_map named (in_tx_order K)) ≤ length (filter_map named candidates)
  as_many named =
      omega (
        arith,
        length-named named (in_tx_order K),
        total_ordered (λ tx. one_if (named tx)) K,
        fewer (λ tx. one_if (named tx)),
        total_less (λ tx. one_if (named tx)) (passes parts) candidates,
        length-named named candidates,
      )

  record HasRoom : Type 0 where
    accounts : length parts.accounts + length (filter_map (λ tx. created_by tx.kind) candidates) ≤ most_accounts
    offers : length parts.offers + length (filter_map (λ tx. made_by tx tx.kind) candidates) ≤ most_offers

  refused_not : (b : Bool) (why : NoRoom) (rest : Result (Unit {0}) NoRoom) → (if b then Err why else rest) ≡ Ok tt
      → (b ≡ false) × (rest ≡ Ok tt)
  refused_not true why rest e = absurd cc
  refused_not false why rest e = (refl, e)

  has_room : room_for parts candidates ≡ Ok tt → HasRoom
  has_room room =
      let more = refused_not (parts.height == most_height) _ _ room in
      let accounts = refused_not (nat_lt most_accounts
      (length parts.accounts + length (filter_map (λ tx. created_by tx.kind) candidates))) _ _ more.1 in
      let offers = refused_not (nat_lt most_offers
      (length parts.offers + length (filter_map (λ tx. made_by tx tx.kind) candidates))) _ _ accounts.1 in
      record {
        accounts = ltb-false most_accounts
            (length parts.accounts + length (filter_map (λ tx. created_by tx.kind) candidates)) accounts.0;
        offers = ltb-false most_offers
            (length parts.offers + length (filter_map (λ tx. made_by tx tx.kind) candidates)) offers.0;
      }

  pub admissible : room_for parts candidates ≡ Ok tt → IsAdmissible parts (in_tx_order K)
  admissible room =
      let fits = has_room room in
      record {
        ordered = ordered K once;
        passes = λ k d lt.
            let x = get_or (in_tx_order K) k d in
            passes_is parts x (alone_is x (ordered_in x K (in_contains x (in_tx_order K)
            (Contains-get_or (in_tx_order K) k d lt)))).pass;
        cancels_once = distinct_if same_key (λ tx. cancelled_by tx tx.kind) (λ k. same_key_from k k refl)
            (in_tx_order K)
            (λ k. omega (arith, total_ordered (hit same_key (λ tx. cancelled_by tx tx.kind) k) K, offers_once k));
        creates_once = distinct_if nat_eq (λ tx. created_by tx.kind) (λ k. eq-eqb k k refl) (in_tx_order K)
            (λ k. omega (arith, total_ordered (hit nat_eq (λ tx. created_by tx.kind) k) K, ids_once k));
        accounts_fit = omega (arith, fits.accounts, as_many (λ tx. created_by tx.kind));
        offers_fit = omega (arith, fits.offers, as_many (λ tx. made_by tx tx.kind));
        covered = λ account asset.
            omega (
              arith,
              debits_total (in_tx_order K) account asset,
              total_ordered (λ tx. posted (debit tx) account asset) K,
              covered account asset,
            );
      }

pub kept_is_admissible : KeptIsAdmissible
kept_is_admissible parts candidates room =
    subst (IsAdmissible parts) (sym (kept_is parts candidates)) (admissible parts candidates room)

pub covers_all : CoversAll
covers_all parts candidates account = (
  covers_is parts candidates account,
  λ each. each_covers parts (passing parts candidates) account (assets_of parts) (λ asset lt. each asset),
)

-- ---- the order of the candidates

module _ (parts : Parts) (xs ys : List Tx) (moves : IsPermutation xs ys) where
  abbrev A : List Tx
  A = passing parts xs

  abbrev B : List Tx
  B = passing parts ys

  totals : (f : Tx → ℕ) → total f B ≡ total f A
  totals f =
      let g : Tx → ℕ = λ x. cond (passes parts x) (f x) 0 in
      total_left f (passes parts) ys ∙ sym (sum_is g ys) ∙ sum_by-IsPermutation g xs ys moves ∙ sum_is g xs
      ∙ sym (total_left f (passes parts) xs)

  twice_same : (test : Tx → Bool) → is_twice test B ≡ is_twice test A
  twice_same test = ap (nat_le 2) (count_is test B ∙ totals (λ x. cond (test x) 1 0) ∙ sym (count_is test A))

  covers_same : (account n : ℕ) → covers parts B account n ≡ covers parts A account n
  covers_same account zero = refl
  covers_same account (suc n) =
      let same : debits B account n ≡ debits A account n =
      debits_total B account n ∙ totals (λ tx. posted (debit tx) account n) ∙ sym (debits_total A account n) in
      λ i. covers_same account n i && nat_le (same i) (holding_of parts.accounts account n)

  alone_same : (tx : Tx) → is_alone parts B tx ≡ is_alone parts A tx
  alone_same tx =
      λ i. not (twice_same (same_number tx) i) && (not (twice_same (same_offer tx) i)
      && (not (twice_same (same_id tx) i) && covers_same tx.account.0 (assets_of parts) i))

  abbrev left : List Tx
  left = filter (is_alone parts A) B

  left_is : alone parts ys ≡ left
  left_is = λ i. filter (λ tx. alone_same tx i) B

  left_totals : (f : Tx → ℕ) → total f left ≡ total f (alone parts xs)
  left_totals f =
      total_left f (is_alone parts A) B ∙ totals (λ x. cond (is_alone parts A x) (f x) 0)
      ∙ sym (total_left f (is_alone parts A) A)

  among : (y : Tx) → In y left → In y (alone parts xs)
  among y is =
      let in_left = in_filter (is_alone parts A) y B is in
      let in_b = in_filter (passes parts) y ys in_left.0 in
      let in_xs : In y xs = in_contains y xs
      (Contains-permutation ys xs y (IsPermutation-sym xs ys moves) (contains_in y ys in_b.0)) in
      filter_in (is_alone parts A) y A (filter_in (passes parts) y xs in_xs in_b.1) in_left.1

  same_kept : kept_of parts ys ≡ kept_of parts xs
  same_kept =
      kept_is parts ys ∙ ap in_tx_order left_is
      ∙ sym (same_ordered (alone parts xs) left (once parts xs) (subst Once left_is (once parts ys)) left_totals among)
      ∙ sym (kept_is parts xs)

pub kept_permuted : KeptPermuted
kept_permuted parts xs ys moves = same_kept parts xs ys moves

-- ---- what is refused

passing_again : (parts : Parts) (txs : List Tx) → passing parts (passing parts txs) ≡ passing parts txs
passing_again parts [] = refl
passing_again parts (tx ∷ txs) = elim (cases_Bool (passes parts tx)) [
  | inl e ↦ rw e (rw e (ap (λ (list : List Tx). tx ∷ list) (passing_again parts txs)))
  | inr e ↦ rw e (passing_again parts txs)
]

pub refused_are_nothing : RefusedAreNothing
refused_are_nothing parts candidates =
    kept_is parts (passing parts candidates)
    ∙ ap (λ (list : List Tx). in_tx_order (filter (is_alone parts list) list)) (passing_again parts candidates)
    ∙ sym (kept_is parts candidates)
