-- What transactions debit and credit in all accounts together.
use Rattle.std.proofs.Common.{◌≡◌, ℕ, ◌+◌, Bool, true, false, cond, ◌==◌, ◌&&◌, List, [], ◌∷◌, All, sum_by, Option}
use Rattle.std.proofs.Common.{Some, None, Ok, Err, inl, inr, refl, sym, ap, ap₂, ◌∙◌, arith}
use Rattle.std.specs.List.{AllByRecursion, cons_option}
use Rattle.std.specs.Prelude.{nat_le, nat_lt}
use Rattle.std.specs.List.Sorted.{IsStrictlyIncreasing}
use Rattle.std.proofs.lemmas.Bool.{and_left, cases_Bool, cond-false, both_ways, eq-eqb, ne_eqb, not-false}
use Rattle.std.proofs.lemmas.List.Elements.{All-head, All-tail}
use Rattle.std.proofs.lemmas.List.Sums.{sum_by-cons}
use Rattle.sx_ledger.specs.declared.account.Account.{Account}
use Rattle.sx_ledger.specs.declared.offer.Offer.{Offer}
use Rattle.sx_ledger.specs.declared.parts.Parts.{Parts}
use Rattle.sx_ledger.specs.declared.statics.Static.{Static}
use Rattle.sx_ledger.specs.Body.{created, created_by}
use Rattle.sx_ledger.specs.Effects.{Posting, credit, credit_of, credits, debit, debit_of, debits, posted}
use Rattle.sx_ledger.specs.Ledger.{assets_of, ids}
use Rattle.sx_ledger.specs.Static.{creates_known, first_holding, has_account, is_same_pair, names_beyond}
use Rattle.sx_ledger.specs.Static.{pays_unknown, static_list, static_of, window_of}
use Rattle.sx_ledger.proofs.ListSums.{sum_by-add, sum_by-none, sum_by-one, sum_by-same}
use Rattle.sx_ledger.proofs.Postings.{credits_sum, debits_sum}
use Rattle.sx_ledger.proofs.PlacesOfIds.{Stands, same_place, stands}
use Rattle.sx_tx.specs.declared.kind.Kind.{Kind}
use Rattle.sx_tx.specs.declared.kind.Kind.TheVariants as kind
use Rattle.sx_tx.specs.declared.tx.Tx.{Tx}
use Rattle.sx_tx.specs.Window.{is_marked, open_numbers}

-- ---- postings at accounts that are there

-- what a posting has of an asset, at whichever account
abbrev pub units_of : Option Posting → ℕ → ℕ
units_of None asset = 0
units_of (Some posting) asset = cond (posting.asset == asset) posting.units 0

-- the account of a posting is there
abbrev pub IsThere : List Account → Option Posting → Type 0
IsThere accounts None = Unit {0}
IsThere accounts (Some posting) = has_account accounts posting.account ≡ true

-- one posting counts for one id
counts_once : (xs : List ℕ) → IsStrictlyIncreasing xs → (id : ℕ) → Stands xs id → (test : Bool) (units : ℕ)
    → sum_by (λ x. cond ((id == x) && test) units 0) xs ≡ cond test units 0
counts_once xs up id stands test units =
    sum_by-one (λ x. cond ((id == x) && test) units 0) xs stands.place id stands.there
    (λ q y there other. rw
    (ne_eqb id y (λ same.
    other (same_place xs up q stands.place id (there ∙ ap (λ (z : ℕ). Some z) (sym same)) stands.there)))
    refl)
    ∙ rw (eq-eqb id id refl) refl

posting_in_all : (accounts : List Account) → IsStrictlyIncreasing (ids accounts)
    → (posting : Option Posting) (asset : ℕ) → IsThere accounts posting
    → sum_by (λ id. posted posting id asset) (ids accounts) ≡ units_of posting asset
posting_in_all accounts up None asset there = sum_by-none (λ _. 0) (ids accounts) (λ _ _ _. refl)
posting_in_all accounts up (Some posting) asset there =
    counts_once (ids accounts) up posting.account (stands accounts posting.account there) (posting.asset == asset)
    posting.units

postings_in_all : (accounts : List Account) → IsStrictlyIncreasing (ids accounts)
    → (posting : Tx → Option Posting) (asset : ℕ) (txs : List Tx)
    → All (λ tx. IsThere accounts (posting tx)) txs
    → sum_by (λ id. sum_by (λ tx. posted (posting tx) id asset) txs) (ids accounts)
    ≡ sum_by (λ tx. units_of (posting tx) asset) txs
postings_in_all accounts up posting asset [] there = sum_by-none (λ _. 0) (ids accounts) (λ _ _ _. refl)
postings_in_all accounts up posting asset (tx ∷ txs) there =
    let xs = ids accounts in
    let one = λ (id : ℕ). posted (posting tx) id asset in
    let more = λ (id : ℕ). sum_by (λ tx. posted (posting tx) id asset) txs in
    let rest : sum_by more xs ≡ sum_by (λ tx. units_of (posting tx) asset) txs =
    postings_in_all accounts up posting asset txs (All-tail (λ tx. IsThere accounts (posting tx)) tx txs there) in
    let first : sum_by one xs ≡ units_of (posting tx) asset =
    posting_in_all accounts up (posting tx) asset (All-head (λ tx. IsThere accounts (posting tx)) tx txs there) in
    sum_by-same (λ id. sum_by (λ tx. posted (posting tx) id asset) (tx ∷ txs)) (λ id. one id + more id) xs
    (λ id. sum_by-cons (λ tx. posted (posting tx) id asset) tx txs)
    ∙ sum_by-add one more xs ∙ ap₂ ◌+◌ first rest ∙ sym (sum_by-cons (λ tx. units_of (posting tx) asset) tx txs)

pub debits_in_all : (accounts : List Account) → IsStrictlyIncreasing (ids accounts) → (asset : ℕ) (txs : List Tx)
    → All (λ tx. IsThere accounts (debit tx)) txs
    → sum_by (λ id. debits txs id asset) (ids accounts) ≡ sum_by (λ tx. units_of (debit tx) asset) txs
debits_in_all accounts up asset txs there =
    sum_by-same (λ id. debits txs id asset) (λ id. sum_by (λ tx. posted (debit tx) id asset) txs) (ids accounts)
    (λ id. debits_sum id asset txs)
    ∙ postings_in_all accounts up debit asset txs there

pub credits_in_all : (accounts : List Account) → IsStrictlyIncreasing (ids accounts)
    → (offers : List Offer) (asset : ℕ) (txs : List Tx)
    → All (λ tx. IsThere accounts (credit offers tx)) txs
    → sum_by (λ id. credits offers txs id asset) (ids accounts) ≡ sum_by (λ tx. units_of (credit offers tx) asset) txs
credits_in_all accounts up offers asset txs there =
    sum_by-same (λ id. credits offers txs id asset) (λ id. sum_by (λ tx. posted (credit offers tx) id asset) txs)
    (ids accounts) (λ id. credits_sum offers id asset txs)
    ∙ postings_in_all accounts up (credit offers) asset txs there

-- ---- postings at accounts that are not there

units_elsewhere : (accounts : List Account) (posting : Option Posting) (id asset : ℕ)
    → has_account accounts id ≡ false → IsThere accounts posting → posted posting id asset ≡ 0
units_elsewhere accounts None id asset absent there = refl
units_elsewhere accounts (Some posting) id asset absent there =
    let apart : (posting.account == id) ≡ false =
    ne_eqb posting.account id (λ e. both_ways (has_account accounts id) absent (ap (has_account accounts) (sym e)
    ∙ there)) in
    cond-false ((posting.account == id) && (posting.asset == asset)) posting.units 0
    (and_left (posting.account == id) (posting.asset == asset) apart)

pub credits_elsewhere : (accounts : List Account) (offers : List Offer) (id asset : ℕ) (txs : List Tx)
    → has_account accounts id ≡ false
    → All (λ tx. IsThere accounts (credit offers tx)) txs → credits offers txs id asset ≡ 0
credits_elsewhere accounts offers id asset [] absent there = refl
credits_elsewhere accounts offers id asset (tx ∷ txs) absent there =
    let P = λ (tx : Tx). IsThere accounts (credit offers tx) in
    omega (
      arith,
      units_elsewhere accounts (credit offers tx) id asset absent (All-head P tx txs there),
      credits_elsewhere accounts offers id asset txs absent (All-tail P tx txs there),
    )

-- ---- what passes

none_holds : (reasons : List (Bool × Static)) → first_holding reasons ≡ Ok tt
    → AllByRecursion (λ reason. reason.0 ≡ false) reasons
none_holds [] passes = tt
none_holds (reason ∷ reasons) passes =
    elim (cases_Bool reason.0) [
      | inl holds ↦ let fails : Err reason.1 ≡ Ok tt = rw holds at passes in absurd cc
      | inr not_so ↦ (not_so, none_holds reasons (rw not_so at passes))
    ]

pub record Passes (parts : Parts) (tx : Tx) : Type 0 where
  pub own : has_account parts.accounts tx.account.0 ≡ true
  pub above : nat_le tx.seq (window_of parts.accounts tx.account.0).last ≡ false
  pub within : nat_lt ((window_of parts.accounts tx.account.0).last + open_numbers) tx.seq ≡ false
  pub unmarked : is_marked (window_of parts.accounts tx.account.0) tx.seq ≡ false
  pub assets : names_beyond (assets_of parts) tx.kind ≡ false
  pub differ : is_same_pair tx.kind ≡ false
  pub payee : pays_unknown parts.accounts tx.kind ≡ false
  pub new : creates_known parts.accounts tx.kind ≡ false

pub passes : (parts : Parts) (tx : Tx) → static_of parts tx ≡ Ok tt → Passes parts tx
passes parts tx e =
    let none = none_holds (static_list parts tx) e in
    record {
      own = not-false (has_account parts.accounts tx.account.0) none.0;
      above = none.1.0;
      within = none.1.1.0;
      unmarked = none.1.1.1.0;
      assets = none.1.1.1.1.0;
      differ = none.1.1.1.1.1.0;
      payee = none.1.1.1.1.1.1.0;
      new = none.1.1.1.1.1.1.1.0;
    }

debit_there : (accounts : List Account) (by : ℕ) (k : Kind) → has_account accounts by ≡ true
    → IsThere accounts (debit_of by k)
debit_there accounts by (kind.Pay asset to amount) own = own
debit_there accounts by (kind.Create id) own = tt
debit_there accounts by (kind.Offer sell buy limit amount) own = own
debit_there accounts by (kind.Cancel sell buy limit seq) own = tt

credit_there : (accounts : List Account) (offers : List Offer) (by : ℕ) (k : Kind) → has_account accounts by ≡ true
    → pays_unknown accounts k ≡ false → IsThere accounts (credit_of offers by k)
credit_there accounts offers by (kind.Pay asset to amount) own payee = not-false (has_account accounts to.0) payee
credit_there accounts offers by (kind.Create id) own payee = tt
credit_there accounts offers by (kind.Offer sell buy limit amount) own payee = tt
credit_there accounts offers by (kind.Cancel sell buy limit seq) own payee = own

pub debits_there : (parts : Parts) (txs : List Tx) → All (Passes parts) txs
    → All (λ tx. IsThere parts.accounts (debit tx)) txs
debits_there parts txs all k d lt = let at = all k d lt in debit_there parts.accounts _ _ at.own

pub credits_there : (parts : Parts) (txs : List Tx) → All (Passes parts) txs
    → All (λ tx. IsThere parts.accounts (credit parts.offers tx)) txs
credits_there parts txs all k d lt = let at =
    all k d lt in credit_there parts.accounts parts.offers _ _ at.own at.payee

-- ---- accounts that are created

one_absent : (accounts : List Account) (k : Kind) (rest : List ℕ) → creates_known accounts k ≡ false
    → AllByRecursion (λ id. has_account accounts id ≡ false) rest
    → AllByRecursion (λ id. has_account accounts id ≡ false) (cons_option (created_by k) rest)
one_absent accounts (kind.Pay asset to amount) rest new all = all
one_absent accounts (kind.Create id) rest new all = (new, all)
one_absent accounts (kind.Offer sell buy limit amount) rest new all = all
one_absent accounts (kind.Cancel sell buy limit seq) rest new all = all

-- they were not there
pub created_absent : (parts : Parts) (txs : List Tx) → All (Passes parts) txs
    → AllByRecursion (λ id. has_account parts.accounts id ≡ false) (created txs)
created_absent parts [] all = tt
created_absent parts (tx ∷ txs) all =
    let here = All-head (Passes parts) tx txs all in
    one_absent parts.accounts tx.kind (created txs) here.new
    (created_absent parts txs (All-tail (Passes parts) tx txs all))
