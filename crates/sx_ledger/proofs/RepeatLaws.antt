-- Transactions that do again what one before them does: where none does, what is done differs, and back.
use Rattle.std.proofs.Common.{◌≡◌, ℕ, zero, suc, ◌<◌, Bool, true, false, List, [], ◌∷◌, length, get_or, Option, Some}
use Rattle.std.proofs.Common.{None, inl, inr, refl, sym, ap, subst, ◌∙◌, arith}
use Rattle.std.specs.Prelude.{nat_eq}
use Rattle.std.specs.List.{AllByRecursion, IsDistinct, cons_option, filter_map}
use Rattle.std.proofs.lemmas.Bool.{cases_order, eqb-true, eq-eqb, false_from_ne_true}
use Rattle.std.proofs.lemmas.Map.Keys.{IsDistinct-cons, IsDistinct-head, IsDistinct-tail}
use Rattle.std.proofs.lemmas.Option.{none-some, same_Some}
use Rattle.sx_ledger.specs.Repeats.{IsFirstRepeat, Repeats, cancels, creates, done_at}
use Rattle.sx_ledger.specs.Body.{cancelled, created}
use Rattle.sx_ledger.specs.Order.{same_key}
use Rattle.sx_ledger.proofs.KeyOrder.{same_key_from, same_key_is}
use Rattle.sx_tx.specs.declared.tx.Tx.{Tx}

-- ---- what is done at a place

pub done-is : {X : Type 0} (does : Tx → Option X) (txs : List Tx) (place : ℕ) (what : X) (d : Tx)
    → done_at does txs place ≡ Some what → (place < length txs) × (does (get_or txs place d) ≡ Some what)
done-is does [] place what d done = absurd (none-some what done)
done-is does (tx ∷ txs) zero what d done = (omega arith, done)
done-is does (tx ∷ txs) (suc place) what d done =
    let later = done-is does txs place what d done in (omega arith, later.1)

pub done-from : {X : Type 0} (does : Tx → Option X) (txs : List Tx) (place : ℕ) (d : Tx) → place < length txs
    → done_at does txs place ≡ does (get_or txs place d)
done-from does [] place d lt = absurd (omega arith)
done-from does (tx ∷ txs) zero d lt = refl
done-from does (tx ∷ txs) (suc place) d lt = done-from does txs place d (omega arith)

-- ---- lists of what is done

module _ {X : Type 0} (P : X → Type 0) (rest : List X) where
  all-first : (o : Option X) (x : X) → AllByRecursion P (cons_option o rest) → o ≡ Some x → P x
  all-first None x all is = absurd (none-some x is)
  all-first (Some y) x all is = subst P (same_Some y x is) all.0

  all-rest : (o : Option X) → AllByRecursion P (cons_option o rest) → AllByRecursion P rest
  all-rest None all = all
  all-rest (Some y) all = all.1

  all-cons : (o : Option X) → ((y : X) → o ≡ Some y → P y) → AllByRecursion P rest → AllByRecursion P
      (cons_option o rest)
  all-cons None first all = all
  all-cons (Some y) first all = (first y refl, all)

module _ {X : Type 0} (same : X → X → Bool) (rest : List X) where
  distinct-first : (o : Option X) (x : X) → IsDistinct same (cons_option o rest) → o ≡ Some x
      → AllByRecursion (λ y. same x y ≡ false) rest
  distinct-first None x distinct is = absurd (none-some x is)
  distinct-first (Some y) x distinct is =
      subst (λ (x : X). AllByRecursion (λ y. same x y ≡ false) rest) (same_Some y x is)
      (IsDistinct-head same y rest distinct)

  distinct-rest : (o : Option X) → IsDistinct same (cons_option o rest) → IsDistinct same rest
  distinct-rest None distinct = distinct
  distinct-rest (Some y) distinct = IsDistinct-tail same y rest distinct

  distinct-cons : (o : Option X) → ((y : X) → o ≡ Some y → AllByRecursion (λ z. same y z ≡ false) rest)
      → IsDistinct same rest → IsDistinct same (cons_option o rest)
  distinct-cons None first distinct = distinct
  distinct-cons (Some y) first distinct = IsDistinct-cons same y rest (first y refl) distinct

-- ---- what is done differs exactly where nothing is repeated

module _ {X : Type 0} (does : Tx → Option X) (same : X → X → Bool) where
  -- nothing that is done is this
  none_is : ((x y : X) → same x y ≡ true → x ≡ y) → (what : X) (txs : List Tx)
      → ((place : ℕ) → done_at does txs place ≡ Some what → ⊥)
      → AllByRecursion (λ y. same what y ≡ false) (filter_map does txs)
  none_is exact what [] none = tt
  none_is exact what (tx ∷ txs) none =
      all-cons (λ y. same what y ≡ false) (filter_map does txs) (does tx)
      (λ y is. false_from_ne_true (same what y) (λ e. none zero (is ∙ ap Some (sym (exact what y e)))))
      (none_is exact what txs (λ place. none (suc place)))

  later : (tx : Tx) (txs : List Tx) (place : ℕ) → Repeats does txs place → Repeats does (tx ∷ txs) (suc place)
  later tx txs place r = record {
    what = r.what;
    again = r.again;
    before = record { first = suc r.before.first; earlier = omega (arith, r.before.earlier); done = r.before.done };
  }

  pub distinct_from_none : ((x y : X) → same x y ≡ true → x ≡ y) → (txs : List Tx)
      → ((place : ℕ) → place < length txs → Repeats does txs place → ⊥) → IsDistinct same (filter_map does txs)
  unfolding IsDistinct
  distinct_from_none exact [] none = tt
  distinct_from_none exact (tx ∷ txs) none =
      distinct-cons same (filter_map does txs) (does tx)
      (λ y is. none_is exact y txs (λ place done. none (suc place)
      (let within = (done-is does txs place y tx done).0 in omega arith)
      (record { what = y; again = done; before = record { first = zero; earlier = omega arith; done = is } })))
      (distinct_from_none exact txs (λ place lt r. none (suc place) (omega arith) (later tx txs place r)))

  among : (P : X → Type 0) (txs : List Tx) (place : ℕ) (x : X) → AllByRecursion P (filter_map does txs)
      → done_at does txs place ≡ Some x → P x
  among P [] place x all done = absurd (none-some x done)
  among P (tx ∷ txs) zero x all done = all-first P (filter_map does txs) (does tx) x all done
  among P (tx ∷ txs) (suc place) x all done =
      among P txs place x (all-rest P (filter_map does txs) (does tx) all) done

  twice : ((x : X) → same x x ≡ true) → (txs : List Tx) (first place : ℕ) (x : X) → IsDistinct same
      (filter_map does txs)
      → first < place → done_at does txs first ≡ Some x → done_at does txs place ≡ Some x → ⊥
  twice itself [] first place x distinct lt once again = none-some x once
  twice itself (tx ∷ txs) first zero x distinct lt once again = omega arith
  twice itself (tx ∷ txs) zero (suc place) x distinct lt once again =
      let differs : same x x ≡ false =
      among (λ y. same x y ≡ false) txs place x (distinct-first same (filter_map does txs) (does tx) x distinct
      once) again in
      let equal = itself x in
      absurd cc
  twice itself (tx ∷ txs) (suc first) (suc place) x distinct lt once again =
      twice itself txs first place x (distinct-rest same (filter_map does txs) (does tx) distinct) (omega arith)
      once again

  pub distinct_refutes : ((x : X) → same x x ≡ true) → (txs : List Tx) (place : ℕ) → IsDistinct same
      (filter_map does txs)
      → Repeats does txs place → ⊥
  distinct_refutes itself txs place distinct r =
      twice itself txs r.before.first place r.what distinct r.before.earlier r.before.done r.again

-- two first repeats are at one place
pub one_first : {X : Type 0} (does : Tx → Option X) (txs : List Tx) (one other : ℕ) → IsFirstRepeat does txs one
    → IsFirstRepeat does txs other → one ≡ other
one_first does txs one other first second =
    elim (cases_order one other) [
      | inl same ↦ same
      | inr (inl before) ↦ absurd (second.earlier one before first.repeats)
      | inr (inr behind) ↦ absurd (first.earlier other behind second.repeats)
    ]

-- ---- cancellations and creations

pub cancels_distinct : (txs : List Tx) → ((place : ℕ) → place < length txs → Repeats cancels txs place → ⊥)
    → IsDistinct same_key (cancelled txs)
cancels_distinct txs none = distinct_from_none cancels same_key same_key_is txs none

pub cancels_refuted : (txs : List Tx) (place : ℕ) → IsDistinct same_key (cancelled txs) → Repeats cancels txs place → ⊥
cancels_refuted txs place distinct r =
    distinct_refutes cancels same_key (λ x. same_key_from x x refl) txs place distinct r

pub creates_distinct : (txs : List Tx) → ((place : ℕ) → place < length txs → Repeats creates txs place → ⊥)
    → IsDistinct nat_eq (created txs)
creates_distinct txs none = distinct_from_none creates nat_eq (λ x y e. eqb-true x y e) txs none

pub creates_refuted : (txs : List Tx) (place : ℕ) → IsDistinct nat_eq (created txs) → Repeats creates txs place → ⊥
creates_refuted txs place distinct r = distinct_refutes creates nat_eq (λ x. eq-eqb x x refl) txs place distinct r
