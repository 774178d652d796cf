-- Transactions that do again what one before them does: where none does, what is done differs; and with one
-- transaction more.
use Rattle.std.proofs.Common.{◌≡◌, ℕ, zero, suc, ◌<◌, Bool, true, false, cond, List, [], ◌∷◌, ◌++◌}
use Rattle.std.proofs.Common.{length, Option, Some, None, inl, inr, refl, sym, ap, subst, ◌∙◌, arith}
use Rattle.std.specs.BTreeMap.{is_at}
use Rattle.std.specs.Cmp.{unsigned_ties}
use Rattle.std.specs.Ordering.{nat_cmp}
use Rattle.std.specs.Prelude.{◌==◌, ◌||◌, nat_eq, is_some, ◌⊎◌, IfNone}
use Rattle.std.specs.List.{AllByRecursion, IsDistinct, cons_option, filter_map, list_any}
use Rattle.std.proofs.lemmas.Bool.{cases_Bool, cases_eq, cases_order, eq-eqb, false_from_ne_true, ne_eqb}
use Rattle.std.proofs.lemmas.Bool.{or_cases}
use Rattle.std.proofs.lemmas.List.{append-nil}
use Rattle.std.proofs.lemmas.List.Elements.{filter_map-append}
use Rattle.std.proofs.lemmas.List.Folds.{list_any-append}
use Rattle.std.proofs.lemmas.Map.Keys.{IsDistinct-cons}
use Rattle.std.proofs.lemmas.Option.{none-some, same_Some}
use Rattle.sx_ledger.specs.Repeats.{IsFirstRepeat, IsRepeat, Repeats, done_at}
use Rattle.sx_tx.specs.declared.tx.Tx.{Tx}

-- ---- what is done at an index

pub done-within : {X : Type 0} (does : Tx → Option X) (txs : List Tx) (index : ℕ) (what : X)
    → done_at does txs index ≡ Some what → index < length txs
done-within does [] index what done = absurd (none-some what done)
done-within does (tx ∷ txs) zero what done = omega arith
done-within does (tx ∷ txs) (suc index) what done = let rest = done-within does txs index what done in omega arith

pub done-front : {X : Type 0} (does : Tx → Option X) (before more : List Tx) (index : ℕ) → index < length before
    → done_at does (before ++ more) index ≡ done_at does before index
done-front does [] more index lt = absurd (omega arith)
done-front does (tx ∷ before) more zero lt = refl
done-front does (tx ∷ before) more (suc index) lt = done-front does before more index (omega arith)

pub done-last : {X : Type 0} (does : Tx → Option X) (before : List Tx) (tx : Tx) (index : ℕ) → index ≡ length before
    → done_at does (before ++ tx ∷ []) index ≡ does tx
done-last does [] tx zero at = refl
done-last does [] tx (suc index) at = absurd (omega arith)
done-last does (first ∷ before) tx zero at = absurd (omega arith)
done-last does (first ∷ before) tx (suc index) at = done-last does before tx index (omega arith)

-- ---- lists of what is done

module _ {X : Type 0} (P : X → Type 0) (rest : List X) where
  all-cons : (o : Option X) → ((y : X) → o ≡ Some y → P y) → AllByRecursion P rest → AllByRecursion P
      (cons_option o rest)
  all-cons None first all = all
  all-cons (Some y) first all = (first y refl, all)

module _ {X : Type 0} (same : X → X → Bool) (rest : List X) where
  distinct-cons : (o : Option X) → ((y : X) → o ≡ Some y → AllByRecursion (λ z. same y z ≡ false) rest)
      → IsDistinct same rest → IsDistinct same (cons_option o rest)
  distinct-cons None first distinct = distinct
  distinct-cons (Some y) first distinct = IsDistinct-cons same y rest (first y refl) distinct

module _ {X : Type 0} (does : Tx → Option X) (same : X → X → Bool)
    (exact : (x y : X) → same x y ≡ true → x ≡ y) (itself : (x : X) → same x x ≡ true) where
  -- nothing that is done is this
  none_is : (what : X) (txs : List Tx) → ((index : ℕ) → done_at does txs index ≡ Some what → ⊥)
      → AllByRecursion (λ y. same what y ≡ false) (filter_map does txs)
  none_is what [] none = tt
  none_is what (tx ∷ txs) none =
      all-cons (λ y. same what y ≡ false) (filter_map does txs) (does tx)
      (λ y is. false_from_ne_true (same what y) (λ e. none zero (is ∙ ap Some (sym (exact what y e)))))
      (none_is what txs (λ index. none (suc index)))

  later : (tx : Tx) (txs : List Tx) (index : ℕ) → Repeats does txs index → Repeats does (tx ∷ txs) (suc index)
  later tx txs index r = record {
    what = r.what;
    again = r.again;
    before = record { first = suc r.before.first; earlier = omega (arith, r.before.earlier); done = r.before.done };
  }

  pub distinct_from_none : (txs : List Tx) → ((index : ℕ) → Repeats does txs index → ⊥)
      → IsDistinct same (filter_map does txs)
  unfolding IsDistinct
  distinct_from_none [] none = tt
  distinct_from_none (tx ∷ txs) none =
      distinct-cons same (filter_map does txs) (does tx)
      (λ y is. none_is y txs (λ index done. none (suc index)
      (record { what = y; again = done; before = record { first = zero; earlier = omega arith; done = is } })))
      (distinct_from_none txs (λ index r. none (suc index) (later tx txs index r)))

  -- ---- with one transaction more

  -- the index at which something is done
  record IsDone (txs : List Tx) (what : X) : Type 0 where
    at : ℕ
    done : done_at does txs at ≡ Some what

  in_cons : (what : X) (o : Option X) (rest : List X) → list_any (same what) (cons_option o rest) ≡ true
      → (o ≡ Some what) ⊎ (list_any (same what) rest ≡ true)
  in_cons what None rest any = inr any
  in_cons what (Some y) rest any =
      elim (or_cases (same what y) (list_any (same what) rest) any) [
        | inl here ↦ inl (ap Some (sym (exact what y here)))
        | inr there ↦ inr there
      ]

  done_from_any : (what : X) (txs : List Tx) → list_any (same what) (filter_map does txs) ≡ true → IsDone txs what
  done_from_any what [] any = absurd cc
  done_from_any what (tx ∷ txs) any =
      elim (in_cons what (does tx) (filter_map does txs) any) [
        | inl here ↦ record { at = zero; done = here }
        | inr there ↦ let rest = done_from_any what txs there in record { at = suc rest.at; done = rest.done }
      ]

  any_cons_here : (what : X) (o : Option X) (rest : List X) → o ≡ Some what
      → list_any (same what) (cons_option o rest) ≡ true
  any_cons_here what None rest is = absurd (none-some what is)
  any_cons_here what (Some y) rest is =
      rw (ap (same what) (same_Some y what is) ∙ itself what) refl

  any_cons_there : (what : X) (o : Option X) (rest : List X) → list_any (same what) rest ≡ true
      → list_any (same what) (cons_option o rest) ≡ true
  any_cons_there what None rest there = there
  any_cons_there what (Some y) rest there =
      elim (cases_Bool (same what y)) [
        | inl here ↦ rw here refl
        | inr other ↦ rw other there
      ]

  any_from_done : (what : X) (txs : List Tx) (index : ℕ) → done_at does txs index ≡ Some what
      → list_any (same what) (filter_map does txs) ≡ true
  any_from_done what [] index done = absurd (none-some what done)
  any_from_done what (tx ∷ txs) zero done = any_cons_here what (does tx) (filter_map does txs) done
  any_from_done what (tx ∷ txs) (suc index) done =
      any_cons_there what (does tx) (filter_map does txs) (any_from_done what txs index done)

  module _ (before : List Tx) (tx : Tx) where
    abbrev after : List Tx
    after = before ++ tx ∷ []

    extended : (index : ℕ) → Repeats does before index → Repeats does after index
    extended index r =
        let within = done-within does before index r.what r.again in record {
          what = r.what;
          again = done-front does before (tx ∷ []) index within ∙ r.again;
          before = record {
            first = r.before.first;
            earlier = r.before.earlier;
            done = done-front does before (tx ∷ []) r.before.first (omega (arith, r.before.earlier)) ∙ r.before.done;
          };
        }

    restricted : (index : ℕ) → index < length before → Repeats does after index → Repeats does before index
    restricted index within r = record {
      what = r.what;
      again = sym (done-front does before (tx ∷ []) index within) ∙ r.again;
      before = record {
        first = r.before.first;
        earlier = r.before.earlier;
        done = sym (done-front does before (tx ∷ []) r.before.first (omega (arith, r.before.earlier)))
            ∙ r.before.done;
      };
    }

    -- the last transaction does what one before it does
    pub repeats_last : (what : X) → does tx ≡ Some what → list_any (same what) (filter_map does before) ≡ true
        → Repeats does after (length before)
    repeats_last what is any =
        let first = done_from_any what before any in
        let within = done-within does before first.at what first.done in record {
          what = what;
          again = done-last does before tx (length before) refl ∙ is;
          before = record {
            first = first.at;
            earlier = within;
            done = done-front does before (tx ∷ []) first.at within ∙ first.done;
          };
        }

    -- a first repeat stays the first
    pub first_stays : (index : ℕ) → IsFirstRepeat does before index → IsFirstRepeat does after index
    first_stays index first =
        let within = done-within does before index first.repeats.what first.repeats.again in record {
          repeats = extended index first.repeats;
          earlier = λ other lt r. first.earlier other lt (restricted other (omega arith) r);
        }

    -- the last is the first repeat, where there was none
    pub last_is_first : ((index : ℕ) → Repeats does before index → ⊥) → Repeats does after (length before)
        → IsFirstRepeat does after (length before)
    last_is_first none r = record { repeats = r; earlier = λ other lt again. none other (restricted other lt again) }

    -- and there is still none
    pub still_none : ((index : ℕ) → Repeats does before index → ⊥)
        → ((what : X) → does tx ≡ Some what → list_any (same what) (filter_map does before) ≡ false)
        → (index : ℕ) → Repeats does after index → ⊥
    still_none none new index r =
        elim (cases_order index (length before)) [
          | inr (inl within) ↦ none index (restricted index within r)
          | inl last ↦
              let is : does tx ≡ Some r.what = sym (done-last does before tx index last) ∙ r.again in
              let lt : r.before.first < length before = omega (arith, r.before.earlier) in
              let done : done_at does before r.before.first ≡ Some r.what =
              sym (done-front does before (tx ∷ []) r.before.first lt) ∙ r.before.done in
              let any = any_from_done r.what before r.before.first done in
              let not_any = new r.what is in
              absurd cc
          | inr (inr beyond) ↦
              let within = done-within does after index r.what r.again in
              absurd (omega (arith, length-after before))
        ]
      where
        length-after : (xs : List Tx) → length (xs ++ tx ∷ []) ≡ suc (length xs)
        length-after [] = refl
        length-after (x ∷ xs) = ap suc (length-after xs)

    -- with the test that the code makes
    pub repeat_more : (old new : Option ℕ) → IsRepeat does before old
        → ((what : X) → does tx ≡ Some what → list_any (same what) (filter_map does before) ≡ true
        → new ≡ cond (is_some old) old (Some (length before)))
        → ((what : X) → does tx ≡ Some what → list_any (same what) (filter_map does before) ≡ false → new ≡ old)
        → (does tx ≡ None → new ≡ old) → IsRepeat does after new
    repeat_more None new is seen unseen nothing = more (does tx) refl
      where
        stays : new ≡ None
            → ((what : X) → does tx ≡ Some what → list_any (same what) (filter_map does before) ≡ false)
            → IsRepeat does after new
        stays same none = subst (IsRepeat does after) (sym same)
            (record { first = tt; none = still_none is.none none })

        more : (o : Option X) → does tx ≡ o → IsRepeat does after new
        more None e = stays (nothing e) (λ what is_too. absurd (none-some what (sym e ∙ is_too)))
        more (Some what) e =
            elim (cases_Bool (list_any (same what) (filter_map does before))) [
              | inl again ↦ subst (IsRepeat does after) (sym (seen what e again)) (record {
                first = last_is_first is.none (repeats_last what e again);
                none = tt;
              })
              | inr not ↦ stays (unseen what e not) (λ other too.
                  subst (λ (x : X). list_any (same x) (filter_map does before) ≡ false)
                  (same_Some what other (sym e ∙ too)) not)
            ]
    repeat_more (Some index) new is seen unseen nothing = more (does tx) refl
      where
        stays : new ≡ Some index → IsRepeat does after new
        stays same = subst (IsRepeat does after) (sym same)
            (record { first = first_stays index is.first; none = tt })

        more : (o : Option X) → does tx ≡ o → IsRepeat does after new
        more None e = stays (nothing e)
        more (Some what) e =
            elim (cases_Bool (list_any (same what) (filter_map does before))) [
              | inl again ↦ stays (seen what e again)
              | inr not ↦ stays (unseen what e not)
            ]

    -- where the transaction does something, and a test tells whether one before it does so
    pub repeat_step : (old new : Option ℕ) → IsRepeat does before old → (what : X) → does tx ≡ Some what
        → (test : Bool) → test ≡ list_any (same what) (filter_map does before) → (index : ℕ) → length before ≡ index
        → new ≡ cond test (cond (is_some old) old (Some index)) old → IsRepeat does after new
    repeat_step old new was what is test tests index at new_is =
        repeat_more old new was
        (λ other too any.
        new_is ∙ ap (λ (b : Bool). cond b (cond (is_some old) old (Some index)) old) (tested other too ∙ any)
        ∙ ap (λ (i : ℕ). cond (is_some old) old (Some i)) (sym at))
        (λ other too any.
        new_is ∙ ap (λ (b : Bool). cond b (cond (is_some old) old (Some index)) old) (tested other too ∙ any))
        (λ nothing. absurd (none-some what (sym nothing ∙ is)))
      where
        tested : (other : X) → does tx ≡ Some other → test ≡ list_any (same other) (filter_map does before)
        tested other too =
            tests ∙ ap (λ (x : X). list_any (same x) (filter_map does before)) (same_Some what other (sym is ∙ too))

    -- where it does nothing
    pub repeat_none : (old : Option ℕ) → IsRepeat does before old → does tx ≡ None → IsRepeat does after old
    repeat_none old was nothing =
        repeat_more old old was (λ what is. absurd (none-some what (sym nothing ∙ is)))
        (λ what is. absurd (none-some what (sym nothing ∙ is))) (λ _. refl)

-- ---- lists with one transaction more

pub when_none : {X : Type 0} {A B : Type 0} (o : Option X) → (A → B) → IfNone o A → IfNone o B
when_none None f a = f a
when_none (Some x) f a = tt

-- what the last transaction does comes last
pub done_more : {X : Type 0} (does : Tx → Option X) (before : List Tx) (tx : Tx) (what : X) → does tx ≡ Some what
    → filter_map does (before ++ tx ∷ []) ≡ filter_map does before ++ what ∷ []
done_more does before tx what is =
    filter_map-append does before (tx ∷ [])
    ∙ ap (λ (o : Option _). filter_map does before ++ cons_option o []) is

-- and nothing where it does nothing
pub done_none : {X : Type 0} (does : Tx → Option X) (before : List Tx) (tx : Tx) → does tx ≡ None
    → filter_map does (before ++ tx ∷ []) ≡ filter_map does before
done_none does before tx is =
    filter_map-append does before (tx ∷ [])
    ∙ ap (λ (o : Option _). filter_map does before ++ cons_option o []) is ∙ append-nil (filter_map does before)

-- ---- sets of ids

-- a set with one id more has those of the list with that id behind it
pub id_more : (id q : ℕ) (ids : List ℕ)
    → cond (is_at (nat_cmp id) q) true (list_any (nat_eq q) ids) ≡ list_any (nat_eq q) (ids ++ id ∷ [])
id_more id q ids =
    either (is_at (nat_cmp id) q) (list_any (nat_eq q) ids)
    ∙ ap (λ (b : Bool). list_any (nat_eq q) ids || b)
    (sym (unsigned_ties id q) ∙ turned ∙ sym (or_false (nat_eq q id)))
    ∙ sym (list_any-append (nat_eq q) ids (id ∷ []))
  where
    either : (one other : Bool) → cond one true other ≡ (other || one)
    either true true = refl
    either true false = refl
    either false true = refl
    either false false = refl

    or_false : (b : Bool) → (b || false) ≡ b
    or_false true = refl
    or_false false = refl

    turned : (id == q) ≡ (q == id)
    turned = elim (cases_eq id q) [
      | inl same ↦ eq-eqb id q same ∙ sym (eq-eqb q id (sym same))
      | inr other ↦ ne_eqb id q other ∙ sym (ne_eqb q id (λ e. other (sym e)))
    ]
