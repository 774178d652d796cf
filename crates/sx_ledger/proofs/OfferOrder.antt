-- Offers in order: each stands before all that follow it.
use Rattle.std.proofs.Common.{◌≡◌, Bool, true, false, List, [], ◌∷◌, ◌++◌, Option, Some, None, refl, ap, ◌∙◌, inl, inr}
use Rattle.std.specs.declared.cmp.Ordering.{Ordering}
use Rattle.std.specs.declared.cmp.Ordering.TheVariants.{Less, Equal, Greater}
use Rattle.std.specs.Ordering.{is_lt, ordering_reverse}
use Rattle.std.specs.List.{AllByRecursion, filter}
use Rattle.std.proofs.lemmas.Bool.{cases_Bool, and_from, and_parts}
use Rattle.std.proofs.lemmas.Cmp.{tied_itself}
use Rattle.sx_bytes.specs.Grammar.{may_follow, in_order}
use Rattle.sx_ledger.specs.declared.key.Key.{Key}
use Rattle.sx_ledger.specs.declared.offer.Offer.{Offer}
use Rattle.sx_ledger.specs.Ledger.{keys}
use Rattle.sx_ledger.specs.Order.{key_of, key_before, key_cmp, offer_before}
use Rattle.sx_ledger.proofs.KeyOrder.{key_cmp_total}

less_is : (o : Ordering) → is_lt o ≡ true → o ≡ Less
less_is Less e = refl
less_is Equal e = absurd cc
less_is Greater e = absurd cc

before_then : (a b c : Key) → key_before a b ≡ true → key_before b c ≡ true → key_before a c ≡ true
before_then a b c p q =
    let o = key_cmp_total in
    ap is_lt (o.trans a b c (less_is (key_cmp a b) p) (less_is (key_cmp b c) q))

not_after : (a b : Key) → key_before a b ≡ true → key_before b a ≡ false
not_after a b p =
    let o = key_cmp_total in
    ap is_lt (o.antisymm b a ∙ ap ordering_reverse (less_is (key_cmp a b) p))

not_itself : (a : Key) → key_before a a ≡ false
not_itself a = ap is_lt (tied_itself key_cmp_total a)

-- ---- each before all that follow it

-- a key stands before the keys of all these offers
abbrev pub Precedes : Key → List Offer → Type 0
Precedes key offers = AllByRecursion (λ offer. key_before key (key_of offer) ≡ true) offers

abbrev pub Rising : List Offer → Type 0
Rising [] = Unit {0}
Rising (offer ∷ offers) = Precedes (key_of offer) offers × Rising offers

abbrev PrecedesAll : Option Key → List Offer → Type 0
PrecedesAll None offers = Unit {0}
PrecedesAll (Some key) offers = Precedes key offers

precedes_too : (a b : Key) (offers : List Offer) → key_before a b ≡ true → Precedes b offers → Precedes a offers
precedes_too a b [] p all = tt
precedes_too a b (offer ∷ offers) p all = (before_then a b (key_of offer) p all.0, precedes_too a b offers p all.1)

precedes_from : (before : Option Key) (offer : Offer) (offers : List Offer)
    → may_follow key_before before (key_of offer) ≡ true → Precedes (key_of offer) offers
    → PrecedesAll before (offer ∷ offers)
precedes_from None offer offers follows all = tt
precedes_from (Some key) offer offers follows all = (follows, precedes_too key (key_of offer) offers follows all)

rising_from : (before : Option Key) (offers : List Offer) → in_order key_before before (keys offers) ≡ true
    → Rising offers × PrecedesAll before offers
rising_from None [] ordered = (tt, tt)
rising_from (Some key) [] ordered = (tt, tt)
rising_from before (offer ∷ offers) ordered =
    let o =
    and_parts (may_follow key_before before (key_of offer))
    (in_order key_before (Some (key_of offer)) (keys offers)) ordered in
    let rest = rising_from (Some (key_of offer)) offers o.1 in
    ((rest.1, rest.0), precedes_from before offer offers o.0 rest.1)

pub rising_is : (offers : List Offer) → in_order key_before None (keys offers) ≡ true → Rising offers
rising_is offers ordered = (rising_from None offers ordered).0

follows_from : (before : Option Key) (offer : Offer) (offers : List Offer) → PrecedesAll before (offer ∷ offers)
    → may_follow key_before before (key_of offer) ≡ true
follows_from None offer offers all = refl
follows_from (Some key) offer offers all = all.0

order_from : (before : Option Key) (offers : List Offer) → Rising offers → PrecedesAll before offers
    → in_order key_before before (keys offers) ≡ true
order_from before [] rising all = refl
order_from before (offer ∷ offers) rising all =
    and_from _ _ (follows_from before offer offers all) (order_from (Some (key_of offer)) offers rising.1 rising.0)

pub order_is : (offers : List Offer) → Rising offers → in_order key_before None (keys offers) ≡ true
order_is offers rising = order_from None offers rising tt

-- ---- what a filter keeps

precedes_kept : (p : Offer → Bool) (key : Key) (offers : List Offer) → Precedes key offers
    → Precedes key (filter p offers)
precedes_kept p key [] all = tt
precedes_kept p key (offer ∷ offers) all =
    let rest = precedes_kept p key offers all.1 in
    elim (cases_Bool (p offer)) [ inl keeps ↦ rw keeps (all.0, rest) | inr drops ↦ rw drops rest ]

pub rising_kept : (p : Offer → Bool) (offers : List Offer) → Rising offers → Rising (filter p offers)
rising_kept p [] rising = tt
rising_kept p (offer ∷ offers) rising =
    let rest = rising_kept p offers rising.1 in
    elim (cases_Bool (p offer)) [
      | inl keeps ↦ rw keeps (precedes_kept p (key_of offer) offers rising.0, rest)
      | inr
          drops ↦ rw drops rest
    ]

-- ---- what stands before an offer

pub before_all : (front back : List Offer) (offer : Offer) → Rising (front ++ offer ∷ back)
    → AllByRecursion (λ x. offer_before x offer ≡ true) front
before_all [] back offer rising = tt
before_all (x ∷ front) back offer rising =
    (precedes_in front back offer (key_of x) rising.0, before_all front back offer rising.1)
  where
    precedes_in : (front back : List Offer) (offer : Offer) (key : Key) → Precedes key (front ++ offer ∷ back)
        → key_before key (key_of offer) ≡ true
    precedes_in [] back offer key all = all.0
    precedes_in (x ∷ front) back offer key all = precedes_in front back offer key all.1

pub rising_back : (front back : List Offer) → Rising (front ++ back) → Rising back
rising_back [] back rising = rising
rising_back (x ∷ front) back rising = rising_back front back rising.1

pub keeps_all : (p : Offer → Bool) (offers : List Offer) → AllByRecursion (λ x. p x ≡ true) offers
    → filter p offers ≡ offers
keeps_all p [] all = refl
keeps_all p (x ∷ offers) all = rw all.0 (ap (λ (xs : List Offer). x ∷ xs) (keeps_all p offers all.1))

keeps_none : (offer : Offer) (offers : List Offer) → Precedes (key_of offer) offers
    → filter (λ x. offer_before x offer) offers ≡ []
keeps_none offer [] all = refl
keeps_none offer (x ∷ offers) all = rw (not_after (key_of offer) (key_of x) all.0) (keeps_none offer offers all.1)

kept_before : (front back : List Offer) (offer : Offer) → AllByRecursion (λ x. offer_before x offer ≡ true) front
    → Precedes (key_of offer) back → filter (λ x. offer_before x offer) (front ++ offer ∷ back) ≡ front
kept_before [] back offer all none = rw (not_itself (key_of offer)) (keeps_none offer back none)
kept_before (x ∷ front) back offer all none =
    rw all.0 (ap (λ (xs : List Offer). x ∷ xs) (kept_before front back offer all.1 none))

-- of offers in order, those that stand before one are those in front of it
pub in_front : (front back : List Offer) (offer : Offer) → Rising (front ++ offer ∷ back)
    → filter (λ x. offer_before x offer) (front ++ offer ∷ back) ≡ front
in_front front back offer rising =
    let rest = rising_back front (offer ∷ back) rising in
    kept_before front back offer (before_all front back offer rising) rest.0
