-- What a test over all parts says of a candidate, a test over its own part says too.
use Rattle.std.proofs.Common.{◌≡◌, ◌⊎◌, ℕ, zero, suc, ◌+◌, ◌<◌, Bool, true, false, cond, List, [], ◌∷◌, ◌++◌}
use Rattle.std.proofs.Common.{Option, Some, None, append_assoc, get_or, inl, inr, length, refl, sym}
use Rattle.std.proofs.Common.{ap, ap₂, subst, ◌∙◌, arith}
use Rattle.std.specs.Prelude.{nat_le, not, ◌&&◌, ◌==◌}
use Rattle.std.specs.List.{filter, flat_map}
use Rattle.std.proofs.lemmas.Bool.{and_parts, cases_lt, eqb-true, false_from_ne_true}
use Rattle.std.proofs.lemmas.List.Elements.{filter-append}
use Rattle.std.proofs.lemmas.Option.{same_Some}
use Rattle.sx_filter.specs.Alone.{is_fit, is_twice}
use Rattle.sx_filter.specs.Kept.{both, covers, passes, same_number, same_offer}
use Rattle.sx_filter.proofs.Counts.{count_is, total_append}
use Rattle.sx_filter.proofs.KeptLaws.{posted_at}
use Rattle.sx_outcome.proofs.BodySums.{debits_total}
use Rattle.sx_outcome.proofs.Totals.{In, total}
use Rattle.sx_ledger.specs.declared.key.Key.{Key}
use Rattle.sx_ledger.specs.declared.parts.Parts.{Parts}
use Rattle.sx_ledger.specs.Body.{cancelled_by, holding_of}
use Rattle.sx_ledger.specs.Effects.{debit, debits, posted}
use Rattle.sx_ledger.specs.Ledger.{assets_of}
use Rattle.sx_ledger.specs.Order.{same_key}
use Rattle.sx_ledger.proofs.KeyOrder.{same_key_is}
use Rattle.sx_tx.specs.declared.kind.Kind.{Kind}
use Rattle.sx_tx.specs.declared.kind.Kind.TheVariants as kind
use Rattle.sx_tx.specs.declared.tx.Tx.{Tx}

-- ---- tests that hold of candidates of one account alone

number_owner : (x y : Tx) → same_number x y ≡ true → y.account.0 ≡ x.account.0
number_owner x y e = sym (eqb-true x.account.0 y.account.0 (and_parts (x.account.0 == y.account.0) (x.seq == y.seq) e).0)

cancel_owner : (x : Tx) (of : Kind) (key : Key) → cancelled_by x of ≡ Some key → x.account.0 ≡ key.account.0
cancel_owner x (kind.Pay asset to amount) key e = absurd cc
cancel_owner x (kind.Create id) key e = absurd cc
cancel_owner x (kind.Offer sell buy limit amount) key e = absurd cc
cancel_owner x (kind.Cancel sell buy limit seq) key e = ap (λ (k : Key). k.account.0) (same_Some _ key e)

offer_owner : (x y : Tx) → same_offer x y ≡ true → y.account.0 ≡ x.account.0
offer_owner x y e = by (cancelled_by x x.kind) (cancelled_by y y.kind) refl refl e
  where
    by : (one other : Option Key) → cancelled_by x x.kind ≡ one → cancelled_by y y.kind ≡ other
        → both same_key one other ≡ true → y.account.0 ≡ x.account.0
    by None other p q same = absurd cc
    by (Some one) None p q same = absurd cc
    by (Some one) (Some other) p q same =
        cancel_owner y y.kind other q ∙ sym (ap (λ (k : Key). k.account.0) (same_key_is one other same))
        ∙ sym (cancel_owner x x.kind one p)

-- ---- sums of which the others are no part

nothing : (f : Tx → ℕ) (xs : List Tx) → ((y : Tx) → In y xs → f y ≡ 0) → total f xs ≡ 0
nothing f [] none = refl
nothing f (x ∷ xs) none = omega (arith, none x (inl refl), nothing f xs (λ y is. none y (inr is)))

total_only : (f : Tx → ℕ) (front part back : List Tx) → ((y : Tx) → In y front → f y ≡ 0)
    → ((y : Tx) → In y back → f y ≡ 0) → total f (front ++ (part ++ back)) ≡ total f part
total_only f front part back before after =
    omega (
      arith,
      total_append f front (part ++ back),
      total_append f part back,
      nothing f front before,
      nothing f back after,
    )

abbrev hit : (Tx → Bool) → Tx → ℕ
hit test y = cond (test y) 1 0

-- all pass, and are of other accounts
abbrev Others : Parts → Tx → List Tx → Type 0
Others parts x ys = (y : Tx) → In y ys → (passes parts y ≡ true) × (y.account.0 ≡ x.account.0 → ⊥)

module _ (parts : Parts) (front part back : List Tx) (x : Tx) (before : Others parts x front)
    (after : Others parts x back) where
  abbrev whole : List Tx
  whole = front ++ (part ++ back)

  fails : (test : Tx → Bool) → ((y : Tx) → test y ≡ true → y.account.0 ≡ x.account.0) → (ys : List Tx)
      → Others parts x ys → (y : Tx) → In y ys → hit test y ≡ 0
  fails test owner ys others y is =
      let no : test y ≡ false = false_from_ne_true (test y) (λ e. (others y is).1 (owner y e)) in rw no refl

  twice_local : (test : Tx → Bool) → ((y : Tx) → test y ≡ true → y.account.0 ≡ x.account.0)
      → is_twice test whole ≡ is_twice test part
  twice_local test owner =
      ap (nat_le 2) (
      count_is test whole
      ∙ total_only (hit test) front part back (fails test owner front before) (fails test owner back after)
      ∙ sym (count_is test part))

  posts : (asset : ℕ) (ys : List Tx) → Others parts x ys → (y : Tx) → In y ys
      → posted (debit y) x.account.0 asset ≡ 0
  posts asset ys others y is =
      elim (cases_lt (posted (debit y) x.account.0 asset) 1) [
        | inl none ↦ omega (arith, none)
        | inr some ↦
            absurd ((others y is).1 (posted_at parts y x.account.0 asset (others y is).0 some).owner)
      ]

  debits_local : (asset : ℕ) → debits whole x.account.0 asset ≡ debits part x.account.0 asset
  debits_local asset =
      debits_total whole x.account.0 asset
      ∙ total_only (λ y. posted (debit y) x.account.0 asset) front part back (posts asset front before)
      (posts asset back after)
      ∙ sym (debits_total part x.account.0 asset)

  covers_local : (n : ℕ) → covers parts whole x.account.0 n ≡ covers parts part x.account.0 n
  covers_local zero = refl
  covers_local (suc n) =
      λ i. covers_local n i && nat_le (debits_local n i) (holding_of parts.accounts x.account.0 n)

  pub fit_local : is_fit parts whole x ≡ is_fit parts part x
  fit_local =
      let number = twice_local (same_number x) (number_owner x) in
      let offer = twice_local (same_offer x) (offer_owner x) in
      λ i. not (number i) && (not (offer i) && covers_local (assets_of parts) i)

-- ---- lists of lists

in_append : (x : Tx) (xs ys : List Tx) → In x (xs ++ ys) → In x xs ⊎ In x ys
in_append x [] ys is = inr is
in_append x (y ∷ xs) ys (inl here) = inl (inl here)
in_append x (y ∷ xs) ys (inr later) = by (in_append x xs ys later)
  where
    by : In x xs ⊎ In x ys → In x (y ∷ xs) ⊎ In x ys
    by (inl is) = inl (inr is)
    by (inr is) = inr is

in_lists : (Q : Tx → Type 0) (lists : List (List Tx))
    → ((k : ℕ) (d : List Tx) → k < length lists → (x : Tx) → In x (get_or lists k d) → Q x)
    → (x : Tx) → In x (flat_map (λ list. list) lists) → Q x
in_lists Q [] each x is = absurd is
in_lists Q (list ∷ lists) each x is =
    by (each 0 [] (omega arith) x) (in_lists Q lists (λ k d lt. each (suc k) d (omega (arith, lt))) x)
    (in_append x list (flat_map (λ l. l) lists) is)
  where
    by : (In x list → Q x) → (In x (flat_map (λ l. l) lists) → Q x) → In x list ⊎ In x (flat_map (λ l. l) lists) → Q x
    by first rest (inl here) = first here
    by first rest (inr later) = rest later

filter_same : (p q : Tx → Bool) (xs : List Tx) → ((x : Tx) → In x xs → p x ≡ q x) → filter p xs ≡ filter q xs
filter_same p q [] same = refl
filter_same p q (x ∷ xs) same =
    let rest = filter_same p q xs (λ y is. same y (inr is)) in
    ap₂ (λ (b : Bool) (ys : List Tx). cond b (x ∷ ys) ys) (same x (inl refl)) rest

-- ---- what is fit of each part

module _ (parts : Parts) (rank : Tx → ℕ) (apart : (x y : Tx) → x.account.0 ≡ y.account.0 → rank x ≡ rank y)
    (passed : List Tx) where
  -- all pass and are of the classes below
  abbrev Lower : ℕ → List Tx → Type 0
  Lower n ys = (y : Tx) → In y ys → (passes parts y ≡ true) × (rank y < n)

  -- the parts pass, and are of the classes from a number on
  abbrev From : ℕ → List (List Tx) → Type 0
  From n lists =
      (k : ℕ) (d : List Tx) → k < length lists → (y : Tx) → In y (get_or lists k d)
      → (passes parts y ≡ true) × (rank y ≡ n + k)

  pub each_fit : (n : ℕ) (front : List Tx) (lists fits : List (List Tx))
      → passed ≡ front ++ flat_map (λ list. list) lists → Lower n front → From n lists
      → length fits ≡ length lists
      → ((k : ℕ) (d : List Tx) → k < length lists
      → get_or fits k d ≡ filter (is_fit parts (get_or lists k d)) (get_or lists k d))
      → flat_map (λ list. list) fits ≡ filter (is_fit parts passed) (flat_map (λ list. list) lists)
  each_fit n front [] [] whole low from same each = refl
  each_fit n front [] (one ∷ fits) whole low from same each = absurd (omega (arith, same))
  each_fit n front (list ∷ lists) [] whole low from same each = absurd (omega (arith, same))
  each_fit n front (list ∷ lists) (one ∷ fits) whole low from same each =
      let back = flat_map (λ (l : List Tx). l) lists in
      let later : From (suc n) lists =
      λ k d lt y is.
      let there = from (suc k) d (omega (arith, lt)) y is in (there.0, omega (arith, there.1)) in
      let here : Lower (suc n) (front ++ list) =
      λ y is. by_place n front list low (λ z there. from 0 [] (omega arith) z there) y (in_append y front list is) in
      let high = in_lists (λ y. (passes parts y ≡ true) × (n < rank y)) lists
      (λ k d lt y is. let there = later k d lt y is in (there.0, omega (arith, there.1))) in
      let alike : (x : Tx) → In x list → is_fit parts list x ≡ is_fit parts passed x =
      λ x is.
      let own = (from 0 [] (omega arith) x is).1 in
      sym (subst (λ (w : List Tx). is_fit parts w x ≡ is_fit parts list x) (sym whole)
      (fit_local parts front list back x
      (λ y there. let lower = low y there in
      (lower.0, λ e. let ranks = apart y x e in let less = lower.1 in absurd (omega (arith, ranks, less, own))))
      (λ y there. let higher = high y there in
      (higher.0, λ e. let ranks = apart y x e in let more = higher.1 in absurd (omega (arith, ranks, more, own)))))) in
      let first : one ≡ filter (is_fit parts passed) list =
      each 0 [] (omega arith) ∙ filter_same (is_fit parts list) (is_fit parts passed) list alike in
      let rest = each_fit (suc n) (front ++ list) lists fits (whole ∙ sym (append_assoc front list back)) here later
      (omega (arith, same)) (λ k d lt. each (suc k) d (omega (arith, lt))) in
      ap₂ (λ (a b : List Tx). a ++ b) first rest ∙ sym (filter-append (is_fit parts passed) list back)
    where
      by_place : (n : ℕ) (front list : List Tx) → Lower n front
          → ((y : Tx) → In y list → (passes parts y ≡ true) × (rank y ≡ n + 0)) → (y : Tx)
          → In y front ⊎ In y list → (passes parts y ≡ true) × (rank y < suc n)
      by_place n front list low own y (inl is) = let there = low y is in (there.0, omega (arith, there.1))
      by_place n front list low own y (inr is) = let there = own y is in (there.0, omega (arith, there.1))
