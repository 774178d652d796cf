-- What a node whose offer gives some units makes of a store.
use Rattle.std.proofs.Common.{◌≡◌, ℕ, zero, suc, ◌+◌, ◌-◌, ◌<◌, ◌≤◌, Bool, true, false, List, [], ◌∷◌, ◌++◌, length}
use Rattle.std.proofs.Common.{map, take, drop, set, get_or, Option, Some, None, nat_lt, slice_get, refl, sym, ap}
use Rattle.std.proofs.Common.{subst, ◌∙◌, arith}
use Rattle.std.specs.List.{AllByRecursion}
use Rattle.std.specs.BTreeMap.{IsOrdered, is_at}
use Rattle.std.specs.Map.{remove_entry}
use Rattle.std.specs.Option.{option_map}
use Rattle.std.proofs.lemmas.Bool.Decides.{nat_tests}
use Rattle.std.proofs.lemmas.Grind.{common_steps}
use Rattle.std.proofs.lemmas.List.{length-append, map-append, set_split}
use Rattle.std.proofs.lemmas.Option.{same_Some, slice_get_within}
use Rattle.sx_book.specs.declared.store.Store.{Store}
use Rattle.sx_book.specs.Books.{less}
use Rattle.sx_book.specs.Store.{Has, IsIn, IsSound, entry_of, given_by, left_node, nodes_of, offers_in}
use Rattle.sx_book.proofs.Flat.{back, cut_at, cut_set, front}
use Rattle.sx_book.proofs.Keys.{Sorted}
use Rattle.sx_book.proofs.Lists.{all_append, all_at, all_drop, all_parts, all_take}
use Rattle.sx_book.proofs.Located.{list_is}
use Rattle.sx_book.proofs.Sound.{IsSound-with, listed_at}
use Rattle.sx_book.proofs.Taking.{IsSound-take}
use Rattle.sx_ledger.specs.declared.offer.Offer.{Offer}
use Rattle.sx_ledger.specs.contracts.key.KeyOrd.TheImpl as derived
use Rattle.sx_ledger.specs.Order.{key_of}
use Rattle.sx_links.specs.Lists.{Lists, StandsAt, list_at, with_value, without_node}

abbrev Nodes : Type 0
Nodes = List (ℕ × Offer)

-- something is left of it
pub left_some : (x : ℕ × Offer) (units : ℕ) → units < x.1.amount → left_node x units ≡ (x.0, less x.1 units) ∷ []
left_some x units lt = grind (arith, common_steps, nat_tests)

pub left_nothing : (x : ℕ × Offer) (units : ℕ) → x.1.amount ≤ units → left_node x units ≡ []
left_nothing x units le = grind (arith, common_steps, nat_tests)

module _ (old : Store) (sound : IsSound old) (l p : ℕ) (x : ℕ × Offer)
    (here : slice_get (list_at old.lists.lists l) p ≡ Some x) (units : ℕ) (some : units < x.1.amount) where
  abbrev y : ℕ × Offer
  y = (x.0, less x.1 units)

  within : l < length old.lists.lists
  within = (list_is old sound l p x here).1

  old_nodes : nodes_of old.lists.lists ≡ front old.lists.lists l p ++ x ∷ back old.lists.lists l (suc p)
  old_nodes = cut_at old.lists.lists l within p x here

  split : set (list_at old.lists.lists l) p y ≡ take p (list_at old.lists.lists l) ++ y ∷ drop (suc p)
      (list_at old.lists.lists l)
  split = set_split (list_at old.lists.lists l) p y (slice_get_within (list_at old.lists.lists l) p x here)

  same_keys : (xs ys : Nodes) → map (λ z. key_of z.1) (xs ++ x ∷ ys) ≡ map (λ z. key_of z.1) (xs ++ y ∷ ys)
  same_keys [] ys = refl
  same_keys (z ∷ xs) ys = ap (λ ks. key_of z.1 ∷ ks) (same_keys xs ys)

  same_entries : (xs ys : Nodes) → map entry_of (xs ++ x ∷ ys) ≡ map entry_of (xs ++ y ∷ ys)
  same_entries [] ys = refl
  same_entries (z ∷ xs) ys = ap (λ es. entry_of z ∷ es) (same_entries xs ys)

  pub IsSound-give : (new : Store) → new.lists.lists ≡ set old.lists.lists l (set (list_at old.lists.lists l) p y)
      → new.nodes.entries ≡ old.nodes.entries → IsSound new
  IsSound-give new lists entries =
      let xs = front old.lists.lists l p in
      let ys = back old.lists.lists l (suc p) in
      let rest = drop (suc p) (list_at old.lists.lists l) in
      let whole = lists ∙ ap (set old.lists.lists l) split in
      let new_nodes : nodes_of new.lists.lists ≡ xs ++ y ∷ ys =
      ap nodes_of whole ∙ cut_set old.lists.lists l within p (y ∷ rest) in
      let listed = listed_at old sound l within in
      let is = (list_is old sound l p x here).0 in
      let is' : IsIn l y.1 = record { number = is.number; buy = is.buy } in
      let had = all_parts (λ z. 1 ≤ z.1.amount) xs (x ∷ ys)
      (subst (AllByRecursion (λ z. 1 ≤ z.1.amount)) old_nodes sound.amounts) in
      let count = length-append xs (x ∷ ys) in
      let counted = length-append xs (y ∷ ys) in
      IsSound-with old new l (take p (list_at old.lists.lists l) ++ y ∷ rest) sound whole
      (all_append (λ z. IsIn l z.1) (take p (list_at old.lists.lists l)) (y ∷ rest)
      (all_take (λ z. IsIn l z.1) p (list_at old.lists.lists l) listed)
      (is', all_drop (λ z. IsIn l z.1) (suc p) (list_at old.lists.lists l) listed))
      (entries ∙ sound.found ∙ ap (map entry_of) old_nodes ∙ same_entries xs ys ∙ ap (map entry_of) (sym new_nodes))
      (subst (λ zs. Sorted (map (λ z. key_of z.1) zs)) (sym new_nodes)
      (subst Sorted (same_keys xs ys) (subst (λ zs. Sorted (map (λ z. key_of z.1) zs)) old_nodes sound.sorted)))
      (subst (AllByRecursion (λ z. 1 ≤ z.1.amount)) (sym new_nodes)
      (all_append (λ z. 1 ≤ z.1.amount) xs (y ∷ ys) had.0 (omega arith, had.1.1)))
      (omega (arith, ap length new_nodes, ap length old_nodes, sound.few))

  pub given_some : set old.lists.lists l (set (list_at old.lists.lists l) p y)
      ≡ set old.lists.lists l (given_by (list_at old.lists.lists l) p x units)
  given_some =
      ap (set old.lists.lists l) (split
      ∙ ap (λ ys. take p (list_at old.lists.lists l) ++ (ys ++ drop (suc p) (list_at old.lists.lists l)))
      (sym (left_some x units some)))

pub given_nothing : (lists : List Nodes) (l p : ℕ) (x : ℕ × Offer) (units : ℕ) → x.1.amount ≤ units
    → set lists l (take p (list_at lists l) ++ drop (suc p) (list_at lists l))
    ≡ set lists l (given_by (list_at lists l) p x units)
given_nothing lists l p x units le =
    ap (λ ys. set lists l (take p (list_at lists l) ++ (ys ++ drop (suc p) (list_at lists l))))
    (sym (left_nothing x units le))

-- an offer with other amounts is the same but for its amount
pub less_is : (offer : Offer) (units amount : ℕ) → amount ≡ offer.amount - units
    → record {
      sell = offer.sell;
      buy = offer.buy;
      limit = offer.limit;
      account = offer.account;
      seq = offer.seq;
      amount = amount;
    }
    ≡ less offer units
less_is offer units amount is =
    ap (λ (a : ℕ). record {
      sell = offer.sell;
      buy = offer.buy;
      limit = offer.limit;
      account = offer.account;
      seq = offer.seq;
      amount = a;
    }) is
