-- What is found of classes of accounts, taken together.
use Rattle.std.proofs.Common.{◌≡◌, ℕ, zero, suc, ◌+◌, ◌<◌, true, List, [], ◌∷◌, ◌++◌, get_or, length, map}
use Rattle.std.proofs.Common.{refl, sym, ap, ap₂, subst, ◌∙◌, arith}
use Rattle.std.specs.Prelude.{not}
use Rattle.std.specs.List.{filter, flat_map}
use Rattle.std.proofs.lemmas.Bool.{eqb-true}
use Rattle.std.proofs.lemmas.Grind.{flat_map-append}
use Rattle.std.proofs.lemmas.List.{get_or-map, length-map}
use Rattle.std.proofs.lemmas.List.Elements.{filter-append, filter_map-append}
use Rattle.sx_filter.specs.Alone.{is_fit, is_new}
use Rattle.sx_filter.specs.Kept.{kept_of, passes}
use Rattle.sx_filter.specs.Joined.{AreSiftedParts, IsJoined}
use Rattle.sx_filter.specs.Classes.{AreClasses, AreParted}
use Rattle.sx_filter.specs.Ranges.{is_at}
use Rattle.sx_filter.specs.Part.{IsPart}
use Rattle.sx_filter.specs.Sifted.{AreSifted, IsSifted, TxVec, in_lists}
use Rattle.sx_filter.specs.declared.sift.sifting.Sifted.{Sifted}
use Rattle.sx_filter.proofs.Counts.{filter_twice, in_filter}
use Rattle.sx_filter.proofs.KeptAlone.{alone_is_fit_and_new}
use Rattle.sx_filter.proofs.Locals.{each_fit}
use Rattle.sx_filter.proofs.NamedAgain.{never_created}
use Rattle.sx_filter.proofs.Picking.{element}
use Rattle.sx_filter.proofs.Parted.{among, filter_all, part_kept, parted_whole}
use Rattle.sx_outcome.proofs.Totals.{In}
use Rattle.sx_ledger.specs.declared.parts.Parts.{Parts}
use Rattle.sx_ledger.specs.Body.{created, created_by}
use Rattle.sx_tx.specs.declared.tx.Tx.{Tx}

-- ---- what candidates create

created_whole : (lists : List (List Tx)) (found : List (List ℕ)) → length found ≡ length lists
    → ((k : ℕ) (d : List ℕ) (e : List Tx) → k < length lists → get_or found k d ≡ created (get_or lists k e))
    → flat_map (λ list. list) found ≡ created (flat_map (λ list. list) lists)
created_whole [] [] same each = refl
created_whole [] (one ∷ found) same each = absurd (omega (arith, same))
created_whole (list ∷ lists) [] same each = absurd (omega (arith, same))
created_whole (list ∷ lists) (one ∷ found) same each =
    ap₂ (λ (a b : List ℕ). a ++ b) (each 0 [] [] (omega arith))
    (created_whole lists found (omega (arith, same)) (λ k d e lt. each (suc k) d e (omega (arith, lt))))
    ∙ sym (filter_map-append (λ (tx : Tx). created_by tx.kind) list (flat_map (λ l. l) lists))

-- ---- what is fit of classes, taken together

-- for each element of a list one that stands in a relation to it
pub choose : {X Y : Type 0} (R : ℕ → X → Y → Type 0) (xs : List X)
    → ((i : ℕ) (d : X) → i < length xs → (y : Y) × R i (get_or xs i d) y)
    → (ys : List Y) × ((length ys ≡ length xs)
    × ((i : ℕ) (d : X) (e : Y) → i < length xs → R i (get_or xs i d) (get_or ys i e)))
choose R [] each = ([], (refl, λ i d e lt. absurd (omega (arith, lt))))
choose {X} {Y} R (x ∷ xs) each =
    let first = each 0 x (omega arith) in
    let rest = choose (λ i. R (suc i)) xs (λ i d lt. each (suc i) d (omega (arith, lt))) in
    (first.0 ∷ rest.0, (ap suc rest.1.0, by first.0 rest.0 first.1 rest.1.1))
  where
    by : (y : Y) (ys : List Y) → R 0 x y
        → ((i : ℕ) (d : X) (e : Y) → i < length xs → R (suc i) (get_or xs i d) (get_or ys i e))
        → (i : ℕ) (d : X) (e : Y) → i < length (x ∷ xs) → R i (get_or (x ∷ xs) i d) (get_or (y ∷ ys) i e)
    by y ys here later zero d e lt = here
    by y ys here later (suc i) d e lt = later i d e (omega (arith, lt))

-- lists of lists, one behind the other

ids_of_each : (all : List Sifted)
    → flat_map (λ one. one.ids) all ≡ flat_map (λ list. list) (map (λ (one : Sifted). one.ids) all)
ids_of_each [] = refl
ids_of_each (one ∷ all) = ap (λ (list : List ℕ). one.ids ++ list) (ids_of_each all)

fit_of_each : (all : List Sifted)
    → in_lists (flat_map (λ one. one.fit.items) all)
    ≡ flat_map (λ list. list) (map (λ (one : Sifted). in_lists one.fit.items) all)
fit_of_each [] = refl
fit_of_each (one ∷ all) =
    flat_map-append (λ (list : TxVec). list.items) one.fit.items (flat_map (λ (it : Sifted). it.fit.items) all)
    ∙ ap (λ (list : List Tx). in_lists one.fit.items ++ list) (fit_of_each all)

module _ (parts : Parts) (candidates : List Tx) (all : List Sifted) (is : AreSiftedParts parts candidates all) where
  abbrev rank : Tx → ℕ
  rank tx = is.class_of tx.account.0

  abbrev IsOf : ℕ → Sifted → List Tx → Type 0
  IsOf i one part = IsPart parts (filter (is_at is.class_of i) candidates) part × AreSifted parts part one

  abbrev chosen : (lists : List (List Tx)) × ((length lists ≡ length all)
      × ((i : ℕ) (d : Sifted) (e : List Tx) → i < length all → IsOf i (get_or all i d) (get_or lists i e)))
  chosen = choose IsOf all (λ i d lt. let one = is.are.each i d lt in (one.part, (one.is, one.are)))

  -- the one at a place, as an element to begin with
  abbrev at_place : (k : ℕ) → k < length chosen.0 → Sifted
  at_place k lt = (element all k (omega (arith, lt, chosen.1.0))).0

  parted : AreParted parts candidates chosen.0
  parted = record {
    class_of = is.class_of;
    classes = subst (AreClasses is.class_of) (sym chosen.1.0) is.are.classes;
    each = λ k d lt. (chosen.1.1 k (at_place k lt) d (omega (arith, lt, chosen.1.0))).0;
  }

  -- those that pass, of all classes
  abbrev passed : List Tx
  passed = flat_map (λ list. list) chosen.0

  of_class : (k : ℕ) (d : List Tx) → k < length chosen.0 → (y : Tx) → In y (get_or chosen.0 k d)
      → (passes parts y ≡ true) × (rank y ≡ 0 + k)
  of_class k d lt y there =
      let part = (chosen.1.1 k (at_place k lt) d (omega (arith, lt, chosen.1.0))).0 in
      let both = in_filter (passes parts) y part.all (subst (λ (list : List Tx). In y list) part.are there) in
      let at : rank y ≡ k =
      eqb-true (rank y) k (among is.class_of is.are.classes.rise candidates parts (is_at is.class_of k)
      (get_or chosen.0 k d) part y both.0) in
      (both.1, omega (arith, at))

  ids_are : flat_map (λ one. one.ids) all ≡ created passed
  ids_are =
      ids_of_each all
      ∙ created_whole chosen.0 (map (λ (one : Sifted). one.ids) all)
      (length-map all (λ (one : Sifted). one.ids) ∙ sym chosen.1.0)
      (λ k d e lt.
      let at : k < length all = omega (arith, lt, chosen.1.0) in
      let s = at_place k (omega (arith, at, chosen.1.0)) in
      get_or-map (λ (one : Sifted). one.ids) all k s d at ∙ (chosen.1.1 k s e at).1.ids)

  fit_is : in_lists (flat_map (λ one. one.fit.items) all) ≡ filter (is_fit parts passed) passed
  fit_is =
      let fits = map (λ (one : Sifted). in_lists one.fit.items) all in
      fit_of_each all
      ∙ each_fit parts rank (λ x y e. ap is.class_of e) passed 0 [] chosen.0 fits refl (λ y there. absurd there) of_class
      (length-map all (λ (one : Sifted). in_lists one.fit.items) ∙ sym chosen.1.0)
      (λ k d lt.
      let at : k < length all = omega (arith, lt, chosen.1.0) in
      let s = at_place k lt in
      get_or-map (λ (one : Sifted). in_lists one.fit.items) all k s d at ∙ (chosen.1.1 k s d at).1.fit)

  pub sifted_joined : (sifted : Sifted) → IsJoined all sifted → IsSifted parts candidates sifted
  sifted_joined sifted joined = record {
    part = passed;
    is = parted_whole parts candidates chosen.0 parted;
    are = record { fit = ap in_lists joined.fit ∙ fit_is; ids = joined.ids ∙ ids_are };
  }

-- ---- what is kept of what was sifted

-- where nothing is created, all are new
pub all_new : (passed : List Tx) → created passed ≡ [] → (txs : List Tx) → txs ≡ filter (is_new passed) txs
all_new passed none txs = sym (filter_all (is_new passed) txs (λ tx. ap not (never_created passed none tx)))

-- the same of each list by itself
pub new_of_each : (passed : List Tx) (old new : List TxVec) → length new ≡ length old
    → ((k : ℕ) (d : TxVec) → k < length old → (get_or new k d).items ≡ filter (is_new passed) (get_or old k d).items)
    → in_lists new ≡ filter (is_new passed) (in_lists old)
new_of_each passed [] [] same each = refl
new_of_each passed [] (two ∷ new) same each = absurd (omega (arith, same))
new_of_each passed (one ∷ old) [] same each = absurd (omega (arith, same))
new_of_each passed (one ∷ old) (two ∷ new) same each =
    ap₂ (λ (a b : List Tx). a ++ b) (each 0 one (omega arith))
    (new_of_each passed old new (omega (arith, same)) (λ k d lt. each (suc k) d (omega (arith, lt))))
    ∙ sym (filter-append (is_new passed) one.items (in_lists old))

-- those of all that are new
pub new_kept : (parts : Parts) (candidates : List Tx) (sifted : Sifted) (is : IsSifted parts candidates sifted)
    → filter (is_new is.part) (in_lists sifted.fit.items) ≡ kept_of parts candidates
new_kept parts candidates sifted is =
    ap (filter (is_new is.part)) is.are.fit
    ∙ sym (filter_twice (is_fit parts is.part) (is_new is.part) is.part)
    ∙ (λ i. filter (λ tx. alone_is_fit_and_new parts is.part tx i) is.part)
    ∙ part_kept parts candidates is.part is.is
