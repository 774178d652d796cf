-- The lists of a pool, and what taking out and putting in a node makes of them.
use Rattle.std.proofs.Common.{◌≡◌, ◌≢◌, ◌⊎◌, ℕ, zero, suc, ◌+◌, ◌-◌, ◌<◌, ◌≤◌, List, [], ◌∷◌, ◌++◌, length, map, take}
use Rattle.std.proofs.Common.{drop, get_or, set, Option, Some, None, slice_get, refl, sym, ap, subst, ◌∙◌, inl, inr}
use Rattle.std.proofs.Common.{arith}
use Rattle.std.specs.List.{insert, remove, sum_by, range_with_len}
use Rattle.std.specs.Option.{option_and_then, option_flatten}
use Rattle.std.proofs.lemmas.Bool.{cases_eq}
use Rattle.std.proofs.lemmas.List.{take-append-drop, length-set, get_or-set_same, get_or-set_other, get_or_past}
use Rattle.std.proofs.lemmas.List.FromFn.{fill_by_all}
use Rattle.std.proofs.lemmas.List.Sums.{get_or-le-sum_by}
use Rattle.sx_links.specs.declared.pool.Place.{Place}
use Rattle.sx_links.specs.declared.pool.Place.TheVariants.{Free, Front, After}
use Rattle.sx_links.specs.declared.pool.Pool.{Pool}
use Rattle.sx_links.specs.Lists.{list_at, node_at, node_count, StandsAt, AreDisjoint}
use Rattle.sx_links.specs.Pool.{end_of, Run, walk, next_of, before_of, slot_of, value_of, vacant_of, Mutual, IsLoose}
use Rattle.sx_links.specs.Pool.{Inserts, Removes, Refills, Appends, lists_of, Chains, Holds, IsSound}
use Rattle.sx_links.proofs.Linking.{one_before, before_within, loose_past, Mutual-append, Mutual-refill}
use Rattle.sx_links.proofs.Runs.{Beyond, Simple, IsFront, Beyond-front, Beyond-at, Simple-place, end_of-take}
use Rattle.sx_links.proofs.Runs.{split_at, walk-run, Run-value, Run-before, Beyond-next, Simple-run, apart}
use Rattle.sx_links.proofs.Runs.{Run-keeps_removed, Run-removed, Run-keeps_inserted, Run-inserted, Run-same}
use Rattle.sx_links.proofs.Runs.{Run-keeps_revalued, Run-revalued}

front_is : (l : ℕ) → IsFront (Front l)
front_is l k e = absurd cc

pub free_is : IsFront Free
free_is k e = absurd cc

Front-other : (l k : ℕ) → k ≢ l → Front l ≢ Front k
Front-other l k other e = other (let f = e in cc)

pub Front-free : (l : ℕ) → Front l ≢ Free
Front-free l e = absurd cc

module _ {T : Type 0} where
  -- the walks from the fronts yield the lists
  pub lists_of-sound : (p : Pool T) (lists : List (List (ℕ × T))) (spare : ℕ) → IsSound p lists spare →
      lists_of p ≡ lists
  unfolding lists_of
  lists_of-sound p lists spare sound =
      let chains = sound.holds.chains in
      let walks : ℕ → List (ℕ × T) = λ l. walk (next_of p) (value_of p) (length p.nodes.items) (Front l) in
      sym (fill_by_all walks lists (length p.fronts.items) [] chains.fronts
      (λ l below. let within : l < length lists = omega (arith, chains.fronts) in
      sym (walk-run (next_of p) (value_of p) (Front l) (list_at lists l) (length p.nodes.items)
      (omega (arith, sound.total, get_or-le-sum_by length lists l [] within)) (chains.listed l within))))

  module _ (p : Pool T) (lists : List (List (ℕ × T))) (free : List (ℕ × Unit {0})) (chains : Chains p lists free) where
    pub Simple-list : (l : ℕ) → l < length lists → Simple (list_at lists l)
    Simple-list l within = Simple-run (next_of p) (value_of p) (before_of p) chains.agrees (Front l)
        (list_at lists l) (chains.listed l within) (Beyond-front (Front l) (list_at lists l) (front_is l))

    Run-parts : (l i : ℕ) → l < length lists →
        Run (next_of p) (value_of p) (Front l) (take i (list_at lists l) ++ drop i (list_at lists l))
    Run-parts l i within = rw take-append-drop (chains.listed l within)

    -- a place within a list is outside what begins at another front
    outside : {W : Type 0} (held : ℕ → Option W) (l i : ℕ) (q : Place) (ys : List (ℕ × W)) → l < length lists →
        IsFront q → Front l ≢ q → Run (next_of p) held q ys → (end_of (Front l) (take i (list_at lists l)) ≢ q) ×
        Beyond (end_of (Front l) (take i (list_at lists l))) ys
    outside held l i q ys within front other run =
        apart (next_of p) (value_of p) held (before_of p) chains.agrees (Front l) (take i (list_at lists l))
        (drop i (list_at lists l)) q ys (Run-parts l i within) front run other
        (Beyond-front (Front l) ys (front_is l))

    -- and so is a node of a list
    stranger : {W : Type 0} (held : ℕ → Option W) (l i n : ℕ) (q : Place) (ys : List (ℕ × W)) → l < length lists →
        StandsAt lists l i n → IsFront q → Front l ≢ q → Run (next_of p) held q ys → Beyond (After n) ys
    stranger held l i n q ys within stands front other run =
        let out = outside held l i q ys within front other run in
        Beyond-next (next_of p) held (before_of p) chains.agrees q ys (end_of (Front l) (take i (list_at lists l)))
        n run out.0 out.1 (Run-before (next_of p) (value_of p) (Front l) (list_at lists l) i n
        (chains.listed l within) stands)

  pub within_at : (lists : List (List (ℕ × T))) (l i n : ℕ) → StandsAt lists l i n → l < length lists
  within_at lists l i n stands = grind (arith, get_or_past)

  values_same : (p r : Pool T) → ((k : ℕ) → slot_of r k ≡ slot_of p k) → (k : ℕ) → value_of r k ≡ value_of p k
  values_same p r slots k = ap option_flatten (slots k)

  vacants_same : (p r : Pool T) → ((k : ℕ) → slot_of r k ≡ slot_of p k) → (k : ℕ) → vacant_of r k ≡ vacant_of p k
  vacants_same p r slots k = rw (slots k) refl

  -- what holds of a list that is written, and of each other list, holds of each list
  listed-set : (lists : List (List (ℕ × T))) (l : ℕ) (ys : List (ℕ × T)) (R : ℕ → List (ℕ × T) → Type 0) →
      l < length lists → R l ys → ((k : ℕ) → k < length lists → k ≢ l → R k (list_at lists k)) → (k : ℕ) →
      k < length (set lists l ys) → R k (list_at (set lists l ys) k)
  listed-set lists l ys R within here others k below =
      elim (cases_eq k l) [
        | inl same ↦ subst (λ m. R m (list_at (set lists l ys) m)) (sym same)
            (subst (R l) (sym (get_or-set_same lists l ys [] within)) here)
        | inr other ↦ subst (R k) (sym (get_or-set_other lists l k ys [] other))
            (others k (omega (arith, length-set lists l ys)) other)
      ]

  module _ (p r : Pool T) (lists : List (List (ℕ × T))) (n : ℕ) where
    pub Chains-detach : (free : List (ℕ × Unit {0})) (l i : ℕ) → Chains p lists free → Removes p r n →
        StandsAt lists l i n → Chains r (set lists l (remove (list_at lists l) i)) free
    Chains-detach free l i chains cut stands =
        let within = within_at lists l i n stands in
        let xs = list_at lists l in
        let run = chains.listed l within in
        let found = Run-value (next_of p) (value_of p) (Front l) xs i n run stands in
        let parts = split_at xs i (n, found.0) found.1 in
        let place = one_before p _ _ n chains.agrees
        (Run-before (next_of p) (value_of p) (Front l) xs i n run stands) cut.was in
        let values = values_same p r cut.slots in
        record {
          agrees = cut.agrees;
          listed = listed-set lists l (remove xs i) (λ k ys. Run (next_of r) (value_of r) (Front k) ys) within
              (Run-removed (next_of p) (next_of r) (value_of p) (value_of r) n cut.place cut.was cut.after
              cut.others values (Front l) (take i xs) found.0 (drop (suc i) xs) place
              (Beyond-front (Front l) _ (front_is l))
              (subst Simple parts (Simple-list p lists free chains l within))
              (subst (λ ys. Run (next_of p) (value_of p) (Front l) ys) parts run))
              (λ k below other. Run-keeps_removed (next_of p) (next_of r) (value_of p) (value_of r) n cut.place
              cut.was cut.after cut.others values (Front k) (list_at lists k) (front_is k n)
              (stranger p lists free chains (value_of p) l i n (Front k) (list_at lists k) within stands
              (front_is k) (Front-other l k other) (chains.listed k below)) (chains.listed k below));
          freed = Run-keeps_removed (next_of p) (next_of r) (vacant_of p) (vacant_of r) n cut.place cut.was
              cut.after cut.others (vacants_same p r cut.slots) Free free (free_is n)
              (stranger p lists free chains (vacant_of p) l i n Free free within stands free_is (Front-free l)
              chains.freed) chains.freed;
          fronts = length-set lists l (remove xs i) ∙ chains.fronts ∙ sym cut.fronts;
        }

    pub Chains-detach_free : (free : List (ℕ × Unit {0})) → Chains p lists ((n, tt) ∷ free) → Removes p r n →
        Chains r lists free
    Chains-detach_free free chains cut =
        let run = chains.freed in
        let simple = Simple-run (next_of p) (vacant_of p) (before_of p) chains.agrees Free ((n, tt) ∷ free) run
        (Beyond-front Free ((n, tt) ∷ free) free_is) in
        let place = one_before p _ _ n chains.agrees run.0 cut.was in
        record {
          agrees = cut.agrees;
          listed = λ k below. Run-keeps_removed (next_of p) (next_of r) (value_of p) (value_of r) n cut.place
              cut.was cut.after cut.others (values_same p r cut.slots) (Front k) (list_at lists k) (front_is k n)
              (Beyond-next (next_of p) (value_of p) (before_of p) chains.agrees (Front k) (list_at lists k) Free n
              (chains.listed k below) (λ e. Front-free k (sym e)) (Beyond-front Free (list_at lists k) free_is)
              run.0) (chains.listed k below);
          freed = Run-removed (next_of p) (next_of r) (vacant_of p) (vacant_of r) n cut.place cut.was cut.after
              cut.others (vacants_same p r cut.slots) Free [] tt free place
              (Beyond-front Free ((n, tt) ∷ free) free_is) simple run;
          fronts = chains.fronts ∙ sym cut.fronts;
        }

    pub Chains-attach : (free : List (ℕ × Unit {0})) (l i : ℕ) (v : T) → Chains p lists free → IsLoose p n →
        Inserts p r n (end_of (Front l) (take i (list_at lists l))) → value_of p n ≡ Some v → l < length lists →
        Chains r (set lists l (insert (list_at lists l) i (n, v))) free
    Chains-attach free l i v chains loose put has within =
        let xs = list_at lists l in
        let place = end_of (Front l) (take i xs) in
        let parts = sym (take-append-drop i xs) in
        let values = values_same p r put.slots in
        record {
          agrees = put.agrees;
          listed = listed-set lists l (insert xs i (n, v)) (λ k ys. Run (next_of r) (value_of r) (Front k) ys) within
              (Run-inserted (next_of p) (next_of r) (value_of p) (value_of r) n place loose put.after put.behind
              put.others values (Front l) (take i xs) (drop i xs) v has (front_is l n) refl
              (Beyond-front (Front l) _ (front_is l))
              (subst Simple parts (Simple-list p lists free chains l within))
              (Run-parts p lists free chains l i within))
              (λ k below other.
              let out = outside p lists free chains (value_of p) l i (Front k) (list_at lists k) within (front_is k)
              (Front-other l k other) (chains.listed k below) in
              Run-keeps_inserted (next_of p) (next_of r) (value_of p) (value_of r) n place loose put.after
              put.behind put.others values (Front k) (list_at lists k) (front_is k n) (λ e. out.0 (sym e)) out.1
              (chains.listed k below));
          freed = (let out = outside p lists free chains (vacant_of p) l i Free free within free_is (Front-free l)
              chains.freed in
              Run-keeps_inserted (next_of p) (next_of r) (vacant_of p) (vacant_of r) n place loose put.after
              put.behind put.others (vacants_same p r put.slots) Free free (free_is n) (λ e. out.0 (sym e))
              out.1 chains.freed);
          fronts = length-set lists l (insert xs i (n, v)) ∙ chains.fronts ∙ sym put.fronts;
        }

    pub Chains-attach_free : (free : List (ℕ × Unit {0})) → Chains p lists free → IsLoose p n → Inserts p r n Free →
        vacant_of p n ≡ Some tt → Chains r lists ((n, tt) ∷ free)
    Chains-attach_free free chains loose put vacant =
        record {
          agrees = put.agrees;
          listed = λ k below. Run-keeps_inserted (next_of p) (next_of r) (value_of p) (value_of r) n Free loose
              put.after put.behind put.others (values_same p r put.slots) (Front k) (list_at lists k) (front_is k n)
              (Front-free k) (Beyond-front Free (list_at lists k) free_is) (chains.listed k below);
          freed = Run-inserted (next_of p) (next_of r) (vacant_of p) (vacant_of r) n Free loose put.after put.behind
              put.others (vacants_same p r put.slots) Free [] free tt vacant (free_is n) refl
              (Beyond-front Free free free_is)
              (Simple-run (next_of p) (vacant_of p) (before_of p) chains.agrees Free free chains.freed
              (Beyond-front Free free free_is)) chains.freed;
          fronts = chains.fronts ∙ sym put.fronts;
        }

  -- lists stay where places lead to the same nodes, and values change in a loose node only
  Chains-same : (p r : Pool T) (lists : List (List (ℕ × T))) (n : ℕ) (free : List (ℕ × Unit {0})) →
      Chains p lists free → IsLoose p n → Mutual r → ((q : Place) → next_of r q ≡ next_of p q) →
      ((k : ℕ) → k ≢ n → slot_of r k ≡ slot_of p k) → length r.fronts.items ≡ length p.fronts.items →
      Chains r lists free
  Chains-same p r lists n free chains loose agrees nexts slots fronts =
      record {
        agrees = agrees;
        listed = λ k below. Run-same (next_of p) (next_of r) (value_of p) (value_of r) n loose nexts
            (λ m other. ap option_flatten (slots m other)) (Front k) (list_at lists k) (chains.listed k below);
        freed = Run-same (next_of p) (next_of r) (vacant_of p) (vacant_of r) n loose nexts
            (λ m other. rw (slots m other) refl) Free free chains.freed;
        fronts = chains.fronts ∙ sym fronts;
      }

  pub Chains-refill : (p r : Pool T) (lists : List (List (ℕ × T))) (n : ℕ) (free : List (ℕ × Unit {0}))
      (slot : Option T) → Chains p lists free → IsLoose p n → Refills p r n slot → Chains r lists free
  Chains-refill p r lists n free slot chains loose fill =
      Chains-same p r lists n free chains loose (Mutual-refill p r n slot chains.agrees fill) fill.next fill.others
      fill.fronts

  -- a node of a list has another value
  pub Chains-revalue : (p r : Pool T) (lists : List (List (ℕ × T))) (n : ℕ) (free : List (ℕ × Unit {0})) (l i : ℕ)
      (v : T) → Chains p lists free → StandsAt lists l i n → Refills p r n (Some v) →
      Chains r (set lists l (set (list_at lists l) i (n, v))) free
  Chains-revalue p r lists n free l i v chains stands fill =
      let within = within_at lists l i n stands in
      let xs = list_at lists l in
      let has : value_of r n ≡ Some v = ap option_flatten fill.here in
      let values : (k : ℕ) → k ≢ n → value_of r k ≡ value_of p k = λ k other. ap option_flatten (fill.others k other) in
      record {
        agrees = Mutual-refill p r n (Some v) chains.agrees fill;
        listed = listed-set lists l (set xs i (n, v)) (λ k ys. Run (next_of r) (value_of r) (Front k) ys) within
            (Run-revalued (next_of p) (next_of r) (value_of p) (value_of r) n fill.next values (Front l) xs i v has
            (Simple-list p lists free chains l within) stands (chains.listed l within))
            (λ k below other. Run-keeps_revalued (next_of p) (next_of r) (value_of p) (value_of r) n fill.next
            values (Front k) (list_at lists k)
            (stranger p lists free chains (value_of p) l i n (Front k) (list_at lists k) within stands (front_is k)
            (Front-other l k other) (chains.listed k below)) (chains.listed k below));
        freed = Run-keeps_revalued (next_of p) (next_of r) (vacant_of p) (vacant_of r) n fill.next
            (λ k other. rw (fill.others k other) refl) Free free
            (stranger p lists free chains (vacant_of p) l i n Free free within stands free_is (Front-free l)
            chains.freed) chains.freed;
        fronts = length-set lists l (set xs i (n, v)) ∙ chains.fronts ∙ sym fill.fronts;
      }

  pub Chains-append : (p r : Pool T) (lists : List (List (ℕ × T))) (free : List (ℕ × Unit {0})) →
      Chains p lists free → Appends p r → Chains r lists free
  Chains-append p r lists free chains more =
      Chains-same p r lists (length p.nodes.items) free chains (loose_past p chains.agrees)
      (Mutual-append p r chains.agrees more) more.next more.others more.fronts

  -- the same nodes elsewhere in memory
  pub Chains-moved : (p r : Pool T) (lists : List (List (ℕ × T))) (free : List (ℕ × Unit {0})) → r.free ≡ p.free →
      r.fronts.items ≡ p.fronts.items → r.nodes.items ≡ p.nodes.items → Chains p lists free → Chains r lists free
  unfolding next_of before_of slot_of
  Chains-moved p r lists free first fronts nodes chains =
      Chains-same p r lists (length p.nodes.items) free chains (loose_past p chains.agrees)
      (λ q m e. rw nodes (chains.agrees q m (sym (nexts q) ∙ e))) nexts (λ k other. rw nodes refl)
      (ap length fronts)
    where
      nexts : (q : Place) → next_of r q ≡ next_of p q
      nexts Free = first
      nexts (Front l) = rw fronts refl
      nexts (After k) = rw nodes refl

  -- a place of a node is the only one
  pub AreDisjoint-chains : (p : Pool T) (lists : List (List (ℕ × T))) (free : List (ℕ × Unit {0})) →
      Chains p lists free → AreDisjoint lists
  AreDisjoint-chains p lists free chains l m i j n here there =
      let within = within_at lists l i n here in
      let below = within_at lists m j n there in
      elim (cases_eq m l) [
        | inl same ↦ (
          sym same,
          Simple-place (list_at lists l) i j n (Simple-list p lists free chains l within) here
              (subst (λ k. StandsAt lists k j n) same there),
        )
        | inr other ↦ absurd (Beyond-at n (list_at lists m) j
            (stranger p lists free chains (value_of p) l i n (Front m) (list_at lists m) within here (front_is m)
            (Front-other l m other) (chains.listed m below)) there)
      ]
