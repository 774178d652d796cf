-- What a sound pool tells of its lists, and what each call makes of it.
use Rattle.std.proofs.Common.{◌≡◌, ◌≢◌, ℕ, zero, suc, ◌+◌, ◌-◌, ◌^◌, ◌<◌, ◌≤◌, List, [], ◌∷◌, ◌++◌, length, take}
use Rattle.std.proofs.Common.{drop, get_or, set, replicate, Option, Some, None, IsSome, slice_get, refl, sym, ap}
use Rattle.std.proofs.Common.{subst, ◌∙◌, arith, add-one}
use Rattle.std.specs.List.{insert, remove, sum_by}
use Rattle.std.specs.Option.{ForSome}
use Rattle.std.proofs.lemmas.Grind.{common_steps}
use Rattle.std.proofs.lemmas.List.{get_or-replicate, get_or_past, length-replicate, length-set}
use Rattle.std.proofs.lemmas.List.Folds.{sum_by-replicate}
use Rattle.std.proofs.lemmas.List.Edits.{length-insert, length-remove}
use Rattle.std.proofs.lemmas.List.Sums.{sum_by-set}
use Rattle.std.proofs.lemmas.Option.{slice_get_within, slice_get_past}
use Rattle.sx_links.specs.declared.pool.Place.{Place}
use Rattle.sx_links.specs.declared.pool.Place.TheVariants.{Free, Front, After}
use Rattle.sx_links.specs.declared.pool.Pool.{Pool}
use Rattle.sx_links.specs.Lists.{Lists, list_at, node_at, rest_from, node_count, StandsAt, StandsIn, Stands}
use Rattle.sx_links.specs.Lists.{AreDisjoint}
use Rattle.sx_links.specs.Pool.{Run, end_of, place_of, next_of, before_of, slot_of, value_of, vacant_of, IsLoose}
use Rattle.sx_links.specs.Pool.{IsLinked, HasPlace, Inserts, Removes, Refills, lists_of, Chains, Holds, IsSound}
use Rattle.sx_links.proofs.Linking.{before_within, value_within}
use Rattle.sx_links.proofs.Runs.{Beyond-front, Beyond-at, Simple-place, rest_from-at, end_of-take, Run-first}
use Rattle.sx_links.proofs.Runs.{Run-after, Run-value, Run-before, Beyond-next}
use Rattle.sx_links.proofs.Chains.{within_at, free_is, Front-free, Simple-list, lists_of-sound, AreDisjoint-chains}
use Rattle.sx_links.proofs.Chains.{Chains-detach, Chains-detach_free, Chains-attach, Chains-attach_free}
use Rattle.sx_links.proofs.Chains.{Chains-refill, Chains-revalue, Chains-moved}

module _ {T : Type 0} where
  -- a place of a node is within the list
  pub placed : (lists : List (List (ℕ × T))) (l i n : ℕ) → StandsAt lists l i n → i + 1 ≤ length (list_at lists l)
  placed lists l i n stands = grind (arith, slice_get_past)

  -- and the nodes up to it end behind it
  pub end_named : (lists : List (List (ℕ × T))) (l i n : ℕ) → StandsAt lists l i n →
      end_of (Front l) (take (i + 1) (list_at lists l)) ≡ After n
  end_named lists l i n stands = rw add-one (end_of-take (Front l) (list_at lists l) i n stands)

  module _ (p : Pool T) (lists : List (List (ℕ × T))) (spare : ℕ) (sound : IsSound p lists spare) where
    pub disjoint : AreDisjoint lists
    disjoint = AreDisjoint-chains p lists sound.holds.free sound.holds.chains

    pub first_is : (l : ℕ) → l < length lists → next_of p (Front l) ≡ node_at (list_at lists l) 0
    first_is l within = Run-first (next_of p) (value_of p) (Front l) (list_at lists l)
        (sound.holds.chains.listed l within)

    pub next_is : (l i n : ℕ) → StandsAt lists l i n → next_of p (After n) ≡ node_at (list_at lists l) (i + 1)
    next_is l i n stands = rw add-one
        (Run-after (next_of p) (value_of p) (Front l) (list_at lists l) i n
        (sound.holds.chains.listed l (within_at lists l i n stands)) stands)

    -- what is left of a list from a place on
    pub rest_is : (l i : ℕ) (o : Option ℕ) → l < length lists → o ≡ node_at (list_at lists l) i →
        rest_from o (list_at lists l) ≡ drop i (list_at lists l)
    rest_is l i o within here =
        ap (λ q. rest_from q (list_at lists l)) here ∙
        rest_from-at (list_at lists l) i (Simple-list p lists sound.holds.free sound.holds.chains l within)

    found : (l i n : ℕ) → StandsAt lists l i n → (v : T) × (slice_get (list_at lists l) i ≡ Some (n, v)) ×
        (value_of p n ≡ Some v)
    found l i n stands = Run-value (next_of p) (value_of p) (Front l) (list_at lists l) i n
        (sound.holds.chains.listed l (within_at lists l i n stands)) stands

    pub value_is : (l i n : ℕ) (v : T) → StandsAt lists l i n → value_of p n ≡ Some v →
        slice_get (list_at lists l) i ≡ Some (n, v)
    value_is l i n v stands has =
        let f = found l i n stands in
        let g = f.2 in
        let same : f.0 ≡ v = cc in
        f.1 ∙ ap (λ w. Some (n, w)) same

    pub has_value : (n : ℕ) → Stands lists n → IsSome (value_of p n)
    has_value n stands = rw (found stands.0 stands.1 n stands.2).2 refl

    pub is_within : (n : ℕ) → Stands lists n → n < length p.nodes.items
    is_within n stands =
        let f = found stands.0 stands.1 n stands.2 in
        value_within p n f.0 f.2

    -- a node of a list follows a place, and that is not behind itself
    pub IsLinked-listed : (n : ℕ) → Stands lists n → IsLinked p n
    IsLinked-listed n stands =
        let l = stands.0 in
        let i = stands.1 in
        let xs = list_at lists l in
        let within = within_at lists l i n stands.2 in
        let run = sound.holds.chains.listed l within in
        let follows = Run-before (next_of p) (value_of p) (Front l) xs i n run stands.2 in
        record {
          place = end_of (Front l) (take i xs);
          follows = follows;
          apart = λ e. (let again : node_at xs (suc i) ≡ Some n =
              sym (Run-after (next_of p) (value_of p) (Front l) xs i n run stands.2) ∙ ap (next_of p) (sym e) ∙
              follows in
              let same = Simple-place xs i (suc i) n
              (Simple-list p lists sound.holds.free sound.holds.chains l within) stands.2 again in
              omega arith);
        }

    -- where there is spare room there is a free node
    pub free_some : 0 < spare → IsSome (next_of p Free)
    free_some room = by_free sound.holds.free sound.holds.counted sound.holds.chains.freed
      where
        by_free : (free : List (ℕ × Unit {0})) → length free ≡ spare → Run (next_of p) (vacant_of p) Free free →
            IsSome (next_of p Free)
        by_free [] counted run = absurd (omega arith)
        by_free (x ∷ xs) counted run = rw run.0 refl

  -- the first free node, and the others
  pub first_free : (p : Pool T) (lists : List (List (ℕ × T))) (spare n : ℕ) → Holds p lists spare →
      next_of p Free ≡ Some n → (free : List (ℕ × Unit {0})) × Chains p lists ((n, tt) ∷ free) ×
      (length free + 1 ≡ spare)
  first_free p lists spare n holds follows = by_free holds.free holds.counted holds.chains
    where
      by_free : (free : List (ℕ × Unit {0})) → length free ≡ spare → Chains p lists free →
          (rest : List (ℕ × Unit {0})) × Chains p lists ((n, tt) ∷ rest) × (length rest + 1 ≡ spare)
      by_free [] counted chains =
          let none = chains.freed in
          absurd cc
      by_free (x ∷ xs) counted chains =
          let first = chains.freed.0 in
          let same : x.0 ≡ n = cc in
          (xs, subst (λ k. Chains p lists ((k, tt) ∷ xs)) same chains, omega arith)

  module _ (p : Pool T) (lists : List (List (ℕ × T))) (spare : ℕ) (sound : IsSound p lists spare) (n : ℕ) where
    -- the first free node is in no list
    pub fresh : next_of p Free ≡ Some n → (l i : ℕ) → node_at (list_at lists l) i ≢ Some n
    fresh follows l i stands =
        let chains = sound.holds.chains in
        let run = chains.listed l (within_at lists l i n stands) in
        Beyond-at n (list_at lists l) i
        (Beyond-next (next_of p) (value_of p) (before_of p) chains.agrees (Front l) (list_at lists l) Free n run
        (λ e. Front-free l (sym e)) (Beyond-front Free (list_at lists l) free_is) follows) stands

    -- the place that a call names is there, and is not behind the first free node
    pub HasPlace-named : (l : ℕ) (after : Option ℕ) → l < length lists → ForSome after (StandsIn lists l) →
        HasPlace p (place_of l after)
    HasPlace-named l None within stands = omega (arith, sound.holds.chains.fronts)
    HasPlace-named l (Some m) within stands =
        let at = stands m refl in
        is_within p lists spare sound m (l, at.0, at.1)

    pub apart_named : next_of p Free ≡ Some n → (l : ℕ) (after : Option ℕ) → ForSome after (StandsIn lists l) →
        place_of l after ≢ After n
    apart_named follows l None stands e = absurd cc
    apart_named follows l (Some m) stands e =
        let at = stands m refl in
        let same : m ≡ n = cc in
        fresh follows l at.0 (at.1 ∙ ap Some same)

    pub IsLinked-free : next_of p Free ≡ Some n → IsLinked p n
    IsLinked-free follows = record { place = Free; follows = follows; apart = free_is n }

    -- what `unlink` leaves
    pub IsSound-unlink : (a b c : Pool T) (l i : ℕ) → StandsAt lists l i n → Removes p a n → Refills a b n None →
        Inserts b c n Free → IsSound c (set lists l (remove (list_at lists l) i)) (spare + 1)
    IsSound-unlink a b c l i stands cut fill put =
        let within = within_at lists l i n stands in
        let xs = list_at lists l in
        let ys = remove xs i in
        let f = found p lists spare sound l i n stands in
        let shorter = length-remove xs i (slice_get_within xs i (n, f.0) f.1) in
        let counted = sum_by-set length lists l ys [] within in
        let loose : IsLoose b n = λ q e. cut.loose q (sym (fill.next q) ∙ e) in
        let first = Chains-detach p a lists n sound.holds.free l i sound.holds.chains cut stands in
        let second = Chains-refill a b (set lists l ys) n sound.holds.free None first cut.loose fill in
        record {
          holds = record {
            free = (n, tt) ∷ sound.holds.free;
            chains = Chains-attach_free b c (set lists l ys) n sound.holds.free second loose put (rw fill.here refl);
            counted = omega (arith, sound.holds.counted);
          };
          total = omega (arith, sound.total, cut.nodes, fill.nodes, put.nodes);
          few = omega (arith, sound.few, cut.nodes, fill.nodes, put.nodes);
        }

    -- what `set_value` leaves
    pub IsSound-set : (r : Pool T) (l i : ℕ) (v : T) → StandsAt lists l i n → Refills p r n (Some v) →
        IsSound r (set lists l (set (list_at lists l) i (n, v))) spare
    IsSound-set r l i v stands fill =
        let within = within_at lists l i n stands in
        let xs = list_at lists l in
        let ys = set xs i (n, v) in
        let same = length-set xs i (n, v) in
        let counted = sum_by-set length lists l ys [] within in
        record {
          holds = record {
            free = sound.holds.free;
            chains = Chains-revalue p r lists n sound.holds.free l i v sound.holds.chains stands fill;
            counted = sound.holds.counted;
          };
          total = omega (arith, sound.total, fill.nodes);
          few = omega (arith, sound.few, fill.nodes);
        }

    -- what `push_after` leaves
    pub IsSound-push : (a b c : Pool T) (l i : ℕ) (v : T) (place : Place) → next_of p Free ≡ Some n →
        l < length lists → i ≤ length (list_at lists l) → end_of (Front l) (take i (list_at lists l)) ≡ place →
        Removes p a n → Refills a b n (Some v) → Inserts b c n place →
        IsSound c (set lists l (insert (list_at lists l) i (n, v))) (spare - 1)
    IsSound-push a b c l i v place follows within at_most at_end cut fill put =
        let xs = list_at lists l in
        let ys = insert xs i (n, v) in
        let longer = length-insert xs i (n, v) at_most in
        let counted = sum_by-set length lists l ys [] within in
        let free = first_free p lists spare n sound.holds follows in
        let loose : IsLoose b n = λ q e. cut.loose q (sym (fill.next q) ∙ e) in
        let first = Chains-detach_free p a lists n free.0 free.1 cut in
        let second = Chains-refill a b lists n free.0 (Some v) first cut.loose fill in
        record {
          holds = record {
            free = free.0;
            chains = Chains-attach b c lists n free.0 l i v second loose
                (subst (λ q. Inserts b c n q) (sym at_end) put) (rw fill.here refl) within;
            counted = omega (arith, free.2);
          };
          total = omega (arith, sound.total, free.2, cut.nodes, fill.nodes, put.nodes);
          few = omega (arith, sound.few, cut.nodes, fill.nodes, put.nodes);
        }

  -- the place that a call names is the end of some front of the list
  pub spot : (lists : List (List (ℕ × T))) (l : ℕ) (after : Option ℕ) → ForSome after (StandsIn lists l) → (i : ℕ) ×
      (i ≤ length (list_at lists l)) × (end_of (Front l) (take i (list_at lists l)) ≡ place_of l after)
  spot lists l None stands = (0, omega arith, refl)
  spot lists l (Some n) stands =
      let at = stands n refl in
      (at.0 + 1, placed lists l at.0 n at.1, end_named lists l at.0 n at.1)

  -- a sound pool is so with the lists that it is walked to
  pub settled : (p : Pool T) (lists : List (List (ℕ × T))) (spare : ℕ) → IsSound p lists spare →
      IsSound p (lists_of p) spare
  settled p lists spare sound = subst (λ ls. IsSound p ls spare) (sym (lists_of-sound p lists spare sound)) sound

  -- and is seen as those lists
  pub seen : (p : Pool T) (lists : List (List (ℕ × T))) (spare : ℕ) → IsSound p lists spare →
      ◌≡◌ {A = Lists T} (record { lists = lists_of p; spare = spare }) (record { lists = lists; spare = spare })
  seen p lists spare sound = ap (λ ls. record { lists = ls; spare = spare }) (lists_of-sound p lists spare sound)

  -- a pool without nodes
  pub IsSound-new : (p : Pool T) (n : ℕ) → p.free ≡ None → p.fronts.items ≡ replicate n None → p.nodes.items ≡ [] →
      IsSound p (replicate n []) 0
  unfolding next_of
  IsSound-new p n free fronts nodes =
      let none : List (ℕ × T) = [] in
      let many = length-replicate n none in
      let no_nodes : length p.nodes.items ≡ 0 = ap length nodes in
      record {
        holds = record {
          free = [];
          chains = record {
            agrees = λ q m e. absurd (no_next q m e);
            listed = λ l below. (let within : l < n = omega (arith, many) in
                let empty = get_or-replicate n l none [] within in
                let first : next_of p (Front l) ≡ None = rw fronts (get_or-replicate n l None None within) in
                rw empty first);
            freed = free;
            fronts = many ∙ sym (ap length fronts ∙ length-replicate n None);
          };
          counted = refl;
        };
        total = omega (arith, no_nodes, sum_by-replicate length n none);
        few = omega (arith, no_nodes);
      }
    where
      no_next : (q : Place) (m : ℕ) → next_of p q ≡ Some m → ⊥
      no_next Free m e = cc
      no_next (Front l) m e =
          let read : get_or (replicate n None) l None ≡ Some m = rw fronts at e in
          grind (arith, common_steps, get_or_past)
      no_next (After k) m e =
          let none : next_of p (After k) ≡ None = rw nodes refl in
          cc

  -- the same nodes elsewhere in memory
  pub IsSound-moved : (p r : Pool T) (lists : List (List (ℕ × T))) (spare : ℕ) → r.free ≡ p.free →
      r.fronts.items ≡ p.fronts.items → r.nodes.items ≡ p.nodes.items → IsSound p lists spare → IsSound r lists spare
  IsSound-moved p r lists spare first fronts nodes sound =
      record {
        holds = record {
          free = sound.holds.free;
          chains = Chains-moved p r lists sound.holds.free first fronts nodes sound.holds.chains;
          counted = sound.holds.counted;
        };
        total = ap length nodes ∙ sound.total;
        few = omega (arith, sound.few, ap length nodes);
      }

  -- more free nodes
  pub IsSound-grown : (p r : Pool T) (lists : List (List (ℕ × T))) (spare missing all : ℕ) → IsSound p lists spare →
      Holds r lists (spare + missing) → length r.nodes.items ≡ length p.nodes.items + missing →
      spare + missing ≡ all → node_count lists + all < 2 ^ 32 - 1 → IsSound r lists all
  IsSound-grown p r lists spare missing all sound holds nodes sum few =
      record {
        holds = subst (λ n. Holds r lists n) sum holds;
        total = omega (arith, sound.total);
        few = omega (arith, sound.total);
      }
