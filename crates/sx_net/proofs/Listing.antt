-- An arc goes into its list, and out of it.
use Rattle.std.proofs.Common.{◌≡◌, ◌≢◌, ℕ, zero, suc, ◌+◌, ◌*◌, ◌^◌, ◌<◌, ◌⊎◌, List, [], ◌∷◌, ◌++◌, length, set, Some}
use Rattle.std.proofs.Common.{slice_get, slice_index, replicate, refl, sym, ap, ◌∙◌, inl, inr, arith, length-set, Bool, true, false}
use Rattle.std.specs.Prelude.{if◌then◌else◌, ◌==◌, ◌&&◌, not, nat_lt, ◌/◌}
use Rattle.std.specs.List.{remove}
use Rattle.std.proofs.lemmas.Bool.{cases_eq}
use Rattle.std.proofs.lemmas.Bool.Decides.{nat_tests}
use Rattle.std.proofs.lemmas.Option.{some_pair_parts}
use Rattle.std.proofs.lemmas.List.{length-replicate, get_or_push, get_or_append_left, length_push, get_or-set_same, get_or-set_other}
use Rattle.sx_links.specs.Lists.{list_at, StandsAt, AreDisjoint}
use Rattle.sx_net.specs.declared.arc.Arc.{Arc}
use Rattle.sx_net.specs.declared.tree.Visit.{Visit}
use Rattle.sx_net.specs.Arcs.{no_arc, arc_at, tail_of, head_of, IsOpen}
use Rattle.sx_net.specs.Visits.{IsVisited}
use Rattle.sx_net.specs.Leaving.{can_carry, list_of, IsListed, IsEntry, AreListed}

-- what a list has without one place, it had at another place
from_removed : (xs : List (ℕ × ℕ)) (p q : ℕ) (x : ℕ × ℕ) → slice_get (remove xs p) q ≡ Some x →
    (r : ℕ) × (r ≢ p) × (slice_get xs r ≡ Some x)
from_removed [] zero q x here = absurd cc
from_removed [] (suc p) q x here = absurd cc
from_removed (y ∷ xs) zero q x here = (suc q, (λ same. absurd (omega arith)), here)
from_removed (y ∷ xs) (suc p) zero x here = (zero, (λ same. absurd (omega arith)), here)
from_removed (y ∷ xs) (suc p) (suc q) x here =
    let at = from_removed xs p q x here in
    (suc at.0, (λ same. at.1 (omega arith)), at.2)

to_removed : (xs : List (ℕ × ℕ)) (p r : ℕ) (x : ℕ × ℕ) → slice_get xs r ≡ Some x → r ≢ p →
    (q : ℕ) × (slice_get (remove xs p) q ≡ Some x)
to_removed [] p r x here other = absurd cc
to_removed (y ∷ xs) zero zero x here other = absurd (other refl)
to_removed (y ∷ xs) zero (suc r) x here other = (r, here)
to_removed (y ∷ xs) (suc p) zero x here other = (zero, here)
to_removed (y ∷ xs) (suc p) (suc r) x here other =
    let at = to_removed xs p r x here (λ same. other (ap suc same)) in
    (suc at.0, at.1)

-- what an arc in the place of another keeps, all arcs keep
pub set_keeps : {X : Type 0} (f : Arc → X) (arcs : List Arc) (a : ℕ) (arc : Arc) → a < length arcs →
    f arc ≡ f (arc_at arcs a) → (b : ℕ) → (b ≡ a) ⊎ (b ≢ a) → f (arc_at (set arcs a arc) b) ≡ f (arc_at arcs b)
set_keeps f arcs a arc within is b (inl same) = rw same (ap f (get_or-set_same arcs a arc no_arc within) ∙ is)
set_keeps f arcs a arc within is b (inr other) = ap f (get_or-set_other arcs a b arc no_arc other)

list_chosen : (b : Bool) (t : ℕ) → (if b then 2 * t else 2 * t + 1) < 2 * t + 2
list_chosen true t = omega arith
list_chosen false t = omega arith

-- an arc's list is one of the two of its tail
pub list_below : (arc : Arc) → list_of arc < 2 * arc.tail + 2
list_below arc = list_chosen (can_carry arc) arc.tail

-- other arcs, of which all but one are the same
pub AreListed-same : (lists : List (List (ℕ × ℕ))) (links links' : List ℕ) (arcs arcs' : List Arc) (but : ℕ) →
    AreListed lists links arcs but → length links' ≡ length arcs' →
    ((a : ℕ) → a < length arcs' → a ≢ but → a < length arcs) →
    ((a : ℕ) → a < length arcs → a ≢ but → (a < length arcs') × (list_of (arc_at arcs' a) ≡ list_of (arc_at arcs a))
    × (slice_index links' a ≡ slice_index links a)) →
    ((a : ℕ) → a < length arcs' → 2 * tail_of arcs' a + 1 < length lists) →
    AreListed lists links' arcs' but
AreListed-same lists links links' arcs arcs' but was count within same tails = record {
  count = count;
  few = was.few;
  tails = tails;
  apart = was.apart;
  entries = λ list place link a here.
      let at = was.entries list place link a here in
      let still = same a at.within at.other in
      record {
        within = still.0;
        other = at.other;
        in_list = still.1 ∙ at.in_list;
        at_link = still.2 ∙ at.at_link;
      };
  all = λ a inside other.
      let still = same a (within a inside other) other in
      rw (still.1, still.2) (was.all a (within a inside other) other);
}

-- so many empty lists
empty : ℕ → List (List (ℕ × ℕ))
empty n = replicate n []

empty_at : (n l : ℕ) → list_at (empty n) l ≡ []
unfolding empty
empty_at zero l = refl
empty_at (suc n) zero = refl
empty_at (suc n) (suc l) = empty_at n l

none_there : (n l place : ℕ) (x : ℕ × ℕ) → slice_get (list_at (empty n) l) place ≡ Some x → ⊥
none_there n l place x here = let gone = rw (empty_at n l) at here in cc

none_stands : (n l place node : ℕ) → StandsAt (empty n) l place node → ⊥
none_stands n l place node stands = let gone = rw (empty_at n l) at stands in cc

-- without arcs all lists are empty
pub AreListed-none : (n : ℕ) → n < 2 ^ 32 → AreListed (replicate n []) [] [] 0
unfolding empty
AreListed-none n few = record {
  count = refl;
  few = omega (arith, few, length-replicate {A = List (ℕ × ℕ)} n []);
  tails = λ a within. absurd (omega arith);
  apart = λ l l' place place' node stands stands'. absurd (none_stands n l place node stands);
  entries = λ l place link a here. absurd (none_there n l place (link, a) here);
  all = λ a within other. absurd (omega arith);
}

-- an arc that is not listed comes to its list
module _ (lists : List (List (ℕ × ℕ))) (links : List ℕ) (arcs : List Arc) (a : ℕ) (was : AreListed lists links arcs a)
    (within : a < length arcs) (list link : ℕ) (is : list_of (arc_at arcs a) ≡ list) (at : slice_index links a ≡ link)
    (apart : AreDisjoint (set lists list ((link, a) ∷ list_at lists list))) where
  more : List (List (ℕ × ℕ))
  more = set lists list ((link, a) ∷ list_at lists list)

  inside : list < length lists
  inside = omega (arith, is, list_below (arc_at arcs a), was.tails a within)

  more_here : list_at more list ≡ (link, a) ∷ list_at lists list
  unfolding more
  more_here = get_or-set_same lists list ((link, a) ∷ list_at lists list) [] inside

  more_there : (l : ℕ) → l ≢ list → list_at more l ≡ list_at lists l
  unfolding more
  more_there l other = get_or-set_other lists list l ((link, a) ∷ list_at lists list) [] other

  old_entry : (l link' b : ℕ) → IsEntry links arcs a l link' b → IsEntry links arcs (length arcs) l link' b
  old_entry l link' b was = record {
    within = was.within;
    other = λ same. absurd (omega (arith, was.within));
    in_list = was.in_list;
    at_link = was.at_link;
  }

  entry_here : (place link' b : ℕ) → slice_get ((link, a) ∷ list_at lists list) place ≡ Some (link', b) →
      IsEntry links arcs (length arcs) list link' b
  entry_here zero link' b here =
      let parts = some_pair_parts link link' a b here in
      rw (← parts.0, ← parts.1) (record {
        within = within;
        other = λ same. absurd (omega (arith, within));
        in_list = is;
        at_link = at;
      })
  entry_here (suc place) link' b here = old_entry list link' b (was.entries list place link' b here)

  entry : (l place link' b : ℕ) → slice_get (list_at more l) place ≡ Some (link', b) → (l ≡ list) ⊎ (l ≢ list) →
      IsEntry links arcs (length arcs) l link' b
  entry l place link' b here (inl same) =
      let now = rw (same, more_here) at here in
      rw same (entry_here place link' b now)
  entry l place link' b here (inr other) =
      old_entry l link' b (was.entries l place link' b (rw (more_there l other) at here))

  still : (l link' b : ℕ) → IsListed lists l link' b → (l ≡ list) ⊎ (l ≢ list) → IsListed more l link' b
  still l link' b old (inl same) =
      record { place = suc old.place; here = rw (same, more_here) (rw same at old.here) }
  still l link' b old (inr other) = record { place = old.place; here = rw (more_there l other) old.here }

  all : (b : ℕ) → b < length arcs → (b ≡ a) ⊎ (b ≢ a) → IsListed more (list_of (arc_at arcs b)) (slice_index links b) b
  all b inside (inl same) = rw (same, is, at) (record { place = 0; here = rw more_here refl })
  all b inside (inr other) =
      still (list_of (arc_at arcs b)) (slice_index links b) b (was.all b inside other)
      (cases_eq (list_of (arc_at arcs b)) list)

  pub AreListed-in : AreListed (set lists list ((link, a) ∷ list_at lists list)) links arcs (length arcs)
  unfolding more
  AreListed-in = record {
    count = was.count;
    few = omega (arith, was.few, length-set lists list ((link, a) ∷ list_at lists list));
    tails = λ b inside. omega (arith, was.tails b inside, length-set lists list ((link, a) ∷ list_at lists list));
    apart = apart;
    entries = λ l place link' b here. entry l place link' b here (cases_eq l list);
    all = λ b inside other. all b inside (cases_eq b a);
  }

-- a listed arc goes out of its list
module _ (lists : List (List (ℕ × ℕ))) (links : List ℕ) (arcs : List Arc)
    (was : AreListed lists links arcs (length arcs)) (a : ℕ) (within : a < length arcs) (place : ℕ)
    (stood : slice_get (list_at lists (list_of (arc_at arcs a))) place ≡ Some (slice_index links a, a))
    (apart : AreDisjoint (set lists (list_of (arc_at arcs a)) (remove (list_at lists (list_of (arc_at arcs a))) place)))
  where
    list : ℕ
    list = list_of (arc_at arcs a)

    fewer : List (List (ℕ × ℕ))
    unfolding list
    fewer = set lists list (remove (list_at lists list) place)

    inside_out : list < length lists
    unfolding list
    inside_out = omega (arith, list_below (arc_at arcs a), was.tails a within)

    fewer_here : list_at fewer list ≡ remove (list_at lists list) place
    unfolding fewer list
    fewer_here = get_or-set_same lists list (remove (list_at lists list) place) [] inside_out

    fewer_there : (l : ℕ) → l ≢ list → list_at fewer l ≡ list_at lists l
    unfolding fewer list
    fewer_there l other = get_or-set_other lists list l (remove (list_at lists list) place) [] other

    narrow : (l q link b : ℕ) → slice_get (list_at lists l) q ≡ Some (link, b) → b ≢ a → IsEntry links arcs a l link b
    narrow l q link b here other =
        let old = was.entries l q link b here in
        record { within = old.within; other = other; in_list = old.in_list; at_link = old.at_link }

    only_there : (q link b : ℕ) → slice_get (list_at lists list) q ≡ Some (link, b) → b ≡ a → q ≡ place
    unfolding list
    only_there q link b here itself =
        let old = was.entries list q link b here in
        let node = slice_index links a in
        (was.apart list list q place node (rw here (ap Some (sym old.at_link ∙ ap (slice_index links) itself)))
        (rw stood refl)).1

    entry_out : (l q link b : ℕ) → slice_get (list_at fewer l) q ≡ Some (link, b) → (l ≡ list) ⊎ (l ≢ list) →
        IsEntry links arcs a l link b
    unfolding list
    entry_out l q link b here (inl same) =
        let now = rw (same, fewer_here) at here in
        let old = from_removed (list_at lists list) place q (link, b) now in
        rw same (narrow list old.0 link b old.2 (λ itself. old.1 (only_there old.0 link b old.2 itself)))
    entry_out l q link b here (inr other) =
        let now = rw (fewer_there l other) at here in
        narrow l q link b now (λ itself. other (sym (was.entries l q link b now).in_list ∙ ap (λ c. list_of (arc_at arcs c)) itself))

    all_out : (b : ℕ) → b < length arcs → b ≢ a → (list_of (arc_at arcs b) ≡ list) ⊎ (list_of (arc_at arcs b) ≢ list) →
        IsListed fewer (list_of (arc_at arcs b)) (slice_index links b) b
    unfolding list
    all_out b inside apart (inl same) =
        let old = was.all b inside (λ last. absurd (omega (arith, inside))) in
        let here = rw same at old.here in
        let away : old.place ≢ place = λ itself. apart
        (some_pair_parts (slice_index links b) (slice_index links a) b a (sym (rw itself at here) ∙ stood)).1 in
        let now = to_removed (list_at lists list) place old.place (slice_index links b, b) here away in
        rw same (record { place = now.0; here = rw fewer_here now.1 })
    all_out b inside apart (inr other) =
        let old = was.all b inside (λ last. absurd (omega (arith, inside))) in
        record { place = old.place; here = rw (fewer_there (list_of (arc_at arcs b)) other) old.here }

    pub AreListed-out :
        AreListed (set lists (list_of (arc_at arcs a)) (remove (list_at lists (list_of (arc_at arcs a))) place)) links arcs
        a
    unfolding fewer list
    AreListed-out = record {
      count = was.count;
      few = omega (arith, was.few, length-set lists list (remove (list_at lists list) place));
      tails = λ b inside. omega (arith, was.tails b inside, length-set lists list (remove (list_at lists list) place));
      apart = apart;
      entries = λ l q link b here. entry_out l q link b here (cases_eq l list);
      all = λ b inside other. all_out b inside other (cases_eq (list_of (arc_at arcs b)) list);
    }

split_last : (n m b : ℕ) → m ≡ n + 1 → b < m → (b < n) ⊎ (b ≡ n)
split_last n m b is inside = grind arith

enter_tails : (bound : ℕ) (arcs : List Arc) (arc : Arc) →
    ((b : ℕ) → b < length arcs → 2 * tail_of arcs b + 1 < bound) → 2 * arc.tail + 1 < bound → (b : ℕ) →
    (b < length arcs) ⊎ (b ≡ length arcs) → 2 * tail_of (arcs ++ arc ∷ []) b + 1 < bound
enter_tails bound arcs arc was tail b (inl before) =
    let same : tail_of (arcs ++ arc ∷ []) b ≡ tail_of arcs b =
    ap (λ x. x.tail) (get_or_append_left arcs (arc ∷ []) no_arc b before) in
    omega (arith, same, was b before)
enter_tails bound arcs arc was tail b (inr last) =
    let same : tail_of (arcs ++ arc ∷ []) (length arcs) ≡ arc.tail =
    ap (λ x. x.tail) (get_or_push arcs arc no_arc (length arcs) refl) in
    rw last (omega (arith, same, tail))

-- a further arc comes to its list
pub AreListed-enter : (lists : List (List (ℕ × ℕ))) (links : List ℕ) (arcs : List Arc) →
    AreListed lists links arcs (length arcs) → (arc : Arc) → 2 * arc.tail + 1 < length lists → (list link : ℕ) →
    list ≡ list_of arc → AreDisjoint (set lists list ((link, length arcs) ∷ list_at lists list)) →
    AreListed (set lists list ((link, length arcs) ∷ list_at lists list)) (links ++ link ∷ []) (arcs ++ arc ∷ [])
    (length (arcs ++ arc ∷ []))
AreListed-enter lists links arcs was arc tail list link is apart =
    let count = length_push arcs arc in
    let old_arc = λ (b : ℕ) (before : b < length arcs). get_or_append_left arcs (arc ∷ []) no_arc b before in
    let new_arc = get_or_push arcs arc no_arc (length arcs) refl in
    let wider = AreListed-same lists links (links ++ link ∷ []) arcs (arcs ++ arc ∷ []) (length arcs) was
    (omega (arith, count, length_push links link, was.count))
    (λ b inside other. omega (arith, count))
    (λ b inside other. (
      omega (arith, count),
      ap list_of (old_arc b inside),
      get_or_append_left links (link ∷ []) 0 b (omega (arith, was.count)),
    ))
    (λ b inside. enter_tails (length lists) arcs arc was.tails tail b (split_last (length arcs) _ b count inside)) in
    AreListed-in lists (links ++ link ∷ []) (arcs ++ arc ∷ []) (length arcs) wider (omega (arith, count)) list link
    (ap list_of new_arc ∙ sym is) (get_or_push links link 0 (length arcs) was.count) apart

-- an arc in the place of one from the same node
module _ (arcs : List Arc) (a : ℕ) (within : a < length arcs) (arc : Arc) (tail : arc.tail ≡ tail_of arcs a) where
  set_tails : (bound : ℕ) → ((b : ℕ) → b < length arcs → 2 * tail_of arcs b + 1 < bound) → (b : ℕ) →
      b < length (set arcs a arc) → 2 * tail_of (set arcs a arc) b + 1 < bound
  set_tails bound was b inside =
      omega (arith, set_keeps (λ x. x.tail) arcs a arc within tail b (cases_eq b a), length-set arcs a arc, was b)

  pub AreListed-stays : (lists : List (List (ℕ × ℕ))) (links : List ℕ) → AreListed lists links arcs (length arcs) →
      list_of arc ≡ list_of (arc_at arcs a) →
      AreListed lists links (set arcs a arc) (length (set arcs a arc))
  AreListed-stays lists links was is =
      rw (length-set arcs a arc)
      (AreListed-same lists links links arcs (set arcs a arc) (length arcs) was
      (omega (arith, was.count, length-set arcs a arc))
      (λ b inside other. omega (arith, length-set arcs a arc))
      (λ b inside other. (
        omega (arith, length-set arcs a arc),
        set_keeps list_of arcs a arc within is b (cases_eq b a),
        refl,
      ))
      (set_tails (length lists) was.tails))

  module _ (lists : List (List (ℕ × ℕ))) (links : List ℕ) (was : AreListed lists links arcs (length arcs)) (place : ℕ)
      (stood : slice_get (list_at lists (list_of (arc_at arcs a))) place ≡ Some (slice_index links a, a))
      (out : AreDisjoint (set lists (list_of (arc_at arcs a)) (remove (list_at lists (list_of (arc_at arcs a))) place)))
      (list link : ℕ) (is : list ≡ list_of arc) where
    pub AreListed-moves :
        AreDisjoint (set
        (set lists (list_of (arc_at arcs a)) (remove (list_at lists (list_of (arc_at arcs a))) place)) list
        ((link, a) ∷
        list_at (set lists (list_of (arc_at arcs a)) (remove (list_at lists (list_of (arc_at arcs a))) place)) list)) →
        AreListed (set
        (set lists (list_of (arc_at arcs a)) (remove (list_at lists (list_of (arc_at arcs a))) place)) list
        ((link, a) ∷
        list_at (set lists (list_of (arc_at arcs a)) (remove (list_at lists (list_of (arc_at arcs a))) place)) list))
        (set links a link) (set arcs a arc) (length (set arcs a arc))
    AreListed-moves apart =
        let fewer = set lists (list_of (arc_at arcs a)) (remove (list_at lists (list_of (arc_at arcs a))) place) in
        let gone = AreListed-out lists links arcs was a within place stood out in
        let changed = AreListed-same fewer links (set links a link) arcs (set arcs a arc) a gone
        (omega (arith, was.count, length-set arcs a arc, length-set links a link))
        (λ b inside other. omega (arith, length-set arcs a arc))
        (λ b inside other. (
          omega (arith, length-set arcs a arc),
          ap list_of (get_or-set_other arcs a b arc no_arc other),
          get_or-set_other links a b link 0 other,
        ))
        (set_tails (length fewer) gone.tails) in
        AreListed-in fewer (set links a link) (set arcs a arc) a changed (omega (arith, length-set arcs a arc)) list
        link (ap list_of (get_or-set_same arcs a arc no_arc within) ∙ sym is)
        (get_or-set_same links a link 0 (omega (arith, was.count))) apart

halved : (b : Bool) (t : ℕ) → (if b then 2 * t else 2 * t + 1) / 2 ≡ t
halved true t = omega arith
halved false t = omega arith

-- an arc's list tells its tail
pub list_half : (arc : Arc) → list_of arc / 2 ≡ arc.tail
list_half arc = halved (can_carry arc) arc.tail

third : (x y z : Bool) → x ≡ true → y ≡ true → (x && y && not z) ≡ false → z ≡ true
third true true true here there is = refl
third true true false here there is = absurd cc
third true false z here there is = absurd cc
third false y z here there is = absurd cc

-- where an arc is allowed and has something left, and cannot carry, it leads to its own tail
circle : (arc : Arc) → arc.allowed ≡ true → 0 < arc.left → can_carry arc ≡ false → arc.tail ≡ arc.head
circle arc allowed some is =
    let there : nat_lt 0 arc.left ≡ true = grind (arith, nat_tests) in
    let same : (arc.tail == arc.head) ≡ true = third arc.allowed (nat_lt 0 arc.left) (arc.tail == arc.head) allowed
    there is in
    grind (arith, nat_tests)

chosen : (arc : Arc) (b : Bool) → can_carry arc ≡ b → list_of arc ≡ (if b then 2 * arc.tail else 2 * arc.tail + 1)
chosen arc b is = ap (λ x. if x then 2 * arc.tail else 2 * arc.tail + 1) is

abbrev AreFollowed : List (List (ℕ × ℕ)) → List Arc → ℕ → List Visit → ℕ → Type 0
AreFollowed lists arcs least visits list =
    (p link a : ℕ) → slice_get (list_at lists list) p ≡ Some (link, a) → IsOpen arcs least a →
    IsVisited visits (head_of arcs a)

module _ (lists : List (List (ℕ × ℕ))) (links : List ℕ) (arcs : List Arc) (least : ℕ) (visits : List Visit)
    (listed : AreListed lists links arcs (length arcs)) (node : ℕ) (seen : IsVisited visits node)
    (carrying : AreFollowed lists arcs least visits (2 * node))
    (others : (0 < least) ⊎ AreFollowed lists arcs least visits (2 * node + 1)) where
  explored : (a : ℕ) → IsOpen arcs least a → tail_of arcs a ≡ node → (b : Bool) → can_carry (arc_at arcs a) ≡ b →
      (0 < least) ⊎ AreFollowed lists arcs least visits (2 * node + 1) → IsVisited visits (head_of arcs a)
  explored a passable tail true is rest =
      let at = listed.all a passable.within (λ last. absurd (omega (arith, passable.within))) in
      let list : list_of (arc_at arcs a) ≡ 2 * node = chosen (arc_at arcs a) true is ∙ ap (λ t. 2 * t) tail in
      carrying at.place (slice_index links a) a (rw list at at.here) passable
  explored a passable tail false is (inl some) =
      let same = circle (arc_at arcs a) passable.allowed (omega (arith, some, passable.enough)) is in
      rw (← same, tail) seen
  explored a passable tail false is (inr followed) =
      let at = listed.all a passable.within (λ last. absurd (omega (arith, passable.within))) in
      let list : list_of (arc_at arcs a) ≡ 2 * node + 1 = chosen (arc_at arcs a) false is ∙ ap (λ t. 2 * t + 1) tail in
      followed at.place (slice_index links a) a (rw list at at.here) passable

  -- a node is explored where its lists were gone along, or the first one where more than nothing is searched for
  pub explored_by : (a : ℕ) → IsOpen arcs least a → tail_of arcs a ≡ node → IsVisited visits (head_of arcs a)
  explored_by a passable tail = explored a passable tail (can_carry (arc_at arcs a)) refl others
