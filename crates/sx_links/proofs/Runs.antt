-- Runs of nodes, each of which follows the one before: no node comes twice, and what taking out or
-- putting in a node makes of them.
use Rattle.std.proofs.Common.{◌≡◌, ◌≢◌, ◌⊎◌, ℕ, zero, suc, ◌+◌, ◌<◌, ◌≤◌, List, [], ◌∷◌, ◌++◌, length, take, drop}
use Rattle.std.proofs.Common.{set, Option, Some, None, slice_get, cond, eq-eqb, refl, sym, ap, subst, ◌∙◌, arith}
use Rattle.std.proofs.lemmas.Bool.{ne_eqb}
use Rattle.sx_links.specs.declared.pool.Place.{Place}
use Rattle.sx_links.specs.declared.pool.Place.TheVariants.{Free, Front, After}
use Rattle.sx_links.specs.Lists.{node_at, from_node, rest_from}
use Rattle.sx_links.specs.Pool.{end_of, Run, walk}

-- the place is behind none of the nodes
abbrev pub Beyond : {V : Type 0} → Place → List (ℕ × V) → Type 0
Beyond p [] = Unit {0}
Beyond p (x ∷ xs) = (p ≢ After x.0) × Beyond p xs

-- no node comes twice
abbrev pub Simple : {V : Type 0} → List (ℕ × V) → Type 0
Simple [] = Unit {0}
Simple (x ∷ xs) = Beyond (After x.0) xs × Simple xs

-- the place is behind no node
abbrev pub IsFront : Place → Type 0
IsFront p = (k : ℕ) → p ≢ After k

module _ {V : Type 0} where
  pub Beyond-front : (p : Place) (xs : List (ℕ × V)) → IsFront p → Beyond p xs
  Beyond-front p [] front = tt
  Beyond-front p (x ∷ xs) front = (front x.0, Beyond-front p xs front)

  pub Beyond-mid : (p : Place) (xs : List (ℕ × V)) (y : ℕ × V) (ys : List (ℕ × V)) → Beyond p (xs ++ y ∷ ys) →
      p ≢ After y.0
  Beyond-mid p [] y ys h = h.0
  Beyond-mid p (x ∷ xs) y ys h = Beyond-mid p xs y ys h.1

  pub Beyond-end : (p : Place) (x : ℕ × V) (xs ys : List (ℕ × V)) → Beyond p (x ∷ (xs ++ ys)) →
      p ≢ end_of (After x.0) xs
  Beyond-end p x [] ys h = h.0
  Beyond-end p x (y ∷ xs) ys h = Beyond-end p y xs ys h.1

  pub Beyond-at : (n : ℕ) (xs : List (ℕ × V)) (i : ℕ) → Beyond (After n) xs → node_at xs i ≢ Some n
  Beyond-at n [] i h e = absurd cc
  Beyond-at n (x ∷ xs) zero h e = h.0 (ap After (let f = e in cc))
  Beyond-at n (x ∷ xs) (suc i) h e = Beyond-at n xs i h.1 e

  -- a node has one place in a run
  pub Simple-place : (xs : List (ℕ × V)) (i j n : ℕ) → Simple xs → node_at xs i ≡ Some n → node_at xs j ≡ Some n → i ≡ j
  Simple-place [] i j n s e f = absurd cc
  Simple-place (x ∷ xs) zero zero n s e f = refl
  Simple-place (x ∷ xs) zero (suc j) n s e f =
      let same : x.0 ≡ n = cc in
      absurd (Beyond-at x.0 xs j s.0 (f ∙ ap Some (sym same)))
  Simple-place (x ∷ xs) (suc i) zero n s e f =
      let same : x.0 ≡ n = cc in
      absurd (Beyond-at x.0 xs i s.0 (e ∙ ap Some (sym same)))
  Simple-place (x ∷ xs) (suc i) (suc j) n s e f = ap suc (Simple-place xs i j n s.1 e f)

  from_node-at : (xs : List (ℕ × V)) (i n : ℕ) → Simple xs → node_at xs i ≡ Some n → from_node n xs ≡ drop i xs
  from_node-at [] i n s e = absurd cc
  from_node-at (x ∷ xs) zero n s e =
      let same : x.0 ≡ n = cc in
      ap (λ b. cond b (x ∷ xs) (from_node n xs)) (eq-eqb x.0 n same)
  from_node-at (x ∷ xs) (suc i) n s e =
      let other : x.0 ≢ n = λ f. Beyond-at x.0 xs i s.0 (e ∙ ap Some (sym f)) in
      ap (λ b. cond b (x ∷ xs) (from_node n xs)) (ne_eqb x.0 n other) ∙ from_node-at xs i n s.1 e

  drop-past : (xs : List (ℕ × V)) (i : ℕ) → node_at xs i ≡ None → drop i xs ≡ []
  drop-past [] zero e = refl
  drop-past [] (suc i) e = refl
  drop-past (x ∷ xs) zero e = absurd cc
  drop-past (x ∷ xs) (suc i) e = drop-past xs i e

  -- what is left from a place on
  pub rest_from-at : (xs : List (ℕ × V)) (i : ℕ) → Simple xs → rest_from (node_at xs i) xs ≡ drop i xs
  rest_from-at xs i s = by_node (node_at xs i) refl
    where
      by_node : (o : Option ℕ) → node_at xs i ≡ o → rest_from o xs ≡ drop i xs
      by_node None e = sym (drop-past xs i e)
      by_node (Some n) e = from_node-at xs i n s e

  pub end_of-take : (at : Place) (xs : List (ℕ × V)) (i n : ℕ) → node_at xs i ≡ Some n →
      end_of at (take (suc i) xs) ≡ After n
  end_of-take at [] i n e = absurd cc
  end_of-take at (x ∷ xs) zero n e = ap After (let f = e in cc)
  end_of-take at (x ∷ xs) (suc i) n e = end_of-take (After x.0) xs i n e

  -- a list round one of its elements
  pub split_at : (xs : List (ℕ × V)) (i : ℕ) (x : ℕ × V) → slice_get xs i ≡ Some x →
      xs ≡ take i xs ++ x ∷ drop (suc i) xs
  split_at [] i x e = absurd cc
  split_at (y ∷ xs) zero x e = ap (λ z. z ∷ xs) (let f = e in cc)
  split_at (y ∷ xs) (suc i) x e = ap (λ zs. y ∷ zs) (split_at xs i x e)

module _ {V : Type 0} (next : Place → Option ℕ) (value : ℕ → Option V) where
  pub walk-run : (at : Place) (xs : List (ℕ × V)) (most : ℕ) → length xs ≤ most → Run next value at xs →
      walk next value most at ≡ xs
  unfolding walk
  walk-run at [] zero few r = refl
  walk-run at (x ∷ xs) zero few r = absurd (omega arith)
  walk-run at [] (suc most) few r = rw r refl
  walk-run at (x ∷ xs) (suc most) few r =
      rw (r.0, r.1) (ap (λ t. x ∷ t) (walk-run (After x.0) xs most (omega arith) r.2))

  pub Run-first : (at : Place) (xs : List (ℕ × V)) → Run next value at xs → next at ≡ node_at xs 0
  Run-first at [] r = r
  Run-first at (x ∷ xs) r = r.0

  pub Run-after : (at : Place) (xs : List (ℕ × V)) (i n : ℕ) → Run next value at xs → node_at xs i ≡ Some n →
      next (After n) ≡ node_at xs (suc i)
  Run-after at [] i n r e = absurd cc
  Run-after at (x ∷ xs) zero n r e =
      let same : x.0 ≡ n = cc in
      ap (λ k. next (After k)) (sym same) ∙ Run-first (After x.0) xs r.2
  Run-after at (x ∷ xs) (suc i) n r e = Run-after (After x.0) xs i n r.2 e

  pub Run-value : (at : Place) (xs : List (ℕ × V)) (i n : ℕ) → Run next value at xs → node_at xs i ≡ Some n →
      (v : V) × (slice_get xs i ≡ Some (n, v)) × (value n ≡ Some v)
  Run-value at [] i n r e = absurd cc
  Run-value at (x ∷ xs) zero n r e =
      let same : x.0 ≡ n = cc in
      (x.1, ap (λ k. Some (k, x.1)) same, ap value (sym same) ∙ r.1)
  Run-value at (x ∷ xs) (suc i) n r e = Run-value (After x.0) xs i n r.2 e

  -- the node at a place of a run follows the end of what comes before
  pub Run-before : (at : Place) (xs : List (ℕ × V)) (i n : ℕ) → Run next value at xs → node_at xs i ≡ Some n →
      next (end_of at (take i xs)) ≡ Some n
  Run-before at [] i n r e = absurd cc
  Run-before at (x ∷ xs) zero n r e = r.0 ∙ e
  Run-before at (x ∷ xs) (suc i) n r e = Run-before (After x.0) xs i n r.2 e

  module _ (before : ℕ → Option Place) (agrees : (q : Place) (m : ℕ) → next q ≡ Some m → before m ≡ Some q) where
    -- what follows a place outside a run is not in it
    pub Beyond-next : (at : Place) (ys : List (ℕ × V)) (p : Place) (n : ℕ) → Run next value at ys → p ≢ at →
        Beyond p ys → next p ≡ Some n → Beyond (After n) ys
    Beyond-next at [] p n r apart beyond follows = tt
    Beyond-next at (y ∷ ys) p n r apart beyond follows =
        let first = agrees at y.0 r.0 in
        let second = agrees p n follows in (
          λ e. apart (let same : n ≡ y.0 = cc in let moved = ap before same in cc),
          Beyond-next (After y.0) ys p n r.2 beyond.0 beyond.1 follows,
        )

    pub Simple-run : (at : Place) (xs : List (ℕ × V)) → Run next value at xs → Beyond at xs → Simple xs
    Simple-run at [] r beyond = tt
    Simple-run at (x ∷ xs) r beyond =
        let apart = Beyond-next (After x.0) xs at x.0 r.2 beyond.0 beyond.1 r.0 in
        (apart, Simple-run (After x.0) xs r.2 apart)

-- the end of some nodes is outside a run from another front
pub apart : {V W : Type 0} (next : Place → Option ℕ) (value : ℕ → Option V) (held : ℕ → Option W)
    (before : ℕ → Option Place) (agrees : (q : Place) (m : ℕ) → next q ≡ Some m → before m ≡ Some q) (at : Place)
    (xs zs : List (ℕ × V)) (p : Place) (ys : List (ℕ × W)) → Run next value at (xs ++ zs) → IsFront p →
    Run next held p ys → at ≢ p → Beyond at ys → (end_of at xs ≢ p) × Beyond (end_of at xs) ys
apart next value held before agrees at [] zs p ys r front s other beyond = (other, beyond)
apart next value held before agrees at (x ∷ xs) zs p ys r front s other beyond =
    apart next value held before agrees (After x.0) xs zs p ys r.2 front s (λ e. front x.0 (sym e))
    (Beyond-next next held before agrees p ys at x.0 s other beyond r.0)

-- what is left of a run where a node is taken out
module _ {V : Type 0} (next next' : Place → Option ℕ) (value value' : ℕ → Option V) (n : ℕ) (p : Place)
    (was : next p ≡ Some n) (after : next' p ≡ next (After n))
    (others : (q : Place) → q ≢ p → q ≢ After n → next' q ≡ next q) (values : (k : ℕ) → value' k ≡ value k) where
  pub Run-keeps_removed : (at : Place) (ys : List (ℕ × V)) → at ≢ After n → Beyond (After n) ys →
      Run next value at ys → Run next' value' at ys
  Run-keeps_removed at [] further beyond r =
      let other : at ≢ p = λ e. let f = ap next e in cc in
      others at other further ∙ r
  Run-keeps_removed at (y ∷ ys) further beyond r =
      let other : at ≢ p = λ e. (let f = ap next e in let same : n ≡ y.0 = cc in beyond.0 (ap After same)) in (
        others at other further ∙ r.0,
        values y.0 ∙ r.1,
        Run-keeps_removed (After y.0) ys (λ e. beyond.0 (sym e)) beyond.1 r.2,
      )

  pub Run-removed : (at : Place) (xs : List (ℕ × V)) (v : V) (ys : List (ℕ × V)) → end_of at xs ≡ p →
      Beyond at (xs ++ (n, v) ∷ ys) → Simple (xs ++ (n, v) ∷ ys) → Run next value at (xs ++ (n, v) ∷ ys) →
      Run next' value' at (xs ++ ys)
  Run-removed at [] v [] place beyond simple r = ap next' place ∙ after ∙ r.2
  Run-removed at [] v (y ∷ ys) place beyond simple r = (
    ap next' place ∙ after ∙ r.2.0,
    values y.0 ∙ r.2.1,
    Run-keeps_removed (After y.0) ys (λ e. simple.0.0 (sym e)) simple.0.1 r.2.2,
  )
  Run-removed at (x ∷ xs) v ys place beyond simple r =
      let other : at ≢ p = λ e. Beyond-end at x xs ((n, v) ∷ ys) beyond (e ∙ sym place) in (
        others at other (Beyond-mid at (x ∷ xs) (n, v) ys beyond) ∙ r.0,
        values x.0 ∙ r.1,
        Run-removed (After x.0) xs v ys place simple.0 simple.1 r.2,
      )

-- what becomes of a run where a loose node is put in
module _ {V : Type 0} (next next' : Place → Option ℕ) (value value' : ℕ → Option V) (n : ℕ) (p : Place)
    (loose : (q : Place) → next q ≢ Some n) (after : next' p ≡ Some n) (behind : next' (After n) ≡ next p)
    (others : (q : Place) → q ≢ p → q ≢ After n → next' q ≡ next q) (values : (k : ℕ) → value' k ≡ value k) where
  loosely : (at : Place) (m : ℕ) → next at ≡ Some m → After m ≢ After n
  loosely at m follows e = loose at (follows ∙ ap Some (let f = e in cc))

  pub Run-keeps_inserted : (at : Place) (ys : List (ℕ × V)) → at ≢ After n → at ≢ p → Beyond p ys →
      Run next value at ys → Run next' value' at ys
  Run-keeps_inserted at [] further other beyond r = others at other further ∙ r
  Run-keeps_inserted at (y ∷ ys) further other beyond r = (
    others at other further ∙ r.0,
    values y.0 ∙ r.1,
    Run-keeps_inserted (After y.0) ys (loosely at y.0 r.0) (λ e. beyond.0 (sym e)) beyond.1 r.2,
  )

  pub Run-inserted : (at : Place) (xs ys : List (ℕ × V)) (v : V) → value n ≡ Some v → at ≢ After n →
      end_of at xs ≡ p → Beyond at (xs ++ ys) → Simple (xs ++ ys) → Run next value at (xs ++ ys) →
      Run next' value' at (xs ++ (n, v) ∷ ys)
  Run-inserted at [] [] v has further place beyond simple r =
      (ap next' place ∙ after, values n ∙ has, behind ∙ ap next (sym place) ∙ r)
  Run-inserted at [] (y ∷ ys) v has further place beyond simple r = (
    ap next' place ∙ after,
    values n ∙ has,
    (
      behind ∙ ap next (sym place) ∙ r.0,
      values y.0 ∙ r.1,
      Run-keeps_inserted (After y.0) ys (loosely at y.0 r.0) (λ e. beyond.0 (place ∙ sym e))
          (subst (λ q. Beyond q ys) place beyond.1) r.2,
    ),
  )
  Run-inserted at (x ∷ xs) ys v has further place beyond simple r =
      let other : at ≢ p = λ e. Beyond-end at x xs ys beyond (e ∙ sym place) in (
        others at other further ∙ r.0,
        values x.0 ∙ r.1,
        Run-inserted (After x.0) xs ys v has (loosely at x.0 r.0) place simple.0 simple.1 r.2,
      )

-- a run stays where its nodes and places do
pub Run-same : {V : Type 0} (next next' : Place → Option ℕ) (value value' : ℕ → Option V) (n : ℕ)
    (loose : (q : Place) → next q ≢ Some n) (nexts : (q : Place) → next' q ≡ next q)
    (values : (k : ℕ) → k ≢ n → value' k ≡ value k) (at : Place) (ys : List (ℕ × V)) → Run next value at ys →
    Run next' value' at ys
Run-same next next' value value' n loose nexts values at [] r = nexts at ∙ r
Run-same next next' value value' n loose nexts values at (y ∷ ys) r = (
  nexts at ∙ r.0,
  values y.0 (λ e. loose at (r.0 ∙ ap Some e)) ∙ r.1,
  Run-same next next' value value' n loose nexts values (After y.0) ys r.2,
)

-- what becomes of a run where one node has another value
module _ {V : Type 0} (next next' : Place → Option ℕ) (value value' : ℕ → Option V) (n : ℕ)
    (nexts : (q : Place) → next' q ≡ next q) (values : (k : ℕ) → k ≢ n → value' k ≡ value k) where
  pub Run-keeps_revalued : (at : Place) (ys : List (ℕ × V)) → Beyond (After n) ys → Run next value at ys →
      Run next' value' at ys
  Run-keeps_revalued at [] beyond r = nexts at ∙ r
  Run-keeps_revalued at (y ∷ ys) beyond r = (
    nexts at ∙ r.0,
    values y.0 (λ e. beyond.0 (ap After (sym e))) ∙ r.1,
    Run-keeps_revalued (After y.0) ys beyond.1 r.2,
  )

  pub Run-revalued : (at : Place) (ys : List (ℕ × V)) (i : ℕ) (v : V) → value' n ≡ Some v → Simple ys →
      node_at ys i ≡ Some n → Run next value at ys → Run next' value' at (set ys i (n, v))
  Run-revalued at [] i v has simple e r = absurd cc
  Run-revalued at (y ∷ ys) zero v has simple e r =
      let same : y.0 ≡ n = cc in (
        nexts at ∙ r.0 ∙ e,
        has,
        subst (λ k. Run next' value' (After k) ys) same
            (Run-keeps_revalued (After y.0) ys (subst (λ k. Beyond (After k) ys) same simple.0) r.2),
      )
  Run-revalued at (y ∷ ys) (suc i) v has simple e r = (
    nexts at ∙ r.0,
    values y.0 (λ f. Beyond-at y.0 ys i simple.0 (e ∙ ap Some (sym f))) ∙ r.1,
    Run-revalued (After y.0) ys i v has simple.1 e r.2,
  )
