-- The arcs of the pairs: as they are added, and after pushes.
use Rattle.std.proofs.Common.{◌≡◌, ℕ, ◌+◌, ◌-◌, ◌*◌, ◌/◌, ◌%◌, ◌<◌, true, List, [], ◌∷◌, length}
use Rattle.std.proofs.Common.{sym, ap, subst, ◌∙◌, inl, inr, arith, length-append}
use Rattle.std.proofs.lemmas.Bool.{cases_eq}
use Rattle.std.proofs.lemmas.List.{get_or_append_left, get_or-append-add}
use Rattle.std.proofs.lemmas.Nat.{mul-add-lt, same_from_place, div-add-mod', row-Below}
use Rattle.std.proofs.Math.Seq.{get_or-append_seam}
use Rattle.sx_dual.specs.Tables.{BoundsTable, low_of, high_of}
use Rattle.sx_net.specs.declared.arc.Arc.{Arc}
use Rattle.sx_net.specs.Arcs.{no_arc, arc_at, head_of, reverse_of}
use Rattle.sx_net.specs.Network.{Network, Pushes, with_arc}
use Rattle.sx_net.specs.Paths.{Reaches}
use Rattle.sx_net.proofs.Leading.{carried}
use Rattle.sx_feas.specs.Shape.{pair_arc, IsPairArc, IsShaped, HasArcs}

-- ---- as they are added

same_pair : (bounds : BoundsTable) (old new : List Arc) (s b : ℕ) → IsPairArc bounds old s b →
    arc_at new (pair_arc bounds.assets s b) ≡ arc_at old (pair_arc bounds.assets s b) →
    arc_at new (pair_arc bounds.assets s b + 1) ≡ arc_at old (pair_arc bounds.assets s b + 1) →
    IsPairArc bounds new s b
same_pair bounds old new s b was forth back = record {
  tail = ap (λ x. x.tail) forth ∙ was.tail;
  head = ap (λ x. x.head) forth ∙ was.head;
  allowed = ap (λ x. x.allowed) forth ∙ was.allowed;
  reverse = was.reverse;
  back_tail = ap (λ x. x.tail) back ∙ was.back_tail;
  back_head = ap (λ x. x.head) back ∙ was.back_head;
  back_allowed = ap (λ x. x.allowed) back ∙ was.back_allowed;
  room = omega (arith, ap (λ x. x.left) forth, ap (λ x. x.left) back, was.room);
}

module _ (bounds : BoundsTable) (arcs : List Arc) (s b room : ℕ) (many : length arcs ≡ pair_arc bounds.assets s b) where
  first : arc_at (with_arc arcs s b room) (pair_arc bounds.assets s b)
      ≡ record { tail = s; head = b; left = room; allowed = true }
  first =
      ap (λ k. arc_at (with_arc arcs s b room) k) (sym many)
      ∙ get_or-append_seam arcs (record { tail = s; head = b; left = room; allowed = true })
      (record { tail = b; head = s; left = 0; allowed = true } ∷ []) no_arc

  second : arc_at (with_arc arcs s b room) (pair_arc bounds.assets s b + 1)
      ≡ record { tail = b; head = s; left = 0; allowed = true }
  second =
      ap (λ k. arc_at (with_arc arcs s b room) (k + 1)) (sym many)
      ∙ get_or-append-add arcs (record { tail = s; head = b; left = room; allowed = true }
      ∷ record { tail = b; head = s; left = 0; allowed = true } ∷ []) 1 no_arc

  new_pair : reverse_of (length arcs) ≡ length arcs + 1 → room + low_of bounds s b ≡ high_of bounds s b →
      IsPairArc bounds (with_arc arcs s b room) s b
  new_pair reverse is = record {
    tail = ap (λ x. x.tail) first;
    head = ap (λ x. x.head) first;
    allowed = ap (λ x. x.allowed) first;
    reverse = ap reverse_of (sym many) ∙ reverse ∙ ap (λ k. k + 1) many;
    back_tail = ap (λ x. x.tail) second;
    back_head = ap (λ x. x.head) second;
    back_allowed = ap (λ x. x.allowed) second;
    room = omega (arith, ap (λ x. x.left) first, ap (λ x. x.left) second, is);
  }

pub one_more : (bounds : BoundsTable) (old new : Network) (s b room : ℕ) → b < bounds.assets →
    HasArcs bounds old (s * bounds.assets + b) → s * bounds.assets + b < bounds.assets * bounds.assets →
    new.nodes ≡ old.nodes → new.arcs ≡ with_arc old.arcs s b room → new.spare ≡ old.spare - 1 →
    reverse_of (length old.arcs) ≡ length old.arcs + 1 → room + low_of bounds s b ≡ high_of bounds s b →
    HasArcs bounds new (s * bounds.assets + b + 1)
one_more bounds old new s b room b_lt has within nodes arcs spare reverse is = record {
  nodes = nodes ∙ has.nodes;
  count =
      let many = length-append old.arcs (record { tail = s; head = b; left = room; allowed = true }
      ∷ record { tail = b; head = s; left = 0; allowed = true } ∷ []) in
      omega (arith, ap (λ xs. length xs) arcs, many, has.count);
  spare = omega (arith, spare, has.spare);
  made = λ t d d_lt below. rw arcs
      (elim (cases_eq (t * bounds.assets + d) (s * bounds.assets + b)) [
        | inl same ↦
            let both = same_from_place t d s b bounds.assets d_lt b_lt same in
            rw (both.0, both.1) (new_pair bounds old.arcs s b room has.count reverse is)
        | inr other ↦
            same_pair bounds old.arcs (with_arc old.arcs s b room) t d (has.made t d d_lt (omega arith))
            (get_or_append_left old.arcs (record { tail = s; head = b; left = room; allowed = true }
            ∷ record { tail = b; head = s; left = 0; allowed = true } ∷ []) no_arc (pair_arc bounds.assets t d)
            (omega (arith, has.count)))
            (get_or_append_left old.arcs (record { tail = s; head = b; left = room; allowed = true }
            ∷ record { tail = b; head = s; left = 0; allowed = true } ∷ []) no_arc (pair_arc bounds.assets t d + 1)
            (omega (arith, has.count)))
      ]);
}

pub same_count : (bounds : BoundsTable) (net : Network) (j k : ℕ) → HasArcs bounds net k → k ≡ j → HasArcs bounds net j
same_count bounds net j k has is = subst (HasArcs bounds net) is has

pub none_yet : (bounds : BoundsTable) (net : Network) → net.nodes ≡ bounds.assets + 1 → net.arcs ≡ [] →
    net.spare ≡ bounds.assets * bounds.assets → HasArcs bounds net (0 * bounds.assets)
none_yet bounds net nodes arcs spare = record {
  nodes = nodes;
  count = omega (arith, ap (λ xs. length xs) arcs);
  spare = omega (arith, spare);
  made = λ t d d_lt below. absurd (omega arith);
}

pub all_made : (bounds : BoundsTable) (net : Network) → HasArcs bounds net (bounds.assets * bounds.assets) →
    IsShaped bounds net.arcs
all_made bounds net has = record {
  count = has.count;
  pairs = λ s b s_lt b_lt. has.made s b b_lt (mul-add-lt s bounds.assets b bounds.assets s_lt b_lt);
}

-- ---- after pushes

pub pushed_pair : (bounds : BoundsTable) (old new : List Arc) (path : List ℕ) (amount s b : ℕ) →
    Pushes old new path amount → pair_arc bounds.assets s b < length old → IsPairArc bounds old s b →
    IsPairArc bounds new s b
pushed_pair bounds old new path amount s b pushed within was =
    let p = pair_arc bounds.assets s b in
    record {
      tail = pushed.tails p ∙ was.tail;
      head = pushed.heads p ∙ was.head;
      allowed = pushed.allowed p ∙ was.allowed;
      reverse = was.reverse;
      back_tail = pushed.tails (p + 1) ∙ was.back_tail;
      back_head = pushed.heads (p + 1) ∙ was.back_head;
      back_allowed = pushed.allowed (p + 1) ∙ was.back_allowed;
      room =
          let rooms = rw was.reverse at (pushed.rooms p within) in
          omega (arith, rooms, was.room);
    }

pub pushed_shape : (bounds : BoundsTable) (old new : List Arc) (path : List ℕ) (amount : ℕ) →
    Pushes old new path amount → IsShaped bounds old → IsShaped bounds new
pushed_shape bounds old new path amount pushed was = record {
  count = pushed.count ∙ was.count;
  pairs = λ s b s_lt b_lt.
      pushed_pair bounds old new path amount s b pushed
      (omega (arith, was.count, mul-add-lt s bounds.assets b bounds.assets s_lt b_lt)) (was.pairs s b s_lt b_lt);
}

-- ---- no arc leads to the node after the assets

heads_below : (bounds : BoundsTable) (arcs : List Arc) → IsShaped bounds arcs → 0 < bounds.assets → (a : ℕ) →
    a < length arcs → head_of arcs a < bounds.assets
heads_below bounds arcs shaped some a within =
    let n = bounds.assets in
    let k = a / 2 in
    let k_lt : k < n * n = omega (arith, shaped.count) in
    let s_lt : k / n < n = (row-Below k n n n k_lt (omega arith)).1 in
    let b_lt : k % n < n = omega arith in
    let is = div-add-mod' k n in
    let pair = shaped.pairs (k / n) (k % n) s_lt b_lt in
    elim (cases_eq (a % 2) 0) [
      | inl even ↦
          let here : a ≡ pair_arc n (k / n) (k % n) = omega (arith, is) in
          rw (ap (λ x. head_of arcs x) here ∙ pair.head) b_lt
      | inr odd ↦
          let here : a ≡ pair_arc n (k / n) (k % n) + 1 = omega (arith, is) in
          rw (ap (λ x. head_of arcs x) here ∙ pair.back_head) s_lt
    ]

pub no_way_out : (bounds : BoundsTable) (arcs : List Arc) → IsShaped bounds arcs → (from : ℕ) →
    from < bounds.assets → ¬ Reaches arcs 1 from bounds.assets
no_way_out bounds arcs shaped from lt reach =
    let below : bounds.assets < bounds.assets =
    carried arcs 1 (λ v. v < bounds.assets)
    (λ a passable before. heads_below bounds arcs shaped (omega arith) a passable.within) from reach.path
    bounds.assets reach.leads reach.passable lt in
    omega arith
