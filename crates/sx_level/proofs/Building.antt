-- The arcs as they are added, and the net that they make.
use Rattle.std.proofs.Common.{◌≡◌, ℕ, ◌+◌, ◌-◌, ◌*◌, ◌/◌, ◌%◌, ◌<◌, Bool, true, false, List, [], ◌∷◌}
use Rattle.std.proofs.Common.{length, refl, sym, ap, subst, ◌∙◌, inl, inr, arith, length-append}
use Rattle.std.specs.Prelude.{◌==◌, if◌then◌else◌}
use Rattle.std.proofs.lemmas.Bool.{cases_eq}
use Rattle.std.proofs.lemmas.List.{get_or_append_left, get_or-append-add}
use Rattle.std.proofs.lemmas.Nat.{mul-add-lt}
use Rattle.std.proofs.Math.Seq.{get_or-append_seam}
use Rattle.sx_dual.specs.Sums.{between}
use Rattle.sx_dual.specs.Tables.{AreBounds, BoundsTable, low_of, high_of}
use Rattle.sx_dual.proofs.SumLaws.{sum_below-same}
use Rattle.sx_net.specs.declared.arc.Arc.{Arc}
use Rattle.sx_net.specs.Arcs.{no_arc, arc_at}
use Rattle.sx_net.specs.Network.{Network, with_arc}
use Rattle.sx_level.specs.Building.{IsAdded, HasArcs, SameBelow, first_shortage, first_surplus}
use Rattle.sx_level.specs.Shape.{pair_place, source_place, sink_place, places, surplus_of, traded}
use Rattle.sx_level.specs.Shape.{Joins, IsOneWay, IsShaped, AreMatched}
use Rattle.sx_level.proofs.Filling.{place_of}

pub same_count : (bounds : BoundsTable) (net : Network) (j k : ℕ) → HasArcs bounds net k → k ≡ j → HasArcs bounds net j
same_count bounds net j k has is = subst (HasArcs bounds net) is has

-- ---- one arc

abbrev arc : ℕ → ℕ → ℕ → Arc
arc tail head room = record { tail = tail; head = head; left = room; allowed = true }

abbrev back : ℕ → ℕ → Arc
back tail head = record { tail = head; head = tail; left = 0; allowed = true }

module _ (arcs : List Arc) (tail head room : ℕ) where
  pub with_same : SameBelow arcs (with_arc arcs tail head room) (length arcs)
  with_same a lt = get_or_append_left arcs (arc tail head room ∷ back tail head ∷ []) no_arc a lt

  pub with_count : length (with_arc arcs tail head room) ≡ length arcs + 2
  with_count = omega (arith, length-append arcs (arc tail head room ∷ back tail head ∷ []))

  pub with_added : (k : ℕ) → length arcs ≡ 2 * k → IsAdded (with_arc arcs tail head room) k tail head room true
  with_added k many = record {
    forth =
        ap (λ i. arc_at (with_arc arcs tail head room) i) (sym many) ∙ get_or-append_seam arcs (arc tail head room)
        (back tail head ∷ []) no_arc;
    back =
        ap (λ i. arc_at (with_arc arcs tail head room) (i + 1)) (sym many)
        ∙ get_or-append-add arcs (arc tail head room ∷ back tail head ∷ []) 1 no_arc;
  }

still_added : (old new : List Arc) (made k tail head room : ℕ) (both : Bool) → SameBelow old new (2 * made) → k < made →
    IsAdded old k tail head room both → IsAdded new k tail head room both
still_added old new made k tail head room both same lt was = record {
  forth = same (2 * k) (omega arith) ∙ was.forth;
  back = same (2 * k + 1) (omega arith) ∙ was.back;
}

-- one more arc, which is of a pair, of the source or of the sink
pub one_more : (bounds : BoundsTable) (old new : Network) (made : ℕ) → HasArcs bounds old made → new.nodes ≡ old.nodes →
    new.spare + 1 ≡ old.spare → length new.arcs ≡ length old.arcs + 2 → SameBelow old.arcs new.arcs (2 * made) →
    ((s b : ℕ) → s < bounds.assets → b < bounds.assets → pair_place bounds.assets s b ≡ made →
    IsAdded new.arcs (pair_place bounds.assets s b) b s (high_of bounds s b - low_of bounds s b) true) →
    ((a : ℕ) → a < bounds.assets → source_place bounds.assets a ≡ made →
    IsAdded new.arcs (source_place bounds.assets a) bounds.assets a (first_surplus bounds a) false) →
    ((a : ℕ) → a < bounds.assets → sink_place bounds.assets a ≡ made →
    IsAdded new.arcs (sink_place bounds.assets a) a (bounds.assets + 1) (first_shortage bounds a) false) →
    HasArcs bounds new (made + 1)
one_more bounds old new made has nodes spare count same pair source sink = record {
  nodes = nodes ∙ has.nodes;
  count = omega (arith, count, has.count);
  spare = omega (arith, spare, has.spare);
  pairs = λ s b s_lt b_lt below.
      elim (cases_eq (pair_place bounds.assets s b) made) [
        | inl is ↦ pair s b s_lt b_lt is
        | inr other ↦
            let lt : pair_place bounds.assets s b < made = omega arith in
            still_added old.arcs new.arcs made (pair_place bounds.assets s b) b s
            (high_of bounds s b - low_of bounds s b) true same lt (has.pairs s b s_lt b_lt lt)
      ];
  sources = λ a a_lt below.
      elim (cases_eq (source_place bounds.assets a) made) [
        | inl is ↦ source a a_lt is
        | inr other ↦
            let lt : source_place bounds.assets a < made = omega arith in
            still_added old.arcs new.arcs made (source_place bounds.assets a) bounds.assets a (first_surplus bounds a)
            false same lt (has.sources a a_lt lt)
      ];
  sinks = λ a a_lt below.
      elim (cases_eq (sink_place bounds.assets a) made) [
        | inl is ↦ sink a a_lt is
        | inr other ↦
            let lt : sink_place bounds.assets a < made = omega arith in
            still_added old.arcs new.arcs made (sink_place bounds.assets a) a (bounds.assets + 1)
            (first_shortage bounds a) false same lt (has.sinks a a_lt lt)
      ];
}

pub new_pair : (bounds : BoundsTable) (old new : Network) (made tail head room : ℕ) → HasArcs bounds old made →
    made < bounds.assets * bounds.assets →
    new ≡ record old { arcs = with_arc old.arcs tail head room; spare = old.spare - 1 } →
    tail ≡ made % bounds.assets → head ≡ made / bounds.assets →
    room ≡ high_of bounds (made / bounds.assets) (made % bounds.assets)
    - low_of bounds (made / bounds.assets) (made % bounds.assets) →
    HasArcs bounds new (made + 1)
new_pair bounds old new made tail head room has below added tail_is head_is room_is =
    let n = bounds.assets in
    let arcs = ap (λ net. net.arcs) added in
    let spare = ap (λ net. net.spare) added in
    let base = with_added old.arcs tail head room made has.count in
    one_more bounds old new made has (ap (λ net. net.nodes) added) (omega (arith, spare, has.spare))
    (ap (λ xs. length xs) arcs ∙ with_count old.arcs tail head room)
    (λ a lt. ap (λ xs. arc_at xs a) arcs ∙ with_same old.arcs tail head room a (omega (arith, has.count)))
    (λ s b s_lt b_lt is.
    let at = place_of n s b b_lt in
    let row : made / n ≡ s = sym (ap (λ p. p / n) is) ∙ at.0 in
    let column : made % n ≡ b = sym (ap (λ p. p % n) is) ∙ at.1 in
    let t : tail ≡ b = tail_is ∙ column in
    let h : head ≡ s = head_is ∙ row in
    let r : room ≡ high_of bounds s b - low_of bounds s b = rw (row, column) at room_is in
    let forth : arc tail head room ≡ arc b s (high_of bounds s b - low_of bounds s b) = rw (t, h, r) refl in
    let back_is : back tail head ≡ back b s = rw (t, h) refl in
    record {
      forth =
          ap (λ xs. arc_at xs (2 * pair_place n s b)) arcs
          ∙ ap (λ k. arc_at (with_arc old.arcs tail head room) (2 * k)) is ∙ base.forth ∙ forth;
      back =
          ap (λ xs. arc_at xs (2 * pair_place n s b + 1)) arcs
          ∙ ap (λ k. arc_at (with_arc old.arcs tail head room) (2 * k + 1)) is ∙ base.back ∙ back_is;
    })
    (λ a lt is. absurd (omega arith)) (λ a lt is. absurd (omega arith))

pub new_source : (bounds : BoundsTable) (old new : Network) (asset : ℕ) → asset < bounds.assets →
    HasArcs bounds old (source_place bounds.assets asset) → new.nodes ≡ old.nodes → new.spare + 1 ≡ old.spare →
    length new.arcs ≡ length old.arcs + 2 → SameBelow old.arcs new.arcs (length old.arcs) →
    ((k : ℕ) → length old.arcs ≡ 2 * k →
    IsAdded new.arcs k bounds.assets asset (first_surplus bounds asset) false) →
    HasArcs bounds new (source_place bounds.assets asset + 1)
new_source bounds old new asset asset_lt has nodes spare count same added =
    let n = bounds.assets in
    one_more bounds old new (source_place n asset) has nodes spare count
    (λ a lt. same a (omega (arith, has.count)))
    (λ s b s_lt b_lt is. absurd (omega (arith, mul-add-lt s n b n s_lt b_lt)))
    (λ a lt is. let one : a ≡ asset = omega arith in rw one (added (source_place n asset) has.count))
    (λ a lt is. absurd (omega arith))

pub new_sink : (bounds : BoundsTable) (old new : Network) (asset : ℕ) → asset < bounds.assets →
    HasArcs bounds old (sink_place bounds.assets asset) → new.nodes ≡ old.nodes → new.spare + 1 ≡ old.spare →
    length new.arcs ≡ length old.arcs + 2 → SameBelow old.arcs new.arcs (length old.arcs) →
    ((k : ℕ) → length old.arcs ≡ 2 * k →
    IsAdded new.arcs k asset (bounds.assets + 1) (first_shortage bounds asset) false) →
    HasArcs bounds new (sink_place bounds.assets asset + 1)
new_sink bounds old new asset asset_lt has nodes spare count same added =
    let n = bounds.assets in
    one_more bounds old new (sink_place n asset) has nodes spare count
    (λ a lt. same a (omega (arith, has.count)))
    (λ s b s_lt b_lt is. absurd (omega (arith, mul-add-lt s n b n s_lt b_lt)))
    (λ a lt is. absurd (omega arith))
    (λ a lt is. let one : a ≡ asset = omega arith in rw one (added (sink_place n asset) has.count))

pub none_yet : (bounds : BoundsTable) (net : Network) → net.nodes ≡ bounds.assets + 2 → net.arcs ≡ [] →
    net.spare ≡ places bounds.assets → HasArcs bounds net 0
none_yet bounds net nodes arcs spare = record {
  nodes = nodes;
  count = omega (arith, ap (λ xs. length xs) arcs);
  spare = omega (arith, spare);
  pairs = λ s b s_lt b_lt below. absurd (omega arith);
  sources = λ a lt below. absurd (omega arith);
  sinks = λ a lt below. absurd (omega arith);
}

-- ---- all arcs

added_joins : (arcs : List Arc) (k tail head room : ℕ) (both : Bool) → IsAdded arcs k tail head room both →
    Joins arcs k tail head
added_joins arcs k tail head room both is = record {
  tail = ap (λ x. x.tail) is.forth;
  head = ap (λ x. x.head) is.forth;
  back_tail = ap (λ x. x.tail) is.back;
  back_head = ap (λ x. x.head) is.back;
}

added_one_way : (arcs : List Arc) (k tail head room : ℕ) → IsAdded arcs k tail head room false →
    IsOneWay arcs k tail head
added_one_way arcs k tail head room is = record {
  joins = added_joins arcs k tail head room false is;
  forth = ap (λ x. x.allowed) is.forth;
  back = ap (λ x. x.allowed) is.back;
}

module _ (bounds : BoundsTable) (are : AreBounds bounds) (net : Network)
    (has : HasArcs bounds net (places bounds.assets)) where
  all_pairs : (s b : ℕ) → s < bounds.assets → b < bounds.assets →
      IsAdded net.arcs (pair_place bounds.assets s b) b s (high_of bounds s b - low_of bounds s b) true
  all_pairs s b s_lt b_lt =
      has.pairs s b s_lt b_lt (omega (arith, mul-add-lt s bounds.assets b bounds.assets s_lt b_lt))

  all_sources : (a : ℕ) → a < bounds.assets →
      IsAdded net.arcs (source_place bounds.assets a) bounds.assets a (first_surplus bounds a) false
  all_sources a lt = has.sources a lt (omega arith)

  all_sinks : (a : ℕ) → a < bounds.assets →
      IsAdded net.arcs (sink_place bounds.assets a) a (bounds.assets + 1) (first_shortage bounds a) false
  all_sinks a lt = has.sinks a lt (omega arith)

  pub all_full : (s b : ℕ) → s < bounds.assets → b < bounds.assets → traded bounds net.arcs s b ≡ high_of bounds s b
  all_full s b s_lt b_lt =
      let left = ap (λ x. x.left) (all_pairs s b s_lt b_lt).forth in
      omega (arith, left, are.ordered s b s_lt b_lt)

  pub all_shaped : IsShaped bounds net.arcs
  all_shaped = record {
    count = has.count;
    pairs = λ s b s_lt b_lt.
        let is = all_pairs s b s_lt b_lt in
        record {
          joins =
              added_joins net.arcs (pair_place bounds.assets s b) b s
              (high_of bounds s b - low_of bounds s b) true is;
          both = ap (λ x. x.allowed) is.back ∙ sym (ap (λ x. x.allowed) is.forth);
          room = omega (arith, ap (λ x. x.left) is.back, all_full s b s_lt b_lt);
        };
    sources = λ a lt.
        added_one_way net.arcs (source_place bounds.assets a) bounds.assets a (first_surplus bounds a)
        (all_sources a lt);
    sinks = λ a lt.
        added_one_way net.arcs (sink_place bounds.assets a) a (bounds.assets + 1) (first_shortage bounds a)
        (all_sinks a lt);
  }

  pub all_surplus : (a : ℕ) → a < bounds.assets → surplus_of bounds.assets net.arcs a ≡ first_surplus bounds a
  all_surplus a lt = ap (λ x. x.left) (all_sources a lt).forth

  pub all_matched : AreMatched bounds net.arcs
  all_matched a lt =
      let n = bounds.assets in
      let buys = sum_below-same n (λ s. between (traded bounds net.arcs) s a) (λ s. between (high_of bounds) s a)
      (λ s s_lt. ap (λ x. if s == a then 0 else x) (all_full s a s_lt lt)) in
      let sells = sum_below-same n (λ b. between (traded bounds net.arcs) a b) (λ b. between (high_of bounds) a b)
      (λ b b_lt. ap (λ x. if a == b then 0 else x) (all_full a b lt b_lt)) in
      let short = ap (λ x. x.left) (all_sinks a lt).forth in
      omega (arith, buys, sells, all_surplus a lt, short)
