-- What arcs have left to leave a node, and how much more is bought of an asset than sold.
use Rattle.std.proofs.Common.{◌≡◌, ◌≢◌, ℕ, ◌+◌, ◌*◌, ◌%◌, ◌<◌, List, length, take}
use Rattle.std.proofs.Common.{refl, sym, ap, ◌∙◌, arith}
use Rattle.std.specs.Prelude.{◌==◌, if◌then◌else◌, sum_by}
use Rattle.std.proofs.lemmas.Bool.{eq-eqb, ne_eqb}
use Rattle.std.proofs.lemmas.List.{take_all}
use Rattle.sx_dual.specs.Circulation.{sold, bought}
use Rattle.sx_dual.specs.Sums.{between, sum_below}
use Rattle.sx_dual.specs.Tables.{AreBounds, BoundsTable, low_of, high_of}
use Rattle.sx_dual.proofs.SumLaws.{sum_below-same, sum_below-add, between-all}
use Rattle.sx_net.specs.declared.arc.Arc.{Arc}
use Rattle.sx_net.specs.Arcs.{arc_at, left_of, reverse_of, room_of}
use Rattle.sx_net.specs.Network.{left_from, MovesRoom}
use Rattle.sx_level.specs.Shape.{pair_place, source_place, sink_place, places, surplus_of, shortage_of, total_surplus}
use Rattle.sx_level.specs.Shape.{traded, IsShaped, AreMatched}
use Rattle.sx_level.proofs.Sums.{sum_of_pairs, sum_of_rows, sum_below-split, sum_at_one, sum_of_none}

pub even_reverse : (k : ℕ) → reverse_of (2 * k) ≡ 2 * k + 1
even_reverse k = rw (eq-eqb ((2 * k) % 2) 0 (omega arith)) refl

pub odd_reverse : (k : ℕ) → reverse_of (2 * k + 1) ≡ 2 * k
odd_reverse k = rw (ne_eqb ((2 * k + 1) % 2) 0 (λ is. absurd (omega arith))) (omega arith)

abbrev weight : ℕ → Arc → ℕ
weight node arc = if arc.tail == node then arc.left else 0

weight_at : (v t : ℕ) (arc : Arc) → arc.tail ≡ t → weight v arc ≡ (if t == v then arc.left else 0)
weight_at v t arc same = ap (λ s. if s == v then arc.left else 0) same

here : (v x : ℕ) → (if v == v then x else 0) ≡ x
here v x = rw (eq-eqb v v refl) refl

there : (t v x : ℕ) → t ≢ v → (if t == v then x else 0) ≡ 0
there t v x other = rw (ne_eqb t v other) refl

-- what leaves the node over the arc at a place and its reverse
abbrev weights : List Arc → ℕ → ℕ → ℕ
weights arcs v k = weight v (arc_at arcs (2 * k)) + weight v (arc_at arcs (2 * k + 1))

weights_at : (arcs : List Arc) (v k tail head : ℕ) → (arc_at arcs (2 * k)).tail ≡ tail →
    (arc_at arcs (2 * k + 1)).tail ≡ head →
    weights arcs v k
    ≡ (if tail == v then left_of arcs (2 * k) else 0) + (if head == v then left_of arcs (2 * k + 1) else 0)
weights_at arcs v k tail head forth back =
    ap (λ x. x + weight v (arc_at arcs (2 * k + 1))) (weight_at v tail (arc_at arcs (2 * k)) forth)
    ∙ ap (λ x. (if tail == v then left_of arcs (2 * k) else 0) + x) (weight_at v head (arc_at arcs (2 * k + 1)) back)

-- the pairs, the source's arcs and the sink's
in_parts : (n v : ℕ) (arcs : List Arc) → length arcs ≡ 2 * places n →
    left_from arcs v
    ≡ sum_below n (λ s. sum_below n (λ b. weights arcs v (pair_place n s b)))
    + sum_below n (λ a. weights arcs v (source_place n a)) + sum_below n (λ a. weights arcs v (sink_place n a))
in_parts n v arcs count =
    let all : take (2 * places n) arcs ≡ arcs = take_all (2 * places n) arcs (omega (arith, count)) in
    sym (ap (λ xs. sum_by (weight v) xs) all)
    ∙ sum_of_pairs (weight v) arcs (places n) (omega (arith, count))
    ∙ sum_below-split (n * n + n) n (λ k. weights arcs v k)
    ∙ ap (λ x. x + sum_below n (λ a. weights arcs v (sink_place n a)))
    (sum_below-split (n * n) n (λ k. weights arcs v k))
    ∙ ap (λ x. x + sum_below n (λ a. weights arcs v (source_place n a))
    + sum_below n (λ a. weights arcs v (sink_place n a))) (sum_of_rows n n (λ k. weights arcs v k))

module _ (bounds : BoundsTable) (arcs : List Arc) (shaped : IsShaped bounds arcs) where
  abbrev forth : ℕ → ℕ → ℕ
  forth s b = left_of arcs (2 * pair_place bounds.assets s b)

  abbrev back : ℕ → ℕ → ℕ
  back s b = left_of arcs (2 * pair_place bounds.assets s b + 1)

  module _ (v : ℕ) where
    abbrev by_buy : ℕ → ℕ → ℕ
    by_buy s b = if b == v then forth s b else 0

    abbrev by_sell : ℕ → ℕ → ℕ
    by_sell s b = if s == v then back s b else 0

    pair : (s b : ℕ) → s < bounds.assets → b < bounds.assets →
        weights arcs v (pair_place bounds.assets s b) ≡ by_buy s b + by_sell s b
    pair s b s_lt b_lt =
        let joins = (shaped.pairs s b s_lt b_lt).joins in
        weights_at arcs v (pair_place bounds.assets s b) b s joins.tail joins.back_tail

    source : (a : ℕ) → a < bounds.assets →
        weights arcs v (source_place bounds.assets a)
        ≡ (if bounds.assets == v then surplus_of bounds.assets arcs a else 0)
        + (if a == v then left_of arcs (2 * source_place bounds.assets a + 1) else 0)
    source a lt =
        let joins = (shaped.sources a lt).joins in
        weights_at arcs v (source_place bounds.assets a) bounds.assets a joins.tail joins.back_tail

    sink : (a : ℕ) → a < bounds.assets →
        weights arcs v (sink_place bounds.assets a)
        ≡ (if a == v then shortage_of bounds.assets arcs a else 0)
        + (if bounds.assets + 1 == v then left_of arcs (2 * sink_place bounds.assets a + 1) else 0)
    sink a lt =
        let joins = (shaped.sinks a lt).joins in
        weights_at arcs v (sink_place bounds.assets a) a (bounds.assets + 1) joins.tail joins.back_tail

    module _ (lt : v < bounds.assets) where
      row : (s : ℕ) → s < bounds.assets →
          sum_below bounds.assets (λ b. weights arcs v (pair_place bounds.assets s b))
          ≡ forth s v + sum_below bounds.assets (λ b. by_sell s b)
      row s s_lt =
          sum_below-same bounds.assets (λ b. weights arcs v (pair_place bounds.assets s b))
          (λ b. by_buy s b + by_sell s b) (λ b b_lt. pair s b s_lt b_lt)
          ∙ sum_below-add bounds.assets (λ b. by_buy s b) (λ b. by_sell s b)
          ∙ ap (λ x. x + sum_below bounds.assets (λ b. by_sell s b))
          (sum_at_one bounds.assets v (λ b. by_buy s b) lt (λ b other. there b v (forth s b) other)
          ∙ here v (forth s v))

      rows : sum_below bounds.assets (λ s. sum_below bounds.assets (λ b. weights arcs v (pair_place bounds.assets s b)))
          ≡ sum_below bounds.assets (λ s. forth s v) + sum_below bounds.assets (λ b. back v b)
      rows =
          sum_below-same bounds.assets
          (λ s. sum_below bounds.assets (λ b. weights arcs v (pair_place bounds.assets s b)))
          (λ s. forth s v + sum_below bounds.assets (λ b. by_sell s b)) row
          ∙ sum_below-add bounds.assets (λ s. forth s v) (λ s. sum_below bounds.assets (λ b. by_sell s b))
          ∙ ap (λ x. sum_below bounds.assets (λ s. forth s v) + x)
          (sum_at_one bounds.assets v (λ s. sum_below bounds.assets (λ b. by_sell s b)) lt
          (λ s other. sum_of_none bounds.assets (λ b. by_sell s b) (λ b b_lt. there s v (back s b) other))
          ∙ sum_below-same bounds.assets (λ b. by_sell v b) (λ b. back v b) (λ b b_lt. here v (back v b)))

      at_sources : sum_below bounds.assets (λ a. weights arcs v (source_place bounds.assets a))
          ≡ left_of arcs (2 * source_place bounds.assets v + 1)
      at_sources =
          sum_below-same bounds.assets (λ a. weights arcs v (source_place bounds.assets a))
          (λ a. if a == v then left_of arcs (2 * source_place bounds.assets a + 1) else 0)
          (λ a a_lt.
          let none = there bounds.assets v (surplus_of bounds.assets arcs a) (λ same. absurd (omega arith)) in
          source a a_lt ∙ ap (λ x. x + (if a == v then left_of arcs (2 * source_place bounds.assets a + 1) else 0)) none
          ∙ (let same : 0 + (if a == v then left_of arcs (2 * source_place bounds.assets a + 1) else 0)
          ≡ (if a == v then left_of arcs (2 * source_place bounds.assets a + 1) else 0) = omega arith in same))
          ∙ sum_at_one bounds.assets v (λ a. if a == v then left_of arcs (2 * source_place bounds.assets a + 1) else 0)
          lt (λ a other. there a v (left_of arcs (2 * source_place bounds.assets a + 1)) other)
          ∙ here v (left_of arcs (2 * source_place bounds.assets v + 1))

      at_sinks : sum_below bounds.assets (λ a. weights arcs v (sink_place bounds.assets a))
          ≡ shortage_of bounds.assets arcs v
      at_sinks =
          sum_below-same bounds.assets (λ a. weights arcs v (sink_place bounds.assets a))
          (λ a. if a == v then shortage_of bounds.assets arcs a else 0)
          (λ a a_lt.
          let none = there (bounds.assets + 1) v (left_of arcs (2 * sink_place bounds.assets a + 1))
          (λ same. absurd (omega arith)) in
          sink a a_lt ∙ ap (λ x. (if a == v then shortage_of bounds.assets arcs a else 0) + x) none
          ∙ (let same : (if a == v then shortage_of bounds.assets arcs a else 0) + 0
          ≡ (if a == v then shortage_of bounds.assets arcs a else 0) = omega arith in same))
          ∙ sum_at_one bounds.assets v (λ a. if a == v then shortage_of bounds.assets arcs a else 0)
          lt (λ a other. there a v (shortage_of bounds.assets arcs a) other)
          ∙ here v (shortage_of bounds.assets arcs v)

      -- what leaves an asset
      pub left_is : left_from arcs v
          ≡ sum_below bounds.assets (λ s. forth s v) + sum_below bounds.assets (λ b. back v b)
          + left_of arcs (2 * source_place bounds.assets v + 1) + shortage_of bounds.assets arcs v
      left_is = omega (arith, in_parts bounds.assets v arcs shaped.count, rows, at_sources, at_sinks)

  -- what leaves the source
  pub source_is : left_from arcs bounds.assets ≡ total_surplus bounds.assets arcs
  source_is =
      let n = bounds.assets in
      let pairs = sum_of_none n (λ s. sum_below n (λ b. weights arcs n (pair_place n s b))) (λ s s_lt.
      sum_of_none n (λ b. weights arcs n (pair_place n s b)) (λ b b_lt.
      omega (
        arith,
        pair n s b s_lt b_lt,
        there b n (forth s b) (λ same. absurd (omega arith)),
        there s n (back s b) (λ same. absurd (omega arith)),
      ))) in
      let sources = sum_below-same n (λ a. weights arcs n (source_place n a)) (λ a. surplus_of n arcs a) (λ a a_lt.
      omega (
        arith,
        source n a a_lt,
        here n (surplus_of n arcs a),
        there a n (left_of arcs (2 * source_place n a + 1)) (λ same. absurd (omega arith)),
      )) in
      let sinks = sum_of_none n (λ a. weights arcs n (sink_place n a)) (λ a a_lt.
      omega (
        arith,
        sink n a a_lt,
        there a n (shortage_of n arcs a) (λ same. absurd (omega arith)),
        there (n + 1) n (left_of arcs (2 * sink_place n a + 1)) (λ same. absurd (omega arith)),
      )) in
      omega (arith, in_parts n n arcs shaped.count, pairs, sources, sinks)

pub sold_all : (n : ℕ) (y : ℕ → ℕ → ℕ) (v : ℕ) → y v v ≡ 0 → sold n y v ≡ sum_below n (λ b. y v b)
sold_all n y v none =
    sum_below-same n (λ b. between y v b) (λ b. y v b)
    (λ b lt. between-all y v b (λ same. sym (ap (λ x. y v x) same) ∙ none))

pub bought_all : (n : ℕ) (y : ℕ → ℕ → ℕ) (v : ℕ) → y v v ≡ 0 → bought n y v ≡ sum_below n (λ s. y s v)
bought_all n y v none =
    sum_below-same n (λ s. between y s v) (λ s. y s v)
    (λ s lt. between-all y s v (λ same. ap (λ x. y x v) same ∙ none))

-- what can leave an asset tells how much more is bought of it than sold
pub balance_is : (bounds : BoundsTable) → AreBounds bounds → (arcs : List Arc) → IsShaped bounds arcs → (v : ℕ) →
    v < bounds.assets →
    left_from arcs v + bought bounds.assets (low_of bounds) v + sold bounds.assets (traded bounds arcs) v
    ≡ sold bounds.assets (high_of bounds) v + bought bounds.assets (traded bounds arcs) v
    + left_of arcs (2 * source_place bounds.assets v + 1) + shortage_of bounds.assets arcs v
balance_is bounds are arcs shaped v lt =
    let n = bounds.assets in
    let low_none = are.low.diagonal v lt in
    let high_none = are.high.diagonal v lt in
    let itself = shaped.pairs v v lt lt in
    let none : traded bounds arcs v v ≡ 0 = omega (arith, itself.room, high_none) in
    let lefts = left_is bounds arcs shaped v lt in
    let full = sum_below-add n (λ b. traded bounds arcs v b) (λ b. left_of arcs (2 * pair_place n v b + 1)) in
    let highs = sum_below-same n (λ b. traded bounds arcs v b + left_of arcs (2 * pair_place n v b + 1))
    (λ b. high_of bounds v b) (λ b b_lt. let at = shaped.pairs v b lt b_lt in at.room) in
    let into = sum_below-add n (λ s. low_of bounds s v) (λ s. left_of arcs (2 * pair_place n s v)) in
    let a = sold_all n (traded bounds arcs) v none in
    let b = bought_all n (traded bounds arcs) v none in
    let c = sold_all n (high_of bounds) v high_none in
    let d = bought_all n (low_of bounds) v low_none in
    omega (arith, lefts, full, highs, into, a, b, c, d)

module _ (bounds : BoundsTable) (are : AreBounds bounds) (old new : List Arc) (was : IsShaped bounds old)
    (is : IsShaped bounds new) (amount : ℕ)
    (moved : MovesRoom old new bounds.assets (bounds.assets + 1) amount) where
  -- a push from the source to the sink leaves each asset matched
  pub still_matched : ((a : ℕ) → a < length old → room_of new a ≡ room_of old a) → AreMatched bounds old →
      AreMatched bounds new
  still_matched rooms matched v lt =
      let n = bounds.assets in
      let before = balance_is bounds are old was v lt in
      let after = balance_is bounds are new is v lt in
      let at = moved.at v in
      let no_tail = there n v amount (λ same. absurd (omega arith)) in
      let no_head = there (n + 1) v amount (λ same. absurd (omega arith)) in
      let room : surplus_of n new v + left_of new (2 * source_place n v + 1)
      ≡ surplus_of n old v + left_of old (2 * source_place n v + 1) =
      rw (even_reverse (source_place n v)) at (rooms (2 * source_place n v) (omega (arith, was.count))) in
      omega (arith, before, after, at, no_tail, no_head, room, matched v lt)

  -- and takes what it pushes from the surpluses
  pub less_surplus : total_surplus bounds.assets new + amount ≡ total_surplus bounds.assets old
  less_surplus =
      let n = bounds.assets in
      omega (
        arith,
        source_is bounds old was,
        source_is bounds new is,
        moved.at n,
        here n amount,
        there (n + 1) n amount (λ same. absurd (omega arith)),
      )
