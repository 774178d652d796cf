-- What arcs have left to leave an asset, and how much more is bought of it than sold.
use Rattle.std.proofs.Common.{◌≡◌, ◌≢◌, ℕ, ◌+◌, ◌-◌, ◌*◌, ◌<◌, ◌≤◌, List, take}
use Rattle.std.proofs.Common.{refl, sym, ap, ◌∙◌, inl, inr, arith}
use Rattle.std.specs.Prelude.{◌==◌, if◌then◌else◌, sum_by}
use Rattle.std.proofs.lemmas.Bool.{cases_eq, eq-eqb, ne_eqb}
use Rattle.std.proofs.lemmas.List.{take_all}
use Rattle.sx_dual.specs.Circulation.{sold, bought, IsBalanced, IsCirculation}
use Rattle.sx_dual.specs.Sums.{between, sum_below}
use Rattle.sx_dual.specs.Tables.{AreBounds, BoundsTable, low_of, high_of}
use Rattle.sx_dual.proofs.SumLaws.{sum_below-same, sum_below-add, between-all}
use Rattle.sx_net.specs.declared.arc.Arc.{Arc}
use Rattle.sx_net.specs.Arcs.{arc_at, left_of}
use Rattle.sx_net.specs.Network.{left_from, only_at, MovesRoom}
use Rattle.sx_feas.specs.Shape.{pair_arc, traded, sold_now, bought_now, IsShaped, Moves, KeepsCovered}
use Rattle.sx_feas.proofs.Grids.{sum_of_pairs, sum_of_rows, sum_at_one, sum_of_none}

abbrev weight : ℕ → Arc → ℕ
weight node arc = if arc.tail == node then arc.left else 0

weight_at : (v s : ℕ) (arc : Arc) → arc.tail ≡ s → weight v arc ≡ (if s == v then arc.left else 0)
weight_at v s arc same = ap (λ t. if t == v then arc.left else 0) same

here : (v x : ℕ) → (if v == v then x else 0) ≡ x
here v x = rw (eq-eqb v v refl) refl

there : (s v x : ℕ) → s ≢ v → (if s == v then x else 0) ≡ 0
there s v x other = rw (ne_eqb s v other) refl

module _ (bounds : BoundsTable) (arcs : List Arc) (shaped : IsShaped bounds arcs) (v : ℕ) (lt : v < bounds.assets) where
  abbrev forth : ℕ → ℕ → ℕ
  forth s b = left_of arcs (pair_arc bounds.assets s b)

  abbrev back : ℕ → ℕ → ℕ
  back s b = left_of arcs (pair_arc bounds.assets s b + 1)

  abbrev by_sell : ℕ → ℕ → ℕ
  by_sell s b = if s == v then forth s b else 0

  abbrev by_buy : ℕ → ℕ → ℕ
  by_buy s b = if b == v then back s b else 0

  row : (s : ℕ) → s < bounds.assets →
      sum_below bounds.assets (λ b. weight v (arc_at arcs (2 * (s * bounds.assets + b)))
      + weight v (arc_at arcs (2 * (s * bounds.assets + b) + 1)))
      ≡ sum_below bounds.assets (λ b. by_sell s b) + back s v
  row s s_lt =
      sum_below-same bounds.assets
      (λ b. weight v (arc_at arcs (2 * (s * bounds.assets + b)))
      + weight v (arc_at arcs (2 * (s * bounds.assets + b) + 1)))
      (λ b. by_sell s b + by_buy s b)
      (λ b b_lt.
      let pair = shaped.pairs s b s_lt b_lt in
      let one = weight_at v s (arc_at arcs (pair_arc bounds.assets s b)) pair.tail in
      let two = weight_at v b (arc_at arcs (pair_arc bounds.assets s b + 1)) pair.back_tail in
      ap (λ x. x + weight v (arc_at arcs (pair_arc bounds.assets s b + 1))) one
      ∙ ap (λ x. by_sell s b + x) two)
      ∙ sum_below-add bounds.assets (λ b. by_sell s b) (λ b. by_buy s b)
      ∙ ap (λ x. sum_below bounds.assets (λ b. by_sell s b) + x)
      (sum_at_one bounds.assets v (λ b. by_buy s b) lt (λ b other. there b v (back s b) other) ∙ here v (back s v))

  rows : sum_below bounds.assets (λ s. sum_below bounds.assets (λ b. by_sell s b))
      ≡ sum_below bounds.assets (λ b. forth v b)
  rows =
      sum_at_one bounds.assets v (λ s. sum_below bounds.assets (λ b. by_sell s b)) lt
      (λ s other. sum_of_none bounds.assets (λ b. by_sell s b) (λ b b_lt. there s v (forth s b) other))
      ∙ sum_below-same bounds.assets (λ b. by_sell v b) (λ b. forth v b) (λ b b_lt. here v (forth v b))

  -- the arcs that leave an asset are those of the pairs that sell it, and the reverses of those that buy it
  pub left_is : left_from arcs v ≡ sum_below bounds.assets (λ b. forth v b) + sum_below bounds.assets (λ s. back s v)
  left_is =
      let all : take (2 * (bounds.assets * bounds.assets)) arcs ≡ arcs =
      take_all (2 * (bounds.assets * bounds.assets)) arcs (omega (arith, shaped.count)) in
      sym (ap (λ xs. sum_by (weight v) xs) all)
      ∙ sum_of_pairs (weight v) arcs (bounds.assets * bounds.assets) (omega (arith, shaped.count))
      ∙ sum_of_rows bounds.assets bounds.assets
      (λ k. weight v (arc_at arcs (2 * k)) + weight v (arc_at arcs (2 * k + 1)))
      ∙ sum_below-same bounds.assets
      (λ s. sum_below bounds.assets (λ b. weight v (arc_at arcs (2 * (s * bounds.assets + b)))
      + weight v (arc_at arcs (2 * (s * bounds.assets + b) + 1))))
      (λ s. sum_below bounds.assets (λ b. by_sell s b) + back s v) row
      ∙ sum_below-add bounds.assets (λ s. sum_below bounds.assets (λ b. by_sell s b)) (λ s. back s v)
      ∙ ap (λ x. x + sum_below bounds.assets (λ s. back s v)) rows

sold_all : (n : ℕ) (y : ℕ → ℕ → ℕ) (v : ℕ) → y v v ≡ 0 → sold n y v ≡ sum_below n (λ b. y v b)
sold_all n y v none =
    sum_below-same n (λ b. between y v b) (λ b. y v b)
    (λ b lt. between-all y v b (λ same. sym (ap (λ x. y v x) same) ∙ none))

bought_all : (n : ℕ) (y : ℕ → ℕ → ℕ) (v : ℕ) → y v v ≡ 0 → bought n y v ≡ sum_below n (λ s. y s v)
bought_all n y v none =
    sum_below-same n (λ s. between y s v) (λ s. y s v)
    (λ s lt. between-all y s v (λ same. ap (λ x. y x v) same ∙ none))

module _ (bounds : BoundsTable) (are : AreBounds bounds) (arcs : List Arc) (shaped : IsShaped bounds arcs) (v : ℕ)
    (lt : v < bounds.assets) where
  -- what can still leave an asset tells how much more is bought of it than sold
  pub balance_is : left_from arcs v + bought bounds.assets (low_of bounds) v + sold_now bounds arcs v
      ≡ sold bounds.assets (high_of bounds) v + bought_now bounds arcs v
  balance_is =
      let low_none = are.low.diagonal v lt in
      let high_none = are.high.diagonal v lt in
      let pair = shaped.pairs v v lt lt in
      let none : traded bounds arcs v v ≡ 0 = omega (arith, pair.room, high_none) in
      let lefts = left_is bounds arcs shaped v lt in
      let full = sum_below-add bounds.assets (λ b. left_of arcs (pair_arc bounds.assets v b))
      (λ b. traded bounds arcs v b) in
      let highs = sum_below-same bounds.assets
      (λ b. left_of arcs (pair_arc bounds.assets v b) + traded bounds arcs v b) (λ b. high_of bounds v b)
      (λ b b_lt. let at = shaped.pairs v b lt b_lt in at.room) in
      let into = sum_below-add bounds.assets (λ s. low_of bounds s v)
      (λ s. left_of arcs (pair_arc bounds.assets s v + 1)) in
      let a = sold_all bounds.assets (traded bounds arcs) v none in
      let b = bought_all bounds.assets (traded bounds arcs) v none in
      let c = sold_all bounds.assets (high_of bounds) v high_none in
      let d = bought_all bounds.assets (low_of bounds) v low_none in
      omega (arith, lefts, full, highs, into, a, b, c, d)

pub moves : (bounds : BoundsTable) → AreBounds bounds → (old new : List Arc) (from to amount : ℕ) →
    IsShaped bounds old → IsShaped bounds new → MovesRoom old new from to amount → Moves bounds old new from to amount
moves bounds are old new from to amount was is moved v lt =
    let before = balance_is bounds are old was v lt in
    let after = balance_is bounds are new is v lt in
    let at = moved.at v in
    omega (arith, before, after, at)

-- ---- one push

only_here : (v amount : ℕ) → only_at v amount v ≡ amount
only_here v amount = here v amount

only_there : (w v amount : ℕ) → w ≢ v → only_at w amount v ≡ 0
only_there w v amount other = there w v amount other

module _ (bounds : BoundsTable) (old new : List Arc) (from to amount : ℕ) (moved : Moves bounds old new from to amount)
    (surplus : amount + sold_now bounds old from ≤ bought_now bounds old from) (some : 1 ≤ amount) where
  -- the first asset has less surplus
  pub less_surplus : from < bounds.assets → to ≢ from →
      bought_now bounds new from - sold_now bounds new from < bought_now bounds old from - sold_now bounds old from
  less_surplus lt apart =
      omega (arith, moved from lt, only_here from amount, only_there to from amount apart, surplus, some)

  -- no asset gets a surplus
  pub keeps_covered : amount + bought_now bounds old to ≤ sold_now bounds old to → KeepsCovered bounds old new
  keeps_covered shortage v lt covered =
      let apart : from ≢ v = λ same. let wrong = rw same at surplus in absurd (omega (arith, wrong, some, covered)) in
      let less = only_there from v amount apart in
      elim (cases_eq to v) [
        | inl same ↦
            let room = rw same at shortage in
            let more : only_at to amount v ≡ amount = ap (λ t. only_at t amount v) same ∙ only_here v amount in
            omega (arith, moved v lt, less, more, room)
        | inr other ↦ omega (arith, moved v lt, less, only_there to v amount other, covered)
      ]

-- ---- the flow

pub circulation_of : (bounds : BoundsTable) (arcs : List Arc) (y : ℕ → ℕ → ℕ) → IsShaped bounds arcs →
    ((s b : ℕ) → s < bounds.assets → b < bounds.assets → y s b ≡ traded bounds arcs s b) →
    ((v : ℕ) → v < bounds.assets → IsBalanced bounds.assets (traded bounds arcs) v) →
    IsCirculation bounds.assets (low_of bounds) (high_of bounds) y
circulation_of bounds arcs y shaped is balanced = record {
  within = λ s b s_lt b_lt other.
      let pair = shaped.pairs s b s_lt b_lt in
      let same = is s b s_lt b_lt in
      record { at_least = omega (arith, same); at_most = omega (arith, same, pair.room) };
  balanced = λ v lt.
      let sells = sum_below-same bounds.assets (λ b. between y v b) (λ b. between (traded bounds arcs) v b)
      (λ b b_lt. ap (λ x. if v == b then 0 else x) (is v b lt b_lt)) in
      let buys = sum_below-same bounds.assets (λ s. between y s v) (λ s. between (traded bounds arcs) s v)
      (λ s s_lt. ap (λ x. if s == v then 0 else x) (is s v s_lt lt)) in
      sells ∙ balanced v lt ∙ sym buys;
}
