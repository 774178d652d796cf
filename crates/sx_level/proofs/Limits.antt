-- How much can still be pushed: no more than is left on the allowed arcs out of the source and any set of assets.
use Rattle.std.proofs.Common.{◌≡◌, ℕ, ◌+◌, ◌*◌, ◌<◌, ◌≤◌, Bool, true, false, not, ◌&&◌, List}
use Rattle.std.proofs.Common.{refl, ◌∙◌, inl, inr, arith}
use Rattle.std.specs.Prelude.{if◌then◌else◌}
use Rattle.std.proofs.lemmas.Bool.{cases_eq, cases_lt}
use Rattle.sx_dual.specs.Cuts.{is_in, goes_in, goes_out, sum_in, sum_out}
use Rattle.sx_dual.specs.Sums.{between, pair_sum, sum_below}
use Rattle.sx_dual.specs.Tables.{BoundsTable}
use Rattle.sx_dual.proofs.SumLaws.{between-other, between-self, pair_sum-add, pair_sum-le, sum_below-add}
use Rattle.sx_dual.proofs.SumLaws.{sum_below-same}
use Rattle.sx_net.specs.declared.arc.Arc.{Arc}
use Rattle.sx_net.specs.Arcs.{left_of, is_allowed}
use Rattle.sx_level.specs.Shape.{pair_place, surplus_of, shortage_of, total_surplus, traded, IsShaped, AreMatched}
use Rattle.sx_level.specs.Following.{Follows, HasAtMost}
use Rattle.sx_level.specs.Borders.{border_at, border_open, border_between, LeavesAtMost}
use Rattle.sx_level.proofs.Crossing.{set_matched, sum_inside}
use Rattle.sx_level.proofs.Sums.{sum_le}

-- what goes into a set has at most what can be taken off more than later, and what goes out has later at most what can
-- be put on more
at_border : (s b : Bool) (y z off on : ℕ) → y ≤ z + off → z ≤ y + on →
    (if not s && b then y else 0) + (if s && not b then z else 0)
    ≤ ((if not s && b then z else 0) + (if s && not b then y else 0))
    + (if s && not b then on else (if not s && b then off else 0))
at_border true true y z off on down up = omega arith
at_border true false y z off on down up = omega arith
at_border false true y z off on down up = omega arith
at_border false false y z off on down up = omega arith

-- nothing changes where the pair is forbidden
at_closed : (s b : Bool) (y z : ℕ) → z ≡ y →
    (if not s && b then y else 0) + (if s && not b then z else 0)
    ≤ ((if not s && b then z else 0) + (if s && not b then y else 0)) + 0
at_closed true true y z same = omega arith
at_closed true false y z same = omega arith
at_closed false true y z same = omega arith
at_closed false false y z same = omega arith

inside_or_not : (c : Bool) (d e : ℕ) → (if c then d else e) ≡ (if c then d else 0) + (if c then 0 else e)
inside_or_not true d e = omega arith
inside_or_not false d e = omega arith

apart : (c : Bool) (e : ℕ) → e ≡ (if c then e else 0) + (if c then 0 else e)
apart true e = omega arith
apart false e = omega arith

fewer : (c : Bool) (x y : ℕ) → x ≤ y → (if c then 0 else x) ≤ (if c then 0 else y)
fewer true x y le = omega arith
fewer false x y le = le

module _ (bounds : BoundsTable) (old new : List Arc) (shaped : IsShaped bounds old) (matched : AreMatched bounds old)
    (follows : Follows bounds old new) (set : ℕ) where
  abbrev y : ℕ → ℕ → ℕ
  y = traded bounds old

  abbrev z : ℕ → ℕ → ℕ
  z = traded bounds new

  abbrev into : (ℕ → ℕ → ℕ) → ℕ → ℕ → ℕ
  into f s b = if goes_in set s b then f s b else 0

  abbrev out : (ℕ → ℕ → ℕ) → ℕ → ℕ → ℕ
  out f s b = if goes_out set s b then f s b else 0

  abbrev border : ℕ → ℕ → ℕ
  border s b = border_between bounds.assets old set s b

  at_either : (s b : ℕ) → s < bounds.assets → b < bounds.assets → (c : Bool) →
      is_allowed old (2 * pair_place bounds.assets s b) ≡ c →
      into y s b + out z s b
      ≤ (into z s b + out y s b) + (if c then border_open bounds.assets old set s b else 0)
  at_either s b s_lt b_lt true allowed =
      let was = shaped.pairs s b s_lt b_lt in
      let is = follows.shaped.pairs s b s_lt b_lt in
      at_border (is_in set s) (is_in set b) (y s b) (z s b) (left_of old (2 * pair_place bounds.assets s b))
      (left_of old (2 * pair_place bounds.assets s b + 1)) (omega arith) (omega (arith, was.room, is.room))
  at_either s b s_lt b_lt false forbidden =
      let kept = follows.kept s b s_lt b_lt forbidden in
      at_closed (is_in set s) (is_in set b) (y s b) (z s b) (omega (arith, kept))

  all_pairs : (sum_in bounds.assets y set + sum_out bounds.assets z set)
      ≤ (sum_in bounds.assets z set + sum_out bounds.assets y set) + pair_sum bounds.assets border
  all_pairs =
      let n = bounds.assets in
      let le = pair_sum-le n (λ s b. into y s b + out z s b) (λ s b. (into z s b + out y s b) + border s b)
      (λ s b s_lt b_lt other.
      at_either s b s_lt b_lt (is_allowed old (2 * pair_place bounds.assets s b)) refl) in
      omega (
        arith,
        le,
        pair_sum-add n (into y) (out z),
        pair_sum-add n (λ s b. into z s b + out y s b) border,
        pair_sum-add n (into z) (out y),
      )

  at_assets : sum_below bounds.assets (λ a. border_at bounds.assets old set a)
      ≡ sum_inside bounds.assets set (shortage_of bounds.assets old)
      + sum_below bounds.assets (λ a. if is_in set a then 0 else surplus_of bounds.assets old a)
  at_assets =
      let n = bounds.assets in
      sum_below-same n (λ a. border_at n old set a)
      (λ a. (if is_in set a then shortage_of n old a else 0) + (if is_in set a then 0 else surplus_of n old a))
      (λ a lt. inside_or_not (is_in set a) (shortage_of n old a) (surplus_of n old a))
      ∙ sum_below-add n (λ a. if is_in set a then shortage_of n old a else 0)
      (λ a. if is_in set a then 0 else surplus_of n old a)

  in_all : (arcs : List Arc) → total_surplus bounds.assets arcs
      ≡ sum_inside bounds.assets set (surplus_of bounds.assets arcs)
      + sum_below bounds.assets (λ a. if is_in set a then 0 else surplus_of bounds.assets arcs a)
  in_all arcs =
      let n = bounds.assets in
      sum_below-same n (λ a. surplus_of n arcs a)
      (λ a. (if is_in set a then surplus_of n arcs a else 0) + (if is_in set a then 0 else surplus_of n arcs a))
      (λ a lt. apart (is_in set a) (surplus_of n arcs a))
      ∙ sum_below-add n (λ a. if is_in set a then surplus_of n arcs a else 0)
      (λ a. if is_in set a then 0 else surplus_of n arcs a)

  -- no more can be pushed than is left on the allowed arcs out of the source and the set
  pub border_limits : total_surplus bounds.assets old
      ≤ total_surplus bounds.assets new
      + (sum_below bounds.assets (λ a. border_at bounds.assets old set a) + pair_sum bounds.assets border)
  border_limits =
      omega (
        arith,
        set_matched bounds old set matched,
        set_matched bounds new set follows.matched,
        all_pairs,
        at_assets,
        in_all old,
        in_all new,
      )

-- the border has as many arcs at most as there are assets, and pairs of assets
border_le : (n set most : ℕ) (arcs : List Arc) → LeavesAtMost n arcs set most →
    sum_below n (λ a. border_at n arcs set a) + pair_sum n (border_between n arcs set) ≤ n * (n + 1) * most
border_le n set most arcs leaves =
    let assets = sum_le n most (λ a. border_at n arcs set a) leaves.at in
    let pairs = sum_le n (n * most) (λ s. sum_below n (λ b. between (border_between n arcs set) s b)) (λ s s_lt.
    sum_le n most (λ b. between (border_between n arcs set) s b) (λ b b_lt.
    elim (cases_eq s b) [
      | inl same ↦ omega (arith, between-self (border_between n arcs set) s b same)
      | inr other ↦ omega (arith, between-other (border_between n arcs set) s b other, leaves.between s b s_lt b_lt)
    ])) in
    omega (arith, assets, pairs)

pub limit_from_border : (bounds : BoundsTable) (arcs : List Arc) (set most : ℕ) → IsShaped bounds arcs →
    AreMatched bounds arcs → LeavesAtMost bounds.assets arcs set most →
    HasAtMost bounds arcs (bounds.assets * (bounds.assets + 1) * most)
limit_from_border bounds arcs set most shaped matched leaves new follows =
    omega (
      arith,
      border_limits bounds arcs new shaped matched follows set,
      border_le bounds.assets set most arcs leaves,
    )

-- at first, by the greatest surplus or the greatest upper bound, whichever is less
pub limit_from_surplus : (bounds : BoundsTable) (arcs : List Arc) (most high least : ℕ) →
    ((a : ℕ) → a < bounds.assets → surplus_of bounds.assets arcs a ≤ most) →
    total_surplus bounds.assets arcs ≤ bounds.assets * (bounds.assets * high) →
    (most < high → least ≡ most) → (high ≤ most → least ≡ high) →
    total_surplus bounds.assets arcs ≤ bounds.assets * (bounds.assets + 1) * least
limit_from_surplus bounds arcs most high least each in_range by_surplus by_high =
    elim (cases_lt most high) [
      | inl less ↦
          let all = sum_le bounds.assets most (λ a. surplus_of bounds.assets arcs a) each in
          rw (by_surplus less) (omega (arith, all))
      | inr more ↦ rw (by_high more) (omega (arith, in_range))
    ]
