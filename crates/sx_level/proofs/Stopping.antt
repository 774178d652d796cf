-- What is left on arcs out of the nodes that a search at a scale reached.
use Rattle.std.proofs.Common.{◌≡◌, ℕ, ◌+◌, ◌-◌, ◌*◌, ◌<◌, ◌≤◌, Bool, true, false, not, ◌&&◌, List, [], length}
use Rattle.std.proofs.Common.{refl, ◌∙◌, inl, inr, arith}
use Rattle.std.specs.Prelude.{IsTrue, ◌↔◌, if◌then◌else◌}
use Rattle.std.proofs.lemmas.Bool.{cases_lt, both_ways}
use Rattle.std.proofs.lemmas.Nat.{mul-add-lt}
use Rattle.sx_dual.specs.Cuts.{is_in}
use Rattle.sx_dual.specs.Tables.{BoundsTable}
use Rattle.sx_net.specs.declared.arc.Arc.{Arc}
use Rattle.sx_net.specs.Arcs.{tail_of, head_of, left_of, is_allowed}
use Rattle.sx_net.specs.Paths.{Reaches}
use Rattle.sx_net.proofs.Leading.{reaches_next}
use Rattle.sx_level.specs.Shape.{pair_place, source_place, sink_place, surplus_of, shortage_of, IsShaped}
use Rattle.sx_level.specs.Borders.{border_open, LeavesAtMost}

reaches_itself : (arcs : List Arc) (least v : ℕ) → Reaches arcs least v v
reaches_itself arcs least v = record { path = []; leads = refl; passable = λ k d within. absurd (omega arith) }

-- where the arc from one node to another is allowed and has enough left, the other is reached too
over : (arcs : List Arc) (least from v w a : ℕ) → Reaches arcs least from v → a < length arcs → least ≤ left_of arcs a →
    is_allowed arcs a ≡ true → tail_of arcs a ≡ v → head_of arcs a ≡ w → Reaches arcs least from w
over arcs least from v w a reach within enough allowed tail head =
    let next = reaches_next arcs least from v a reach
    (record { within = within; allowed = allowed; enough = enough }) tail in
    rw head at next

module _ (bounds : BoundsTable) (arcs : List Arc) (shaped : IsShaped bounds arcs) (set scale : ℕ)
    (reach : (a : ℕ) → a < bounds.assets → IsTrue (is_in set a) ↔ Reaches arcs scale bounds.assets a)
    (ends : ¬ Reaches arcs scale bounds.assets (bounds.assets + 1)) (some : 1 ≤ scale) where
  at_asset : (a : ℕ) → a < bounds.assets → (c : Bool) → is_in set a ≡ c →
      (if c then shortage_of bounds.assets arcs a else surplus_of bounds.assets arcs a) ≤ scale - 1
  at_asset a lt true inside =
      elim (cases_lt (shortage_of bounds.assets arcs a) scale) [
        | inl less ↦ omega arith
        | inr enough ↦
            let arc = shaped.sinks a lt in
            absurd (ends (over arcs scale bounds.assets a (bounds.assets + 1) (2 * sink_place bounds.assets a)
            ((reach a lt).0 inside) (omega (arith, shaped.count)) enough arc.forth arc.joins.tail arc.joins.head))
      ]
  at_asset a lt false outside =
      elim (cases_lt (surplus_of bounds.assets arcs a) scale) [
        | inl less ↦ omega arith
        | inr enough ↦
            let arc = shaped.sources a lt in
            absurd (both_ways (is_in set a) outside ((reach a lt).1 (over arcs scale bounds.assets bounds.assets a
            (2 * source_place bounds.assets a) (reaches_itself arcs scale bounds.assets) (omega (arith, shaped.count))
            enough arc.forth arc.joins.tail arc.joins.head)))
      ]

  at_border : (s b : ℕ) → s < bounds.assets → b < bounds.assets →
      is_allowed arcs (2 * pair_place bounds.assets s b) ≡ true → (c d : Bool) → is_in set s ≡ c → is_in set b ≡ d →
      (if c && not d then left_of arcs (2 * pair_place bounds.assets s b + 1)
      else (if not c && d then left_of arcs (2 * pair_place bounds.assets s b) else 0)) ≤ scale - 1
  at_border s b s_lt b_lt allowed true true one two = omega arith
  at_border s b s_lt b_lt allowed false false one two = omega arith
  at_border s b s_lt b_lt allowed true false inside outside =
      let below = mul-add-lt s bounds.assets b bounds.assets s_lt b_lt in
      elim (cases_lt (left_of arcs (2 * pair_place bounds.assets s b + 1)) scale) [
        | inl less ↦ omega arith
        | inr enough ↦
            let arc = shaped.pairs s b s_lt b_lt in
            absurd (both_ways (is_in set b) outside ((reach b b_lt).1 (over arcs scale bounds.assets s b
            (2 * pair_place bounds.assets s b + 1) ((reach s s_lt).0 inside) (omega (arith, below, shaped.count))
            enough (arc.both ∙ allowed) arc.joins.back_tail arc.joins.back_head)))
      ]
  at_border s b s_lt b_lt allowed false true outside inside =
      let below = mul-add-lt s bounds.assets b bounds.assets s_lt b_lt in
      elim (cases_lt (left_of arcs (2 * pair_place bounds.assets s b)) scale) [
        | inl less ↦ omega arith
        | inr enough ↦
            let arc = shaped.pairs s b s_lt b_lt in
            absurd (both_ways (is_in set s) outside ((reach s s_lt).1 (over arcs scale bounds.assets b s
            (2 * pair_place bounds.assets s b) ((reach b b_lt).0 inside) (omega (arith, below, shaped.count))
            enough allowed arc.joins.tail arc.joins.head)))
      ]

  at_pair : (s b : ℕ) → s < bounds.assets → b < bounds.assets → (c : Bool) →
      is_allowed arcs (2 * pair_place bounds.assets s b) ≡ c →
      (if c then border_open bounds.assets arcs set s b else 0) ≤ scale - 1
  at_pair s b s_lt b_lt true allowed =
      at_border s b s_lt b_lt allowed (is_in set s) (is_in set b) refl refl
  at_pair s b s_lt b_lt false forbidden = omega arith

  -- less than the scale is left on each of them
  pub leaves_less : LeavesAtMost bounds.assets arcs set (scale - 1)
  leaves_less = record {
    at = λ a lt. at_asset a lt (is_in set a) refl;
    between = λ s b s_lt b_lt. at_pair s b s_lt b_lt (is_allowed arcs (2 * pair_place bounds.assets s b)) refl;
  }

pub leaves_more : (n set most more : ℕ) (arcs : List Arc) → most ≤ more → LeavesAtMost n arcs set most →
    LeavesAtMost n arcs set more
leaves_more n set most more arcs le leaves = record {
  at = λ a lt. omega (arith, leaves.at a lt);
  between = λ s b s_lt b_lt. omega (arith, leaves.between s b s_lt b_lt);
}
